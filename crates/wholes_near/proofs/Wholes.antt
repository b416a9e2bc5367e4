-- The whole step's shares in parts: x and y are at most the exact place and less than 1 below it. Assumes nothing.
use Prim.Native.Nat.{ℕ, ◌+◌, ◌*◌, ◌≤◌, ◌<◌}
use mathlib.Core.Path.{◌≡◌, ap}
use native.Mathlib.Omega.{arith}
use lib.Dec.{lit<}
use lib.IntN.{ℤ, pos, ◌+ℤ◌, ◌-ℤ◌, ◌*ℤ◌}
use Rattle.wholes.specs.Wholes.{down, sideways}
use Rattle.wholes.proofs.Parts.{plus, minus, Made, sum_made, difference_made, times_plus, times_minus, Share, share}

module _ (p s s' t t' w w' a a' q q' r r' : ℕ) (way : w + (t' + s) ≡ t + s' + w') (times : a ≡ w * p) (times' : a' ≡ w' * p)
    (place : r + (s' + q') ≡ s + q + r') where
  not_above : 2048 * q + a' ≤ a + 2048 * q' → 2048 * (r + s') + p * (t' + s) ≤ p * (t + s') + 2048 * (r' + s)
  not_above h = omega (arith, ap (λ (k : ℕ). p * k) way, times, times', place, h)

  below_1 : a + 2048 * q' < 2048 * q + a' + 2048 → p * (t + s') + 2048 * (r' + s) ≤ 2048 * (r + s') + p * (t' + s) + 2048
  below_1 h = omega (arith, ap (λ (k : ℕ). p * k) way, times, times', place, h)

module _ (s t : ℤ) (p : ℕ) where
  pub exact_or_less : 2048 * (plus (sideways s t p) + minus s) + p * (minus t + plus s)
      ≤ p * (plus t + minus s) + 2048 * (minus (sideways s t p) + plus s)
  exact_or_less =
      let w = t -ℤ s in
      let a = w *ℤ pos p in
      let q = down a 2048 in
      not_above p (plus s) (minus s) (plus t) (minus t) (plus w) (minus w) (plus a) (minus a) (plus q) (minus q) (plus (s +ℤ q))
      (minus (s +ℤ q)) (difference_made t s).level (times_plus w p) (times_minus w p) (sum_made s q).level
      (share a 2048 (lit< tt)).at_most

  pub less_than_1_below : p * (plus t + minus s) + 2048 * (minus (sideways s t p) + plus s)
      ≤ 2048 * (plus (sideways s t p) + minus s) + p * (minus t + plus s) + 2048
  less_than_1_below =
      let w = t -ℤ s in
      let a = w *ℤ pos p in
      let q = down a 2048 in
      below_1 p (plus s) (minus s) (plus t) (minus t) (plus w) (minus w) (plus a) (minus a) (plus q) (minus q) (plus (s +ℤ q))
      (minus (s +ℤ q)) (difference_made t s).level (times_plus w p) (times_minus w p) (sum_made s q).level
      (share a 2048 (lit< tt)).above
