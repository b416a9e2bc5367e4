-- x and y of the f32 step are close to those of the whole step: at most 1.1 units above, at most 0.1 below. Assumes nothing.
use Prim.Native.Nat.{ℕ, ◌+◌, ◌*◌, ◌^◌, ◌≤◌, ◌<◌}
use mathlib.Core.Path.{◌≡◌, refl}
use mathlib.Core.Bool.{true, false}
use native.Mathlib.Nat.{le_refl, le_trans, lt_of_le_of_lt, add-le-add, mul-le-mul, mul-le-mul_right, le_of_mul-le-mul_right}
use native.Mathlib.Omega.{arith}
use lib.Dec.{lit<, lit≤}
use lib.Pow.{pow_pos}
use lib.IntN.{ℤ}
use lib.Ieee.{Float, binary32, sub, mul, add}
use Rattle.units.specs.Units.{unity, Part}
use Rattle.units.proofs.Errors.{unity_pos}
use Rattle.steps.specs.Leg.{part_way}
use Rattle.wholes.specs.Wholes.{is_coordinate, sideways}
use Rattle.wholes.proofs.Parts.{plus, minus}
use Rattle.wholes_near.specs.Metres.{metres, progress_of}
use Rattle.wholes_near.proofs.Apart.{Apart, over}
use Rattle.wholes_near.proofs.Rounding.{small, Result, sum, less_by, Product, product, Length, length_of, progress_value}
use Rattle.wholes_near.proofs.SidewaysParts.{Close, sideways_close}
use Rattle.wholes_near.proofs.Wholes.{exact_or_less, less_than_1_below}
use Rattle.wholes_near.proofs.Near.{Near, near_of_close}

-- the share by a progress of p / 2048: q is 1 / 2048 m
shared : (q e m m' d d' p : ℕ) → 0 < q → Apart (2048 * q * (8 * e)) (m * (2048 * q)) (m' * (2048 * q)) (d * (p * q)) (d' * (p * q))
    → Apart (2048 * (8 * e)) (2048 * m) (2048 * m') (p * d) (p * d')
shared q e m m' d d' p Q a = over q Q (record { up = omega (arith, a.up); low = omega (arith, a.low) })

-- how large the parts are: a length 8 m, a way 16 m, a share no more than its way
way_room : (i j : ℕ) → i ≤ 2 ^ 152 → j ≤ 2 ^ 152 → i + j < 2 ^ 154
way_room i j h k = lt_of_le_of_lt (add-le-add h k) (lit< tt)

way_most : (d i j : ℕ) → d ≤ i + j + 4 * small → i ≤ 2 ^ 152 → j ≤ 2 ^ 152 → d ≤ 2 ^ 153 + 4 * small
way_most d i j h a b = le_trans h (add-le-add (add-le-add a b) (le_refl (4 * small)))

share_room : (d p : ℕ) → d ≤ 2 ^ 153 + 4 * small → p ≤ 2048 → d * (p * 2 ^ 138) < 64 * (unity * unity)
share_room d p h k = lt_of_le_of_lt (mul-le-mul h (mul-le-mul_right (2 ^ 138) k)) (lit< tt)

share_most : (m d p : ℕ) → m * unity ≤ d * (p * 2 ^ 138) + unity * (8 * small) → d ≤ 2 ^ 153 + 4 * small → p ≤ 2048
    → m ≤ 2 ^ 153 + 12 * small
share_most m d p h a k =
    le_of_mul-le-mul_right {m = m} {n = 2 ^ 153 + 12 * small} {k = unity}
    (le_trans h (le_trans (add-le-add (mul-le-mul a (mul-le-mul_right (2 ^ 138) k)) (le_refl (unity * (8 * small))))
    (lit≤ tt))) unity_pos

place_room : (i j : ℕ) → i ≤ 2 ^ 152 → j ≤ 2 ^ 153 + 12 * small → i + j < 2 ^ 154
place_room i j h k = lt_of_le_of_lt (add-le-add h k) (lit< tt)

module _ (s t : ℤ) (p : ℕ) (S : is_coordinate s ≡ true) (D : is_coordinate t ≡ true) (P : p ≤ 2048) where
  pub sideways_near : Near (part_way (progress_of p) (metres s) (metres t)) (sideways s t p)
  sideways_near =
      let a = length_of s S in
      let b = length_of t D in
      let d = less_by (metres t) (metres s) b.plus b.minus a.plus a.minus b.part a.part
      (way_room b.plus a.minus b.plus_most a.minus_most) (way_room b.minus a.plus b.minus_most a.plus_most) in
      let high = way_most d.plus b.plus a.minus d.plus_most b.plus_most a.minus_most in
      let low = way_most d.minus b.minus a.plus d.minus_most b.minus_most a.plus_most in
      let m = product (sub binary32 (metres t) (metres s)) (progress_of p) d.plus d.minus (p * 2 ^ 138) d.part
      (progress_value p P) (share_room d.plus p high P) (share_room d.minus p low P) in
      let r = sum (metres s) (mul binary32 (sub binary32 (metres t) (metres s)) (progress_of p)) a.plus a.minus m.plus m.minus
      a.part m.part (place_room a.plus m.plus a.plus_most (share_most m.plus d.plus p m.plus_most high P))
      (place_room a.minus m.minus a.minus_most (share_most m.minus d.minus p m.minus_most low P)) in
      near_of_close (part_way (progress_of p) (metres s) (metres t)) r.plus r.minus (sideways s t p) r.part
      (sideways_close small unity p (plus s) (minus s) (plus t) (minus t) a.plus a.minus b.plus b.minus d.plus d.minus
      m.plus m.minus r.plus r.minus (plus (sideways s t p)) (minus (sideways s t p)) refl P a.close b.close d.close
      (shared (2 ^ 138) small m.plus m.minus d.plus d.minus p (pow_pos 138) m.close) r.close (exact_or_less s t p)
      (less_than_1_below s t p))
