-- z of the f32 step is close to that of the whole step, while the step is under way: at most 1.1 units above, at most 0.1 below. Assumes
-- nothing.
use Prim.Native.Nat.{ℕ, ◌+◌, ◌*◌, ◌/◌, ◌^◌, ◌≤◌, ◌<◌}
use mathlib.Core.Path.{◌≡◌, refl}
use mathlib.Core.Bool.{true, false}
use native.Mathlib.Nat.{le_refl, le_of_lt, le_trans, lt_of_le_of_lt, add-le-add, mul-le-mul, le_of_mul-le-mul_right, mul-div-le}
use native.Mathlib.Nat.{lt-mul-div-succ}
use native.Mathlib.Omega.{arith}
use lib.Dec.{lit<, lit≤}
use lib.IntN.{ℤ, pos, ◌+ℤ◌}
use lib.Ieee.{Float, binary32, round, mul, add}
use lib.Ieee.Exact.{HasValue}
use Rattle.units.specs.Units.{unity, Part, hi, lo, rounded}
use Rattle.units.proofs.Values.{round_value}
use Rattle.units.proofs.Errors.{Within, unity_pos}
use Rattle.sines.specs.How.{sine}
use Rattle.steps.specs.Leg.{above}
use Rattle.wholes.specs.Wholes.{is_coordinate, table_scale, used, entry, upwards}
use Rattle.wholes.proofs.Parts.{plus, minus, Made, sum_made}
use Rattle.wholes.proofs.Steps.{used_most}
use Rattle.wholes_near.specs.Metres.{metres, progress_of}
use Rattle.wholes_near.proofs.Rounding.{small, Result, sum, Product, product, Length, length_of}
use Rattle.wholes_near.proofs.Rounding.{length_held, length_close, length_most}
use Rattle.wholes_near.proofs.UpwardsParts.{upwards_close}
use Rattle.wholes_near.proofs.Wave.{argument}
use Rattle.wholes_near.proofs.Sine.{sine_part, sine_close, sine_most}
use Rattle.wholes_near.proofs.Near.{Near, near_of_close}

-- ---- the height in metres
module _ (h : ℕ) (H : h ≤ 1000) where
  low : h ≤ 40000
  low = le_trans H (lit≤ tt)

  height_value : HasValue (metres (pos h)) false (rounded h 10000) unity
  unfolding metres
  height_value = round_value binary32 false h 10000 (length_held h low)

-- ---- room for the product and for the place
product_room : (y k : ℕ) → y ≤ 2 * unity → k ≤ 2 ^ 152 → y * k < 64 * (unity * unity)
product_room y k h l = lt_of_le_of_lt (mul-le-mul h l) (lit< tt)

product_most : (a y k : ℕ) → a * unity ≤ y * k + unity * (8 * small) → y ≤ 2 * unity → k ≤ 2 ^ 152 → a ≤ 2 ^ 153 + 8 * small
product_most a y k h b l =
    le_of_mul-le-mul_right {m = a} {n = 2 ^ 153 + 8 * small} {k = unity}
    (le_trans h (le_trans (add-le-add (mul-le-mul b l) (le_refl (unity * (8 * small)))) (lit≤ tt))) unity_pos

place_room : (a s : ℕ) → a ≤ 2 ^ 153 + 8 * small → s ≤ 2 ^ 152 → a + s < 2 ^ 154
place_room a s h k = lt_of_le_of_lt (add-le-add h k) (lit< tt)

-- ---- the whole share
share_low : (a : ℕ) → 16384 * (a / 16384) ≤ a
share_low a = mul-div-le a 16384

share_high : (a : ℕ) → a ≤ 16384 * (a / 16384) + 16384
share_high a = loosened (a / 16384) (lt-mul-div-succ a (lit< {m = 0} {n = 16384} tt))
  where
    loosened : (q : ℕ) → a < 16384 * (q + 1) → a ≤ 16384 * q + 16384
    loosened q h = omega (arith, h)

raised_by : (s : ℤ) (n : ℕ) → plus (s +ℤ pos n) + minus s ≡ plus s + n + minus (s +ℤ pos n)
raised_by s n = let m = sum_made s (pos n) in omega (arith, m.level)

module _ (s : ℤ) (h p : ℕ) (S : is_coordinate s ≡ true) (H : h ≤ 1000) (P : p < 2048) where
  pub upwards_near : Near (add binary32 (above (metres (pos h)) (progress_of p) false) (metres s)) (upwards s h p)
  upwards_near =
      let few = le_of_lt P in
      let y = sine (argument p) in
      let k = rounded h 10000 in
      let a = length_of s S in
      let tall = length_most h (low h H) in
      let m = product y (metres (pos h)) (hi y) (lo y) k (sine_part p few) (height_value h H)
      (product_room (hi y) k (sine_most p P).0 tall) (product_room (lo y) k (sine_most p P).1 tall) in
      let r = sum (mul binary32 y (metres (pos h))) (metres s) m.plus m.minus a.plus a.minus m.part a.part
      (place_room m.plus a.plus (product_most m.plus (hi y) k m.plus_most (sine_most p P).0 tall) a.plus_most)
      (place_room m.minus a.minus (product_most m.minus (lo y) k m.minus_most (sine_most p P).1 tall) a.minus_most) in
      let n = h * entry (used p) / 16384 in
      let w = length_close h (low h H) in
      near_of_close (add binary32 (above (metres (pos h)) (progress_of p) false) (metres s)) r.plus r.minus (upwards s h p) r.part
      (upwards_close small unity (entry (used p)) h k (hi y) (lo y) m.plus m.minus unity_pos (used_most p few) H (sine_close p P)
      w.up w.low m.close (plus s) (minus s) a.plus a.minus r.plus r.minus n (plus (upwards s h p))
      (minus (upwards s h p)) refl a.close r.close (share_low (h * entry (used p))) (share_high (h * entry (used p)))
      (raised_by s n))
