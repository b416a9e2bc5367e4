-- The results: a whole number of 2 ^ -22 as an f32, what it is in units, and that the code's product makes it. Assumes nothing.
use Rattle.std.specs.Prelude.{◌≡◌, ℕ, ◌*◌, ◌^◌, ◌<◌, ◌≤◌, Bool, true, false, T, pos, negsuc}
use mathlib.Core.Path.{refl, sym, ap, ◌∙◌, subst}
use native.Mathlib.Nat.{lt_of_lt_of_le, le_of_lt, mul_comm, mul_assoc, mul_left_comm, mul-pos}
use native.Mathlib.Omega.{arith}
use mathlib.Core.Bool.{true≢false}
use lib.Dec.{lit<, lit≤}
use lib.Pow.{shl_lt}
use lib.Ieee.{Float, nan, inf, fin, binary32, up, down, unlike, round, of_bits, fits, mul, neg, of_int}
use lib.Ieee.Exact.{HasValue, units_val, round_exact}
use lib.Ieee.Back.{round_whole}
use lib.Ieee.Fits.{down_pos, mul-fits}
use Rattle.units.proofs.Values.{value_over}
use Rattle.units.proofs.Patterns.{one_value, signed_units_fits}
use Rattle.arcs.specs.How.{in_radians}

under_all : (a : ℕ) → a < 16777216 → a * 2 ^ 127 < 2 ^ 277
under_all a h = lt_of_lt_of_le (shl_lt 24 127 h) (lit≤ {m = 2 ^ 151} {n = 2 ^ 277} tt)

pub radians_value : (s : Bool) (a : ℕ) → a < 16777216 → HasValue (in_radians s a) s (a * 2 ^ 127) (2 ^ 149)
unfolding in_radians
radians_value s a h = units_val binary32 s a 127 (under_all a h)

pub radians_fits : (s : Bool) (a : ℕ) → a < 16777216 → T (fits binary32 (in_radians s a))
unfolding in_radians
radians_fits s a h = signed_units_fits s a 127 (le_of_lt h)

-- as it is computed: the whole number times ±2 ^ -22
times_tiny : (s : Bool) (v : Float) (y : ℕ) → y < 16777216 → HasValue v false y 1
    → HasValue (mul binary32 v (fin s 1 (negsuc 21))) s (y * 2 ^ 127) (2 ^ 149)
unfolding mul
times_tiny s nan y l h = absurd h
times_tiny s (inf t) y l h = absurd h
times_tiny s (fin true m e) y l h = absurd (true≢false h.0)
times_tiny s (fin false m e) y l h =
    let num = m * up e * 1 in
    let den = down e * 4194304 in
    let dp : 0 < den = mul-pos (down_pos e) (lit< tt) in
    let en : num ≡ y * down e = h.1 in
    let ex : num * 2 ^ 149 ≡ y * 2 ^ 127 * den = ap (λ (z : ℕ). z * 2 ^ 149) en ∙ move y (down e) 4194304 (2 ^ 127) in
    value_over (round binary32 (unlike false s) num den) s num den (y * 2 ^ 127) (2 ^ 149) dp ex
    (subst (λ (t : Bool). HasValue (round binary32 t num den) s num den) (sym (kept s))
    (round_exact binary32 s num den y 127 dp l (under_all y l) ex))
  where
    move : (y d c k : ℕ) → y * d * (c * k) ≡ y * k * (d * c)
    move y d c k = simp (mul_assoc, mul_comm, mul_left_comm)

    kept : (s : Bool) → unlike false s ≡ s
    kept true = refl
    kept false = refl

product : Bool → ℕ → Float
product s a = mul binary32 (of_int binary32 (pos a)) (fin s 1 (negsuc 21))

product_value : (s : Bool) (a : ℕ) → a < 16777216 → HasValue (product s a) s (a * 2 ^ 127) (2 ^ 149)
unfolding product of_int
product_value s a l = times_tiny s (round binary32 false a 1) a l (round_whole binary32 false a (le_of_lt l))

pub product_is : (s : Bool) (a : ℕ) → a ≤ 13176795 → mul binary32 (of_int binary32 (pos a)) (fin s 1 (negsuc 21)) ≡ in_radians s a
unfolding product
product_is s a h =
    one_value (product s a) (in_radians s a) s (a * 2 ^ 127) (mul-fits binary32 (of_int binary32 (pos a)) (fin s 1 (negsuc 21)))
    (radians_fits s a (few h)) (product_value s a (few h)) (radians_value s a (few h))
  where
    few : a ≤ 13176795 → a < 16777216
    few g = omega arith

-- ---- `unit`: the literals are 2 ^ -22
pub angle_unit_plus : of_bits binary32 880803840 ≡ fin false 1 (negsuc 21)
unfolding of_bits
angle_unit_plus = refl

pub angle_unit_minus : neg (of_bits binary32 880803840) ≡ fin true 1 (negsuc 21)
unfolding neg
angle_unit_minus = ap neg angle_unit_plus
