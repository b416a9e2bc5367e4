-- The root of an f32's rounded square is no less than that f32, and nor is the root of more.
use Rattle.std.specs.Prelude.{◌≡◌, ℕ, zero, suc, ◌+◌, ◌-◌, ◌*◌, ◌^◌, ◌<◌, ◌≤◌, false}
use mathlib.Core.Path.{refl, sym, ap, ◌∙◌}
use mathlib.Core.Logic.{inl, inr}
use native.Mathlib.Nat.{le_trans, le_of_eq, lt_of_lt_of_le, lt_of_not-le, not-le_of_lt, eq-or-lt_of_le, zero-lt-suc}
use native.Mathlib.Nat.{one-mul, mul-pos, mul-le-mul, mul-le-mul_left, mul-le-mul_right, le_of_mul-le-mul_right}
use native.Mathlib.Omega.{arith}
use lib.Dec.{lit<, lit≤}
use lib.Pow.{pow-add, pow_mono}
use lib.Ieee.{Float, binary32, size}
use lib.Ieee.Digits.{size-lt}
use lib.Ieee.Exact.{HasValue}
use lib.Ieee.Positive.{positive_of_value}
use Rattle.units.specs.Units.{unity, mag, gap}
use Rattle.units.proofs.Values.{mag_is}
use Rattle.units.proofs.Whole.{le_or_lt}
use Rattle.units.proofs.Grid.{grid_rel}
use Rattle.units.proofs.Errors.{unity_pos}
use Rattle.units.proofs.Digits.{Digits, multiple, digits_of}
use Rattle.units.proofs.Nearest.{rounded_nearest}
use Rattle.roots.specs.Root.{square_root}
use Rattle.roots.proofs.Laws.{root_closest, root_fits}
use Rattle.moves.proofs.Squares.{Fit, sq}
use Rattle.walks.proofs.Neighbours.{Placed, placed, place_more}

-- ---- on whole numbers: D is an f32, Q one below it, and n what Q is the root of; p is the place of D's last digit, u the number 1.
-- D's square is rounded by one part in 2 ^ 24. So the root of n is above the midpoint of D and D - p, and Q is not the nearest
far_below : (D Q p n u : ℕ) → Q + p ≤ D → D + p ≤ 16777216 * p → 8388608 * p ≤ D → 2 * u ≤ p * p
    → 16777216 * (D * D) ≤ 16777216 * n + D * D + 8388608 * u → 4 * n < (Q + D) * (Q + D) → ⊥
far_below D Q p n u below few many large near nearer =
    let z = 2 * D - p in
    let e : z + p ≡ 2 * D = omega arith in
    let w : (Q + D) * (Q + D) ≤ z * z = mul-le-mul (less e) (less e) in
    let a : (z + p) * (z + p) ≡ 2 * D * (2 * D) = ap (λ (y : ℕ). y * y) e in
    let b : (z + p) * p ≡ 2 * D * p = ap (λ (y : ℕ). y * p) e in
    let c : D * (D + p) ≤ D * (16777216 * p) = mul-le-mul_left D few in
    let d : 8388608 * p * p ≤ D * p = mul-le-mul_right p many in
    omega arith
  where
    less : 2 * D - p + p ≡ 2 * D → Q + D ≤ 2 * D - p
    less e = omega arith

-- where D's square is not rounded at all, Q is below the root
exactly_below : (D Q n : ℕ) → Q < D → D * D ≤ n → 4 * n < (Q + D) * (Q + D) → ⊥
exactly_below D Q n less above nearer =
    let w : (Q + D) * (Q + D) ≤ (D + D) * (D + D) = mul-le-mul twice twice in
    omega arith
  where
    twice : Q + D ≤ D + D
    twice = omega arith

-- the rounded square, of any f32 and of a power of two
near_square : (D : ℕ) → 16777216 * (D * D) ≤ 16777216 * (sq D * unity) + D * D + 8388608 * unity
near_square D = part (sq D) (D * D) unity unity_pos (grid_rel binary32 (D * D) (unity * unity) (mul-pos unity_pos unity_pos)).1
  where
    part : (g w u : ℕ) → 0 < u → 16777216 * (w * u) ≤ 16777216 * (g * (u * u)) + w * u + 8388608 * (u * u)
        → 16777216 * w ≤ 16777216 * (g * u) + w + 8388608 * u
    part g w u h k = le_of_mul-le-mul_right {m = 16777216 * w} {n = 16777216 * (g * u) + w + 8388608 * u} {k = u} (omega arith) h

exact_square : (D w : ℕ) → Digits w → D * D ≡ w * unity → D * D ≤ sq D * unity
exact_square D w d e =
    level (sq D) (D * D) w unity unity_pos e (rounded_nearest (D * D) (unity * unity) w (mul-pos unity_pos unity_pos) d)
  where
    level : (g n w u : ℕ) → 0 < u → n ≡ w * u → gap (g * (u * u)) (n * u) ≤ gap (w * (u * u)) (n * u) → n ≤ g * u
    level g n w u h e k =
        let f : n * u ≡ w * u * u = ap (λ (y : ℕ). y * u) e in
        le_of_mul-le-mul_right {m = n} {n = g * u} {k = u} (omega arith) h

module _ (D Q : ℕ) (d_d : Digits D) (d_q : Digits Q) (many : 2 ^ 137 ≤ D) where
  k : ℕ
  k = size D - 24

  -- D has 138 digits or more
  far_up : 114 ≤ k
  unfolding k
  far_up = digits (lt_of_not-le (λ (g : size D ≤ 137). not-le_of_lt (lt_of_lt_of_le (size-lt D) (pow_mono g)) many))
    where
      digits : 137 < size D → 114 ≤ size D - 24
      digits h = omega arith

  at : Placed D k
  unfolding k
  at = placed D (le_trans (lit≤ tt) many)

  -- where D is the least of its place: a power of two
  power_square : 2 ^ 23 * 2 ^ k ≡ D → D * D ≤ sq D * unity
  power_square e =
      exact_square D (2 ^ (k + k - 103)) (1, k + k - 103, sym (one-mul (2 ^ (k + k - 103))), lit< tt)
      (ap (λ (y : ℕ). y * y) (sym e ∙ sym (pow-add 2 23 k)) ∙ sym (pow-add 2 (23 + k) (23 + k)) ∙ ap (λ (y : ℕ). 2 ^ y) (count k far_up)
      ∙ pow-add 2 (k + k - 103) 149)
    where
      count : (k : ℕ) → 114 ≤ k → 23 + k + (23 + k) ≡ k + k - 103 + 149
      count k h = omega arith

  -- where it is not, Q is a place below
  place_below : 2 ^ 23 * 2 ^ k < D → Q < D → Q + 2 ^ k ≤ D
  place_below h l =
      let w = multiple D k d_d at.low in
      elim (le_or_lt (2 ^ 23 * 2 ^ k) Q) [
        | inl g ↦ let v = multiple Q k d_q g in place_more v.0 w.0 (2 ^ k) Q D v.1 w.1 l
        | inr g ↦ under (2 ^ 23 * 2 ^ k) (2 ^ k) g (place_more (2 ^ 23) w.0 (2 ^ k) (2 ^ 23 * 2 ^ k) D refl w.1 h)
      ]
    where
      under : (b p : ℕ) → Q < b → b + p ≤ D → Q + p ≤ D
      under b p g h = omega arith

  place_above : D + 2 ^ k ≤ 2 ^ 24 * 2 ^ k
  place_above = let w = multiple D k d_d at.low in place_more w.0 (2 ^ 24) (2 ^ k) D (2 ^ 24 * 2 ^ k) w.1 refl at.high

  pub not_nearest : (n : ℕ) → sq D * unity ≤ n → Q < D → 4 * n < (Q + D) * (Q + D) → ⊥
  not_nearest n above less nearer = elim (eq-or-lt_of_le at.low) [
    | inl e ↦ exactly_below D Q n less (le_trans (power_square e) above) nearer
    | inr h ↦
        far_below D Q (2 ^ k) n unity (place_below h less) place_above at.low
        (le_trans {m = 2 ^ 114 * 2 ^ 114} (lit≤ tt) (mul-le-mul (pow_mono far_up) (pow_mono far_up)))
        (from (D * D) (sq D * unity) n unity (near_square D) above) nearer
  ]
    where
      from : (dd s n u : ℕ) → 16777216 * dd ≤ 16777216 * s + dd + 8388608 * u → s ≤ n → 16777216 * dd ≤ 16777216 * n + dd + 8388608 * u
      from dd s n u a b = omega arith

-- ---- of floats
square_pos : (D : ℕ) → 2 ^ 137 ≤ D → 0 < sq D
square_pos D many = some (sq D) (D * D) unity unity_pos (le_trans {m = 2 ^ 137 * 2 ^ 137} (lit≤ tt) (mul-le-mul many many)) (near_square D)
  where
    some : (g w u : ℕ) → 0 < u → u ≤ w → 16777216 * w ≤ 16777216 * (g * u) + w + 8388608 * u → 0 < g
    some zero w u p h k = absurd (omega arith)
    some (suc g) w u p h k = zero-lt-suc g

-- x is a units, and a no less than the rounded square of z
pub root_no_less : (x z : Float) (a : ℕ) → Fit x → Fit z → HasValue x false a unity → 2 ^ 137 ≤ mag z → sq (mag z) ≤ a
    → mag z ≤ mag (square_root x)
root_no_less x z a F G v many above = elim (le_or_lt (mag z) (mag (square_root x))) [
  | inl h ↦ h
  | inr l ↦ absurd
      (not_nearest (mag z) (mag (square_root x)) (digits_of z G) (digits_of (square_root x) (root_fits x F)) many (mag x * unity)
      (mul-le-mul_right unity (le_trans above (le_of_eq (sym (mag_is x false a v))))) l
      ((root_closest x F (positive_of_value x a unity v (lt_of_lt_of_le (square_pos (mag z) many) above))).above z G l))
]
