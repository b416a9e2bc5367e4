-- From parts to fractions: an f32 that is close to a whole number of units, as document 01's fractions say it. Assumes nothing.
use Prim.Native.Nat.{ℕ, suc, ◌+◌, ◌*◌, ◌≤◌, ◌<◌}
use mathlib.Core.Path.{◌≡◌, refl, sym, ap, subst}
use mathlib.Core.Bool.{true, false}
use native.Mathlib.Nat.{mul-pos, mul-le-mul_right}
use native.Mathlib.Omega.{arith}
use lib.Dec.{lit<, lit≤}
use lib.IntN.{ℤ, pos, negsuc}
use lib.Ieee.{Float, nan, inf, fin, binary32, up, down}
use Rattle.units.specs.Units.{unity, Part}
use Rattle.units.proofs.Errors.{unity_pos}
use Rattle.series.specs.Fractions.{Fraction, ◌÷◌, ◌⊕◌, ◌≋◌, ◌≼◌, Within, value}
use Rattle.series.proofs.Fractions.{same_sym, sum_same, le_same}
use Rattle.series.proofs.Values.{value_over}
use Rattle.wholes.proofs.Parts.{plus, minus}
use Rattle.wholes_near.specs.Metres.{length, near_enough}
use Rattle.wholes_near.proofs.SidewaysParts.{Close}

-- x is at most 1.1 units above r units, and at most 0.1 below
pub record Near (x : Float) (r : ℤ) : Type 0 where
  pub above : value x ≼ length r ⊕ (11 ÷ 100000)
  pub below : length r ≼ value x ⊕ (1 ÷ 100000)

abbrev pub fraction : ℕ → ℕ → Fraction
fraction p n = record { plus = p; minus = n; over = unity }

pub part_value : (x : Float) (p n : ℕ) → Part binary32 x p n → value x ≋ fraction p n
part_value nan p n h = absurd h
part_value (inf s) p n h = absurd h
part_value (fin false m e) p n h = plus_side (m * up e) (down e) unity p n h.0 h.1
  where
    plus_side : (a d u p n : ℕ) → a * u ≡ p * d → n ≡ 0 → a * u + n * d ≡ p * d + 0 * u
    plus_side a d u p n e z = omega (arith, e, ap (λ (k : ℕ). k * d) z)
part_value (fin true m e) p n h = minus_side (m * up e) (down e) unity p n h.0 h.1
  where
    minus_side : (a d u p n : ℕ) → a * u ≡ n * d → p ≡ 0 → 0 * u + n * d ≡ p * d + a * u
    minus_side a d u p n e z = omega (arith, e, ap (λ (k : ℕ). k * d) z)

length_is : (r : ℤ) → length r ≡ record { plus = plus r; minus = minus r; over = 10000 }
length_is (pos n) = refl
length_is (negsuc n) = refl

module _ (x : Float) (p n : ℕ) (r : ℤ) (a : Part binary32 x p n) (c : Close unity p n (plus r) (minus r)) where
  is : value x ≋ fraction p n
  is = part_value x p n a

  back : fraction p n ≋ value x
  back = same_sym (value x) (fraction p n) is

  pub near_of_close : Near x r
  near_of_close = record {
    above = subst (λ (l : Fraction). value x ≼ l ⊕ (11 ÷ 100000)) (sym (length_is r)) above_it;
    below = subst (λ (l : Fraction). l ≼ value x ⊕ (1 ÷ 100000)) (sym (length_is r)) below_it;
  }
    where
      whole : Fraction
      whole = record { plus = plus r; minus = minus r; over = 10000 }

      high : (u p n r r' : ℕ) → 10 * (10000 * p + r' * u) ≤ 10 * (10000 * n + r * u) + 11 * u
          → p * (10000 * 100000) + (r' * 100000 + 0 * 10000) * u ≤ (r * 100000 + 11 * 10000) * u + n * (10000 * 100000)
      high u p n r r' h = omega (arith, h)

      low : (u p n r r' : ℕ) → 10 * (10000 * n + r * u) ≤ 10 * (10000 * p + r' * u) + u
          → r * (u * 100000) + (n * 100000 + 0 * u) * 10000 ≤ (p * 100000 + 1 * u) * 10000 + r' * (u * 100000)
      low u p n r r' h = omega (arith, h)

      above_it : value x ≼ record { plus = plus r; minus = minus r; over = 10000 } ⊕ (11 ÷ 100000)
      above_it =
          le_same (fraction p n) (value x) (whole ⊕ (11 ÷ 100000)) (whole ⊕ (11 ÷ 100000)) unity_pos (lit< tt) back refl
          (high unity p n (plus r) (minus r) c.high)

      below_it : record { plus = plus r; minus = minus r; over = 10000 } ≼ value x ⊕ (1 ÷ 100000)
      below_it =
          le_same whole whole (fraction p n ⊕ (1 ÷ 100000)) (value x ⊕ (1 ÷ 100000)) (lit< tt)
          (mul-pos unity_pos (lit< {m = 0} {n = 100000} tt)) refl
          (sum_same (fraction p n) (value x) (1 ÷ 100000) (1 ÷ 100000) back refl) (low unity p n (plus r) (minus r) c.low)

-- ---- so it is near enough
abbrev enough : ℕ
enough = near_enough.plus

module _ (x : Float) (r : ℤ) (h : Near x r) where
  pub near_enough_lem : Within near_enough (value x) (length r)
  near_enough_lem = (
    wider (value x).plus (value x).minus (value x).over (length r).plus (length r).minus (length r).over 11 enough
        (lit≤ {m = 11} {n = 10 * enough} tt) h.above,
    wider (length r).plus (length r).minus (length r).over (value x).plus (value x).minus (value x).over 1 enough
        (lit≤ {m = 1} {n = 10 * enough} tt) h.below,
  )
    where
      wider : (p m d q n g k j : ℕ) → k ≤ 10 * j
          → p * (g * 100000) + (n * 100000 + 0 * g) * d ≤ (q * 100000 + k * g) * d + m * (g * 100000)
          → p * (g * 10000) + (n * 10000 + 0 * g) * d ≤ (q * 10000 + j * g) * d + m * (g * 10000)
      wider p m d q n g k j l h = omega (arith, mul-le-mul_right (g * d) l, h)
