-- What is read from n parts of a whole is the f32 nearest to n / 10 ^ 8 with its sign, and no other is as near: there is no tie.
use Rattle.std.specs.Prelude.{◌≡◌, ℕ, ◌+◌, ◌*◌, ◌^◌, ◌<◌, ◌≤◌, Bool, false, T}
use mathlib.Core.Path.{sym, ap, ◌∙◌, subst}
use mathlib.Core.Logic.{inl, inr}
use native.Mathlib.Nat.{lt_of_lt_of_le, lt_of_le_of_lt, not-le_of_lt, mul-lt-mul_of_pos_right, eq-zero-or-pos, zero-mul}
use native.Mathlib.Omega.{arith}
use lib.Dec.{lit<, lit≤}
use lib.Pow.{pow_pos}
use lib.Ieee.{binary32, units, of_bits, fits}
use lib.Ieee.Exact.{HasValue, units_val}
use lib.Ieee.Fits.{round-fits}
use lib.Ieee.Scale.{grid, overflow}
use Rattle.units.specs.Units.{unity, mag, gap, rounded}
use Rattle.units.proofs.Digits.{Digits}
use Rattle.units.proofs.Grid.{grid_le, grid_zero}
use Rattle.units.proofs.Nearest.{rounded_nearest}
use Rattle.units.proofs.Patterns.{one_value, joined_bits, units_fits}
use Rattle.units.proofs.Values.{round_value, mag_is}
use Rattle.poses.specs.Decimals.{whole_decimals, read_as}
use Rattle.poses.proofs.OneNearest.{Inside, nearer, rounded_is}
use Rattle.poses.proofs.Quotient.{some_inside}

no_overflow : (n : ℕ) → n < 10 ^ 9 → grid binary32 n whole_decimals < overflow binary32
no_overflow n h =
    lt_of_le_of_lt
    (grid_le binary32 n whole_decimals 129 (lit< tt) (lt_of_lt_of_le (mul-lt-mul_of_pos_right h (pow_pos 149)) (lit≤ tt)))
    (lit< tt)

module _ (minus : Bool) (n : ℕ) (h : n < 10 ^ 9) where
  pub read_value : HasValue (read_as minus n) minus (rounded n whole_decimals) unity
  unfolding read_as
  read_value = round_value binary32 minus n whole_decimals (no_overflow n h)

  pub read_fits : T (fits binary32 (read_as minus n))
  unfolding read_as
  read_fits = round-fits binary32 minus n whole_decimals

  pub read_mag : mag (read_as minus n) ≡ rounded n whole_decimals
  read_mag = mag_is (read_as minus n) minus (rounded n whole_decimals) read_value

-- ---- by its bits
pub read_bits : (n m k : ℕ) → n < 10 ^ 9 → k ≤ 200 → Inside (n * unity) whole_decimals m k
    → of_bits binary32 (k * 8388608 + m) ≡ read_as false n
read_bits n m k h l i =
    let e : rounded n whole_decimals ≡ m * 2 ^ k = rounded_is n whole_decimals m k (lit< tt) (no_overflow n h) i in
    joined_bits m k i.low i.high l
    ∙ one_value (units binary32 false m k) (read_as false n) false (m * 2 ^ k) (units_fits m k i.high) (read_fits false n h)
    (units_val binary32 false m k (subst (λ (g : ℕ). g < overflow binary32) e (no_overflow n h)))
    (subst (λ (g : ℕ). HasValue (read_as false n) false g unity) e (read_value false n h))

-- ---- no other f32 is as near
alone : (n w : ℕ) → n < 10 ^ 9 → Digits w
    → gap (w * whole_decimals) (n * unity) ≤ gap (rounded n whole_decimals * whole_decimals) (n * unity) → w ≡ rounded n whole_decimals
alone n w h d g = elim (eq-zero-or-pos n) [
  | inl z ↦
      let R : rounded n whole_decimals ≡ 0 = ap (λ (x : ℕ). rounded x whole_decimals) z ∙ grid_zero binary32 whole_decimals (lit< tt) in
      let N : n * unity ≡ 0 = ap (λ (x : ℕ). x * unity) z ∙ zero-mul unity in
      none w (rounded n whole_decimals) (n * unity) R N g
  | inr p ↦
      let s = some_inside n p h in
      let m = s.0 in
      let k = s.1 in
      let e : rounded n whole_decimals ≡ m * 2 ^ k = rounded_is n whole_decimals m k (lit< tt) (no_overflow n h) s.2 in
      elim (nearer {a = n * unity} {c = whole_decimals} {m = m} {k = k} (lit< tt) s.2 w d) [
        | inl f ↦ f ∙ sym e
        | inr f ↦ absurd
            (not-le_of_lt f (subst (λ (r : ℕ). gap (w * whole_decimals) (n * unity) ≤ gap (r * whole_decimals) (n * unity)) e g))
      ]
]
  where
    none : (w r a : ℕ) → r ≡ 0 → a ≡ 0 → gap (w * 100000000) a ≤ gap (r * 100000000) a → w ≡ r
    none w r a R N g = omega arith

-- every f32 has 24 digits (`digits_of`), so w stands for each
pub record ReadNearest (minus : Bool) (n : ℕ) : Type 0 where
  pub held : T (fits binary32 (read_as minus n))
  pub value : HasValue (read_as minus n) minus (mag (read_as minus n)) unity
  pub nearest : (w : ℕ) → Digits w → gap (mag (read_as minus n) * whole_decimals) (n * unity) ≤ gap (w * whole_decimals) (n * unity)
  pub one : (w : ℕ) → Digits w → gap (w * whole_decimals) (n * unity) ≤ gap (mag (read_as minus n) * whole_decimals) (n * unity)
      → w ≡ mag (read_as minus n)

pub read_nearest : (minus : Bool) (n : ℕ) → n < 10 ^ 9 → ReadNearest minus n
read_nearest minus n h =
    let e = read_mag minus n h in
    record {
      held = read_fits minus n h;
      value = rw e (read_value minus n h);
      nearest = λ (w : ℕ) (d : Digits w). rw e (rounded_nearest n whole_decimals w (lit< tt) d);
      one = λ (w : ℕ) (d : Digits w). rw e (alone n w h d);
    }
