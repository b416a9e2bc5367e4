-- Where m * 2 ^ k units, with m of 24 digits, is less than half of 2 ^ k units from a / c, every other f32 is farther from it: so it is
-- what rounding gives.
use Rattle.std.specs.Prelude.{◌≡◌, ℕ, suc, ◌+◌, ◌*◌, ◌^◌, ◌<◌, ◌≤◌, false, ◌⊎◌}
use mathlib.Core.Path.{refl, sym, ap, ◌∙◌, subst}
use mathlib.Core.Logic.{inl, inr}
use native.Mathlib.Nat.{le_of_eq, lt_of_lt_of_le, lt_of_le_of_lt, lt_of_mul-lt-mul_right, mul-le-mul_right, mul-lt-mul_of_pos_right}
use native.Mathlib.Nat.{eq-or-lt_of_le, not-le_of_lt, mul_assoc, pow-succ'}
use native.Mathlib.Omega.{arith}
use lib.Dec.{lit<}
use lib.Ieee.{binary32, round}
use lib.Ieee.Fits.{round-fits}
use lib.Ieee.Scale.{grid, overflow}
use Rattle.units.specs.Units.{unity, gap, rounded}
use Rattle.units.proofs.Whole.{le_or_lt}
use Rattle.units.proofs.Digits.{Digits, digits_of, multiple}
use Rattle.units.proofs.Nearest.{rounded_nearest}
use Rattle.units.proofs.Values.{round_value, mag_is}

pub record Inside (a c m k : ℕ) : Type 0 where
  pub low : 2 ^ 23 ≤ m
  pub high : m ≤ 2 ^ 24
  pub above : 2 * (m * 2 ^ k * c) < 2 * a + c * 2 ^ k
  pub below : 2 * a < 2 * (m * 2 ^ k * c) + c * 2 ^ k
  pub bottom : m ≡ 2 ^ 23 → m * 2 ^ k * c ≤ a

-- G is less than half a step from a; what is a step from G is farther
step_above : (G a s W : ℕ) → 2 * G < 2 * a + s → 2 * a < 2 * G + s → G + s ≤ W → gap G a < gap W a
step_above G a s W x y h = omega arith

step_below : (G a s W : ℕ) → 2 * G < 2 * a + s → 2 * a < 2 * G + s → W + s ≤ G → gap G a < gap W a
step_below G a s W x y h = omega arith

pub under : (G a W : ℕ) → G ≤ a → W < G → gap G a < gap W a
under G a W x y = omega arith

module _ {a c m k : ℕ} (C : 0 < c) (h : Inside a c m k) where
  wide : (x y : ℕ) → x + 2 ^ k ≤ y → x * c + c * 2 ^ k ≤ y * c
  wide x y l = let p : (x + 2 ^ k) * c ≤ y * c = mul-le-mul_right c l in spread x (2 ^ k) (y * c) p
    where
      spread : (x u z : ℕ) → (x + u) * c ≤ z → x * c + c * u ≤ z
      spread x u z p = omega arith

  -- what is less than a step away is the same, or below the first of these digits
  close : (w : ℕ) → Digits w → w < m * 2 ^ k + 2 ^ k → m * 2 ^ k < w + 2 ^ k → (w ≡ m * 2 ^ k) ⊎ (gap (m * 2 ^ k * c) a < gap (w * c) a)
  close w d above below = elim (le_or_lt (2 ^ 23 * 2 ^ k) w) [
    | inl l ↦
        let M = multiple w k d l in
        let u = M.0 in
        let x : u < suc m =
        lt_of_mul-lt-mul_right (2 ^ k) (lt_of_le_of_lt (le_of_eq (sym M.1)) (lt_of_lt_of_le above (next m (2 ^ k)))) in
        let y : m < suc u = lt_of_mul-lt-mul_right (2 ^ k) (lt_of_lt_of_le below (at M.1 (next u (2 ^ k)))) in
        inl (M.1 ∙ ap (λ (z : ℕ). z * 2 ^ k) (equal u m x y))
    | inr l ↦
        let t : m < suc (2 ^ 23) = lt_of_mul-lt-mul_right (2 ^ k) (lt_of_lt_of_le below (less w (2 ^ k) l)) in
        let e : m ≡ 2 ^ 23 = equal m (2 ^ 23) t (more h.low) in
        let g : w < m * 2 ^ k = lt_of_lt_of_le l (le_of_eq (ap (λ (z : ℕ). z * 2 ^ k) (sym e))) in
        inr (under (m * 2 ^ k * c) a (w * c) (h.bottom e) (mul-lt-mul_of_pos_right g C))
  ]
    where
      next : (a b : ℕ) → a * b + b ≤ suc a * b
      next a b = omega arith

      at : {u v : ℕ} → w ≡ u → u + 2 ^ k ≤ v → w + 2 ^ k ≤ v
      at {u} {v} e x = omega arith

      equal : (a b : ℕ) → a < suc b → b < suc a → a ≡ b
      equal a b x y = omega arith

      more : {x y : ℕ} → x ≤ y → x < suc y
      more {x} {y} l = omega arith

      less : (w b : ℕ) → w < 2 ^ 23 * b → w + b ≤ suc (2 ^ 23) * b
      less w b x = omega arith

  pub nearer : (w : ℕ) → Digits w → (w ≡ m * 2 ^ k) ⊎ (gap (m * 2 ^ k * c) a < gap (w * c) a)
  nearer w d =
      let G = m * 2 ^ k * c in
      let s = c * 2 ^ k in
      elim (le_or_lt (m * 2 ^ k + 2 ^ k) w) [
        | inl x ↦ inr (step_above G a s (w * c) h.above h.below (wide (m * 2 ^ k) w x))
        | inr x ↦ elim (le_or_lt (w + 2 ^ k) (m * 2 ^ k)) [
          | inl y ↦ inr (step_below G a s (w * c) h.above h.below (wide w (m * 2 ^ k) y))
          | inr y ↦ close w d x y
        ]
      ]

  inside_digits : Digits (m * 2 ^ k)
  inside_digits = elim (eq-or-lt_of_le h.high) [
    | inl e ↦ (
      2 ^ 23,
      suc k,
      ap (λ (z : ℕ). z * 2 ^ k) e ∙ mul_assoc (2 ^ 23) 2 (2 ^ k) ∙ ap (λ (z : ℕ). 2 ^ 23 * z) (sym (pow-succ' 2 k)),
      lit< tt,
    )
    | inr l ↦ (m, k, refl, l)
  ]

-- ---- what rounding gives has 24 digits, so it is this one
pub rounded_digits : (n c : ℕ) → grid binary32 n c < overflow binary32 → Digits (rounded n c)
rounded_digits n c h =
    let x = round binary32 false n c in
    subst Digits (mag_is x false (rounded n c) (round_value binary32 false n c h)) (digits_of x (round-fits binary32 false n c))

pub rounded_is : (n c m k : ℕ) → 0 < c → grid binary32 n c < overflow binary32 → Inside (n * unity) c m k → rounded n c ≡ m * 2 ^ k
rounded_is n c m k C o h =
    elim (nearer C h (rounded n c) (rounded_digits n c o)) [
      | inl e ↦ e
      | inr l ↦ absurd (not-le_of_lt l (rounded_nearest n c (m * 2 ^ k) C (inside_digits C h)))
    ]
