-- A larger pattern stands for more units, and the other way round; from 2 ^ 23 on its digits have a one before them.
use mathlib.Core.Path.{◌≡◌, refl, sym, ap, ◌∙◌, subst}
use mathlib.Core.Logic.{inl, inr}
use mathlib.Core.Bool.{Bool, true, false, not}
use Prim.Native.Nat.{ℕ, zero, suc, ◌+◌, ◌-◌, ◌*◌, ◌/◌, ◌%◌, ◌^◌, ◌≤◌, ◌<◌}
use native.Mathlib.Nat.{le_of_eq, le_of_lt, lt_of_lt_of_le, not-le_of_lt, mul-le-mul, mul-lt-mul_of_pos_right, pow-succ'}
use native.Mathlib.Omega.{arith}
use lib.Dec.{T, ltb, ltb→lt, nltb→le}
use lib.Pow.{pow_pos, pow_mono}
use Rattle.units.specs.Patterns.{val_of, val}
use Rattle.units.proofs.Whole.{le_or_lt}

pub val_normal : (b : ℕ) → 8388608 ≤ b → val b ≡ (8388608 + b % 8388608) * 2 ^ (b / 8388608 - 1)
val_normal b h = let e : b / 8388608 ≡ suc (b / 8388608 - 1) = omega arith in ap (λ (x : ℕ). val_of x (b % 8388608)) e

-- ---- by the fields: with more digits in one field, or with any in a later one
under_next : (x t : ℕ) → t < 8388608 → val_of x t < 8388608 * 2 ^ x
under_next zero t h = h
under_next (suc x) t h =
    lt_of_lt_of_le (mul-lt-mul_of_pos_right (twice h) (pow_pos x))
    (le_of_eq (more (2 ^ x) ∙ ap (λ (k : ℕ). 8388608 * k) (sym (pow-succ' 2 x))))
  where
    twice : t < 8388608 → 8388608 + t < 16777216
    twice g = omega arith

    more : (p : ℕ) → 16777216 * p ≡ 8388608 * (2 * p)
    more p = omega arith

same_field : (x s t : ℕ) → s < t → val_of x s < val_of x t
same_field zero s t h = h
same_field (suc x) s t h = mul-lt-mul_of_pos_right (more h) (pow_pos x)
  where
    more : s < t → 8388608 + s < 8388608 + t
    more g = omega arith

next_field : (x y s t : ℕ) → s < 8388608 → x < y → val_of x s < val_of y t
next_field x zero s t h g = absurd (no g)
  where
    no : x < 0 → ⊥
    no k = omega arith
next_field x (suc y) s t h g = lt_of_lt_of_le (under_next x s h) (mul-le-mul (least t) (pow_mono {i = x} {j = y} (omega arith)))
  where
    least : (t : ℕ) → 8388608 ≤ 8388608 + t
    least t = omega arith

-- ---- by the patterns
pub val_lt : (a b : ℕ) → a < b → val a < val b
val_lt a b h =
    elim (le_or_lt (b / 8388608) (a / 8388608)) [
      | inr g ↦ next_field (a / 8388608) (b / 8388608) (a % 8388608) (b % 8388608) (omega arith) g
      | inl g ↦
          let e : b / 8388608 ≡ a / 8388608 = omega arith in
          subst (λ (x : ℕ). val_of (a / 8388608) (a % 8388608) < val_of x (b % 8388608)) (sym e)
          (same_field (a / 8388608) (a % 8388608) (b % 8388608) (omega arith))
    ]

pub val_le : (a b : ℕ) → a ≤ b → val a ≤ val b
val_le a b h =
    elim (le_or_lt b a) [
      | inr g ↦ le_of_lt (val_lt a b g)
      | inl g ↦ let e : a ≡ b = omega arith in le_of_eq (ap val e)
    ]

pub val_le_back : (a b : ℕ) → val a ≤ val b → a ≤ b
val_le_back a b h = elim (le_or_lt a b) [ inl g ↦ g | inr g ↦ absurd (not-le_of_lt (val_lt b a g) h) ]

pub val_ltb : (a b : ℕ) → ltb (val a) (val b) ≡ ltb a b
val_ltb a b = go (ltb (val a) (val b)) (ltb a b) (ltb→lt (val a) (val b)) (nltb→le (val a) (val b)) (ltb→lt a b) (nltb→le a b)
  where
    go : (p q : Bool) → (T p → val a < val b) → (T (not p) → val b ≤ val a) → (T q → a < b) → (T (not q) → b ≤ a) → p ≡ q
    go true true i j k l = refl
    go false false i j k l = refl
    go true false i j k l = absurd (not-le_of_lt (i tt) (val_le b a (l tt)))
    go false true i j k l = absurd (not-le_of_lt (val_lt a b (k tt)) (j tt))
