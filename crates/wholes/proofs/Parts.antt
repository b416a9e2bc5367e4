-- A whole number with a sign as two natural numbers: it is plus - minus, and one of them is 0. So a sum, a product and a share that is
-- rounded down are each linear in parts, and `omega` reads them. Assumes nothing.
use Prim.Native.Nat.{ℕ, zero, suc, ◌+◌, ◌-◌, ◌*◌, ◌/◌, ◌≤◌, ◌<◌}
use mathlib.Core.Path.{◌≡◌, refl, sym, ap, ◌∙◌}
use mathlib.Core.Bool.{Bool, true, false, cond}
use native.Mathlib.Nat.{mul-div-le, lt-mul-div-succ, zero-mul}
use native.Mathlib.Omega.{arith}
use lib.Dec.{ltb}
use borrow.Author.Tests.{ltb-true, ltb-false}
use lib.IntN.{ℤ, pos, negsuc, neg_ℤ, nat_abs, sub_ℕ, ◌+ℤ◌, ◌-ℤ◌, ◌*ℤ◌}
use Rattle.wholes.specs.Wholes.{down}

abbrev pub plus : ℤ → ℕ
plus (pos n) = n
plus (negsuc n) = 0

abbrev pub minus : ℤ → ℕ
minus (pos n) = 0
minus (negsuc n) = suc n

-- z is p - n, no larger than its parts
pub record Made (z : ℤ) (p n : ℕ) : Type 0 where
  pub level : plus z + n ≡ p + minus z
  pub plus_most : plus z ≤ p
  pub minus_most : minus z ≤ n

-- ---- how far from 0
pub abs_parts : (z : ℤ) → nat_abs z ≡ plus z + minus z
abs_parts (pos n) = omega arith
abs_parts (negsuc n) = omega arith

-- ---- a sum and a difference
difference_by : (a b : ℕ) (t : Bool) → ltb a b ≡ t → Made (cond t (negsuc (b - suc a)) (pos (a - b))) a b
difference_by a b true e =
    let h : a < b = ltb-true a b e in record { level = omega arith; plus_most = omega arith; minus_most = omega arith }
difference_by a b false e =
    let h : b ≤ a = ltb-false a b e in record { level = omega arith; plus_most = omega arith; minus_most = omega arith }

natural_difference : (a b : ℕ) → Made (sub_ℕ a b) a b
natural_difference a b = difference_by a b (ltb a b) refl

moved : {z : ℤ} {p n : ℕ} (q m : ℕ) → Made z p n → p ≡ q → n ≡ m → Made z q m
moved {z} {p} {n} q m h e f =
    record {
      level = omega (arith, h.level, e, f);
      plus_most = omega (arith, h.plus_most, e);
      minus_most = omega (arith, h.minus_most, f);
    }

pub sum_made : (a b : ℤ) → Made (a +ℤ b) (plus a + plus b) (minus a + minus b)
sum_made (pos a) (pos b) = record { level = omega arith; plus_most = omega arith; minus_most = omega arith }
sum_made (pos a) (negsuc b) = moved (a + 0) (0 + suc b) (natural_difference a (suc b)) (omega arith) (omega arith)
sum_made (negsuc a) (pos b) = moved (0 + b) (suc a + 0) (natural_difference b (suc a)) (omega arith) (omega arith)
sum_made (negsuc a) (negsuc b) = record { level = omega arith; plus_most = omega arith; minus_most = omega arith }

negative_plus : (a : ℤ) → plus (neg_ℤ a) ≡ minus a
negative_plus (pos zero) = refl
negative_plus (pos (suc n)) = refl
negative_plus (negsuc n) = refl

negative_minus : (a : ℤ) → minus (neg_ℤ a) ≡ plus a
negative_minus (pos zero) = refl
negative_minus (pos (suc n)) = refl
negative_minus (negsuc n) = refl

pub difference_made : (a b : ℤ) → Made (a -ℤ b) (plus a + minus b) (minus a + plus b)
difference_made a b =
    moved (plus a + minus b) (minus a + plus b) (sum_made a (neg_ℤ b)) (ap (λ (w : ℕ). plus a + w) (negative_plus b))
    (ap (λ (w : ℕ). minus a + w) (negative_minus b))

-- ---- a product with a natural number
pub times_plus : (a : ℤ) (p : ℕ) → plus (a *ℤ pos p) ≡ plus a * p
times_plus (pos a) p = refl
times_plus (negsuc a) p = negative_plus (pos (suc a * p)) ∙ sym (zero-mul p)

pub times_minus : (a : ℤ) (p : ℕ) → minus (a *ℤ pos p) ≡ minus a * p
times_minus (pos a) p = sym (zero-mul p)
times_minus (negsuc a) p = negative_minus (pos (suc a * p))

-- ---- a share that is rounded down: at most the exact one, and less than 1 below it
pub record Share (q a : ℤ) (d : ℕ) : Type 0 where
  pub at_most : d * plus q + minus a ≤ plus a + d * minus q
  pub above : plus a + d * minus q < d * plus q + minus a + d
  pub plus_most : plus q ≤ plus a
  pub minus_most : minus q ≤ minus a

pub share : (a : ℤ) (d : ℕ) → 0 < d → Share (down a d) a d
share (pos n) d h = by_parts (n / d) (mul-div-le n d) (lt-mul-div-succ n h)
  where
    by_parts : (q : ℕ) → d * q ≤ n → n < d * (q + 1) → Share (pos q) (pos n) d
    by_parts q l u =
        record {
          at_most = omega arith;
          above = omega arith;
          plus_most = less q d n h l;
          minus_most = omega arith;
        }
      where
        less : (q d n : ℕ) → 0 < d → d * q ≤ n → q ≤ n
        less q zero n h l = absurd (omega arith)
        less q (suc d) n h l = omega arith
share (negsuc n) d h = by_parts (n / d) (mul-div-le n d) (lt-mul-div-succ n h)
  where
    by_parts : (q : ℕ) → d * q ≤ n → n < d * (q + 1) → Share (negsuc q) (negsuc n) d
    by_parts q l u =
        record {
          at_most = omega arith;
          above = omega arith;
          plus_most = omega arith;
          minus_most = less q d n h l;
        }
      where
        less : (q d n : ℕ) → 0 < d → d * q ≤ n → suc q ≤ suc n
        less q zero n h l = absurd (omega arith)
        less q (suc d) n h l = omega arith
