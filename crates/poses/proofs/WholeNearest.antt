-- `nearest_whole a c` by where the rest of a / c lies: what it is, how near it is, and that a tie gives an even number; over a power of two
-- it is one sum and one shift.
use Rattle.std.specs.Prelude.{◌≡◌, ℕ, zero, suc, ◌+◌, ◌-◌, ◌*◌, ◌/◌, ◌%◌, ◌<◌, ◌≤◌}
use mathlib.Core.Path.{sym, ap, ◌∙◌, subst}
use mathlib.Core.Logic.{inl, inr}
use native.Mathlib.Nat.{mod-lt, div-add-mod', eq-or-lt_of_le, le_of_eq, mul_assoc, mul-lt-mul_of_pos_right}
use native.Mathlib.Nat.{mul-div-mul_right, div-eq_of_lt, mod-eq_of_lt, le_of_lt}
use native.Mathlib.Omega.{arith}
use lib.Arith.{digits_div, digits_mod}
use borrow.Author.Tests.{lt-ltb, le-ltb}
use Rattle.units.specs.Units.{gap}
use Rattle.units.proofs.Whole.{le_or_lt}
use Rattle.poses.specs.Decimals.{nearest_whole}

-- ---- the three cases: the rest is less than half of c, more, or just half
module _ (a c : ℕ) where
  pub whole_down : 2 * (a % c) < c → nearest_whole a c ≡ a / c
  unfolding nearest_whole
  whole_down h = rw (lt-ltb _ _ h)

  pub whole_up : c < 2 * (a % c) → nearest_whole a c ≡ suc (a / c)
  unfolding nearest_whole
  whole_up h = rw (le-ltb _ _ (le_of_lt h), lt-ltb _ _ h)

  pub whole_tie : 2 * (a % c) ≡ c → nearest_whole a c ≡ a / c + a / c % 2
  unfolding nearest_whole
  whole_tie e = rw (le-ltb _ _ (le_of_eq (sym e)), le-ltb _ _ (le_of_eq e))

pub data Rest (r c : ℕ) : Type 0 where
  less : 2 * r < c → Rest r c
  more : c < 2 * r → Rest r c
  half : 2 * r ≡ c → Rest r c

pub rest : (r c : ℕ) → Rest r c
rest r c = elim (le_or_lt c (2 * r)) [
  | inr h ↦ less h
  | inl h ↦ elim (eq-or-lt_of_le h) [ inl e ↦ half (sym e) | inr g ↦ more g ]
]

-- ---- it is within a half, and where it is just a half away it is even
pub record WholeNear (n a c : ℕ) : Type 0 where
  pub above : 2 * (n * c) ≤ 2 * a + c
  pub below : 2 * a ≤ 2 * (n * c) + c
  pub tie : 2 * gap (n * c) a ≡ c → n % 2 ≡ 0

pub whole_near : (a c : ℕ) → 0 < c → WholeNear (nearest_whole a c) a c
whole_near a c C = go (rest (a % c) c)
  where
    at : (n q r : ℕ) → n ≡ q → q * c + r ≡ a → 2 * r < c → WholeNear n a c
    at n q r e d h = rw e (record { above = omega arith; below = omega arith; tie = λ (t : 2 * gap (q * c) a ≡ c). absurd (no t) })
      where
        no : 2 * gap (q * c) a ≡ c → ⊥
        no t = omega arith

    next : (n q r : ℕ) → n ≡ suc q → q * c + r ≡ a → r < c → c < 2 * r → WholeNear n a c
    next n q r e d l h =
        rw e (record { above = omega arith; below = omega arith; tie = λ (t : 2 * gap (suc q * c) a ≡ c). absurd (no t) })
      where
        no : 2 * gap (suc q * c) a ≡ c → ⊥
        no t = omega arith

    even : (n q r : ℕ) → n ≡ q + q % 2 → q * c + r ≡ a → 2 * r ≡ c → WholeNear n a c
    even n q r e d h = by (q % 2) e (omega arith) (omega arith)
      where
        by : (m : ℕ) → n ≡ q + m → m < 2 → (q + m) % 2 ≡ 0 → WholeNear n a c
        by zero f l z = rw f (record { above = omega arith; below = omega arith; tie = λ _. z })
        by (suc zero) f l z = rw f (record { above = omega arith; below = omega arith; tie = λ _. z })
        by (suc (suc m)) f l z = absurd (omega arith)

    go : Rest (a % c) c → WholeNear (nearest_whole a c) a c
    go (less h) = at (nearest_whole a c) (a / c) (a % c) (whole_down a c h) (div-add-mod' a c) h
    go (more h) = next (nearest_whole a c) (a / c) (a % c) (whole_up a c h) (div-add-mod' a c) (mod-lt a C) h
    go (half h) = even (nearest_whole a c) (a / c) (a % c) (whole_tie a c h) (div-add-mod' a c) h

-- ---- nothing, where a is less than half of c
pub whole_none : (a c : ℕ) → 2 * a < c → nearest_whole a c ≡ 0
whole_none a c h =
    let l : a < c = omega arith in
    whole_down a c (subst (λ (r : ℕ). 2 * r < c) (sym (mod-eq_of_lt l)) h) ∙ div-eq_of_lt l

-- ---- only the fraction's value counts
pub whole_scaled : (a c t : ℕ) → 0 < c → 0 < t → nearest_whole (a * t) (c * t) ≡ nearest_whole a c
whole_scaled a c t C K = go (rest (a % c) c)
  where
    q_same : a * t / (c * t) ≡ a / c
    q_same = mul-div-mul_right a c K

    r_same : a * t % (c * t) ≡ a % c * t
    r_same =
        let e : a / c * (c * t) + a % c * t ≡ a * t = regroup (a / c) (a % c) (div-add-mod' a c) in
        rw (← e) (digits_mod (a / c) (mul-lt-mul_of_pos_right (mod-lt a C) K))
      where
        regroup : (q r : ℕ) → q * c + r ≡ a → q * (c * t) + r * t ≡ a * t
        regroup q r d = let f : (q * c + r) * t ≡ a * t = ap (λ (x : ℕ). x * t) d in omega arith

    twice : 2 * (a * t % (c * t)) ≡ 2 * (a % c) * t
    twice = ap (λ (x : ℕ). 2 * x) r_same ∙ sym (mul_assoc 2 (a % c) t)

    go : Rest (a % c) c → nearest_whole (a * t) (c * t) ≡ nearest_whole a c
    go (less h) =
        whole_down (a * t) (c * t) (rw twice (mul-lt-mul_of_pos_right h K)) ∙ q_same ∙ sym (whole_down a c h)
    go (more h) =
        whole_up (a * t) (c * t) (rw twice (mul-lt-mul_of_pos_right h K)) ∙ ap suc q_same ∙ sym (whole_up a c h)
    go (half h) =
        whole_tie (a * t) (c * t) (twice ∙ ap (λ (x : ℕ). x * t) h) ∙ ap (λ (q : ℕ). q + q % 2) q_same ∙ sym (whole_tie a c h)

-- ---- over an even number: half of it, less one, and the last digit of the quotient are added, and the sum divided
pub whole_shifted : (p h : ℕ) → 0 < h → nearest_whole p (2 * h) ≡ (p + h - 1 + p / (2 * h) % 2) / (2 * h)
whole_shifted p h H = go (rest (p % (2 * h)) (2 * h))
  where
    by : (s k v : ℕ) → s ≡ k * (2 * h) + v → v < 2 * h → s / (2 * h) ≡ k
    by s k v e l = ap (λ (x : ℕ). x / (2 * h)) e ∙ digits_div k l

    under : (q r : ℕ) → q * (2 * h) + r ≡ p → 2 * r < 2 * h → (p + h - 1 + q % 2) / (2 * h) ≡ q
    under q r d l = by (p + h - 1 + q % 2) q (r + h - 1 + q % 2) (omega arith) (omega arith)

    over : (q r : ℕ) → q * (2 * h) + r ≡ p → r < 2 * h → 2 * h < 2 * r → (p + h - 1 + q % 2) / (2 * h) ≡ suc q
    over q r d g l = by (p + h - 1 + q % 2) (suc q) (r - h - 1 + q % 2) (omega arith) (omega arith)

    between : (q r : ℕ) → q * (2 * h) + r ≡ p → 2 * r ≡ 2 * h → (p + h - 1 + q % 2) / (2 * h) ≡ q + q % 2
    between q r d l = last (q % 2) (omega arith)
      where
        last : (m : ℕ) → m < 2 → (p + h - 1 + m) / (2 * h) ≡ q + m
        last zero g = by (p + h - 1 + 0) (q + 0) (2 * h - 1) (omega arith) (omega arith)
        last (suc zero) g = by (p + h - 1 + 1) (q + 1) 0 (omega arith) (omega arith)
        last (suc (suc m)) g = absurd (omega arith)

    go : Rest (p % (2 * h)) (2 * h) → nearest_whole p (2 * h) ≡ (p + h - 1 + p / (2 * h) % 2) / (2 * h)
    go (less l) = whole_down p (2 * h) l ∙ sym (under (p / (2 * h)) (p % (2 * h)) (div-add-mod' p (2 * h)) l)
    go (more l) =
        whole_up p (2 * h) l ∙ sym (over (p / (2 * h)) (p % (2 * h)) (div-add-mod' p (2 * h)) (mod-lt p (omega arith)) l)
    go (half l) = whole_tie p (2 * h) l ∙ sym (between (p / (2 * h)) (p % (2 * h)) (div-add-mod' p (2 * h)) l)
