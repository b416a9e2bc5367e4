-- S is odd and C is even, the same number gives the same sum, and what the sums are at a difference of whole numbers over n. Assumes
-- nothing.
use mathlib.Core.Path.{◌≡◌, refl, sym, ap, ap₂, ◌∙◌, subst}
use mathlib.Core.Logic.{inl, inr}
use mathlib.Core.List.{List, ◌∷◌}
use Prim.Native.Nat.{ℕ, zero, suc, ◌+◌, ◌-◌, ◌*◌, ◌≤◌, ◌<◌}
use native.Mathlib.Nat.{add_comm, add-zero, zero-add, zero-mul, mul-pos}
use native.Mathlib.Numerals.{add-two}
use native.Mathlib.Omega.{arith}
use Rattle.series.specs.Fractions.{Fraction, ◌÷◌, negative, ◌⊖◌, ◌⊗◌, ◌≋◌}
use Rattle.series.specs.Series.{factorial, power, term, alternating, S, C}
use Rattle.series.specs.Working.{pw, ev, sin_p, sin_m, cos_p, cos_m, denominator}
use Rattle.series.proofs.Fractions.{same_trans, difference_same, product_same, negative_same}
use Rattle.series.proofs.Literal.{S_is, C_is}
use Rattle.series.proofs.Order.{here_or_on}

-- ---- the sign
abbrev Even : Fraction → ℕ → Type 0
Even x i = power (negative x) i ≡ power x i

abbrev Odd : Fraction → ℕ → Type 0
Odd x i = power (negative x) i ≡ negative (power x i)

triple : ℕ → ℕ → ℕ → Fraction
triple p m d = record { plus = p; minus = m; over = d }

product_negative : (a b : Fraction) → negative a ⊗ b ≡ negative (a ⊗ b)
unfolding triple
product_negative a b =
    ap₂ (λ (p m : ℕ). triple p m (a.over * b.over)) (add_comm (a.minus * b.plus) (a.plus * b.minus))
    (add_comm (a.minus * b.minus) (a.plus * b.plus))

product_negatives : (a b : Fraction) → negative a ⊗ negative b ≡ a ⊗ b
unfolding triple
product_negatives a b =
    ap₂ (λ (p m : ℕ). triple p m (a.over * b.over)) (add_comm (a.minus * b.minus) (a.plus * b.plus))
    (add_comm (a.minus * b.plus) (a.plus * b.minus))

then_odd : (x : Fraction) (i : ℕ) → Even x i → Odd x (suc i)
unfolding power
then_odd x i h = ap (λ (f : Fraction). negative x ⊗ f) h ∙ product_negative x (power x i)

then_even : (x : Fraction) (i : ℕ) → Odd x i → Even x (suc i)
unfolding power
then_even x i h = ap (λ (f : Fraction). negative x ⊗ f) h ∙ product_negatives x (power x i)

even_on : (x : Fraction) (i : ℕ) → Even x i → Even x (i + 2)
even_on x i h = subst (λ (k : ℕ). Even x k) (sym (add-two i)) (then_even x (suc i) (then_odd x i h))

odd_on : (x : Fraction) (i : ℕ) → Odd x i → Odd x (i + 2)
odd_on x i h = subst (λ (k : ℕ). Odd x k) (sym (add-two i)) (then_odd x (suc i) (then_even x i h))

alternating_even : (x : Fraction) (k i : ℕ) → Even x i → alternating k (negative x) i ≡ alternating k x i
unfolding alternating
alternating_even x zero i h = refl
alternating_even x (suc k) i h = ap₂ (λ (f g : Fraction). f ⊗ 1 ÷ factorial i ⊖ g) h (alternating_even x k (i + 2) (even_on x i h))

alternating_odd : (x : Fraction) (k i : ℕ) → Odd x i → alternating k (negative x) i ≡ negative (alternating k x i)
unfolding alternating
alternating_odd x zero i h = refl
alternating_odd x (suc k) i h =
    ap₂ (λ (f g : Fraction). f ⊗ 1 ÷ factorial i ⊖ g) h (alternating_odd x k (i + 2) (odd_on x i h))
    ∙ ap (λ (f : Fraction). f ⊖ negative (alternating k x (i + 2))) (product_negative (power x i) (1 ÷ factorial i))

pub S_odd : (x : Fraction) → S (negative x) ≡ negative (S x)
unfolding S power
S_odd x = alternating_odd x 32 1 (then_odd x 0 refl)

pub C_even : (x : Fraction) → C (negative x) ≡ C x
unfolding C power
C_even x = alternating_even x 32 0 refl

-- ---- the same number
power_same : (a b : Fraction) → a ≋ b → (i : ℕ) → power a i ≋ power b i
unfolding power
power_same a b h zero = refl
power_same a b h (suc i) = product_same a b (power a i) (power b i) h (power_same a b h i)

alternating_same : (a b : Fraction) → a ≋ b → (k i : ℕ) → alternating k a i ≋ alternating k b i
unfolding alternating
alternating_same a b h zero i = refl
alternating_same a b h (suc k) i =
    difference_same (term a i) (term b i) (alternating k a (i + 2)) (alternating k b (i + 2))
    (product_same (power a i) (power b i) (1 ÷ factorial i) (1 ÷ factorial i) (power_same a b h i) refl) (alternating_same a b h k (i + 2))

pub S_same : (a b : Fraction) → a ≋ b → S a ≋ S b
unfolding S
S_same a b h = alternating_same a b h 32 1

pub C_same : (a b : Fraction) → a ≋ b → C a ≋ C b
unfolding C
C_same a b h = alternating_same a b h 32 0

-- ---- the denominators are positive
power_over : (x : Fraction) → 0 < x.over → (i : ℕ) → 0 < (power x i).over
unfolding power
power_over x h zero = omega arith
power_over x h (suc i) = mul-pos h (power_over x h i)

factorial_pos : (i : ℕ) → 0 < factorial i
unfolding factorial
factorial_pos zero = omega arith
factorial_pos (suc i) = mul-pos (omega arith) (factorial_pos i)

alternating_over : (x : Fraction) → 0 < x.over → (k i : ℕ) → 0 < (alternating k x i).over
unfolding alternating
alternating_over x h zero i = omega arith
alternating_over x h (suc k) i = mul-pos (mul-pos (power_over x h i) (factorial_pos i)) (alternating_over x h k (i + 2))

pub S_over : (x : Fraction) → 0 < x.over → 0 < (S x).over
unfolding S
S_over x h = alternating_over x h 32 1

pub C_over : (x : Fraction) → 0 < x.over → 0 < (C x).over
unfolding C
C_over x h = alternating_over x h 32 0

-- ---- at (p - m) / n
abbrev pub difference : ℕ → ℕ → ℕ → Fraction
difference p m n = record { plus = p; minus = m; over = n }

apart : (p m n : ℕ) → difference p m n ≋ difference (p - m) (m - p) n
apart p m n = go (p - m) (m - p) (omega arith)
  where
    go : (d u : ℕ) → p + u ≡ d + m → p * n + u * n ≡ d * n + m * n
    go d u e = omega (arith, ap (λ (x : ℕ). x * n) e)

ev_none : (n : ℕ) (p : List ℕ) → ev n 0 (0 ∷ p) ≡ 0
unfolding ev
ev_none n p = simp (zero-mul (pw n p), zero-mul (ev n 0 p))

pub ev_zero_sin : (n : ℕ) → (ev n 0 sin_p ≡ 0) × (ev n 0 sin_m ≡ 0)
unfolding sin_p sin_m
ev_zero_sin n = (ev_none n _, ev_none n _)

module _ (p m n : ℕ) (h : 0 < n) where
  pub S_parts : S (difference p m n) ≋ difference (ev n (p - m) sin_p + ev n (m - p) sin_m) (ev n (p - m) sin_m + ev n (m - p) sin_p)
      (denominator n)
  S_parts =
      same_trans (S (difference p m n)) (S (difference (p - m) (m - p) n)) _ (S_over (difference (p - m) (m - p) n) h)
      (S_same (difference p m n) (difference (p - m) (m - p) n) (apart p m n)) (elim (here_or_on p m) [ inl l ↦ below l | inr l ↦ above l ])
    where
      above : m ≤ p → S (difference (p - m) (m - p) n) ≋ difference (ev n (p - m) sin_p + ev n (m - p) sin_m)
          (ev n (p - m) sin_m + ev n (m - p) sin_p) (denominator n)
      above l =
          let z : m - p ≡ 0 = omega arith in
          rw (z, (ev_zero_sin n).0, (ev_zero_sin n).1, add-zero (ev n (p - m) sin_p), add-zero (ev n (p - m) sin_m)) (S_is (p - m) n h)

      below : p < m → S (difference (p - m) (m - p) n) ≋ difference (ev n (p - m) sin_p + ev n (m - p) sin_m)
          (ev n (p - m) sin_m + ev n (m - p) sin_p) (denominator n)
      below l =
          let z : p - m ≡ 0 = omega arith in
          rw (z, (ev_zero_sin n).0, (ev_zero_sin n).1, zero-add (ev n (m - p) sin_p), zero-add (ev n (m - p) sin_m), S_odd ((m - p) ÷ n))
          (negative_same (S ((m - p) ÷ n)) (difference (ev n (m - p) sin_p) (ev n (m - p) sin_m) (denominator n)) (S_is (m - p) n h))

  pub C_parts : C (difference p m n) ≋ difference (ev n (p - m + (m - p)) cos_p) (ev n (p - m + (m - p)) cos_m) (denominator n)
  C_parts =
      same_trans (C (difference p m n)) (C (difference (p - m) (m - p) n)) _ (C_over (difference (p - m) (m - p) n) h)
      (C_same (difference p m n) (difference (p - m) (m - p) n) (apart p m n)) (elim (here_or_on p m) [ inl l ↦ below l | inr l ↦ above l ])
    where
      above : m ≤ p → C (difference (p - m) (m - p) n) ≋ difference (ev n (p - m + (m - p)) cos_p) (ev n (p - m + (m - p)) cos_m)
          (denominator n)
      above l =
          let z : m - p ≡ 0 = omega arith in
          rw (z, add-zero (p - m)) (C_is (p - m) n h)

      below : p < m → C (difference (p - m) (m - p) n) ≋ difference (ev n (p - m + (m - p)) cos_p) (ev n (p - m + (m - p)) cos_m)
          (denominator n)
      below l =
          let z : p - m ≡ 0 = omega arith in
          rw (z, zero-add (m - p), C_even ((m - p) ÷ n)) (C_is (m - p) n h)
