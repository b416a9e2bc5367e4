-- The same number written as another fraction: `◌≋◌` is an equivalence, sums, differences and products keep it, and the order does not see
-- it. Assumes nothing.
use Prim.Native.Nat.{ℕ, ◌+◌, ◌*◌, ◌≤◌, ◌<◌}
use mathlib.Core.Path.{◌≡◌, sym, ap, ap₂, ◌∙◌, subst₂}
use native.Mathlib.Nat.{add_comm, add-mul, mul_comm, mul-pos, mul-le-mul_left, eq_of_mul-eq-mul_left, le_of_mul-le-mul_left}
use native.Mathlib.Omega.{arith}
use Rattle.series.specs.Fractions.{Fraction, ◌⊕◌, ◌⊖◌, ◌⊗◌, ◌≋◌, ◌≼◌, negative, Within}

pub same_sym : (a b : Fraction) → a ≋ b → b ≋ a
same_sym a b h = sym h

pub same_trans : (a b c : Fraction) → 0 < b.over → a ≋ b → b ≋ c → a ≋ c
same_trans a b c pos h k = go a.plus a.minus a.over b.plus b.minus b.over c.plus c.minus c.over pos h k
  where
    go : (p m d q n e r l f : ℕ) → 0 < e → p * e + n * d ≡ q * d + m * e → q * f + l * e ≡ r * e + n * f → p * f + l * d ≡ r * d + m * f
    go p m d q n e r l f o i j =
        eq_of_mul-eq-mul_left e o (p * f + l * d) (r * d + m * f) (omega (arith, ap (λ (x : ℕ). f * x) i, ap (λ (x : ℕ). d * x) j))

pub negative_same : (a b : Fraction) → a ≋ b → negative a ≋ negative b
negative_same a b h = go a.plus a.minus a.over b.plus b.minus b.over h
  where
    go : (p m d q n e : ℕ) → p * e + n * d ≡ q * d + m * e → m * e + q * d ≡ n * d + p * e
    go p m d q n e h = omega arith

-- the products of the two numerators' and the two denominators' parts, regrouped
across : (x y z w : ℕ) → x * y * (z * w) ≡ x * z * (y * w)
across x y z w = omega arith

spread : (x y z w u v : ℕ) → (x * y + z * w) * (u * v) ≡ x * y * (u * v) + z * w * (u * v)
spread x y z w u v = add-mul (x * y) (z * w) (u * v)

pub sum_same : (a a' b b' : Fraction) → a ≋ a' → b ≋ b' → a ⊕ b ≋ a' ⊕ b'
sum_same a a' b b' h k =
    go a.plus a.minus a.over a'.plus a'.minus a'.over b.plus b.minus b.over b'.plus b'.minus b'.over h k
  where
    -- D = d d', E = e e'
    core : (A A' N N' B B' M M' D E : ℕ) → A + N' ≡ A' + N → B + M' ≡ B' + M
        → A * E + B * D + (N' * E + M' * D) ≡ A' * E + B' * D + (N * E + M * D)
    core A A' N N' B B' M M' D E h k = omega (arith, ap (λ (x : ℕ). x * E) h, ap (λ (x : ℕ). x * D) k)

    left : (p q d e d' e' : ℕ) → (p * e + q * d) * (d' * e') ≡ p * d' * (e * e') + q * e' * (d * d')
    left p q d e d' e' = spread p e q d d' e'
        ∙ ap₂ (λ (x y : ℕ). x + y) (across p e d' e') (ap (λ (x : ℕ). q * d * x) (mul_comm d' e') ∙ across q d e' d')

    right : (p q d e d' e' : ℕ) → (p * e' + q * d') * (d * e) ≡ p * d * (e * e') + q * e * (d * d')
    right p q d e d' e' = left p q d' e' d e ∙ ap₂ (λ (x y : ℕ). p * d * x + q * e * y) (mul_comm e' e) (mul_comm d' d)

    go : (p m d p' m' d' q n e q' n' e' : ℕ) → p * d' + m' * d ≡ p' * d + m * d' → q * e' + n' * e ≡ q' * e + n * e'
        → (p * e + q * d) * (d' * e') + (m' * e' + n' * d') * (d * e) ≡ (p' * e' + q' * d') * (d * e) + (m * e + n * d) * (d' * e')
    go p m d p' m' d' q n e q' n' e' h k =
        ap₂ (λ (x y : ℕ). x + y) (left p q d e d' e') (right m' n' d e d' e')
        ∙ core (p * d') (p' * d) (m * d') (m' * d) (q * e') (q' * e) (n * e') (n' * e) (d * d') (e * e') h k
        ∙ sym (ap₂ (λ (x y : ℕ). x + y) (right p' q' d e d' e') (left m n d e d' e'))

pub difference_same : (a a' b b' : Fraction) → a ≋ a' → b ≋ b' → a ⊖ b ≋ a' ⊖ b'
difference_same a a' b b' h k = sum_same a a' (negative b) (negative b') h (negative_same b b' k)

pub product_same : (a a' b b' : Fraction) → a ≋ a' → b ≋ b' → a ⊗ b ≋ a' ⊗ b'
product_same a a' b b' h k =
    go a.plus a.minus a.over a'.plus a'.minus a'.over b.plus b.minus b.over b'.plus b'.minus b'.over h k
  where
    core : (A A' N N' B B' M M' : ℕ) → A + N' ≡ A' + N → B + M' ≡ B' + M
        → A * B + N * M + (A' * M' + N' * B') ≡ A' * B' + N' * M' + (A * M + N * B)
    core A A' N N' B B' M M' h k =
        omega (arith, ap (λ (x : ℕ). x * B) h, ap (λ (x : ℕ). x * M) h, ap (λ (x : ℕ). A' * x) k, ap (λ (x : ℕ). N' * x) k)

    both : (p q m n d e : ℕ) → (p * q + m * n) * (d * e) ≡ p * d * (q * e) + m * d * (n * e)
    both p q m n d e = spread p q m n d e ∙ ap₂ (λ (x y : ℕ). x + y) (across p q d e) (across m n d e)

    go : (p m d p' m' d' q n e q' n' e' : ℕ) → p * d' + m' * d ≡ p' * d + m * d' → q * e' + n' * e ≡ q' * e + n * e'
        → (p * q + m * n) * (d' * e') + (p' * n' + m' * q') * (d * e) ≡ (p' * q' + m' * n') * (d * e) + (p * n + m * q) * (d' * e')
    go p m d p' m' d' q n e q' n' e' h k =
        ap₂ (λ (x y : ℕ). x + y) (both p q m n d' e') (both p' n' m' q' d e)
        ∙ core (p * d') (p' * d) (m * d') (m' * d) (q * e') (q' * e) (n * e') (n' * e) h k
        ∙ sym (ap₂ (λ (x y : ℕ). x + y) (both p' q' m' n' d e) (both p n m q d' e'))

-- ---- the order
pub le_same : (a a' b b' : Fraction) → 0 < a.over → 0 < b.over → a ≋ a' → b ≋ b' → a ≼ b → a' ≼ b'
le_same a a' b b' i j h k l =
    go a.plus a.minus a.over a'.plus a'.minus a'.over b.plus b.minus b.over b'.plus b'.minus
    b'.over i j h k l
  where
    core : (A A' N N' B B' M M' D E : ℕ) → A + N' ≡ A' + N → B + M' ≡ B' + M → A * E + M * D ≤ B * D + N * E
        → A' * E + M' * D ≤ B' * D + N' * E
    core A A' N N' B B' M M' D E h k l = omega (arith, ap (λ (x : ℕ). x * E) h, ap (λ (x : ℕ). x * D) k)

    grown : (p n d e d' e' : ℕ) → d' * e' * (p * e + n * d) ≡ p * d' * (e * e') + n * e' * (d * d')
    grown p n d e d' e' = omega arith

    kept : (p n d e d' e' : ℕ) → p * d * (e * e') + n * e * (d * d') ≡ d * e * (p * e' + n * d')
    kept p n d e d' e' = omega arith

    go : (p m d p' m' d' q n e q' n' e' : ℕ) → 0 < d → 0 < e → p * d' + m' * d ≡ p' * d + m * d' → q * e' + n' * e ≡ q' * e + n * e'
        → p * e + n * d ≤ q * d + m * e → p' * e' + n' * d' ≤ q' * d' + m' * e'
    go p m d p' m' d' q n e q' n' e' i j h k l =
        le_of_mul-le-mul_left
        (subst₂ (λ (x y : ℕ). x ≤ y) (kept p' n' d e d' e') (add_comm _ _ ∙ kept m' q' d e d' e' ∙ ap (λ (x : ℕ). d * e * x) (add_comm _ _))
        (core (p * d') (p' * d) (m * d') (m' * d) (q * e') (q' * e) (n * e') (n' * e) (d * d') (e * e') h k
        (subst₂ (λ (x y : ℕ). x ≤ y) (grown p n d e d' e') (ap (λ (x : ℕ). d' * e' * x) (add_comm _ _) ∙ grown m q d e d' e' ∙ add_comm _ _)
        (mul-le-mul_left (d' * e') l))))
        (mul-pos i j)

pub within_same : (e e' a a' b b' : Fraction) → 0 < e.over → 0 < a.over → 0 < b.over → e ≋ e' → a ≋ a' → b ≋ b' → Within e a b
    → Within e' a' b'
within_same e e' a a' b b' i j k g h l w = (
  le_same a a' (b ⊕ e) (b' ⊕ e') j (mul-pos k i) h (sum_same b b' e e' l g) w.0,
  le_same b b' (a ⊕ e) (a' ⊕ e') k (mul-pos j i) l (sum_same a a' e e' h g) w.1,
)

pub within_negative : (e a b : Fraction) → Within e a b → Within e (negative a) (negative b)
within_negative e a b w = (
  go b.minus b.plus b.over a.plus a.minus a.over e.plus e.minus e.over w.1,
  go a.minus a.plus a.over b.plus b.minus b.over e.plus e.minus e.over w.0,
)
  where
    go : (m p d q n f x y z : ℕ) → p * (f * z) + (n * z + y * f) * d ≤ (q * z + x * f) * d + m * (f * z)
        → n * (d * z) + (p * z + y * d) * f ≤ (m * z + x * d) * f + q * (d * z)
    go m p d q n f x y z h = omega arith

-- ---- what is within e is within all that e is at most. With D = d g, A = p g, B = n d, C = q d, M = m g
grown : (A B C M D x y z u v w : ℕ) → A * z + B * z + y * D ≤ C * z + x * D + M * z → x * w + v * z ≤ u * z + y * w
    → z * (A * w + B * w + v * D) ≤ z * (C * w + u * D + M * w)
grown A B C M D x y z u v w l h = omega (arith, mul-le-mul_left w l, mul-le-mul_left D h)

low : (p n d g y z : ℕ) → p * (g * z) + (n * z + y * g) * d ≡ p * g * z + n * d * z + y * (d * g)
low p n d g y z = omega arith

high : (q m d g x z : ℕ) → (q * z + x * g) * d + m * (g * z) ≡ q * d * z + x * (d * g) + m * g * z
high q m d g x z = omega arith

pub within_wider : (e f a b : Fraction) → 0 < e.over → e ≼ f → Within e a b → Within f a b
within_wider e f a b pos h t = (
  go a.plus a.minus a.over b.plus b.minus b.over t.0,
  go b.plus b.minus b.over a.plus a.minus a.over t.1,
)
  where
    go : (p m d q n g : ℕ) → p * (g * e.over) + (n * e.over + e.minus * g) * d ≤ (q * e.over + e.plus * g) * d + m * (g * e.over)
        → p * (g * f.over) + (n * f.over + f.minus * g) * d ≤ (q * f.over + f.plus * g) * d + m * (g * f.over)
    go p m d q n g l =
        subst₂ (λ (i j : ℕ). i ≤ j) (sym (low p n d g f.minus f.over)) (sym (high q m d g f.plus f.over))
        (le_of_mul-le-mul_left
        (grown (p * g) (n * d) (q * d) (m * g) (d * g) e.plus e.minus e.over f.plus f.minus f.over
        (subst₂ (λ (i j : ℕ). i ≤ j) (low p n d g e.minus e.over) (high q m d g e.plus e.over) l) h)
        pos)
