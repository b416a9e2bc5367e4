-- Document 01's sums are the working ones: S at x / n is (ev n x sin_p - ev n x sin_m) / (63! n ^ 63), and C likewise. Assumes nothing.
use mathlib.Core.Path.{◌≡◌, sym, ap, ap₂, ◌∙◌, subst}
use mathlib.Core.Bool.{Bool, true, false}
use mathlib.Core.List.{List, [], ◌∷◌}
use Prim.Native.Nat.{ℕ, zero, suc, ◌+◌, ◌-◌, ◌*◌, ◌/◌, ◌^◌, ◌≤◌, ◌<◌}
use native.Mathlib.Nat.{mul-zero, one-mul, mul-pos, pow-suc, pow-succ', pow-zero, sub-add_cancel, one-le-pow}
use native.Mathlib.Omega.{arith}
use lib.Dec.{T, eqb, eqb→eq, lit<}
use lib.ListN.{length}
use lib.Pow.{pow-add}
use Rattle.series.specs.Fractions.{Fraction, ◌÷◌, ◌⊖◌, ◌⊗◌, ◌≋◌}
use Rattle.series.specs.Series.{factorial, power, term, alternating, S, C}
use Rattle.series.specs.Working.{pw, ev, sin_p, sin_m, cos_p, cos_m, denominator}
use Rattle.series.proofs.Tables.{every, at}
use Rattle.series.proofs.Scale.{pw_pow}
use Rattle.series.proofs.Fractions.{same_trans, difference_same}

-- ---- the working sums, term by term: c x^i n^k + ..
unfoldable terms : ℕ → ℕ → ℕ → List ℕ → ℕ
terms n x i [] = 0
terms n x i (c ∷ p) = c * x ^ i * n ^ length p + terms n x (suc i) p

step : (c x w u e : ℕ) → u * (c * w + x * e) ≡ c * u * w + u * x * e
step c x w u e = omega arith

ev_terms : (n x i : ℕ) (p : List ℕ) → x ^ i * ev n x p ≡ terms n x i p
unfolding ev terms
ev_terms n x i [] = mul-zero (x ^ i)
ev_terms n x i (c ∷ p) =
    step c x (pw n p) (x ^ i) (ev n x p)
    ∙ ap₂ (λ (w u : ℕ). c * x ^ i * w + u * ev n x p) (pw_pow n p) (sym (pow-suc x i))
    ∙ ap (λ (t : ℕ). c * x ^ i * n ^ length p + t) (ev_terms n x (suc i) p)

ev_is : (n x : ℕ) (p : List ℕ) → ev n x p ≡ terms n x 0 p
ev_is n x p = sym (one-mul (ev n x p)) ∙ ap (λ (u : ℕ). u * ev n x p) (sym (pow-zero x)) ∙ ev_terms n x 0 p

-- 63! n^63 times (x / n)^i / i!
abbrev part : ℕ → ℕ → ℕ → ℕ
part n x i = factorial 63 / factorial i * x ^ i * n ^ (63 - i)

-- the parts of those of k terms from i on that are added (true), and of those that are taken away (false)
abbrev sums : Bool → ℕ → ℕ → ℕ → ℕ → ℕ
sums b n x zero i = 0
sums true n x (suc k) i = part n x i + sums false n x k (i + 2)
sums false n x (suc k) i = sums true n x k (i + 2)

drop_zero : (u v t : ℕ) → 0 * u * v + t ≡ t
drop_zero u v t = omega arith

sin_p_is : (n x : ℕ) → terms n x 0 sin_p ≡ sums true n x 32 1
unfolding sin_p terms factorial
sin_p_is n x = simp drop_zero

sin_m_is : (n x : ℕ) → terms n x 0 sin_m ≡ sums false n x 32 1
unfolding sin_m terms factorial
sin_m_is n x = simp drop_zero

cos_p_is : (n x : ℕ) → terms n x 0 cos_p ≡ sums true n x 32 0
unfolding cos_p terms factorial
cos_p_is n x = simp drop_zero

cos_m_is : (n x : ℕ) → terms n x 0 cos_m ≡ sums false n x 32 0
unfolding cos_m terms factorial
cos_m_is n x = simp drop_zero

-- ---- document 01's terms over the one denominator
triple : ℕ → ℕ → ℕ → Fraction
triple p m d = record { plus = p; minus = m; over = d }

power_is : (x n i : ℕ) → power (x ÷ n) i ≡ x ^ i ÷ n ^ i
unfolding power triple
power_is x n zero = ap₂ (λ (p d : ℕ). triple p 0 d) (sym (pow-zero x)) (sym (pow-zero n))
power_is x n (suc i) =
    ap (λ (f : Fraction). x ÷ n ⊗ f) (power_is x n i)
    ∙ ap₂ (λ (p m : ℕ). triple p m (n * n ^ i)) (plain x (x ^ i)) (none x (x ^ i))
    ∙ ap₂ (λ (p d : ℕ). triple p 0 d) (sym (pow-succ' x i)) (sym (pow-succ' n i))
  where
    plain : (x y : ℕ) → x * y + 0 * 0 ≡ x * y
    plain x y = omega arith

    none : (x y : ℕ) → x * 0 + 0 * y ≡ 0
    none x y = omega arith

-- 63! is a multiple of each i!
divides : ℕ → ℕ → Bool
divides i c = eqb (factorial 63 / factorial i * factorial i) (factorial 63)

all_divide : T (every divides 0 sin_p)
unfolding divides factorial sin_p
all_divide = tt

quotient : (i : ℕ) → i ≤ 63 → factorial 63 / factorial i * factorial i ≡ factorial 63
unfolding divides
quotient i h = eqb→eq _ _ (at divides sin_p all_divide i (unfold sin_p in omega arith))

term_is : (x n i : ℕ) → i ≤ 63 → term (x ÷ n) i ≋ part n x i ÷ denominator n
unfolding denominator
term_is x n i h =
    subst (λ (f : Fraction). f ⊗ 1 ÷ factorial i ≋ part n x i ÷ (factorial 63 * n ^ 63)) (sym (power_is x n i))
    (go (factorial 63) (factorial i) (factorial 63 / factorial i) (x ^ i) (n ^ i) (n ^ (63 - i)) (n ^ 63) (quotient i h)
    (sym (pow-add n (63 - i) i) ∙ ap (λ (k : ℕ). n ^ k) (sub-add_cancel h)))
  where
    go : (F f q X N N' W : ℕ) → q * f ≡ F → N' * N ≡ W
        → (X * 1 + 0 * 0) * (F * W) + 0 * (N * f) ≡ q * X * N' * (N * f) + (X * 0 + 0 * 1) * (F * W)
    go F f q X N N' W e g = rw (← e, ← g) (omega arith)

pub denominator_pos : (n : ℕ) → 0 < n → 0 < denominator n
unfolding denominator factorial
denominator_pos n h = mul-pos (lit< {m = 0} {n = factorial 63} tt) (one-le-pow 63 n h)

alternating_is : (x n : ℕ) → 0 < n → (k i : ℕ) → i + 2 * k ≤ 65
    → alternating k (x ÷ n) i ≋ record { plus = sums true n x k i; minus = sums false n x k i; over = denominator n }
unfolding alternating
alternating_is x n h zero i l = omega arith
alternating_is x n h (suc k) i l =
    same_trans (term (x ÷ n) i ⊖ alternating k (x ÷ n) (i + 2)) (a ⊖ b)
    (record { plus = sums true n x (suc k) i; minus = sums false n x (suc k) i; over = d })
    (mul-pos (denominator_pos n h) (denominator_pos n h))
    (difference_same (term (x ÷ n) i) a (alternating k (x ÷ n) (i + 2)) b (term_is x n i (few i k l))
    (alternating_is x n h k (i + 2) (rest i k l)))
    (go (part n x i) (sums true n x k (i + 2)) (sums false n x k (i + 2)) d)
  where
    d : ℕ
    d = denominator n

    a : Fraction
    a = part n x i ÷ d

    b : Fraction
    b = record { plus = sums true n x k (i + 2); minus = sums false n x k (i + 2); over = d }

    few : (i k : ℕ) → i + 2 * suc k ≤ 65 → i ≤ 63
    few i k l = omega arith

    rest : (i k : ℕ) → i + 2 * suc k ≤ 65 → i + 2 + 2 * k ≤ 65
    rest i k l = omega arith

    go : (t p m d : ℕ) → (t * d + m * d) * d + p * (d * d) ≡ (t + m) * (d * d) + (0 * d + p * d) * d
    go t p m d = omega arith

-- ---- the four sums
pub S_is : (x n : ℕ) → 0 < n → S (x ÷ n) ≋ record { plus = ev n x sin_p; minus = ev n x sin_m; over = denominator n }
unfolding S
S_is x n h = rw (ev_is n x sin_p ∙ sin_p_is n x, ev_is n x sin_m ∙ sin_m_is n x) (alternating_is x n h 32 1 (omega arith))

pub C_is : (x n : ℕ) → 0 < n → C (x ÷ n) ≋ record { plus = ev n x cos_p; minus = ev n x cos_m; over = denominator n }
unfolding C
C_is x n h = rw (ev_is n x cos_p ∙ cos_p_is n x, ev_is n x cos_m ∙ cos_m_is n x) (alternating_is x n h 32 0 (omega arith))
