-- S and C of document 01 at a fraction that is a whole number of 2 ^ -30, which may be negative, by the sums in that unit. Assumes nothing.
use Rattle.std.specs.Prelude.{◌≡◌, ℕ, ◌+◌, ◌-◌, ◌*◌, ◌<◌}
use mathlib.Core.Path.{ap, ap₂, ◌∙◌, subst}
use native.Mathlib.Nat.{zero-add, add-zero}
use native.Mathlib.Omega.{arith}
use lib.Dec.{lit<}
use Rattle.series.specs.Fractions.{Fraction, ◌÷◌, ◌⊕◌, ◌⊖◌, ◌≋◌}
use Rattle.series.specs.Series.{S, C}
use Rattle.series.proofs.Fractions.{same_trans, sum_same, difference_same}
use Rattle.series.proofs.Parity.{difference, S_same, C_same, S_over, C_over, S_parts, C_parts, ev_zero_sin}
use Rattle.series.proofs.Unit.{denominator_is}
use Rattle.series.proofs.Grid.{sp, sm, cp, cm, D}

-- 1 in units of 2 ^ -30
abbrev pub G : ℕ
G = 1073741824

pub G_pos : 0 < G
G_pos = lit< {m = 0} {n = 1073741824} tt

-- S and C at n - m
abbrev pub sine_at : ℕ → ℕ → Fraction
sine_at n m = difference (sp (n - m) + sm (m - n)) (sm (n - m) + sp (m - n)) D

abbrev pub cosine_at : ℕ → ℕ → Fraction
cosine_at n m = difference (cp (n - m + (m - n))) (cm (n - m + (m - n))) D

pub S_at : (a : Fraction) (n m : ℕ) → a ≋ difference n m G → S a ≋ sine_at n m
S_at a n m h =
    same_trans (S a) (S (difference n m G)) (sine_at n m) (S_over (difference n m G) G_pos) (S_same a (difference n m G) h)
    (subst (λ (d : ℕ). S (difference n m G) ≋ difference (sp (n - m) + sm (m - n)) (sm (n - m) + sp (m - n)) d) denominator_is
    (S_parts n m G G_pos))

pub C_at : (a : Fraction) (n m : ℕ) → a ≋ difference n m G → C a ≋ cosine_at n m
C_at a n m h =
    same_trans (C a) (C (difference n m G)) (cosine_at n m) (C_over (difference n m G) G_pos) (C_same a (difference n m G) h)
    (subst (λ (d : ℕ). C (difference n m G) ≋ difference (cp (n - m + (m - n))) (cm (n - m + (m - n))) d) denominator_is
    (C_parts n m G G_pos))

-- ---- a place on either side of 0
sp_zero : sp 0 ≡ 0
sp_zero = (ev_zero_sin 1073741824).0

sm_zero : sm 0 ≡ 0
sm_zero = (ev_zero_sin 1073741824).1

pub sine_pos : (n m k : ℕ) → k + m ≡ n → sine_at n m ≡ difference (sp k) (sm k) D
sine_pos n m k e =
    let a : n - m ≡ k = omega arith in
    let b : m - n ≡ 0 = omega arith in
    ap₂ (λ (i j : ℕ). difference (sp i + sm j) (sm i + sp j) D) a b
    ∙ ap₂ (λ (i j : ℕ). difference (sp k + i) (sm k + j) D) sm_zero sp_zero
    ∙ ap₂ (λ (i j : ℕ). difference i j D) (add-zero (sp k)) (add-zero (sm k))

pub sine_neg : (n m k : ℕ) → k + n ≡ m → sine_at n m ≡ difference (sm k) (sp k) D
sine_neg n m k e =
    let a : n - m ≡ 0 = omega arith in
    let b : m - n ≡ k = omega arith in
    ap₂ (λ (i j : ℕ). difference (sp i + sm j) (sm i + sp j) D) a b
    ∙ ap₂ (λ (i j : ℕ). difference (i + sm k) (j + sp k) D) sp_zero sm_zero
    ∙ ap₂ (λ (i j : ℕ). difference i j D) (zero-add (sm k)) (zero-add (sp k))

pub cosine_pos : (n m k : ℕ) → k + m ≡ n → cosine_at n m ≡ difference (cp k) (cm k) D
cosine_pos n m k e = let a : n - m + (m - n) ≡ k = omega arith in ap (λ (i : ℕ). difference (cp i) (cm i) D) a

pub cosine_neg : (n m k : ℕ) → k + n ≡ m → cosine_at n m ≡ difference (cp k) (cm k) D
cosine_neg n m k e = let a : n - m + (m - n) ≡ k = omega arith in ap (λ (i : ℕ). difference (cp i) (cm i) D) a

-- ---- t - e and t + e in units of 2 ^ -30
pub less_at : (t e : Fraction) (n m : ℕ) → t ≋ n ÷ G → e ≋ m ÷ G → t ⊖ e ≋ difference n m G
less_at t e n m h k =
    same_trans (t ⊖ e) (n ÷ G ⊖ m ÷ G) (difference n m G) (lit< {m = 0} {n = 1073741824 * 1073741824} tt)
    (difference_same t (n ÷ G) e (m ÷ G) h k) (go n m G)
  where
    go : (n m g : ℕ) → (n * g + 0 * g) * g + m * (g * g) ≡ n * (g * g) + (0 * g + m * g) * g
    go n m g = omega arith

pub plus_at : (t e : Fraction) (n m : ℕ) → t ≋ n ÷ G → e ≋ m ÷ G → t ⊕ e ≋ difference (n + m) 0 G
plus_at t e n m h k =
    same_trans (t ⊕ e) (n ÷ G ⊕ m ÷ G) (difference (n + m) 0 G) (lit< {m = 0} {n = 1073741824 * 1073741824} tt)
    (sum_same t (n ÷ G) e (m ÷ G) h k) (go n m G)
  where
    go : (n m g : ℕ) → (n * g + m * g) * g + 0 * (g * g) ≡ (n + m) * (g * g) + (0 * g + 0 * g) * g
    go n m g = omega arith
