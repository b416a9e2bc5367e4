-- Up to 2 ^ -12 the sum S is the argument itself and C is 1, to within 5 / 2 ^ 27, at every whole multiple of 2 ^ -149. Assumes nothing.
use Rattle.std.specs.Prelude.{◌≡◌, ℕ, ◌+◌, ◌*◌, ◌^◌, ◌≤◌, T, List, [], ◌∷◌}
use mathlib.Core.Path.{refl, sym, ap, ◌∙◌, subst, subst₂}
use native.Mathlib.Nat.{mul-le-mul_left}
use native.Mathlib.Omega.{arith}
use lib.Dec.{lit<}
use lib.Pow.{pow_pos}
use Rattle.series.specs.Fractions.{◌÷◌, whole, Within}
use Rattle.series.specs.Series.{S, C, factorial}
use Rattle.series.specs.Working.{pw, ev, sin_p, sin_m, cos_p, cos_m, denominator}
use Rattle.series.proofs.Polynomials.{eval, add_p, scale, below, poly_le, ev_add, ev_scale, spread, ev_spread}
use Rattle.series.proofs.Fractions.{same_sym, within_same}
use Rattle.series.proofs.Literal.{S_is, C_is, denominator_pos}
use Rattle.series.proofs.Parity.{difference}

-- 63! (2 ^ 149) ^ 62, and 2 ^ 149 times that
unfoldable E : ℕ
unfolding factorial
E = factorial 63 * (2 ^ 149) ^ 62

E_is : denominator (2 ^ 149) ≡ 2 ^ 149 * E
unfolding denominator E factorial
E_is = refl

abbrev coefficients : List ℕ → List ℕ
coefficients p = spread (2 ^ 149) p

sine_under : T (below (2 ^ 137) (scale (2 ^ 27) (coefficients sin_p))
    (add_p (2 ^ 149 * E ∷ (2 ^ 27) * E ∷ []) (scale (2 ^ 27) (coefficients sin_m))))
unfolding sin_p sin_m pw E
sine_under = tt

sine_over : T (below (2 ^ 137) (add_p (0 ∷ (2 ^ 27) * E ∷ []) (scale (2 ^ 27) (coefficients sin_m)))
    (add_p (2 ^ 149 * E ∷ []) (scale (2 ^ 27) (coefficients sin_p))))
unfolding sin_p sin_m pw E
sine_over = tt

cosine_under : T (below (2 ^ 137) (scale (2 ^ 27) (coefficients cos_p))
    (add_p ((2 ^ 27 + 1) * (2 ^ 149 * E) ∷ []) (scale (2 ^ 27) (coefficients cos_m))))
unfolding cos_p cos_m pw E
cosine_under = tt

cosine_over : T (below (2 ^ 137) (add_p (2 ^ 27 * (2 ^ 149 * E) ∷ []) (scale (2 ^ 27) (coefficients cos_m)))
    (add_p (5 * (2 ^ 149 * E) ∷ []) (scale (2 ^ 27) (coefficients cos_p))))
unfolding cos_p cos_m pw E
cosine_over = tt

scaled : (k n : ℕ) (p : List ℕ) → eval (scale k (coefficients p)) n ≡ k * ev (2 ^ 149) n p
scaled k n p = ev_scale k (coefficients p) n ∙ ap (λ (x : ℕ). k * x) (ev_spread (2 ^ 149) p n)

plus : (l : List ℕ) (k n : ℕ) (p : List ℕ) → eval (add_p l (scale k (coefficients p))) n ≡ eval l n + k * ev (2 ^ 149) n p
plus l k n p = ev_add l (scale k (coefficients p)) n ∙ ap (λ (x : ℕ). eval l n + x) (scaled k n p)

-- ---- in fractions, over u = 2 ^ 149 and u e
sine_apart : (n u e p m : ℕ) → 2 ^ 27 * p ≤ u * e + n * (2 ^ 27 * e + n * 0) + 2 ^ 27 * m
    → 0 + n * (2 ^ 27 * e + n * 0) + 2 ^ 27 * m ≤ u * e + n * 0 + 2 ^ 27 * p
    → Within (5 ÷ (2 ^ 27)) (n ÷ u) (difference p m (u * e))
sine_apart n u e p m h k = (first (mul-le-mul_left u k), second (mul-le-mul_left u h))
  where
    first : u * (0 + n * (2 ^ 27 * e + n * 0) + 2 ^ 27 * m) ≤ u * (u * e + n * 0 + 2 ^ 27 * p)
        → n * (u * e * 2 ^ 27) + (m * 2 ^ 27 + 0 * (u * e)) * u ≤ (p * 2 ^ 27 + 5 * (u * e)) * u + 0 * (u * e * 2 ^ 27)
    first g = omega arith

    second : u * (2 ^ 27 * p) ≤ u * (u * e + n * (2 ^ 27 * e + n * 0) + 2 ^ 27 * m)
        → p * (u * 2 ^ 27) + (0 * 2 ^ 27 + 0 * u) * (u * e) ≤ (n * 2 ^ 27 + 5 * u) * (u * e) + m * (u * 2 ^ 27)
    second g = omega arith

cosine_apart : (n d p m : ℕ) → 2 ^ 27 * p ≤ (2 ^ 27 + 1) * d + n * 0 + 2 ^ 27 * m
    → 2 ^ 27 * d + n * 0 + 2 ^ 27 * m ≤ 5 * d + n * 0 + 2 ^ 27 * p → Within (5 ÷ (2 ^ 27)) (whole 1) (difference p m d)
cosine_apart n d p m h k = (omega arith, omega arith)

pub sine_small : (n : ℕ) → n ≤ 2 ^ 137 → Within (5 ÷ (2 ^ 27)) (n ÷ 2 ^ 149) (S (n ÷ 2 ^ 149))
sine_small n h =
    let p = ev (2 ^ 149) n sin_p in
    let m = ev (2 ^ 149) n sin_m in
    within_same (5 ÷ (2 ^ 27)) (5 ÷ (2 ^ 27)) (n ÷ 2 ^ 149) (n ÷ 2 ^ 149) (difference p m (denominator (2 ^ 149))) (S (n ÷ 2 ^ 149))
    (lit< tt) (pow_pos 149) (denominator_pos (2 ^ 149) (pow_pos 149)) refl refl
    (same_sym (S (n ÷ 2 ^ 149)) (difference p m (denominator (2 ^ 149))) (S_is n (2 ^ 149) (pow_pos 149)))
    (subst (λ (d : ℕ). Within (5 ÷ (2 ^ 27)) (n ÷ 2 ^ 149) (difference p m d)) (sym E_is)
    (sine_apart n (2 ^ 149) E p m
    (subst₂ (λ (x y : ℕ). x ≤ y) (scaled (2 ^ 27) n sin_p) (plus (2 ^ 149 * E ∷ (2 ^ 27) * E ∷ []) (2 ^ 27) n sin_m)
    (poly_le (scale (2 ^ 27) (coefficients sin_p)) (add_p (2 ^ 149 * E ∷ (2 ^ 27) * E ∷ []) (scale (2 ^ 27) (coefficients sin_m)))
    (2 ^ 137) sine_under n h))
    (subst₂ (λ (x y : ℕ). x ≤ y) (plus (0 ∷ (2 ^ 27) * E ∷ []) (2 ^ 27) n sin_m) (plus (2 ^ 149 * E ∷ []) (2 ^ 27) n sin_p)
    (poly_le (add_p (0 ∷ (2 ^ 27) * E ∷ []) (scale (2 ^ 27) (coefficients sin_m)))
    (add_p (2 ^ 149 * E ∷ []) (scale (2 ^ 27) (coefficients sin_p))) (2 ^ 137) sine_over n h))))

pub cosine_small : (n : ℕ) → n ≤ 2 ^ 137 → Within (5 ÷ (2 ^ 27)) (whole 1) (C (n ÷ 2 ^ 149))
cosine_small n h =
    let p = ev (2 ^ 149) n cos_p in
    let m = ev (2 ^ 149) n cos_m in
    within_same (5 ÷ (2 ^ 27)) (5 ÷ (2 ^ 27)) (whole 1) (whole 1) (difference p m (denominator (2 ^ 149))) (C (n ÷ 2 ^ 149)) (lit< tt)
    (lit< tt) (denominator_pos (2 ^ 149) (pow_pos 149)) refl refl
    (same_sym (C (n ÷ 2 ^ 149)) (difference p m (denominator (2 ^ 149))) (C_is n (2 ^ 149) (pow_pos 149)))
    (subst (λ (d : ℕ). Within (5 ÷ (2 ^ 27)) (whole 1) (difference p m d)) (sym E_is)
    (cosine_apart n (2 ^ 149 * E) p m
    (subst₂ (λ (x y : ℕ). x ≤ y) (scaled (2 ^ 27) n cos_p) (plus ((2 ^ 27 + 1) * (2 ^ 149 * E) ∷ []) (2 ^ 27) n cos_m)
    (poly_le (scale (2 ^ 27) (coefficients cos_p)) (add_p ((2 ^ 27 + 1) * (2 ^ 149 * E) ∷ []) (scale (2 ^ 27) (coefficients cos_m)))
    (2 ^ 137) cosine_under n h))
    (subst₂ (λ (x y : ℕ). x ≤ y) (plus (2 ^ 27 * (2 ^ 149 * E) ∷ []) (2 ^ 27) n cos_m) (plus (5 * (2 ^ 149 * E) ∷ []) (2 ^ 27) n cos_p)
    (poly_le (add_p (2 ^ 27 * (2 ^ 149 * E) ∷ []) (scale (2 ^ 27) (coefficients cos_m)))
    (add_p (5 * (2 ^ 149 * E) ∷ []) (scale (2 ^ 27) (coefficients cos_p))) (2 ^ 137) cosine_over n h))))
