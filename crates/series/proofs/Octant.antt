-- In the first octant C is at least a half and S is not negative; near zero S is small. Assumes nothing.
use Prim.Native.Nat.{ℕ, ◌+◌, ◌*◌, ◌≤◌}
use mathlib.Core.Path.{◌≡◌, sym, ap, ◌∙◌, subst₂}
use mathlib.Core.List.{List, [], ◌∷◌}
use native.Mathlib.Nat.{zero-add, mul-le-mul_left}
use native.Mathlib.Omega.{arith}
use lib.Dec.{T}
use Rattle.series.proofs.Polynomials.{eval, add_p, scale, below, poly_le, ev_add, ev_scale}
use Rattle.series.proofs.Grid.{sp, sm, cp, cm, sp_l, sm_l, cp_l, cm_l, D, sp_is, sm_is, cp_is, cm_is}

cos_test : T (below 851707689 (add_p (D ∷ []) (scale 2 cm_l)) (scale 2 cp_l))
unfolding cp_l cm_l D
cos_test = tt

add_const : (d k n : ℕ) (p : List ℕ) → eval (add_p (d ∷ []) (scale k p)) n ≡ d + k * eval p n
add_const d k n p = ev_add (d ∷ []) (scale k p) n ∙ ap (λ (x : ℕ). d + n * 0 + x) (ev_scale k p n) ∙ go (eval p n)
  where
    go : (x : ℕ) → d + n * 0 + k * x ≡ d + k * x
    go x = omega arith

pub cos_half : (n : ℕ) → n ≤ 851707689 → D + 2 * cm n ≤ 2 * cp n
cos_half n h =
    subst₂ (λ (x y : ℕ). x ≤ y) (add_const D 2 n cm_l ∙ ap (λ (x : ℕ). D + 2 * x) (cm_is n))
    (ev_scale 2 cp_l n ∙ ap (λ (x : ℕ). 2 * x) (cp_is n))
    (poly_le (add_p (D ∷ []) (scale 2 cm_l)) (scale 2 cp_l) 851707689 cos_test n h)

-- S n is n times what is left
tail : List ℕ → List ℕ
tail [] = []
tail (a ∷ p) = p

sin_test : T (below 851707689 (tail sm_l) (tail sp_l))
unfolding sp_l sm_l tail
sin_test = tt

sp_tail : (n : ℕ) → eval sp_l n ≡ n * eval (tail sp_l) n
unfolding sp_l tail
sp_tail n = zero-add _

sm_tail : (n : ℕ) → eval sm_l n ≡ n * eval (tail sm_l) n
unfolding sm_l tail
sm_tail n = zero-add _

pub sin_pos : (n : ℕ) → n ≤ 851707689 → sm n ≤ sp n
sin_pos n h = subst₂ (λ (x y : ℕ). x ≤ y) (sym (sm_tail n) ∙ sm_is n) (sym (sp_tail n) ∙ sp_is n)
    (mul-le-mul_left n (poly_le (tail sm_l) (tail sp_l) 851707689 sin_test n h))

small_test : T (below 4224 (scale 4 sp_l) (add_p (D ∷ []) (scale 4 sm_l)))
unfolding sp_l sm_l D
small_test = tt

pub sin_small : (n : ℕ) → n ≤ 4224 → 4 * sp n ≤ D + 4 * sm n
sin_small n h =
    subst₂ (λ (x y : ℕ). x ≤ y) (ev_scale 4 sp_l n ∙ ap (λ (x : ℕ). 4 * x) (sp_is n))
    (add_const D 4 n sm_l ∙ ap (λ (x : ℕ). D + 4 * x) (sm_is n))
    (poly_le (scale 4 sp_l) (add_p (D ∷ []) (scale 4 sm_l)) 4224 small_test n h)
