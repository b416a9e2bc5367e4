-- S and C at a quarter and a half turn, less or plus w: each is C or S at w, but for a sign and 2 ^ -31, for w up to the largest angle of
-- the first octant. Assumes nothing.
use Prim.Native.Nat.{ℕ, ◌+◌, ◌*◌, ◌^◌, ◌≤◌}
use mathlib.Core.Path.{◌≡◌, sym, ap, ◌∙◌, subst₂}
use mathlib.Core.Bool.{Bool}
use mathlib.Core.List.{List, [], ◌∷◌}
use native.Mathlib.Nat.{mul-zero}
use native.Mathlib.Omega.{arith}
use lib.Dec.{T}
use Rattle.series.proofs.Polynomials.{eval, add_p, scale, below, poly_le, shift, back, ev_add, ev_scale, ev_shift, ev_back}
use Rattle.series.proofs.Grid.{sp, sm, cp, cm, sp_l, sm_l, cp_l, cm_l, D, sp_is, sm_is, cp_is, cm_is, quarter, half}
use Rattle.series.proofs.Tables.{both, both_l, both_r}

-- p' - m' is within D / 2 ^ 31 of p - m
pub record Near (p m p' m' : ℕ) : Type 0 where
  pub above : 2 ^ 31 * (p' + m) ≤ 2 ^ 31 * (p + m') + D
  pub under : 2 ^ 31 * (p + m') ≤ 2 ^ 31 * (p' + m) + D

pub near_flip : {p m p' m' : ℕ} → Near p m p' m' → Near m p m' p'
near_flip {p} {m} {p'} {m'} h = record { above = one h.under; under = two h.above }
  where
    one : 2 ^ 31 * (p + m') ≤ 2 ^ 31 * (p' + m) + D → 2 ^ 31 * (m' + p) ≤ 2 ^ 31 * (m + p') + D
    one g = omega arith

    two : 2 ^ 31 * (p' + m) ≤ 2 ^ 31 * (p + m') + D → 2 ^ 31 * (m + p') ≤ 2 ^ 31 * (m' + p) + D
    two g = omega arith

abbrev lower : List ℕ → List ℕ → Bool
lower p q = below 851707689 (scale (2 ^ 31) p) (add_p (D ∷ []) (scale (2 ^ 31) q))

abbrev close : List ℕ → List ℕ → Bool
close p q = both (lower p q) (lower q p)

lower_is : (p q : List ℕ) (w : ℕ) → w ≤ 851707689 → T (lower p q) → 2 ^ 31 * eval p w ≤ 2 ^ 31 * eval q w + D
lower_is p q w h t =
    let g : eval (scale (2 ^ 31) p) w ≤ eval (add_p (D ∷ []) (scale (2 ^ 31) q)) w =
    poly_le (scale (2 ^ 31) p) (add_p (D ∷ []) (scale (2 ^ 31) q)) 851707689 t w h in
    let e : eval (scale (2 ^ 31) p) w ≡ 2 ^ 31 * eval p w = ev_scale (2 ^ 31) p w in
    let f : eval (add_p (D ∷ []) (scale (2 ^ 31) q)) w ≡ D + w * 0 + 2 ^ 31 * eval q w =
    ev_add (D ∷ []) (scale (2 ^ 31) q) w ∙ ap (λ (n : ℕ). D + w * 0 + n) (ev_scale (2 ^ 31) q w) in
    let z : w * 0 ≡ 0 = mul-zero w in
    omega arith

pair : (p q : List ℕ) (w : ℕ) → w ≤ 851707689 → T (close p q) → (2 ^ 31 * eval p w ≤ 2 ^ 31 * eval q w + D)
    × (2 ^ 31 * eval q w ≤ 2 ^ 31 * eval p w + D)
pair p q w h t = (lower_is p q w h (both_l (lower p q) (lower q p) t), lower_is q p w h (both_r (lower p q) (lower q p) t))

-- f - f' at t - w against u - u' at w
abbrev backward : (f f' : List ℕ × List ℕ) (u u' : List ℕ) → Bool
backward f f' u u' = close (add_p f.0 (add_p f'.1 u')) (add_p f.1 (add_p f'.0 u))

-- f - f' at t + w against u - u' at w
abbrev onward : (f f' u u' : List ℕ) → Bool
onward f f' u u' = close (add_p f u') (add_p f' u)

abbrev Both : ℕ → ℕ → ℕ → ℕ → ℕ → Type 0
Both p m p' m' d = (2 ^ 31 * (p' + m) ≤ 2 ^ 31 * (p + m') + d) × (2 ^ 31 * (p + m') ≤ 2 ^ 31 * (p' + m) + d)

made : (p m p' m' : ℕ) → Both p m p' m' D → Near p m p' m'
made p m p' m' h = record { above = h.0; under = h.1 }

back_near : (t : ℕ) (f f' u u' : List ℕ) → T (backward (back t f) (back t f') u u') → (m w : ℕ) → m + w ≡ t → w ≤ 851707689
    → Near (eval u w) (eval u' w) (eval f m) (eval f' m)
back_near t f f' u u' b m w e h =
    let l = add_p (back t f).0 (add_p (back t f').1 u') in
    let r = add_p (back t f).1 (add_p (back t f').0 u) in
    let g = pair l r w h b in
    made (eval u w) (eval u' w) (eval f m) (eval f' m)
    (go (eval (back t f).0 w) (eval (back t f).1 w) (eval (back t f').0 w) (eval (back t f').1 w) (eval f m) (eval f' m) (eval u w)
    (eval u' w) D (eval l w) (eval r w)
    (ev_back f t m w e) (ev_back f' t m w e)
    (ev_add (back t f).0 (add_p (back t f').1 u') w ∙ ap (λ (n : ℕ). eval (back t f).0 w + n) (ev_add (back t f').1 u' w))
    (ev_add (back t f).1 (add_p (back t f').0 u) w ∙ ap (λ (n : ℕ). eval (back t f).1 w + n) (ev_add (back t f').0 u w))
    g.0 g.1)
  where
    go : (E O E' O' x x' y y' d l r : ℕ) → x + O ≡ E → x' + O' ≡ E' → l ≡ E + (O' + y') → r ≡ O + (E' + y) → 2 ^ 31 * l ≤ 2 ^ 31 * r + d
        → 2 ^ 31 * r ≤ 2 ^ 31 * l + d
        → Both y y' x x' d
    go E O E' O' x x' y y' d l r p q a b g k = (omega arith, omega arith)

on_near : (t : ℕ) (f f' u u' : List ℕ) → T (onward (shift t f) (shift t f') u u') → (n w : ℕ) → n ≡ t + w → w ≤ 851707689
    → Near (eval u w) (eval u' w) (eval f n) (eval f' n)
on_near t f f' u u' b n w e h =
    let l = add_p (shift t f) u' in
    let r = add_p (shift t f') u in
    let g = pair l r w h b in
    made (eval u w) (eval u' w) (eval f n) (eval f' n)
    (go (eval f n) (eval f' n) (eval u w) (eval u' w) D (eval l w) (eval r w)
    (ev_add (shift t f) u' w ∙ ap (λ (x : ℕ). x + eval u' w) (ev_shift t f w ∙ ap (λ (x : ℕ). eval f x) (sym e)))
    (ev_add (shift t f') u w ∙ ap (λ (x : ℕ). x + eval u w) (ev_shift t f' w ∙ ap (λ (x : ℕ). eval f' x) (sym e)))
    g.0 g.1)
  where
    go : (x x' y y' d l r : ℕ) → l ≡ x + y' → r ≡ x' + y → 2 ^ 31 * l ≤ 2 ^ 31 * r + d → 2 ^ 31 * r ≤ 2 ^ 31 * l + d → Both y y' x x' d
    go x x' y y' d l r a b g k = (omega arith, omega arith)

-- ---- the tests, computed
quarter_back_sin_test : T (backward (back 1686629713 sp_l) (back 1686629713 sm_l) cp_l cm_l)
unfolding sp_l sm_l cp_l cm_l D
quarter_back_sin_test = tt

quarter_back_cos_test : T (backward (back 1686629713 cp_l) (back 1686629713 cm_l) sp_l sm_l)
unfolding sp_l sm_l cp_l cm_l D
quarter_back_cos_test = tt

quarter_on_sin_test : T (onward (shift 1686629713 sp_l) (shift 1686629713 sm_l) cp_l cm_l)
unfolding sp_l sm_l cp_l cm_l D
quarter_on_sin_test = tt

quarter_on_cos_test : T (onward (shift 1686629713 cp_l) (shift 1686629713 cm_l) sm_l sp_l)
unfolding sp_l sm_l cp_l cm_l D
quarter_on_cos_test = tt

half_back_sin_test : T (backward (back 3373259426 sp_l) (back 3373259426 sm_l) sp_l sm_l)
unfolding sp_l sm_l cp_l cm_l D
half_back_sin_test = tt

half_back_cos_test : T (backward (back 3373259426 cp_l) (back 3373259426 cm_l) cm_l cp_l)
unfolding sp_l sm_l cp_l cm_l D
half_back_cos_test = tt

half_on_sin_test : T (onward (shift 3373259426 sp_l) (shift 3373259426 sm_l) sm_l sp_l)
unfolding sp_l sm_l cp_l cm_l D
half_on_sin_test = tt

half_on_cos_test : T (onward (shift 3373259426 cp_l) (shift 3373259426 cm_l) cm_l cp_l)
unfolding sp_l sm_l cp_l cm_l D
half_on_cos_test = tt

near_by : {p m p' m' q n q' n' : ℕ} → p ≡ q → m ≡ n → p' ≡ q' → m' ≡ n' → Near p m p' m' → Near q n q' n'
near_by {p} {m} {p'} {m'} {q} {n} {q'} {n'} a b c d h = subst₂ (λ (i j : ℕ). Near i j q' n') a b (subst₂ (λ (i j : ℕ). Near p m i j) c d h)

pub quarter_back_sin : (m w : ℕ) → m + w ≡ quarter → w ≤ 851707689 → Near (cp w) (cm w) (sp m) (sm m)
quarter_back_sin m w e h =
    near_by (cp_is w) (cm_is w) (sp_is m) (sm_is m) (back_near 1686629713 sp_l sm_l cp_l cm_l quarter_back_sin_test m w e h)

pub quarter_back_cos : (m w : ℕ) → m + w ≡ quarter → w ≤ 851707689 → Near (sp w) (sm w) (cp m) (cm m)
quarter_back_cos m w e h =
    near_by (sp_is w) (sm_is w) (cp_is m) (cm_is m) (back_near 1686629713 cp_l cm_l sp_l sm_l quarter_back_cos_test m w e h)

pub quarter_on_sin : (m w : ℕ) → m ≡ quarter + w → w ≤ 851707689 → Near (cp w) (cm w) (sp m) (sm m)
quarter_on_sin m w e h =
    near_by (cp_is w) (cm_is w) (sp_is m) (sm_is m) (on_near 1686629713 sp_l sm_l cp_l cm_l quarter_on_sin_test m w e h)

pub quarter_on_cos : (m w : ℕ) → m ≡ quarter + w → w ≤ 851707689 → Near (sm w) (sp w) (cp m) (cm m)
quarter_on_cos m w e h =
    near_by (sm_is w) (sp_is w) (cp_is m) (cm_is m) (on_near 1686629713 cp_l cm_l sm_l sp_l quarter_on_cos_test m w e h)

pub half_back_sin : (m w : ℕ) → m + w ≡ half → w ≤ 851707689 → Near (sp w) (sm w) (sp m) (sm m)
half_back_sin m w e h =
    near_by (sp_is w) (sm_is w) (sp_is m) (sm_is m) (back_near 3373259426 sp_l sm_l sp_l sm_l half_back_sin_test m w e h)

pub half_back_cos : (m w : ℕ) → m + w ≡ half → w ≤ 851707689 → Near (cm w) (cp w) (cp m) (cm m)
half_back_cos m w e h =
    near_by (cm_is w) (cp_is w) (cp_is m) (cm_is m) (back_near 3373259426 cp_l cm_l cm_l cp_l half_back_cos_test m w e h)

pub half_on_sin : (m w : ℕ) → m ≡ half + w → w ≤ 851707689 → Near (sm w) (sp w) (sp m) (sm m)
half_on_sin m w e h = near_by (sm_is w) (sp_is w) (sp_is m) (sm_is m) (on_near 3373259426 sp_l sm_l sm_l sp_l half_on_sin_test m w e h)

pub half_on_cos : (m w : ℕ) → m ≡ half + w → w ≤ 851707689 → Near (cm w) (cp w) (cp m) (cm m)
half_on_cos m w e h = near_by (cm_is w) (cp_is w) (cp_is m) (cm_is m) (on_near 3373259426 cp_l cm_l cm_l cp_l half_on_cos_test m w e h)
