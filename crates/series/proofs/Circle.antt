-- C^2 + S^2 is within 2 ^ -50 of 1 at whole multiples of 2 ^ -30 up to 4, by one computed equation of coefficient lists. Assumes nothing.
use Prim.Native.Nat.{ℕ, ◌+◌, ◌-◌, ◌*◌, ◌^◌, ◌≤◌}
use mathlib.Core.Path.{◌≡◌, refl, sym, ap, ◌∙◌}
use mathlib.Core.List.{List}
use native.Mathlib.Omega.{arith}
use lib.Dec.{leb→le}
use Rattle.series.proofs.Polynomials.{eval, add_p, ev_add, ev_mono, less, squares_p, products_p, ev_squares, ev_products}
use Rattle.series.proofs.Grid.{sp, sm, cp, cm, sp_l, sm_l, cp_l, cm_l, D, sp_is, sm_is, cp_is, cm_is}

unfoldable left : List ℕ
left = squares_p cp_l cm_l sp_l sm_l

unfoldable right : List ℕ
right = products_p cp_l cm_l sp_l sm_l

-- what the left side has too much, place by place, and what it lacks
unfoldable over : List ℕ
unfolding left right cp_l cm_l sp_l sm_l
over = less left right

unfoldable under : List ℕ
unfolding left right cp_l cm_l sp_l sm_l
under = less right left

key : add_p left under ≡ add_p right over
unfolding left right over under cp_l cm_l sp_l sm_l
key = refl

under_small : 2 ^ 50 * eval under (2 ^ 32) ≤ D * D
unfolding left right over under cp_l cm_l sp_l sm_l D
under_small = leb→le _ _ tt

over_small : 2 ^ 50 * eval over (2 ^ 32) ≤ (2 ^ 50 + 1) * (D * D)
unfolding left right over under cp_l cm_l sp_l sm_l D
over_small = leb→le _ _ tt

over_large : D * D ≤ eval over 0
unfolding left right over under cp_l cm_l sp_l sm_l D
over_large = leb→le _ _ tt

module _ (n : ℕ) where
  left_is : eval left n ≡ eval cp_l n * eval cp_l n + eval cm_l n * eval cm_l n + (eval sp_l n * eval sp_l n + eval sm_l n * eval sm_l n)
  unfolding left
  left_is = ev_squares cp_l cm_l sp_l sm_l n

  right_is : eval right n ≡ 2 * (eval cp_l n * eval cm_l n) + 2 * (eval sp_l n * eval sm_l n)
  unfolding right
  right_is = ev_products cp_l cm_l sp_l sm_l n

  both_sides : eval left n + eval under n ≡ eval right n + eval over n
  both_sides = sym (ev_add left under n) ∙ ap (λ (l : List ℕ). eval l n) key ∙ ev_add right over n

pub pyth_up : (n : ℕ) → n ≤ 2 ^ 32 →
    2 ^ 50 * (cp n * cp n + cm n * cm n + (sp n * sp n + sm n * sm n))
    ≤ 2 ^ 50 * (2 * (cp n * cm n) + 2 * (sp n * sm n)) + (2 ^ 50 + 1) * (D * D)
pyth_up n h =
    let a : eval over n ≤ eval over (2 ^ 32) = ev_mono over h in
    let e : eval left n + eval under n ≡ eval right n + eval over n = both_sides n in
    let o : 2 ^ 50 * eval over (2 ^ 32) ≤ (2 ^ 50 + 1) * (D * D) = over_small in
    rw (← cp_is n, ← cm_is n, ← sp_is n, ← sm_is n, ← left_is n, ← right_is n) (omega arith)

pub pyth_down : (n : ℕ) → n ≤ 2 ^ 32 →
    2 ^ 50 * (2 * (cp n * cm n) + 2 * (sp n * sm n)) + (2 ^ 50 - 1) * (D * D)
    ≤ 2 ^ 50 * (cp n * cp n + cm n * cm n + (sp n * sp n + sm n * sm n))
pyth_down n h =
    let a : eval under n ≤ eval under (2 ^ 32) = ev_mono under h in
    let b : eval over 0 ≤ eval over n = ev_mono over (omega arith) in
    let e : eval left n + eval under n ≡ eval right n + eval over n = both_sides n in
    let o : 2 ^ 50 * eval under (2 ^ 32) ≤ D * D = under_small in
    let o' : D * D ≤ eval over 0 = over_large in
    rw (← cp_is n, ← cm_is n, ← sp_is n, ← sm_is n, ← left_is n, ← right_is n) (omega arith)
