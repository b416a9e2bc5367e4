-- `sines::fixed::counted` meets its contract. The difference lies from -2 ^ 24 to 2 ^ 24, so that an i32 and an f32 hold it.
use borrow.Author.Tests.{lt-ltb}
use Rattle.std.specs.Prelude.{◌≡◌, ℕ, suc, ◌+◌, ◌-◌, ◌^◌, ◌<◌, ◌≤◌, T, ℤ, pos, ◌-ℤ◌}
use mathlib.Core.Path.{sym, ap, ◌∙◌, subst}
use mathlib.Core.Logic.{inl, inr}
use native.Mathlib.Omega.{arith}
use lib.Dec.{lt→ltb, le→leb}
use lib.Signed.{mag}
use lib.Ieee.{binary32, mul, of_int, in_float}
use mir.Syntax.{w32}
use mir.Val.{SFits, to_z, of_z}
use mir.Facts.{to_z-of_z}
use Rattle.series.proofs.Order.{here_or_on}
use Rattle.sines.specs.How.{result_one, surplus, counted}
use Rattle.sines.proofs.Centred.{not_less, less}
use Rattle.sines.proofs.fixed.counted.Goals as goal

as_whole : (w : ℕ) → w ≤ surplus + result_one → to_z w32 w ≡ pos w
as_whole w h = simp (lt-ltb w (2 ^ 31) (few w h))
  where
    few : (w : ℕ) → w ≤ surplus + result_one → w < 2 ^ 31
    few w h = omega arith

module _ (w : ℕ) (l : surplus - result_one ≤ w) (h : w ≤ surplus + result_one) where
  small : mag (pos w -ℤ pos surplus) < 2 ^ 31
  small =
      elim (here_or_on w surplus) [
        | inl g ↦ subst (λ (z : ℤ). mag z < 2 ^ 31) (sym (less w g)) (omega arith)
        | inr g ↦ subst (λ (z : ℤ). mag z < 2 ^ 31) (sym (not_less w g)) (omega arith)
      ]

  held : T (in_float binary32 (pos w -ℤ pos surplus))
  unfolding in_float
  held =
      elim (here_or_on w surplus) [
        | inl g ↦ subst (λ (z : ℤ). T (in_float binary32 z)) (sym (less w g)) (lt→ltb (surplus - suc w) result_one (omega arith))
        | inr g ↦ subst (λ (z : ℤ). T (in_float binary32 z)) (sym (not_less w g)) (le→leb (w - surplus) result_one (omega arith))
      ]

  fits : SFits w32 (to_z w32 w -ℤ pos surplus)
  fits = record { sfits = subst (λ (z : ℤ). mag (z -ℤ pos surplus) < 2 ^ 31) (sym (as_whole w h)) small }

  back : to_z w32 (of_z w32 (to_z w32 w -ℤ pos surplus)) ≡ pos w -ℤ pos surplus
  back = to_z-of_z fits ∙ ap (λ (z : ℤ). z -ℤ pos surplus) (as_whole w h)

pub overflow_sub-y : goal.overflow_sub-y
overflow_sub-y c = fits c.args.w c.requires.0 c.requires.1

pub int_to_float-result : goal.int_to_float-result
int_to_float-result c =
    let w = c.args.w in
    subst (λ (z : ℤ). T (in_float binary32 z)) (sym (back w c.requires.0 c.requires.1))
    (held w c.requires.0 c.requires.1)

pub returns : goal.returns
unfolding counted
returns c =
    let w = c.args.w in
    ap (λ (z : ℤ). mul binary32 (of_int binary32 z) c.args.last_place) (back w c.requires.0 c.requires.1)
