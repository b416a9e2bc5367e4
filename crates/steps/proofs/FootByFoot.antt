-- Six feet step as six single ones: a foot's next point depends only on its own start, last and target, on progress, the
-- lifted tripod, heights and mode. By the laws of `moves` on six single steps that go together.
use Rattle.std.specs.Prelude.{◌≡◌}
use mathlib.Core.Path.{ap, ap₂, ◌∙◌}
use lib.Ieee.{Float}
use Rattle.legs.specs.Legs.{Leg, point, some}
use Rattle.legs.specs.declared.Point.{Point}
use Rattle.legs.specs.Legs.{Points}
use Rattle.moves.specs.Moving.{point_of, has_moved, points_of, one_moved}
use Rattle.moves.specs.declared.Step.{Step}
use Rattle.moves.proofs.FootByFoot.{each_together, flag_together, one_together}
use Rattle.steps.specs.Leg.{step_lifted_leg}
use Rattle.steps.specs.Shift.{height_of, leg_step, shift_legs}
use Rattle.steps.specs.declared.Lift.{Lift}

module _ (start last target : Points) (lift : Lift) (progress : Float) where
  pub each_foot : (l : Leg)
      → point (points_of (shift_legs start last target lift progress)) l ≡ point_of (leg_step start last target lift progress l)
  unfolding shift_legs
  each_foot = each_together (leg_step start last target lift progress)

  -- there is a step where one of the six moved
  pub shared_flag : one_moved (shift_legs start last target lift progress)
      ≡ some (λ l. has_moved (leg_step start last target lift progress l))
  unfolding shift_legs
  shared_flag = flag_together (leg_step start last target lift progress)

-- two steps that agree on one foot's start, last and target give that foot the same point, whatever the other five do
pub one_foot_alone : (s s' l l' t t' : Points) (lift : Lift) (progress : Float) (k : Leg)
    → point s k ≡ point s' k → point l k ≡ point l' k → point t k ≡ point t' k
    → point (points_of (shift_legs s l t lift progress)) k ≡ point (points_of (shift_legs s' l' t' lift progress)) k
unfolding shift_legs
one_foot_alone s s' l l' t t' lift progress k es el et =
    let step : Point → Point → Point → Step Point =
    λ a b c. step_lifted_leg a b c (height_of lift k) progress lift.aggressive_leg_lift
    in
    one_together (leg_step s l t lift progress) (leg_step s' l' t' lift progress) k
    (ap (λ (p : Point). step p (point l k) (point t k)) es ∙ ap₂ (λ (p q : Point). step (point s' k) p q) el et)
