-- Document 01, "Steps": "All six legs follow it, and if none moved there is no step; the three that stand use the descent as height."
use Rattle.std.specs.Prelude.{Float}
use Rattle.numbers.specs.Told.{choose}
use Rattle.legs.specs.Legs.{Leg, point}
use Rattle.legs.specs.Legs.{Points}
use Rattle.moves.specs.Moving.{together}
use Rattle.moves.specs.declared.Step.{Step}
use Rattle.legs.specs.declared.Point.{Point}
use Rattle.commands.specs.Tripods.{has}
use Rattle.steps.specs.Leg.{step_lifted_leg}
use Rattle.steps.specs.declared.Lift.{Lift}

abbrev pub height_of : Lift → Leg → Float
height_of lift l = choose (has lift.tripod l) lift.step_height lift.grounded_leg_descent

-- one of the six
abbrev pub leg_step : Points → Points → Points → Lift → Float → Leg → Step Point
leg_step start last target lift progress l =
    step_lifted_leg (point start l) (point last l) (point target l) (height_of lift l) progress
    lift.aggressive_leg_lift

unfoldable pub shift_legs : Points → Points → Points → Lift → Float → Step Points
shift_legs start last target lift progress = together (leg_step start last target lift progress)
