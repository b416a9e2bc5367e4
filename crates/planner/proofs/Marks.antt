-- A planned foot keeps its start's mark, also one that is planned from its relaxed place, and no mark has a part in where it is planned to
-- be. Assumes nothing.
use Rattle.std.specs.Prelude.{◌≡◌}
use mathlib.Core.Path.{refl}
use Rattle.legs.specs.Legs.{Leg, points, lifted, marked}
use Rattle.legs.proofs.Laws.{lifted_of_marked}
use Rattle.legs.specs.Legs.{Feet}
use Rattle.commands.specs.declared.Tripod.{Tripod}
use Rattle.commands.specs.declared.MoveCommand.{MoveCommand}
use Rattle.planner.specs.Plan.{planned}
use Rattle.planner.specs.Entry.{planned_feet}

module _ (start relaxed : Feet) (tripod : Tripod) (c : MoveCommand) where
  pub marks_of_plan : (l : Leg) → lifted (planned_feet start relaxed tripod c) l ≡ lifted start l
  unfolding planned_feet
  marks_of_plan = lifted_of_marked (lifted start) (planned (points start) (points relaxed) tripod c)

  pub points_of_plan : points (planned_feet start relaxed tripod c) ≡ planned (points start) (points relaxed) tripod c
  unfolding planned_feet
  points_of_plan = refl

  pub plan_is : planned_feet start relaxed tripod c ≡ marked (lifted start) (planned (points start) (points relaxed) tripod c)
  unfolding planned_feet
  plan_is = refl
