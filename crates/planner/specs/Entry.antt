-- What the planner's entry tells: the planned points, with start's marks. Request K12: a foot "planned from its start" keeps "the mark it
-- had"; so does one planned from its relaxed place, and relaxed's marks mean nothing.
-- 1: a float is NaN or infinite; 2: one is outside the table; 3: the command's step time is.
use Rattle.std.specs.Prelude.{ℕ, ◌&&◌, [], ◌∷◌}
use Rattle.numbers.specs.Told.{Told, answer}
use Rattle.numbers.specs.Door.{unless, first_of}
use Rattle.numbers.specs.Limits.{foot_limit}
use Rattle.legs.specs.Legs.{points, lifted, marked, finite_feet, permitted_feet}
use Rattle.legs.specs.Answers.{given_feet}
use Rattle.legs.specs.Legs.{Feet}
use Rattle.commands.specs.Times.{period_permitted}
use Rattle.commands.specs.Command.{finite_command, permitted_command}
use Rattle.commands.specs.declared.Tripod.{Tripod}
use Rattle.commands.specs.declared.MoveCommand.{MoveCommand}
use Rattle.planner.specs.Plan.{planned}

unfoldable pub plan_refusal : Feet → Feet → MoveCommand → ℕ
plan_refusal start relaxed c =
    first_of
    (unless (finite_feet start && finite_feet relaxed && finite_command c) 1
    ∷ unless (permitted_feet foot_limit start && permitted_feet foot_limit relaxed && permitted_command c) 2
    ∷ unless (period_permitted c.step_time) 3
    ∷ [])

unfoldable pub planned_feet : Feet → Feet → Tripod → MoveCommand → Feet
planned_feet start relaxed tripod c = marked (lifted start) (planned (points start) (points relaxed) tripod c)

unfoldable pub plan_told : Feet → Feet → Tripod → MoveCommand → Told
plan_told start relaxed tripod c = answer (plan_refusal start relaxed c) (given_feet (planned_feet start relaxed tripod c))
