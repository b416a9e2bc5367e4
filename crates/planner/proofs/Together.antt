-- Six feet in two groups of three are document 01's plan, leg by leg, for either tripod.
use Rattle.std.specs.Prelude.{◌≡◌}
use mathlib.Core.Path.{refl}
use Rattle.numbers.specs.Told.{choose}
use Rattle.legs.specs.Legs.{Points}
use Rattle.commands.specs.Tripods.{is_lrl}
use Rattle.commands.specs.declared.Tripod.{Tripod}
use Rattle.commands.specs.declared.Tripod.TheVariants.{LRL, RLR}
use Rattle.commands.specs.declared.MoveCommand.{MoveCommand}
use Rattle.planner.specs.Turns.{turn}
use Rattle.planner.specs.Plan.{rotation, correcting_rotation, linear_motion, translation, planned}
use Rattle.planner.specs.How.{applied_feet, ready_feet}

pub together :
    (start relaxed : Points) (t : Tripod) (c : MoveCommand)
    → applied_feet
    (turn (choose (is_lrl t) (rotation c) (correcting_rotation start relaxed t c)))
    (turn (choose (is_lrl t) (correcting_rotation start relaxed t c) (rotation c)))
    (ready_feet (is_lrl t) start relaxed (linear_motion c) (translation start relaxed t))
    ≡ planned start relaxed t c
unfolding applied_feet ready_feet planned
together start relaxed LRL c = refl
together start relaxed RLR c = refl
