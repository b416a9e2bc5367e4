-- Feet and a command that are in the table are planned from: nothing refuses them. Assumes nothing.
use Rattle.std.specs.Prelude.{◌≡◌, Bool, true}
use mathlib.Core.Path.{sym, ap, ◌∙◌}
use Rattle.numbers.specs.Door.{unless}
use Rattle.numbers.specs.Limits.{foot_limit}
use Rattle.numbers.proofs.OnePass.{both, let_through_to, kept_out_of}
use Rattle.numbers.proofs.Flags.{and_both}
use Rattle.legs.specs.Legs.{permitted_feet}
use Rattle.legs.specs.Legs.{Feet}
use Rattle.legs.proofs.OnePass.{two_feet}
use Rattle.commands.specs.Times.{period_permitted}
use Rattle.commands.specs.Command.{permitted_command}
use Rattle.commands.specs.declared.MoveCommand.{MoveCommand}
use Rattle.commands.proofs.OnePass.{command_finite}
use Rattle.planner.specs.Entry.{plan_refusal}

pub plan_let_in : (start relaxed : Feet) (c : MoveCommand) → permitted_feet foot_limit start ≡ true →
    permitted_feet foot_limit relaxed ≡ true
    → permitted_command c ≡ true → period_permitted c.step_time ≡ true → plan_refusal start relaxed c ≡ 0
unfolding plan_refusal
plan_let_in start relaxed c i j k q =
    let p = and_both _ _ (and_both _ _ i j) k in
    sym (let_through_to (unless (period_permitted c.step_time) 3) (both (two_feet start relaxed) (command_finite c) p) p)
    ∙ ap (λ (b : Bool). unless b 3) q

-- so a refusal is by the step time where all is in the table, and else by whether all is finite
pub ruleset looked_at = (both, two_feet, command_finite, let_through_to, kept_out_of)
