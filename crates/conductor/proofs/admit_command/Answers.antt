-- `conductor::admit_command` meets its contract: what the first pass lets through is finite too.
use Rattle.std.specs.Prelude.{◌≡◌, true, false, ◌&&◌}
use Rattle.numbers.specs.Door.{unless}
use Rattle.numbers.proofs.OnePass.{both, let_through_to, kept_out_of}
use Rattle.commands.specs.Command.{finite_command, permitted_command}
use Rattle.commands.specs.Times.{period_permitted}
use Rattle.commands.proofs.OnePass.{command_finite}
use Rattle.conductor.specs.States.{finite_state, permitted_state, new_command_refusal}
use Rattle.conductor.proofs.Door.{state_finite}
use Rattle.conductor.proofs.admit_command.Goals as goal

pub returns-then-all_permitted-command_permitted : goal.returns-then-all_permitted-command_permitted
unfolding new_command_refusal
returns-then-all_permitted-command_permitted c =
    let a = c.args in
    let p : (permitted_state a.state && permitted_command a.command) ≡ true =
    simp (c.command_permitted.ensures, c.all_permitted.ensures) at c.if-all_permitted-command_permitted.true in
    simp (c.ensure.ensures, c.is_period-then-all_permitted-command_permitted.ensures, c.is_period.ensures)
    (let_through_to
    {F = finite_state a.state && finite_command a.command}
    {P = permitted_state a.state && permitted_command a.command}
    (unless (period_permitted a.state.command.step_time && period_permitted a.command.step_time) 3)
    (both (state_finite a.state) (command_finite a.command) p)
    p)

pub returns-else-all_permitted-command_permitted : goal.returns-else-all_permitted-command_permitted
unfolding new_command_refusal
returns-else-all_permitted-command_permitted c =
    let a = c.args in
    let p : (permitted_state a.state && permitted_command a.command) ≡ false =
    simp (c.command_permitted.ensures, c.all_permitted.ensures) at c.if-all_permitted-command_permitted.false in
    simp (c.outside.ensures, c.command_finite.ensures, c.all_finite.ensures)
    (kept_out_of (finite_state a.state && finite_command a.command) (permitted_state a.state && permitted_command a.command)
    (unless (period_permitted a.state.command.step_time && period_permitted a.command.step_time) 3) p)
