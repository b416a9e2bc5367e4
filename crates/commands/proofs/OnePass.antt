-- A command whose floats are in the table has finite floats, so that one pass lets it through. Assumes nothing.
use Rattle.std.specs.Prelude.{◌≡◌, Bool, true, ◌&&◌}
use mathlib.Core.Path.{refl, sym, ap, ◌∙◌}
use lib.Ieee.{Float, le}
use Rattle.numbers.specs.Door.{finite, permits, unless}
use Rattle.numbers.specs.Limits.{over, minus, direction, rotation}
use Rattle.numbers.proofs.OnePass.{in_row, both, and_right, let_through_to, kept_out_of}
use Rattle.commands.specs.Times.{period_permitted}
use Rattle.commands.specs.Command.{finite_command, permitted_command, command_refusal, default_command, default_step_height}
use Rattle.commands.specs.Constants.{nought}
use Rattle.commands.specs.declared.MoveCommand.{MoveCommand}

-- direction, step height, descent
pub length_finite : (x : Float) → permits direction x ≡ true → finite x ≡ true
unfolding direction finite
length_finite = in_row direction (refl, refl)

rotation_finite : (x : Float) → permits rotation x ≡ true → finite x ≡ true
unfolding rotation finite
rotation_finite = in_row rotation (refl, refl)

pub command_finite : (c : MoveCommand) → permitted_command c ≡ true → finite_command c ≡ true
unfolding permitted_command finite_command
command_finite c =
    both
    (both (both (length_finite c.direction_x) (length_finite c.direction_y)) (rotation_finite c.rotation))
    (length_finite c.step_height)

-- so that its refusal is by its time where its floats are in the table, and else by whether they are finite
pub ruleset command_looked_at = (command_finite, let_through_to, kept_out_of)

-- and its height is
pub height_permitted : (c : MoveCommand) → permitted_command c ≡ true → permits direction c.step_height ≡ true
unfolding permitted_command
height_permitted c =
    and_right
    (permits direction c.direction_x && permits direction c.direction_y && permits rotation c.rotation)
    (permits direction c.step_height)

-- so a command whose floats and step time are in the table is not refused
pub command_let_in : (c : MoveCommand) → permitted_command c ≡ true → period_permitted c.step_time ≡ true → command_refusal c ≡ 0
unfolding command_refusal
command_let_in c p q =
    sym (let_through_to (unless (period_permitted c.step_time) 3) (command_finite c p) p) ∙ ap (λ (b : Bool). unless b 3) q

-- the default command is in the table, and so is its step time
pub default_permitted : permitted_command default_command ≡ true
unfolding permitted_command default_command default_step_height direction rotation over nought le minus
default_permitted = refl

pub default_in_time : period_permitted default_command.step_time ≡ true
unfolding default_command period_permitted
default_in_time = refl
