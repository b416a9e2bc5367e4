-- Document 01: "A command holds direction, rotation, step time and step height, besides `aggressive_leg_lift`;
-- `should_move` compares with f32 EPSILON, strictly."
use Rattle.std.specs.Prelude.{ℕ, ◌*◌, ◌^◌, Bool, false, not, ◌&&◌, [], ◌∷◌}
use Rattle.std.specs.Prelude.{Float}
use Rattle.std.specs.Float.Ieee.{lt}
use Rattle.numbers.specs.Told.{Told, given, mark, answer}
use Rattle.numbers.specs.Door.{finite, permits, unless, first_of}
use Rattle.numbers.specs.Limits.{over, direction, rotation as rotation_limit}
use Rattle.numbers.specs.Finite.{magnitude}
use Rattle.commands.specs.Constants.{nought}
use Rattle.commands.specs.Times.{period_permitted}
use Rattle.commands.specs.Answers.{given_command}
use Rattle.commands.specs.declared.Time.{Time}
use Rattle.commands.specs.declared.MoveCommand.{MoveCommand}

-- the source's defaults: step time 600 ms, step height 0.03 m, step distance 0.025 m
abbrev pub default_step_time : Time
default_step_time = record { seconds = 0; nanoseconds = 600 * 10 ^ 6 }

unfoldable pub default_step_height : Float
default_step_height = over 3 100

unfoldable pub default_step_distance : Float
default_step_distance = over 25 1000

-- direction x and y, rotation, step time, step height, the flag
abbrev pub command : Float → Float → Float → Time → Float → Bool → MoveCommand
command x y turn time height aggressive =
    record {
      direction_x = x;
      direction_y = y;
      rotation = turn;
      step_time = time;
      step_height = height;
      aggressive_leg_lift = aggressive;
    }

unfoldable pub default_command : MoveCommand
default_command = command nought nought nought default_step_time default_step_height false

-- all four floats pass
unfoldable pub finite_command : MoveCommand → Bool
finite_command c =
    finite c.direction_x
    && finite c.direction_y
    && finite c.rotation
    && finite c.step_height

unfoldable pub permitted_command : MoveCommand → Bool
permitted_command c =
    permits direction c.direction_x
    && permits direction c.direction_y
    && permits rotation_limit c.rotation
    && permits direction c.step_height

-- 1: a float is NaN or infinite; 2: one is outside the table; 3: the step time is
unfoldable pub command_refusal : MoveCommand → ℕ
command_refusal c =
    first_of
    (unless (finite_command c) 1
    ∷ unless (permitted_command c) 2
    ∷ unless (period_permitted c.step_time) 3
    ∷ [])

-- what the constructors answer
abbrev pub checked_told : MoveCommand → Told
checked_told c = answer (command_refusal c) (given_command c)

unfoldable pub new_told : Float → Float → Float → Told
unfolding default_command
new_told x y turn =
    checked_told
    (command x y turn
    default_command.step_time
    default_command.step_height
    default_command.aggressive_leg_lift)

abbrev pub with_told : Float → Float → Float → Time → Float → Bool → Told
with_told x y turn time height aggressive = checked_told (command x y turn time height aggressive)

-- f32's EPSILON, 2^-23
unfoldable pub epsilon : Float
epsilon = over 1 (2 ^ 23)

unfoldable pub should_move : MoveCommand → Bool
should_move c =
    not
    (lt (magnitude c.rotation) epsilon
    && lt (magnitude c.direction_x) epsilon
    && lt (magnitude c.direction_y) epsilon)

abbrev pub should_move_told : MoveCommand → Told
should_move_told c = answer (command_refusal c) (given (mark (should_move c) ∷ []) [])
