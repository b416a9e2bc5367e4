-- How ours reads and stores a part of a state's row, each at its own place (Layout). Nothing of the request.
use Rattle.std.specs.Prelude.{ℕ, ◌+◌, List, [], ◌∷◌, ◌++◌}
use Rattle.std.proofs.lemmas.List.Edits.{sets}
use Rattle.numbers.specs.Told.{mark}
use Rattle.legs.specs.Answers.{lifts}
use Rattle.legs.specs.Legs.{Points}
use Rattle.legs.specs.Legs.{Feet}
use Rattle.commands.specs.Answers.{tripod_mark, command_values}
use Rattle.commands.specs.declared.MoveCommand.{MoveCommand}
use Rattle.commands.specs.declared.Tripod.{Tripod}
use Rattle.packed.specs.Packed.{point_at, points_bytes}
use Rattle.conductor.specs.declared.State.{State}
use Rattle.state_row.specs.Layout.{point_values, floats_bytes, time_bytes}

-- six points of 72 bytes, in row order
unfoldable pub points_in : List ℕ → ℕ → Points
points_in l at =
    record {
      left_front = point_at l at;
      right_front = point_at l (at + 12);
      left_middle = point_at l (at + 24);
      right_middle = point_at l (at + 36);
      left_rear = point_at l (at + 48);
      right_rear = point_at l (at + 60);
    }

-- the points of a state's four sets of feet, and their marks
abbrev pub courses_bytes : State → List ℕ
courses_bytes s =
    floats_bytes (point_values s.start ++ (point_values s.last ++ (point_values s.target ++ point_values s.relaxed)))

abbrev pub marks_bytes : State → List ℕ
marks_bytes s = lifts s.start ++ (lifts s.last ++ (lifts s.target ++ lifts s.relaxed))

-- the last feet; a start, a target and the lifted tripod; a command
abbrev pub last_put : List ℕ → Feet → List ℕ
last_put l f = sets (sets l 72 (points_bytes f)) 486 (lifts f)

abbrev pub plan_put : List ℕ → Feet → Feet → Tripod → List ℕ
plan_put l start target lifted =
    sets (sets (sets (sets (sets l 0 (points_bytes start)) 144 (points_bytes target)) 480 (lifts start)) 492 (lifts target)) 504
    (tripod_mark lifted ∷ [])

abbrev pub command_put : List ℕ → MoveCommand → List ℕ
command_put l c =
    sets (sets (sets l 288 (floats_bytes (command_values c))) 468 (time_bytes c.step_time)) 505
    (mark c.aggressive_leg_lift ∷ [])
