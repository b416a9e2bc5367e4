-- Document 01: "Iterators with `&mut self` and `Option` become a state by value and an enum." "The Rust point iterator never stops,
-- since it
-- does not keep the target; the port stops."
use Rattle.std.specs.Prelude.{Option, Some, None}
use Rattle.std.specs.Prelude.{Float}
use Rattle.numbers.specs.Told.{Told, answer}
use Rattle.legs.specs.declared.Point.{Point}
use Rattle.legs.specs.Legs.{Feet}
use Rattle.moves.specs.Moving.{move_towards, move_feet_towards}
use Rattle.moves.specs.Answers.{MovingPoint, MovingFeet, given_point, told_moving_by, told_next_by}
use Rattle.legs.specs.Answers.{given_feet}
use Rattle.moves.specs.Refusals.{move_refusal, move_feet_refusal}
use Rattle.moves.specs.declared.Step.{Step}
use Rattle.moves.specs.declared.Step.TheVariants.{Moved, Arrived}
use Rattle.moves.specs.declared.Moving.{Moving}

-- the state at the beginning
abbrev pub moving : {A : Type 0} → A → A → Float → Moving A
moving l t m = record { target = t; max_move = m; last = l }

abbrev pub moving_point : Point → Point → Float → MovingPoint
moving_point l t m = moving l t m

abbrev pub moving_feet : Feet → Feet → Float → MovingFeet
moving_feet l t m = moving l t m

-- a step that moved hands on its place and the state that remembers it; else nothing is left to do
abbrev pub after : {A : Type 0} → Moving A → Step A → Option (A × Moving A)
after s (Moved p) = Some (p, moving p s.target s.max_move)
after s (Arrived p) = None

unfoldable pub next_point : MovingPoint → Option (Point × MovingPoint)
next_point s = after s (move_towards s.last s.target s.max_move)

unfoldable pub next_feet : MovingFeet → Option (Feet × MovingFeet)
next_feet s = after s (move_feet_towards s.last s.target s.max_move)

-- what the entries tell; `next` looks at every float of the state again
unfoldable pub point_iter_told : Point → Point → Float → Told
point_iter_told l t m = answer (move_refusal l t m) (told_moving_by given_point (moving_point l t m))

unfoldable pub feet_iter_told : Feet → Feet → Float → Told
feet_iter_told l t m = answer (move_feet_refusal l t m) (told_moving_by given_feet (moving_feet l t m))

unfoldable pub next_point_told : MovingPoint → Told
next_point_told s = answer (move_refusal s.last s.target s.max_move) (told_next_by given_point (next_point s))

unfoldable pub next_feet_told : MovingFeet → Told
next_feet_told s = answer (move_feet_refusal s.last s.target s.max_move) (told_next_by given_feet (next_feet s))
