-- Document 01's number and values for each case of an answer on moves. The first mark is 1 for moved and 0 for not moved; those of feet
-- stand behind it (request K12). Each is said once, of whatever moves: `say` tells of its places.
use Rattle.std.specs.Prelude.{ℕ, List, [], ◌∷◌, ◌++◌, Option, Some, None, Result}
use Rattle.std.specs.Prelude.{Float}
use Rattle.numbers.specs.Told.{Told, given}
use Rattle.numbers.specs.Answers.{told_by}
use Rattle.numbers.specs.declared.refusal.Refusal.{Refusal}
use Rattle.legs.specs.Legs.{row, foot, coordinates, values}
use Rattle.legs.specs.Answers.{given_feet}
use Rattle.legs.specs.declared.Point.{Point}
use Rattle.legs.specs.Legs.{Feet}
use Rattle.moves.specs.Moving.{MoveStep, FeetStep}
use Rattle.moves.specs.declared.Step.{Step}
use Rattle.moves.specs.declared.Step.TheVariants.{Moved, Arrived}
use Rattle.moves.specs.declared.Moving.{Moving}

-- a point on its way, and six feet
abbrev pub MovingPoint : Type 0
MovingPoint = Moving Point

abbrev pub MovingFeet : Type 0
MovingFeet = Moving Feet

-- a point has no marks; six feet are told by `given_feet`
abbrev pub given_point : Point → Told
given_point p = given [] (coordinates p)

-- eighteen floats, in row order
abbrev pub of_feet : Feet → List Float
of_feet f = values coordinates (row (foot f))

-- a step
abbrev pub told_step_by : {A : Type 0} → (A → Told) → Step A → Told
told_step_by say (Moved a) = given (1 ∷ (say a).marks) (say a).values
told_step_by say (Arrived a) = given (0 ∷ (say a).marks) (say a).values

abbrev pub told_step : MoveStep → Told
told_step s = told_step_by given_point s

abbrev pub told : Result MoveStep Refusal → Told
told r = told_by told_step r

abbrev pub told_feet_step : FeetStep → Told
told_feet_step s = told_step_by given_feet s

abbrev pub told_feet : Result FeetStep Refusal → Told
told_feet r = told_by told_feet_step r

-- a state: last, target, max move
abbrev pub told_moving_by : {A : Type 0} → (A → Told) → Moving A → Told
told_moving_by say s =
    given ((say s.last).marks ++ (say s.target).marks) ((say s.last).values ++ ((say s.target).values ++ s.max_move ∷ []))

abbrev pub told_point_iter : Result MovingPoint Refusal → Told
told_point_iter r = told_by (told_moving_by given_point) r

abbrev pub told_feet_iter : Result MovingFeet Refusal → Told
told_feet_iter r = told_by (told_moving_by given_feet) r

-- its floats where six feet move, and its marks: those of last, of target
abbrev pub of_moving_feet : MovingFeet → List Float
of_moving_feet s = (told_moving_by given_feet s).values

abbrev pub lifts_of_moving : MovingFeet → List ℕ
lifts_of_moving s = (told_moving_by given_feet s).marks

-- a step made: the new place, then the state after it; none made: no floats
abbrev pub told_next_by : {A : Type 0} → (A → Told) → Option (A × Moving A) → Told
told_next_by say (Some n) =
    given (1 ∷ ((say n.0).marks ++ (told_moving_by say n.1).marks)) ((say n.0).values ++ (told_moving_by say n.1).values)
told_next_by say None = given (0 ∷ []) []

abbrev pub told_next_point : Result (Option (Point × MovingPoint)) Refusal → Told
told_next_point r = told_by (told_next_by given_point) r

abbrev pub told_next_feet : Result (Option (Feet × MovingFeet)) Refusal → Told
told_next_feet r = told_by (told_next_by given_feet) r
