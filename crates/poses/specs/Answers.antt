-- What is told of an answer on poses: of a read pose the marks say of each leg in row order 0 null, 1 standing, 2 lifted, and the
-- values are the coordinates of those that are there; of a written one the mark is its length.
use Rattle.std.specs.Prelude.{ℕ, List, [], ◌∷◌, Some, None, Option, Result}
use Rattle.std.specs.Prelude.{Float}
use Rattle.numbers.specs.Told.{Told, given, choose}
use Rattle.numbers.specs.Answers.{told_by}
use Rattle.numbers.specs.declared.refusal.Refusal.{Refusal}
use Rattle.legs.specs.Legs.{Leg, at, six, row, coordinates, values}
use Rattle.legs.specs.declared.Foot.{Foot}
use Rattle.legs.specs.declared.six.HexapodTypes.{HexapodTypes}

-- a foot or null, and six of them
abbrev pub OptionalFoot : Type 0
OptionalFoot = Option Foot

abbrev pub OptionalLegPositions : Type 0
OptionalLegPositions = HexapodTypes OptionalFoot

-- one leg of a pose, and the pose of six
abbrev pub leg_of : OptionalLegPositions → Leg → OptionalFoot
leg_of p l = at p l

abbrev pub six_legs : (Leg → OptionalFoot) → OptionalLegPositions
six_legs g = six g

abbrev pub foot_mark : OptionalFoot → ℕ
foot_mark (Some f) = choose f.lifted 2 1
foot_mark None = 0

abbrev pub foot_values : OptionalFoot → List Float
foot_values (Some f) = coordinates f.point
foot_values None = []

unfoldable pub given_pose : OptionalLegPositions → Told
given_pose p = given (row (λ l. foot_mark (leg_of p l))) (values foot_values (row (leg_of p)))

abbrev pub told : Result OptionalLegPositions Refusal → Told
told r = told_by given_pose r

abbrev pub given_length : ℕ → Told
given_length n = given (n ∷ []) []

abbrev pub told_written : Result ℕ Refusal → Told
told_written r = told_by given_length r
