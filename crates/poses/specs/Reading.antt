-- Request K7, reading: what the members of a text say. "Refusals: 13 first, for text that is no object of names with such values; then .. 2
-- for the f32 coordinates, .. 14 for a name missing, unknown or twice."
use Rattle.std.specs.Prelude.{ℕ, ◌+◌, Bool, true, false, ◌&&◌, List, [], ◌∷◌, ◌==◌, nat_eq, nat_lt}
use Rattle.std.specs.Prelude.{Float}
use Rattle.numbers.specs.Told.{Told, refused, choose, mark, answer}
use Rattle.numbers.specs.Door.{unless, first_of}
use Rattle.numbers.specs.Limits.{foot_limit}
use Rattle.legs.specs.Legs.{Leg, every, permitted_point}
use Rattle.legs.specs.declared.Point.{Point}
use Rattle.std.specs.Prelude.{Some, None}
use Rattle.poses.specs.Answers.{OptionalFoot, OptionalLegPositions}
use Rattle.poses.specs.Decimals.{read_as}
use Rattle.poses.specs.Json.{Number, Value, null, three, Member}
use Rattle.poses.specs.Names.{number, leg_named}
use Rattle.poses.specs.Answers.{six_legs, given_pose}
use Rattle.poses.specs.How.{Reading, derived, underived, reading}

-- ---- a value: the point of three numbers, each read to the nearest f32
abbrev pub read_number : Number → Float
read_number x = read_as x.minus x.parts

abbrev pub point_of : Number → Number → Number → Point
point_of x y z = record { x = read_number x; y = read_number y; z = read_number z }

-- "JSON poses read as standing"
abbrev pub foot_of : Value → OptionalFoot
foot_of null = None
foot_of (three x y z) = Some (record { point = point_of x y z; lifted = false })

-- ---- 2: a number, rounded, is outside -4 to 4, under whatever name
abbrev pub inside : Value → Bool
inside null = true
inside (three x y z) = permitted_point foot_limit (point_of x y z)

unfoldable pub all_inside : List Member → Bool
all_inside [] = true
all_inside (m ∷ ms) = inside m.value && all_inside ms

-- ---- 14: the names are not the six, each once
abbrev pub leg_of_member : Member → ℕ
leg_of_member m = leg_named m.name

unfoldable pub times : ℕ → List Member → ℕ
times k [] = 0
times k (m ∷ ms) = mark (leg_of_member m == k) + times k ms

unfoldable pub all_known : List Member → Bool
all_known [] = true
all_known (m ∷ ms) = nat_lt (leg_of_member m) 6 && all_known ms

abbrev pub each_once : List Member → Bool
each_once ms = all_known ms && every (λ l. nat_eq (times (number l) ms) 1)

-- ---- the value of a leg: that of the member which has its name
unfoldable pub value_from : Value → ℕ → List Member → Value
value_from v k [] = v
value_from v k (m ∷ ms) = value_from (choose (leg_of_member m == k) m.value v) k ms

abbrev pub value_for : Leg → List Member → Value
value_for l ms = value_from null (number l) ms

abbrev pub pose_of : List Member → OptionalLegPositions
pose_of ms = six_legs (λ l. foot_of (value_for l ms))

abbrev pub members_refused : List Member → ℕ
members_refused ms = first_of (unless (all_inside ms) 2 ∷ unless (each_once ms) 14 ∷ [])

unfoldable pub read_told : Reading → Told
read_told underived = refused 13
read_told (derived ms) = answer (members_refused ms) (given_pose (pose_of ms))

abbrev pub from_json_told : List ℕ → Told
from_json_told s = read_told (reading s)
