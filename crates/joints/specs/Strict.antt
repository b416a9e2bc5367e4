-- Request K4: "a strict solver beside the old one". "On anything it accepts it gives the old solver's joints to the bit, and whatever the
-- old one refuses it refuses alike."
use Rattle.std.specs.Prelude.{ℕ, [], ◌∷◌}
use Rattle.std.specs.Prelude.{Float}
use Rattle.std.specs.Float.{binary32}
use Rattle.std.specs.Float.Ieee.{add, sub, lt}
use Rattle.numbers.specs.Told.{Told, answer}
use Rattle.numbers.specs.Door.{when, first_of}
use Rattle.numbers.specs.Finite.{magnitude}
use Rattle.legs.specs.Legs.{Leg, row, foot}
use Rattle.legs.specs.Legs.{Feet}
use Rattle.joints.specs.Configured.{leg}
use Rattle.joints.specs.Answers.{given_joints, first_leg}
use Rattle.joints.specs.Inverse.{relative_vector, distance, ik_refusal, side_refusal, all_angles}
use Rattle.joints.specs.declared.configuration.Body.{Body}
use Rattle.joints.specs.declared.configuration.Configuration.{Configuration}

-- "the f32 sum of femur and tibia", "the magnitude of their f32 difference"
unfoldable pub farthest : Body → Float
farthest b = add binary32 b.femur_length b.tibia_length

unfoldable pub nearest : Body → Float
nearest b = magnitude (sub binary32 b.femur_length b.tibia_length)

-- "it refuses when the computed distance is above" the one "or below" the other: "9 too far, 10 too near"; at either it is within reach
unfoldable pub distance_refusal : Float → Float → Float → ℕ
distance_refusal d far near = first_of (when (lt far d) 9 ∷ when (lt d near) 10 ∷ [])

-- by leg: the computed distance, that of the old solver's triangle, and its refusal
abbrev pub distance_of : Feet → Configuration → Leg → Float
distance_of f c l = distance (relative_vector (foot f l) (leg c l)) c.body.coxa_length

abbrev pub reach_refusal : Feet → Configuration → Leg → ℕ
reach_refusal f c l = distance_refusal (distance_of f c l) (farthest c.body) (nearest c.body)

-- "decided and named by the first leg out of reach in row order, given only where the old solver accepts all six legs"
unfoldable pub strict_legs_told : Feet → Configuration → Told
strict_legs_told f c = first_leg (row (side_refusal f c)) 0 (first_leg (row (reach_refusal f c)) 0 (given_joints (all_angles f c)))

-- the door first, the old solver's
unfoldable pub strict_told : Feet → Configuration → Told
strict_told f c = answer (ik_refusal f c) (strict_legs_told f c)
