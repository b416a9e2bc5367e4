-- Document 01, "Joints": the joint angles of six feet. Formulas, order of operations and of legs, and names as in the source, over our four
-- functions and root.
use Rattle.std.specs.Prelude.{ℕ, Bool, ◌&&◌, [], ◌∷◌, from_bits}
use Rattle.std.specs.Prelude.{Float}
use Rattle.std.specs.Float.{binary32}
use Rattle.std.specs.Float.Ieee.{add, sub, mul, div, neg, le}
use Rattle.numbers.specs.Told.{Told, answer}
use Rattle.numbers.specs.Door.{unless, when, first_of}
use Rattle.numbers.specs.Limits.{foot_limit}
use Rattle.numbers.specs.Finite.{magnitude, lesser, greater}
use Rattle.roots.specs.Root.{square_root}
use Rattle.arcs.specs.How.{arc_cosine, atan2}
use Rattle.legs.specs.Legs.{Leg, row, foot, joints, finite_feet, permitted_feet}
use Rattle.legs.specs.Vectors.{minus}
use Rattle.legs.specs.declared.Point.{Point}
use Rattle.legs.specs.Legs.{Feet}
use Rattle.legs.specs.declared.LegAngles.{LegAngles}
use Rattle.legs.specs.Legs.{Joints}
use Rattle.joints.specs.Configured.{leg, finite_configuration, permitted_configuration}
use Rattle.joints.specs.Degrees.{ninety, minus_ninety, one_fifty}
use Rattle.joints.specs.Answers.{given_joints, first_leg}
use Rattle.joints.specs.declared.configuration.Body.{Body}
use Rattle.joints.specs.declared.configuration.LegConfiguration.{LegConfiguration}
use Rattle.joints.specs.declared.configuration.Configuration.{Configuration}

abbrev pub square : Float → Float
square x = mul binary32 x x

-- 1, 2 and -1 by their bits
abbrev pub one : Float
one = from_bits binary32 1065353216

abbrev pub two : Float
two = from_bits binary32 1073741824

abbrev pub minus_one : Float
minus_one = neg one

-- from the coxa's place to the target
abbrev pub relative_vector : Point → LegConfiguration → Point
relative_vector target l = minus target l.position

-- a leg's computed coxa angle, the source's `target_angle`
unfoldable pub coxa_angle : Point → LegConfiguration → Float
coxa_angle target l = let v = relative_vector target l in add binary32 (atan2 v.y v.x) l.angle_offset

-- how far the foot at v is from the end of its coxa: sideways, and straight
unfoldable pub horizontal_distance : Point → Float → Float
horizontal_distance v coxa_length = sub binary32 (square_root (add binary32 (square v.x) (square v.y))) coxa_length

unfoldable pub distance : Point → Float → Float
distance v coxa_length = square_root (add binary32 (square (horizontal_distance v coxa_length)) (square v.z))

-- the law of cosines; a NaN quotient becomes 1, since `min` drops NaN; out-of-reach quotients are cut to -1 or 1
unfoldable pub quotient : Float → Float → Float → Float
quotient a b c =
    div binary32 (sub binary32 (add binary32 (square b) (square c)) (square a)) (mul binary32 (mul binary32 two b) c)

unfoldable pub cut : Float → Float
cut q = greater minus_one (lesser one q)

unfoldable pub get_alpha_angle : Float → Float → Float → Float
get_alpha_angle a b c = arc_cosine (cut (quotient a b c))

-- what a motor is told, for an angle in the leg
unfoldable pub corrected : Float → Float → Float → Float
corrected correction offset angle = magnitude (add binary32 (add binary32 correction offset) angle)

-- the three motors' angles, from the coxa's angle, how far the foot is from the coxa's end, sideways and straight, and how high
unfoldable pub motor_angles : Float → Float → Float → Float → Body → LegConfiguration → LegAngles
motor_angles target_angle sideways straight height b l =
    let angle_by_tibia = get_alpha_angle straight b.femur_length b.tibia_length in
    let angle_by_femur = get_alpha_angle b.tibia_length b.femur_length straight in
    let ground_target_angle = atan2 sideways (neg height) in
    record {
      coxa = add binary32 one_fifty target_angle;
      femur = corrected l.femur_correction b.femur_offset (add binary32 angle_by_femur ground_target_angle);
      tibia = corrected l.tibia_correction b.tibia_offset angle_by_tibia;
    }

-- one leg: its foot, its own configuration and the body settle its angles
unfoldable pub leg_angles : Point → Body → LegConfiguration → LegAngles
leg_angles target b l =
    let v = relative_vector target l in
    motor_angles (coxa_angle target l) (horizontal_distance v b.coxa_length) (distance v b.coxa_length) v.z b l

-- at or past 90 degrees, either way
abbrev pub past_positive : Float → Bool
past_positive a = le ninety a

abbrev pub past_negative : Float → Bool
past_negative a = le a minus_ninety

-- 1: a float is NaN or infinite; 2: one is outside the table
unfoldable pub ik_refusal : Feet → Configuration → ℕ
ik_refusal f c =
    first_of
    (unless (finite_feet f && finite_configuration c) 1
    ∷ unless (permitted_feet foot_limit f && permitted_configuration c) 2
    ∷ [])

-- Request K2: "Refusal 6 shall mean 90 degrees or more, and a new number the other side"; "8 for -90 degrees or less". Of a coxa at this
-- angle; 0 where it is short of both
unfoldable pub past_refusal : Float → ℕ
past_refusal a = first_of (when (past_positive a) 6 ∷ when (past_negative a) 8 ∷ [])

-- by leg: its computed coxa angle, and its refusal
abbrev pub coxa_of : Feet → Configuration → Leg → Float
coxa_of f c l = coxa_angle (foot f l) (leg c l)

abbrev pub side_refusal : Feet → Configuration → Leg → ℕ
side_refusal f c l = past_refusal (coxa_of f c l)

-- the angles of all six
abbrev pub all_angles : Feet → Configuration → Joints
all_angles f c = joints (λ l. leg_angles (foot f l) c.body (leg c l))

-- "the first failing leg in the source's order still answers", so "leg order first"; else eighteen angles
unfoldable pub legs_told : Feet → Configuration → Told
legs_told f c = first_leg (row (side_refusal f c)) 0 (given_joints (all_angles f c))

-- the door first
unfoldable pub ik_told : Feet → Configuration → Told
ik_told f c = answer (ik_refusal f c) (legs_told f c)
