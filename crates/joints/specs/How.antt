-- How ours solves six legs, and nothing of document 01: all set out before one is solved, so that their roots are taken side by side; none
-- is solved where one is refused, and the core names the first such leg and its refusal. Both solvers set out and solve by the same. Where
-- six feet stand: all sines and cosines before the first point, side by side too.
use Rattle.std.specs.Prelude.{◌≡◌, ℕ, List, [], ◌∷◌, Float, Result}
use Rattle.numbers.specs.Refusals.{number_or_0}
use Rattle.numbers.specs.declared.refusal.Refusal.{Refusal}
use Rattle.sines.specs.How.{turn}
use Rattle.sines.specs.declared.unchecked.Turn.{Turn}
use Rattle.legs.specs.Legs.{Leg, left_front, right_front, left_middle, right_middle, left_rear, right_rear}
use Rattle.legs.specs.Legs.{Feet, Joints, row, at, six, foot, angles, joints}
use Rattle.legs.specs.declared.Point.{Point}
use Rattle.legs.specs.declared.LegAngles.{LegAngles}
use Rattle.legs.specs.declared.six.HexapodTypes.{HexapodTypes}
use Rattle.joints.specs.Configured.{leg}
use Rattle.joints.specs.Answers.{first_leg, nothing, told_test}
use Rattle.joints.specs.Inverse.{relative_vector, coxa_angle, horizontal_distance, distance, motor_angles, past_refusal}
use Rattle.joints.specs.Strict.{farthest, nearest, distance_refusal}
use Rattle.joints.specs.Forward.{base_angle, femur_turn, tibia_turn, standing}
use Rattle.joints.specs.declared.refusal.SolverRefusal.{SolverRefusal}
use Rattle.joints.specs.declared.configuration.Body.{Body}
use Rattle.joints.specs.declared.configuration.LegConfiguration.{LegConfiguration}
use Rattle.joints.specs.declared.configuration.Configuration.{Configuration}
use Rattle.joints.specs.declared.unchecked.Distances.{Distances}
use Rattle.joints.specs.declared.unchecked.Heading.{Heading}
use Rattle.joints.specs.declared.unchecked.Bends.{Bends}

-- ---- setting out
-- how far the foot at v is from the end of its coxa: sideways, and straight
abbrev pub distances : Point → Float → Distances
distances v coxa_length = record { horizontal = horizontal_distance v coxa_length; distance = distance v coxa_length }

-- from the coxa to the target, the coxa's angle, and how far the foot is
unfoldable pub heading : Point → Body → LegConfiguration → Heading
heading target b l =
    let v = relative_vector target l in
    record { relative_vector = v; target_angle = coxa_angle target l; distances = distances v b.coxa_length }

-- all six
abbrev pub Headings : Type 0
Headings = HexapodTypes Heading

unfoldable pub headings : Feet → Configuration → Headings
headings f c = six (λ l. heading (foot f l) c.body (leg c l))

-- ---- solving
-- the angles of a leg that has set out, and of all six
unfoldable pub solved_angles : Heading → Body → LegConfiguration → LegAngles
solved_angles h b l = motor_angles h.target_angle h.distances.horizontal h.distances.distance h.relative_vector.z b l

unfoldable pub all_solved : Headings → Configuration → Joints
all_solved h c = joints (λ l. solved_angles (at h l) c.body (leg c l))

-- ---- the first leg that is refused
-- of six legs that have set out, in row order: the refusals of those past their limit, and of those out of reach
unfoldable pub past_refusals : Headings → List ℕ
past_refusals h = row (λ l. past_refusal (at h l).target_angle)

unfoldable pub reach_refusals : Headings → Body → List ℕ
reach_refusals h b = row (λ l. distance_refusal (at h l).distances.distance (farthest b) (nearest b))

-- what a test says of six legs, by what it says of each
abbrev pub IsTestOf : {A B : Type 0} → (Heading → Result A Refusal → Type 0) → Headings → Result B SolverRefusal → Type 0
IsTestOf {A} Says h r =
    (n : Leg → ℕ)
    → ((l : Leg) (a : Result A Refusal) → Says (at h l) a → number_or_0 a ≡ n l)
    → told_test r ≡ first_leg (row n) 0 nothing

-- ---- forward kinematics: the angles whose sines and cosines are taken, of one leg, and of six, three each
unfoldable pub bends_of : LegAngles → Body → LegConfiguration → Bends
bends_of m b l = record { base = base_angle m l; femur = femur_turn m b l; tibia = tibia_turn m b l }

abbrev pub three : Bends → List Float → List Float
three t more = t.base ∷ t.femur ∷ t.tibia ∷ more

unfoldable pub all_bends : Joints → Configuration → List Float
all_bends j c =
    let of : Leg → Bends = λ l. bends_of (angles j l) c.body (leg c l) in
    three (of left_front)
    (three (of left_middle)
    (three (of left_rear)
    (three (of right_front)
    (three (of right_middle)
    (three (of right_rear) [])))))

-- at r stands the foot of a leg whose bends have these turns
abbrev pub Stands : Turn → Turn → Turn → Body → LegConfiguration → Point → Type 0
Stands base femur tibia b l r =
    (m : LegAngles)
    → base ≡ turn (base_angle m l)
    → femur ≡ turn (femur_turn m b l)
    → tibia ≡ turn (tibia_turn m b l)
    → r ≡ standing m b l
