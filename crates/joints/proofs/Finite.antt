-- Eighteen angles that `calculate_ik` gives are finite, whatever the feet: atan2 and arc cosine answer at most a half turn for any numbers,
-- and a permitted configuration adds at most 4 to the coxa's angle, at most 8 to femur's and tibia's.
use Rattle.std.specs.Prelude.{◌≡◌, true, ◌&&◌}
use mathlib.Core.Path.{ap, ◌∙◌}
use lib.Dec.{lit≤, lit<}
use lib.Ieee.{Float}
use lib.Ieee.Bits.{is_true}
use lib.Ieee.Fits.{and_i}
use Rattle.numbers.specs.Door.{finite}
use Rattle.units.proofs.Door.{holds}
use Rattle.arcs.specs.How.{atan2, arc_cosine}
use Rattle.arcs.proofs.Bounds.{AtMostP, pi_units, atan2_bounds, arc_cosine_bounds}
use Rattle.legs.specs.Legs.{foot, angles}
use Rattle.legs.specs.declared.Point.{Point}
use Rattle.legs.specs.Legs.{Feet}
use Rattle.legs.specs.declared.LegAngles.{LegAngles}
use Rattle.legs.specs.Legs.{Joints}
use Rattle.legs.proofs.OnePass.{every_true}
use Rattle.bounds.specs.Between.{Between}
use Rattle.bounds.proofs.Between.{between_finite, sum_between, magnitude_between, result_between}
use Rattle.joints.specs.Answers.{given_joints}
use Rattle.joints.specs.Configured.{leg, finite_angles, finite_joints}
use Rattle.joints.specs.Inverse.{quotient, cut, get_alpha_angle, coxa_angle, corrected, motor_angles, leg_angles, ik_told}
use Rattle.joints.specs.declared.configuration.Body.{Body}
use Rattle.joints.specs.declared.configuration.LegConfiguration.{LegConfiguration}
use Rattle.joints.specs.declared.configuration.Configuration.{Configuration}
use Rattle.joints.proofs.Within.{HeldConfiguration, LegBounds, BodyBounds, one_fifty_between, legs_bounds, shared_bounds}
use Rattle.joints.proofs.Laws.{solved_leg}
use Rattle.joints.proofs.Told.{ik_configuration_permitted}

-- ---- at most a half turn, so at most 4
half_turn : (r : Float) → AtMostP r → Between 4 4 r
half_turn r b = result_between 4 pi_units r b.held (lit≤ tt) b.units

atan2_between : (y x : Float) → Between 4 4 (atan2 y x)
atan2_between y x = half_turn (atan2 y x) (atan2_bounds y x)

alpha_between : (a b c : Float) → Between 4 4 (get_alpha_angle a b c)
unfolding get_alpha_angle
alpha_between a b c = half_turn (arc_cosine (cut (quotient a b c))) (arc_cosine_bounds (cut (quotient a b c)))

-- ---- the angles of one leg
record MotorBounds (a : LegAngles) : Type 0 where
  coxa : Between 8 11 a.coxa
  femur : Between 0 16 a.femur
  tibia : Between 0 12 a.tibia

coxa_between : (target : Point) (l : LegConfiguration) → LegBounds l → Between 8 8 (coxa_angle target l)
unfolding coxa_angle
coxa_between target l L = sum_between (atan2_between _ _) L.angle (lit< tt) (lit< tt)

motor_bounds :
    (coxa sideways straight height : Float) (b : Body) (l : LegConfiguration)
    → Between 8 8 coxa
    → BodyBounds b
    → LegBounds l
    → MotorBounds (motor_angles coxa sideways straight height b l)
unfolding motor_angles corrected
motor_bounds coxa sideways straight height b l A B L =
    let femur = sum_between L.femur B.femur (lit< tt) (lit< tt) in
    let tibia = sum_between L.tibia B.tibia (lit< tt) (lit< tt) in
    let by_femur = sum_between (alpha_between _ _ _) (atan2_between _ _) (lit< tt) (lit< tt) in
    record {
      coxa = sum_between one_fifty_between A (lit< tt) (lit< tt);
      femur = magnitude_between {k = 16} (sum_between femur by_femur (lit< tt) (lit< tt));
      tibia = magnitude_between {k = 12} (sum_between tibia (alpha_between _ _ _) (lit< tt) (lit< tt));
    }

leg_angles_bounds : (target : Point) (b : Body) (l : LegConfiguration) → BodyBounds b → LegBounds l → MotorBounds (leg_angles target b l)
unfolding leg_angles
leg_angles_bounds target b l B L = motor_bounds (coxa_angle target l) _ _ _ b l (coxa_between target l L) B L

angles_finite : (a : LegAngles) → MotorBounds a → finite_angles a ≡ true
unfolding finite_angles
angles_finite a b =
    is_true (finite a.coxa && finite a.femur && finite a.tibia)
    (and_i (finite a.coxa && finite a.femur) (finite a.tibia)
    (and_i (finite a.coxa) (finite a.femur) (between_finite b.coxa) (between_finite b.femur))
    (between_finite b.tibia))

-- ---- the eighteen
pub joints_finite : (f : Feet) (c : Configuration) → HeldConfiguration c → (j : Joints) → given_joints j ≡ ik_told f c →
    finite_joints j ≡ true
joints_finite f c C j e =
    let h = holds (ik_configuration_permitted f c j e) in
    every_true (λ l. finite_angles (angles j l))
    (λ l.
    ap finite_angles (solved_leg f c j e l)
    ∙ angles_finite (leg_angles (foot f l) c.body (leg c l))
    (leg_angles_bounds (foot f l) c.body (leg c l) (shared_bounds c C h) (legs_bounds c C h l)))
