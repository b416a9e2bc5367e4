-- What is permitted is finite, so that one pass lets good feet, motor angles and configurations through.
use Rattle.std.specs.Prelude.{◌≡◌, true, ◌&&◌}
use mathlib.Core.Path.{refl}
use Rattle.numbers.specs.Door.{finite}
use Rattle.numbers.specs.Limits as rows
use Rattle.numbers.proofs.OnePass.{in_row, both}
use Rattle.legs.specs.Legs.{angles, finite_feet, permitted_feet}
use Rattle.legs.proofs.OnePass.{all_six, in_foot_row, in_feet_row}
use Rattle.legs.specs.Legs.{Feet}
use Rattle.legs.specs.declared.LegAngles.{LegAngles}
use Rattle.legs.specs.Legs.{Joints}
use Rattle.joints.specs.Configured.{leg, finite_leg, permitted_leg, finite_body, permitted_body, finite_angles, permitted_angles}
use Rattle.joints.specs.Configured.{finite_configuration, permitted_configuration, finite_joints, permitted_joints}
use Rattle.joints.specs.declared.configuration.Body.{Body}
use Rattle.joints.specs.declared.configuration.LegConfiguration.{LegConfiguration}
use Rattle.joints.specs.declared.configuration.Configuration.{Configuration}

-- ---- record by record, field by field; both ends of each row are finite
leg_finite : (l : LegConfiguration) → permitted_leg l ≡ true → finite_leg l ≡ true
unfolding permitted_leg finite_leg rows.rotation rows.correction finite
leg_finite l =
    both
    (both
    (both (in_foot_row l.position) (in_row rows.rotation (refl, refl) l.angle_offset))
    (in_row rows.correction (refl, refl) l.femur_correction))
    (in_row rows.correction (refl, refl) l.tibia_correction)

body_finite : (b : Body) → permitted_body b ≡ true → finite_body b ≡ true
unfolding permitted_body finite_body rows.leg_length rows.offset finite
body_finite b =
    both
    (both
    (both
    (both (in_row rows.leg_length (refl, refl) b.coxa_length) (in_row rows.leg_length (refl, refl) b.femur_length))
    (in_row rows.leg_length (refl, refl) b.tibia_length))
    (in_row rows.offset (refl, refl) b.femur_offset))
    (in_row rows.offset (refl, refl) b.tibia_offset)

angles_finite : (a : LegAngles) → permitted_angles a ≡ true → finite_angles a ≡ true
unfolding permitted_angles finite_angles rows.motor_angle finite
angles_finite a =
    both
    (both (in_row rows.motor_angle (refl, refl) a.coxa) (in_row rows.motor_angle (refl, refl) a.femur))
    (in_row rows.motor_angle (refl, refl) a.tibia)

pub configuration_finite : (c : Configuration) → permitted_configuration c ≡ true → finite_configuration c ≡ true
unfolding permitted_configuration finite_configuration
configuration_finite c =
    both
    (all_six (λ l. permitted_leg (leg c l)) (λ l. finite_leg (leg c l)) (λ l. leg_finite (leg c l)))
    (body_finite c.body)

-- ---- what the two doors ask
pub feet_and_configuration :
    (f : Feet) (c : Configuration)
    → (permitted_feet rows.foot_limit f && permitted_configuration c) ≡ true
    → (finite_feet f && finite_configuration c) ≡ true
feet_and_configuration f c = both (in_feet_row f) (configuration_finite c)

pub joints_and_configuration :
    (j : Joints) (c : Configuration)
    → (permitted_joints j && permitted_configuration c) ≡ true
    → (finite_joints j && finite_configuration c) ≡ true
joints_and_configuration j c =
    both
    (all_six (λ l. permitted_angles (angles j l)) (λ l. finite_angles (angles j l)) (λ l. angles_finite (angles j l)))
    (configuration_finite c)
