-- A configuration by leg, and document 01's rows for its floats and for motor angles.
use Rattle.std.specs.Prelude.{Bool, ◌&&◌}
use Rattle.numbers.specs.Door.{finite, permits}
use Rattle.numbers.specs.Limits.{foot_limit, rotation, correction, offset, leg_length, motor_angle}
use Rattle.legs.specs.Legs.{Leg, Joints, at, angles, every, finite_point, permitted_point}
use Rattle.legs.specs.declared.LegAngles.{LegAngles}
use Rattle.joints.specs.declared.configuration.Body.{Body}
use Rattle.joints.specs.declared.configuration.LegConfiguration.{LegConfiguration}
use Rattle.joints.specs.declared.configuration.Configuration.{Configuration}

-- what is a leg's own
abbrev pub leg : Configuration → Leg → LegConfiguration
leg c l = at c.legs l

-- coxa coordinates, coxa angle offset, femur and tibia correction
unfoldable pub finite_leg : LegConfiguration → Bool
finite_leg l = finite_point l.position && finite l.angle_offset && finite l.femur_correction && finite l.tibia_correction

unfoldable pub permitted_leg : LegConfiguration → Bool
permitted_leg l =
    permitted_point foot_limit l.position
    && permits rotation l.angle_offset
    && permits correction l.femur_correction
    && permits correction l.tibia_correction

-- three leg lengths, femur and tibia offset
unfoldable pub finite_body : Body → Bool
finite_body b =
    finite b.coxa_length
    && finite b.femur_length
    && finite b.tibia_length
    && finite b.femur_offset
    && finite b.tibia_offset

unfoldable pub permitted_body : Body → Bool
permitted_body b =
    permits leg_length b.coxa_length
    && permits leg_length b.femur_length
    && permits leg_length b.tibia_length
    && permits offset b.femur_offset
    && permits offset b.tibia_offset

unfoldable pub finite_configuration : Configuration → Bool
finite_configuration c = every (λ l. finite_leg (leg c l)) && finite_body c.body

unfoldable pub permitted_configuration : Configuration → Bool
permitted_configuration c = every (λ l. permitted_leg (leg c l)) && permitted_body c.body

-- motor angles given to forward kinematics
unfoldable pub finite_angles : LegAngles → Bool
finite_angles a = finite a.coxa && finite a.femur && finite a.tibia

unfoldable pub permitted_angles : LegAngles → Bool
permitted_angles a = permits motor_angle a.coxa && permits motor_angle a.femur && permits motor_angle a.tibia

abbrev pub finite_joints : Joints → Bool
finite_joints j = every (λ l. finite_angles (angles j l))

abbrev pub permitted_joints : Joints → Bool
permitted_joints j = every (λ l. permitted_angles (angles j l))
