-- Request K4's cases, by computation: feet straight ahead of a coxa of 1/16 m, so that x - 1/16 m is the distance; all else as in
-- `Examples`.
use Rattle.std.specs.Prelude.{◌≡◌, ℕ}
use mathlib.Core.Path.{refl}
use lib.Ieee.{nan, of_bits, round, add, sub, mul, neg, lt, le, eq}
use Rattle.numbers.specs.Told.{refused}
use Rattle.numbers.specs.Door.{finite}
use Rattle.numbers.specs.Finite.{magnitude}
use Rattle.numbers.specs.Limits.{over, minus, foot_limit, leg_length, offset, correction, rotation}
use Rattle.roots.specs.Root.{square_root}
use Rattle.legs.specs.Legs.{finite_point, permitted_point}
use Rattle.legs.specs.Vectors as vectors
use Rattle.legs.specs.declared.Point.{Point}
use Rattle.legs.specs.Legs.{Feet}
use Rattle.arcs.proofs.Examples as angles
use Rattle.joints.specs.Configured.{finite_leg, permitted_leg, finite_body, permitted_body}
use Rattle.joints.specs.Configured.{finite_configuration, permitted_configuration}
use Rattle.joints.specs.Degrees.{ninety, minus_ninety}
use Rattle.joints.specs.Answers.{leg_refused}
use Rattle.joints.specs.Inverse.{horizontal_distance, distance, coxa_angle, ik_refusal, past_refusal}
use Rattle.joints.specs.Strict.{farthest, nearest, distance_refusal, strict_legs_told, strict_told}
use Rattle.joints.specs.declared.configuration.LegConfiguration.{LegConfiguration}
use Rattle.joints.specs.declared.configuration.Configuration.{Configuration}
use Rattle.joints.proofs.Examples.{bits, at, ahead, right_and_back, one_leg, crawler_of, crawler, six, solved}
use Rattle.joints.proofs.Examples.{angle_ahead, angle_right}

-- ---- feet
abbrev on_x : ℕ → Point
on_x x = at (bits x) (bits 0) (bits 0)

abbrev all_at : ℕ → Feet
all_at x = six (on_x x) (on_x x) (on_x x) (on_x x) (on_x x) (on_x x)

-- a femur of 1/4 m and a tibia of 1/8 m, and the other way round; a femur and a tibia whose sum is rounded up
abbrev longer_femur : Configuration
longer_femur = crawler_of (bits 0x3e80_0000) (bits 0x3e00_0000) one_leg one_leg

abbrev longer_tibia : Configuration
longer_tibia = crawler_of (bits 0x3e00_0000) (bits 0x3e80_0000) one_leg one_leg

abbrev rounded_up : Configuration
rounded_up = crawler_of (bits 0x3f7f_ffff) (bits 0x3b80_0000) one_leg one_leg

-- a leg whose tibia correction is no number, as right middle
abbrev no_number : LegConfiguration
no_number =
    record {
      position = at (bits 0) (bits 0) (bits 0);
      angle_offset = bits 0;
      femur_correction = bits 0;
      tibia_correction = nan;
    }

abbrev out_of_order : Configuration
out_of_order = crawler_of (bits 0x3e00_0000) (bits 0x3e00_0000) no_number one_leg

-- at the sum sideways, and 1/16 m up
abbrev up : Point
up = at (bits 0x3ea0_0000) (bits 0) (bits 0x3d80_0000)

-- ---- the angles of the coxas, all 0
angles_ahead :
    (coxa_angle (on_x 0x3ea0_0000) one_leg ≡ bits 0)
    × (coxa_angle (on_x 0x3ea0_0001) one_leg ≡ bits 0)
    × (coxa_angle (on_x 0x3d80_0000) one_leg ≡ bits 0)
    × (coxa_angle (on_x 0x3e40_0000) one_leg ≡ bits 0)
    × (coxa_angle (on_x 0x3e3f_ffff) one_leg ≡ bits 0)
    × (coxa_angle (on_x 0x3f88_8000) one_leg ≡ bits 0)
unfolding coxa_angle vectors.minus add sub of_bits round
angles_ahead = (
  rw (angles.at_the_ends).0 refl,
  rw (angles.at_the_ends).1 refl,
  rw (angles.at_the_ends).2 refl,
  rw (angles.at_the_ends).3 refl,
  rw (angles.at_the_ends).4 refl,
  rw (angles.at_the_ends).5 refl,
)

angle_up : coxa_angle up one_leg ≡ bits 0
unfolding coxa_angle vectors.minus add sub of_bits round
angle_up = rw (angles.at_the_ends).0 refl

-- ---- what is told
-- the request's table
pub reach_table :
    (strict_told (all_at 0x3ea0_0000) crawler ≡ solved (all_at 0x3ea0_0000) crawler)
    × (strict_told (six ahead ahead ahead ahead (on_x 0x3ea0_0001) ahead) crawler ≡ leg_refused 9 4)
    × (strict_told (all_at 0x3d80_0000) crawler ≡ solved (all_at 0x3d80_0000) crawler)
    × (strict_told (all_at 0x3e40_0000) longer_femur ≡ solved (all_at 0x3e40_0000) longer_femur)
    × (strict_told (six ahead ahead (on_x 0x3e3f_ffff) ahead ahead ahead) longer_femur ≡ leg_refused 10 2)
    × (strict_told (all_at 0x3f88_8000) rounded_up ≡ solved (all_at 0x3f88_8000) rounded_up)
unfolding strict_told strict_legs_told distance_refusal farthest nearest distance horizontal_distance vectors.minus square_root magnitude
    add sub mul neg ik_refusal past_refusal finite_configuration permitted_configuration finite_leg permitted_leg finite_body permitted_body
    finite_point permitted_point finite foot_limit leg_length offset correction rotation over minus round ninety minus_ninety of_bits lt le
    eq
reach_table = (
  rw angles_ahead.0 refl,
  rw (angle_ahead) (rw angles_ahead.1 refl),
  rw angles_ahead.2 refl,
  rw angles_ahead.3 refl,
  rw (angle_ahead) (rw angles_ahead.4 refl),
  rw angles_ahead.5 refl,
)

-- several faults at once: the door first, then a leg past its limit, then the legs in row order, whichever end they are past
pub reach_order :
    (strict_told (six (on_x 0x3ea0_0001) ahead ahead ahead ahead ahead) out_of_order ≡ refused 1)
    × (strict_told (six (on_x 0x3ea0_0001) ahead ahead ahead ahead right_and_back) crawler ≡ leg_refused 8 5)
    × (strict_told (six ahead (on_x 0x3e3f_ffff) ahead ahead (on_x 0x3f88_8000) ahead) longer_femur ≡ leg_refused 10 1)
    × (strict_told (six (on_x 0x3f88_8000) ahead ahead (on_x 0x3e3f_ffff) ahead ahead) longer_femur ≡ leg_refused 9 0)
unfolding strict_told strict_legs_told distance_refusal farthest nearest distance horizontal_distance vectors.minus square_root magnitude
    add sub mul neg ik_refusal past_refusal finite_configuration permitted_configuration finite_leg permitted_leg finite_body permitted_body
    finite_point permitted_point finite foot_limit leg_length offset correction rotation over minus round ninety minus_ninety of_bits lt le
    eq
reach_order = (
  refl,
  rw angles_ahead.1 (rw (angle_ahead) (rw (angle_right) refl)),
  rw (angle_ahead) (rw angles_ahead.4 (rw angles_ahead.5 refl)),
  rw (angle_ahead) (rw angles_ahead.4 (rw angles_ahead.5 refl)),
)

-- of our own: the tibia may be the longer one, and a foot may be too far because of its height
pub reach_besides :
    (strict_told (six ahead ahead ahead ahead ahead (on_x 0x3e3f_ffff)) longer_tibia ≡ leg_refused 10 5)
    × (strict_told (all_at 0x3e40_0000) longer_tibia ≡ solved (all_at 0x3e40_0000) longer_tibia)
    × (strict_told (six ahead ahead ahead up ahead ahead) crawler ≡ leg_refused 9 3)
unfolding strict_told strict_legs_told distance_refusal farthest nearest distance horizontal_distance vectors.minus square_root magnitude
    add sub mul neg ik_refusal past_refusal finite_configuration permitted_configuration finite_leg permitted_leg finite_body permitted_body
    finite_point permitted_point finite foot_limit leg_length offset correction rotation over minus round ninety minus_ninety of_bits lt le
    eq
reach_besides = (
  rw (angle_ahead) (rw angles_ahead.4 refl),
  rw angles_ahead.3 refl,
  rw (angle_ahead) (rw (angle_up) refl),
)
