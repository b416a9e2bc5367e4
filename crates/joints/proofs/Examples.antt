-- Request K2's cases, by computation: a coxa of 1/16 m, a femur and a tibia of 1/8 m, all else in the configuration 0. A foot ahead is
-- solved; one to the left and back is past 90 degrees, one to the right and back past -90. A leg turned by just the limit is past it.
use Rattle.std.specs.Prelude.{◌≡◌, ℕ, false}
use mathlib.Core.Path.{refl}
use lib.Ieee.{Float, nan, binary32, of_bits, round, add, sub, lt, le, eq}
use Rattle.numbers.specs.Told.{Told, refused}
use Rattle.numbers.specs.Door.{finite}
use Rattle.numbers.specs.Limits.{over, minus, foot_limit, leg_length, offset, correction, rotation}
use Rattle.legs.specs.Legs.{marked, finite_point, permitted_point}
use Rattle.legs.specs.Vectors as vectors
use Rattle.legs.specs.declared.Point.{Point}
use Rattle.legs.specs.Legs.{Feet}
use Rattle.arcs.proofs.Examples as angles
use Rattle.joints.specs.Configured.{finite_leg, permitted_leg, finite_body, permitted_body}
use Rattle.joints.specs.Configured.{finite_configuration, permitted_configuration}
use Rattle.joints.specs.Degrees.{ninety, minus_ninety}
use Rattle.joints.specs.Answers.{given_joints, leg_refused}
use Rattle.joints.specs.Inverse.{coxa_angle, all_angles, ik_refusal, past_refusal, ik_told}
use Rattle.joints.specs.declared.configuration.LegConfiguration.{LegConfiguration}
use Rattle.joints.specs.declared.configuration.Configuration.{Configuration}
use Rattle.joints.proofs.LegsTold.{told_in_order}

abbrev pub bits : ℕ → Float
bits = of_bits binary32

abbrev pub at : Float → Float → Float → Point
at x y z = record { x = x; y = y; z = z }

abbrev pub ahead : Point
ahead = at (bits 0x3e80_0000) (bits 0) (bits 0)

abbrev pub left_and_back : Point
left_and_back = at (bits 0xbe00_0000) (bits 0x3e80_0000) (bits 0)

abbrev pub right_and_back : Point
right_and_back = at (bits 0xbe00_0000) (bits 0xbe80_0000) (bits 0)

abbrev to_the_side : Point
to_the_side = at (bits 0) (bits 0x3f80_0000) (bits 0)

-- a leg turned by an angle
abbrev pub turned : Float → LegConfiguration
turned a =
    record {
      position = at (bits 0) (bits 0) (bits 0);
      angle_offset = a;
      femur_correction = bits 0;
      tibia_correction = bits 0;
    }

abbrev pub one_leg : LegConfiguration
one_leg = turned (bits 0)

-- a femur and a tibia of these lengths, and two legs of their own: right middle and left rear
abbrev pub crawler_of : Float → Float → LegConfiguration → LegConfiguration → Configuration
crawler_of femur tibia rm lr =
    record {
      body =
          record {
            coxa_length = bits 0x3d80_0000;
            femur_length = femur;
            tibia_length = tibia;
            femur_offset = bits 0;
            tibia_offset = bits 0;
          };
      legs =
          record {
            left_front = one_leg;
            left_middle = one_leg;
            left_rear = lr;
            right_front = one_leg;
            right_middle = rm;
            right_rear = one_leg;
          };
    }

abbrev left_rear_turned : Float → Configuration
left_rear_turned a = crawler_of (bits 0x3e00_0000) (bits 0x3e00_0000) one_leg (turned a)

abbrev pub crawler : Configuration
crawler = left_rear_turned (bits 0)

-- six feet in row order, all standing
abbrev pub six : Point → Point → Point → Point → Point → Point → Feet
six lf rf lm rm lr rr =
    marked (λ l. false)
    (record { left_front = lf; left_middle = lm; left_rear = lr; right_front = rf; right_middle = rm; right_rear = rr })

abbrev pub all_ahead : Feet
all_ahead = six ahead ahead ahead ahead ahead ahead

-- ---- the angles of the coxas
pub angle_ahead : coxa_angle ahead one_leg ≡ bits 0
unfolding coxa_angle vectors.minus sub add of_bits round
angle_ahead = rw (angles.straight_ahead) refl

angle_left : coxa_angle left_and_back one_leg ≡ bits 0x4002_3454
unfolding coxa_angle vectors.minus sub add of_bits round
angle_left = rw (angles.left_and_back) refl

pub angle_right : coxa_angle right_and_back one_leg ≡ bits 0xc002_3454
unfolding coxa_angle vectors.minus sub add of_bits round
angle_right = rw (angles.right_and_back) refl

angle_side : coxa_angle to_the_side one_leg ≡ bits 0x3fc9_0fda
unfolding coxa_angle vectors.minus sub add of_bits round
angle_side = rw (angles.straight_left) refl

angle_turned :
    (coxa_angle ahead (turned (bits 0x3fc9_0fdb)) ≡ bits 0x3fc9_0fdb)
    × (coxa_angle ahead (turned (bits 0xbfc9_0fdb)) ≡ bits 0xbfc9_0fdb)
    × (coxa_angle ahead (turned (bits 0x3fc9_0fda)) ≡ bits 0x3fc9_0fda)
    × (coxa_angle ahead (turned (bits 0xbfc9_0fda)) ≡ bits 0xbfc9_0fda)
unfolding coxa_angle vectors.minus sub add of_bits round
angle_turned = (
  rw (angles.straight_ahead) refl,
  rw (angles.straight_ahead) refl,
  rw (angles.straight_ahead) refl,
  rw (angles.straight_ahead) refl,
)

-- ---- what is told
abbrev pub solved : Feet → Configuration → Told
solved f c = given_joints (all_angles f c)

-- the request's table
pub table :
    (ik_told all_ahead crawler ≡ solved all_ahead crawler)
    × (ik_told (six ahead ahead ahead left_and_back ahead ahead) crawler ≡ leg_refused 6 3)
    × (ik_told (six right_and_back left_and_back ahead ahead ahead ahead) crawler ≡ leg_refused 8 0)
    × (ik_told (six ahead ahead right_and_back right_and_back right_and_back right_and_back) crawler ≡ leg_refused 8 2)
    × (ik_told (six right_and_back ahead ahead ahead ahead (at nan (bits 0) (bits 0))) crawler ≡ refused 1)
    × (ik_told (six right_and_back ahead ahead ahead ahead (at (bits 0x3e80_0000) (bits 0) (bits 0x4080_0001))) crawler ≡ refused 2)
unfolding ik_told ik_refusal past_refusal finite_configuration permitted_configuration finite_leg permitted_leg finite_body
    permitted_body
    finite_point permitted_point finite foot_limit leg_length offset correction rotation over minus round ninety minus_ninety of_bits lt le
    eq
table = (
  rw (told_in_order, angle_ahead) refl,
  rw (told_in_order, angle_ahead, angle_left) refl,
  rw (told_in_order, angle_ahead, angle_left, angle_right) refl,
  rw (told_in_order, angle_ahead, angle_right) refl,
  refl,
  refl,
)

-- of our own: at 90 degrees and at -90 a leg is refused; one ulp nearer to 0 it is solved, and so is a foot straight to the side, whose
-- angle is computed one ulp short
pub at_the_limit :
    (ik_told all_ahead (left_rear_turned (bits 0x3fc9_0fdb)) ≡ leg_refused 6 4)
    × (ik_told all_ahead (left_rear_turned (bits 0xbfc9_0fdb)) ≡ leg_refused 8 4)
    × (ik_told all_ahead (left_rear_turned (bits 0x3fc9_0fda)) ≡ solved all_ahead (left_rear_turned (bits 0x3fc9_0fda)))
    × (ik_told all_ahead (left_rear_turned (bits 0xbfc9_0fda)) ≡ solved all_ahead (left_rear_turned (bits 0xbfc9_0fda)))
    × (ik_told (six to_the_side ahead ahead ahead ahead ahead) crawler ≡ solved (six to_the_side ahead ahead ahead ahead ahead) crawler)
unfolding ik_told ik_refusal past_refusal finite_configuration permitted_configuration finite_leg permitted_leg finite_body
    permitted_body
    finite_point permitted_point finite foot_limit leg_length offset correction rotation over minus round ninety minus_ninety of_bits lt le
    eq
at_the_limit = (
  rw (told_in_order, angle_ahead, angle_turned.0) refl,
  rw (told_in_order, angle_ahead, angle_turned.1) refl,
  rw (told_in_order, angle_ahead, angle_turned.2) refl,
  rw (told_in_order, angle_ahead, angle_turned.3) refl,
  rw (told_in_order, angle_ahead, angle_side) refl,
)
