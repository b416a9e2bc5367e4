-- Document 01, "Joints": where the six feet stand at given motor angles. Formulas and order of operations as in the source, over our sine
-- and cosine.
use Rattle.std.specs.Prelude.{ℕ, false, ◌&&◌, [], ◌∷◌, from_bits}
use Rattle.std.specs.Prelude.{Float}
use Rattle.std.specs.Float.{binary32}
use Rattle.std.specs.Float.Ieee.{add, sub, mul, neg}
use Rattle.numbers.specs.Told.{Told, answer}
use Rattle.numbers.specs.Door.{unless, first_of}
use Rattle.numbers.specs.Finite.{magnitude}
use Rattle.sines.specs.How.{sine, cosine}
use Rattle.legs.specs.Legs.{angles, six_points, marked}
use Rattle.legs.specs.Vectors.{plus}
use Rattle.legs.specs.Answers.{given_feet}
use Rattle.legs.specs.declared.Point.{Point}
use Rattle.legs.specs.Legs.{Points}
use Rattle.legs.specs.Legs.{Feet}
use Rattle.legs.specs.declared.LegAngles.{LegAngles}
use Rattle.legs.specs.Legs.{Joints}
use Rattle.joints.specs.Configured.{leg, finite_configuration, permitted_configuration, finite_joints, permitted_joints}
use Rattle.joints.specs.Degrees.{ninety, one_fifty}
use Rattle.joints.specs.declared.configuration.Body.{Body}
use Rattle.joints.specs.declared.configuration.LegConfiguration.{LegConfiguration}
use Rattle.joints.specs.declared.configuration.Configuration.{Configuration}

-- the angle in the leg, for what its motor says
unfoldable pub from_motor : Float → Float → Float → Float
from_motor motor correction offset = magnitude (sub binary32 motor (magnitude (add binary32 correction offset)))

-- the angles whose sine and cosine are taken: of the coxa, and of the femur and the tibia in the leg's own plane
unfoldable pub base_angle : LegAngles → LegConfiguration → Float
base_angle m l = sub binary32 (sub binary32 m.coxa one_fifty) l.angle_offset

unfoldable pub femur_turn : LegAngles → Body → LegConfiguration → Float
femur_turn m b l = sub binary32 (from_motor m.femur l.femur_correction b.femur_offset) ninety

unfoldable pub tibia_turn : LegAngles → Body → LegConfiguration → Float
tibia_turn m b l =
    sub binary32 (from_motor m.tibia l.tibia_correction b.tibia_offset) (sub binary32 ninety (femur_turn m b l))

-- the coxa, the femur and the tibia as vectors, of a leg that points along base
abbrev pub coxa_vector : Float → Float → Point
coxa_vector base length =
    record {
      x = mul binary32 (cosine base) length;
      y = mul binary32 (sine base) length;
      z = mul binary32 (from_bits binary32 0) length;
    }

abbrev pub femur_vector : Float → Float → Float → Point
femur_vector base turn length =
    record {
      x = mul binary32 (cosine base) (mul binary32 (cosine turn) length);
      y = mul binary32 (sine base) (mul binary32 (cosine turn) length);
      z = mul binary32 (sine turn) length;
    }

abbrev pub tibia_vector : Float → Float → Float → Point
tibia_vector base turn length =
    record {
      x = mul binary32 (cosine base) (mul binary32 (sine turn) length);
      y = mul binary32 (sine base) (mul binary32 (sine turn) length);
      z = neg (mul binary32 (cosine turn) length);
    }

-- the coxa's place and the three vectors, summed in that order
unfoldable pub standing : LegAngles → Body → LegConfiguration → Point
standing m b l =
    plus
    (plus
    (plus l.position (coxa_vector (base_angle m l) b.coxa_length))
    (femur_vector (base_angle m l) (femur_turn m b l) b.femur_length))
    (tibia_vector (base_angle m l) (tibia_turn m b l) b.tibia_length)

unfoldable pub standing_points : Joints → Configuration → Points
standing_points j c = six_points (λ l. standing (angles j l) c.body (leg c l))

-- none is lifted, for motors say nothing of lifting (request K12)
abbrev pub standing_feet : Joints → Configuration → Feet
standing_feet j c = marked (λ l. false) (standing_points j c)

-- 1: a float is NaN or infinite; 2: one is outside the table
unfoldable pub fk_refusal : Joints → Configuration → ℕ
fk_refusal j c =
    first_of
    (unless (finite_joints j && finite_configuration c) 1
    ∷ unless (permitted_joints j && permitted_configuration c) 2
    ∷ [])

unfoldable pub fk_told : Joints → Configuration → Told
fk_told j c = answer (fk_refusal j c) (given_feet (standing_feet j c))
