-- No number passes a limit inside: where the door lets feet or motor angles through, every argument that a leg's solver hands to the root,
-- atan2, arc cosine, sine and cosine is within document 01's row for it, and what the strict solver compares is at most 15 m.
use Rattle.std.specs.Prelude.{◌≡◌, Bool, true, false, ◌&&◌, T, pos}
use mathlib.Core.Path.{refl}
use lib.Dec.{lit≤, lit<}
use lib.Ieee.{Float, fin, binary32, of_bits, add, sub, neg, lt, eq, le, fits}
use lib.Ieee.Fits.{and_l, and_r, and_i}
use Rattle.numbers.specs.Told.{choose}
use Rattle.numbers.specs.Door.{permits}
use Rattle.numbers.specs.Finite.{lesser}
use Rattle.numbers.specs.Limits as rows
use Rattle.units.specs.Units.{mag, hi, lo}
use Rattle.legs.specs.Legs.{Leg, every, foot, angles, permitted_point, finite_feet, permitted_feet}
use Rattle.legs.specs.Vectors.{minus}
use Rattle.bounds.specs.Between.{Between, HeldPoint, HeldFeet, PointBounds}
use Rattle.bounds.proofs.Between.{wider, sum_between, difference_between, square_between, magnitude_between, flip_between, root_between}
use Rattle.bounds.proofs.Between.{difference_below_sum}
use Rattle.bounds.proofs.Rows.{at_rotation, at_correction, at_offset, at_length, at_motor, point_bounds}
use Rattle.legs.proofs.Laws.{each_of_every}
use Rattle.numbers.proofs.OnePass.{none_refused}
use Rattle.bounds.proofs.Rows.{sine_row, atan2_row, root_row}
use Rattle.legs.specs.declared.Point.{Point}
use Rattle.legs.specs.Legs.{Feet}
use Rattle.legs.specs.declared.LegAngles.{LegAngles}
use Rattle.legs.specs.Legs.{Joints}
use Rattle.joints.specs.Configured.{leg, permitted_leg, permitted_body, permitted_angles}
use Rattle.joints.specs.Configured.{finite_configuration, permitted_configuration, finite_joints, permitted_joints}
use Rattle.joints.specs.Degrees.{ninety, one_fifty}
use Rattle.joints.specs.Inverse.{square, one, minus_one, relative_vector, horizontal_distance, distance, cut, ik_refusal}
use Rattle.joints.specs.Strict.{farthest, nearest}
use Rattle.joints.specs.Forward.{from_motor, base_angle, femur_turn, tibia_turn, fk_refusal}
use Rattle.joints.specs.declared.configuration.Body.{Body}
use Rattle.joints.specs.declared.configuration.LegConfiguration.{LegConfiguration}
use Rattle.joints.specs.declared.configuration.Configuration.{Configuration}

-- ---- the floats of a record are f32
pub record HeldLeg (l : LegConfiguration) : Type 0 where
  pub position : HeldPoint l.position
  pub angle : T (fits binary32 l.angle_offset)
  pub femur : T (fits binary32 l.femur_correction)
  pub tibia : T (fits binary32 l.tibia_correction)

pub record HeldBody (b : Body) : Type 0 where
  pub coxa : T (fits binary32 b.coxa_length)
  pub femur_length : T (fits binary32 b.femur_length)
  pub tibia_length : T (fits binary32 b.tibia_length)
  pub femur : T (fits binary32 b.femur_offset)
  pub tibia : T (fits binary32 b.tibia_offset)

pub record HeldAngles (a : LegAngles) : Type 0 where
  pub coxa : T (fits binary32 a.coxa)
  pub femur : T (fits binary32 a.femur)
  pub tibia : T (fits binary32 a.tibia)

pub record HeldConfiguration (c : Configuration) : Type 0 where
  pub body : HeldBody c.body
  pub legs : (l : Leg) → HeldLeg (leg c l)

-- ---- the bounds of what is permitted, in whole metres and radians, and of the constants
ninety_between : Between 0 2 ninety
unfolding ninety of_bits fits hi lo
ninety_between = record { held = tt; ok = (refl, refl); low = lit≤ tt; high = lit≤ tt }

pub one_fifty_between : Between 0 3 one_fifty
unfolding one_fifty of_bits fits hi lo
one_fifty_between = record { held = tt; ok = (refl, refl); low = lit≤ tt; high = lit≤ tt }

-- ---- the same of records
pub record LegBounds (l : LegConfiguration) : Type 0 where
  pub position : PointBounds 4 l.position
  pub angle : Between 4 4 l.angle_offset
  pub femur : Between 6 6 l.femur_correction
  pub tibia : Between 6 6 l.tibia_correction

leg_bounds : (l : LegConfiguration) → HeldLeg l → T (permitted_leg l) → LegBounds l
unfolding permitted_leg
leg_bounds l H h =
    let p = permitted_point rows.foot_limit l.position in
    let a = permits rows.rotation l.angle_offset in
    let f = permits rows.correction l.femur_correction in
    let t = permits rows.correction l.tibia_correction in
    let paf = and_l (p && a && f) t h in
    let pa = and_l (p && a) f paf in
    record {
      position = point_bounds l.position H.position (and_l p a pa);
      angle = at_rotation l.angle_offset H.angle (and_r p a pa);
      femur = at_correction l.femur_correction H.femur (and_r (p && a) f paf);
      tibia = at_correction l.tibia_correction H.tibia (and_r (p && a && f) t h);
    }

pub record BodyBounds (b : Body) : Type 0 where
  pub coxa : Between 0 1 b.coxa_length
  pub femur_length : Between 0 1 b.femur_length
  pub tibia_length : Between 0 1 b.tibia_length
  pub femur : Between 2 2 b.femur_offset
  pub tibia : Between 2 2 b.tibia_offset

body_bounds : (b : Body) → HeldBody b → T (permitted_body b) → BodyBounds b
unfolding permitted_body
body_bounds b H h =
    let c = permits rows.leg_length b.coxa_length in
    let f = permits rows.leg_length b.femur_length in
    let t = permits rows.leg_length b.tibia_length in
    let i = permits rows.offset b.femur_offset in
    let j = permits rows.offset b.tibia_offset in
    let cfti = and_l (c && f && t && i) j h in
    let cft = and_l (c && f && t) i cfti in
    let cf = and_l (c && f) t cft in
    record {
      coxa = at_length b.coxa_length H.coxa (and_l c f cf);
      femur_length = at_length b.femur_length H.femur_length (and_r c f cf);
      tibia_length = at_length b.tibia_length H.tibia_length (and_r (c && f) t cft);
      femur = at_offset b.femur_offset H.femur (and_r (c && f && t) i cfti);
      tibia = at_offset b.tibia_offset H.tibia (and_r (c && f && t && i) j h);
    }

record AngleBounds (a : LegAngles) : Type 0 where
  coxa : Between 0 8 a.coxa
  femur : Between 0 8 a.femur
  tibia : Between 0 8 a.tibia

angle_bounds : (a : LegAngles) → HeldAngles a → T (permitted_angles a) → AngleBounds a
unfolding permitted_angles
angle_bounds a H h =
    let c = permits rows.motor_angle a.coxa in
    let f = permits rows.motor_angle a.femur in
    let t = permits rows.motor_angle a.tibia in
    let cf = and_l (c && f) t h in
    record {
      coxa = at_motor a.coxa H.coxa (and_l c f cf);
      femur = at_motor a.femur H.femur (and_r c f cf);
      tibia = at_motor a.tibia H.tibia (and_r (c && f) t h);
    }

-- ---- inverse kinematics: every argument of one leg
pub record IkArguments (target : Point) (b : Body) (l : LegConfiguration) : Type 0 where
  pub coxa_y : T (permits rows.atan2_argument (relative_vector target l).y)
  pub coxa_x : T (permits rows.atan2_argument (relative_vector target l).x)
  pub sideways : T (permits rows.root_argument (add binary32 (square (relative_vector target l).x) (square (relative_vector target l).y)))
  pub straight :
      T
      (permits rows.root_argument
      (add binary32 (square (horizontal_distance (relative_vector target l) b.coxa_length)) (square (relative_vector target l).z)))
  pub ground_y : T (permits rows.atan2_argument (horizontal_distance (relative_vector target l) b.coxa_length))
  pub ground_x : T (permits rows.atan2_argument (neg (relative_vector target l).z))

-- the f32 12 and 15, which are at least the roots of 8² + 8² and of 12² + 8²
twelve : Float
twelve = fin false 3 (pos 2)

fifteen : Float
fifteen = fin false 15 (pos 0)

-- the foot lies at most 8 from its coxa in each coordinate, so at most 12 sideways and at most 15 straight
module _ (target : Point) (b : Body) (l : LegConfiguration) (P : PointBounds 4 target) (B : BodyBounds b) (L : LegBounds l) where
  along_x : Between 8 8 (relative_vector target l).x
  unfolding minus
  along_x = difference_between P.x L.position.x (lit< tt) (lit< tt)

  along_y : Between 8 8 (relative_vector target l).y
  unfolding minus
  along_y = difference_between P.y L.position.y (lit< tt) (lit< tt)

  along_z : Between 8 8 (relative_vector target l).z
  unfolding minus
  along_z = difference_between P.z L.position.z (lit< tt) (lit< tt)

  side : Between 0 128 (add binary32 (square (relative_vector target l).x) (square (relative_vector target l).y))
  side = sum_between (square_between along_x (lit< tt)) (square_between along_y (lit< tt)) (lit< tt) (lit< tt)

  sideways : Between 1 12 (horizontal_distance (relative_vector target l) b.coxa_length)
  unfolding horizontal_distance twelve mag fits
  sideways = difference_between (root_between side 12 twelve tt refl (lit≤ tt)) B.coxa (lit< tt) (lit< tt)

  far :
      Between 0 208
      (add binary32 (square (horizontal_distance (relative_vector target l) b.coxa_length)) (square (relative_vector target l).z))
  far =
      sum_between (square_between {k = 12} (wider sideways (lit≤ tt) (lit≤ tt)) (lit< tt)) (square_between along_z (lit< tt))
      (lit< tt) (lit< tt)

  straight : Between 0 15 (distance (relative_vector target l) b.coxa_length)
  unfolding distance fifteen mag fits
  straight = root_between far 15 fifteen tt refl (lit≤ tt)

  ik_arguments : IkArguments target b l
  ik_arguments =
      record {
        coxa_y = atan2_row along_y (lit≤ tt) (lit≤ tt);
        coxa_x = atan2_row along_x (lit≤ tt) (lit≤ tt);
        sideways = root_row side (lit≤ tt);
        straight = root_row far (lit≤ tt);
        ground_y = atan2_row sideways (lit≤ tt) (lit≤ tt);
        ground_x = atan2_row (flip_between along_z) (lit≤ tt) (lit≤ tt);
      }

-- and whatever the quotient, arc cosine is handed a number from -1 to 1
le_of_lt : (x y : Float) → lt x y ≡ true → T (le x y)
unfolding le
le_of_lt x y h = rw h tt

at_most_one : (q : Float) (t : Bool) → lt q one ≡ t → T (le (choose t q one) one)
unfolding le lt eq of_bits
at_most_one q true h = le_of_lt q one h
at_most_one q false h = tt

from_minus_one :
    (m : Float) (t : Bool)
    → lt minus_one m ≡ t
    → T (le m one)
    → T (permits rows.arc_cosine_argument (choose t m minus_one))
unfolding rows.arc_cosine_argument le lt eq of_bits neg
from_minus_one m true h u = and_i (le minus_one m) (le m one) (le_of_lt minus_one m h) u
from_minus_one m false h u = tt

pub cut_within : (q : Float) → T (permits rows.arc_cosine_argument (cut q))
unfolding cut
cut_within q = from_minus_one (lesser one q) (lt minus_one (lesser one q)) refl (at_most_one q (lt q one) refl)

-- ---- the strict solver: its arguments are those, and what it compares is far from overflow
pub record ReachNumbers (target : Point) (b : Body) (l : LegConfiguration) : Type 0 where
  pub straight : Between 0 15 (distance (relative_vector target l) b.coxa_length)
  pub sum : Between 0 2 (farthest b)
  pub difference : Between 1 1 (sub binary32 b.femur_length b.tibia_length)
  pub least : Between 0 1 (nearest b)
  pub apart : T (le (nearest b) (farthest b))

farthest_between : (b : Body) → BodyBounds b → Between 0 2 (farthest b)
unfolding farthest
farthest_between b B = sum_between B.femur_length B.tibia_length (lit< tt) (lit< tt)

difference_of_lengths : (b : Body) → BodyBounds b → Between 1 1 (sub binary32 b.femur_length b.tibia_length)
difference_of_lengths b B = difference_between B.femur_length B.tibia_length (lit< tt) (lit< tt)

nearest_between : (b : Body) → BodyBounds b → Between 0 1 (nearest b)
unfolding nearest
nearest_between b B = magnitude_between {k = 1} (difference_of_lengths b B)

-- no foot is both too far and too near: the lengths are not negative, so their difference is at most their sum, and rounding keeps order
apart : (b : Body) → BodyBounds b → T (le (nearest b) (farthest b))
unfolding nearest farthest
apart b B = difference_below_sum B.femur_length B.tibia_length (lit< tt)

pub reach_sides_apart : (b : Body) → HeldBody b → T (permitted_body b) → T (le (nearest b) (farthest b))
reach_sides_apart b H h = apart b (body_bounds b H h)

-- ---- forward kinematics: every argument of one leg
pub record FkArguments (m : LegAngles) (b : Body) (l : LegConfiguration) : Type 0 where
  pub base : T (permits rows.sine_argument (base_angle m l))
  pub femur : T (permits rows.sine_argument (femur_turn m b l))
  pub tibia : T (permits rows.sine_argument (tibia_turn m b l))

-- an angle in the leg lies from 0 to 8
from_motor_lem : {m c o : Float} → Between 0 8 m → Between 6 6 c → Between 2 2 o → Between 0 8 (from_motor m c o)
unfolding from_motor
from_motor_lem m c o =
    magnitude_between {k = 8}
    (difference_between m (magnitude_between {k = 8} (sum_between c o (lit< tt) (lit< tt))) (lit< tt) (lit< tt))

-- so the base's from -7 to 12, the femur's from -2 to 8 and the tibia's from -4 to 16
fk_arguments :
    (m : LegAngles) (b : Body) (l : LegConfiguration)
    → AngleBounds m
    → BodyBounds b
    → LegBounds l
    → FkArguments m b l
unfolding base_angle femur_turn tibia_turn
fk_arguments m b l M B L =
    let base = difference_between (difference_between M.coxa one_fifty_between (lit< tt) (lit< tt)) L.angle (lit< tt) (lit< tt) in
    let femur = difference_between (from_motor_lem M.femur L.femur B.femur) ninety_between (lit< tt) (lit< tt) in
    let rest = difference_between ninety_between femur (lit< tt) (lit< tt) in
    let tibia = difference_between (from_motor_lem M.tibia L.tibia B.tibia) rest (lit< tt) (lit< tt) in
    record {
      base = sine_row base (lit≤ tt) (lit≤ tt);
      femur = sine_row femur (lit≤ tt) (lit≤ tt);
      tibia = sine_row tibia (lit≤ tt) (lit≤ tt);
    }

-- ---- from the door: no refusal says that all is permitted, of each leg too
module _ (c : Configuration) (C : HeldConfiguration c) (h : T (permitted_configuration c)) where
  pub legs_bounds : (l : Leg) → LegBounds (leg c l)
  unfolding permitted_configuration
  legs_bounds l =
      let p : Leg → Bool = λ k. permitted_leg (leg c k) in
      leg_bounds (leg c l) (C.legs l) (each_of_every p (and_l (every p) (permitted_body c.body) h) l)

  pub shared_bounds : BodyBounds c.body
  unfolding permitted_configuration
  shared_bounds = body_bounds c.body C.body (and_r (every (λ l. permitted_leg (leg c l))) (permitted_body c.body) h)

module _ (f : Feet) (c : Configuration) (F : HeldFeet f) (C : HeldConfiguration c) (e : ik_refusal f c ≡ 0) where
  all_permitted : T (permitted_feet rows.foot_limit f && permitted_configuration c)
  unfolding ik_refusal
  all_permitted =
      none_refused (finite_feet f && finite_configuration c) (permitted_feet rows.foot_limit f && permitted_configuration c) e

  config_permitted : T (permitted_configuration c)
  config_permitted = and_r (permitted_feet rows.foot_limit f) (permitted_configuration c) all_permitted

  foot_bounds : (l : Leg) → PointBounds 4 (foot f l)
  foot_bounds l =
      point_bounds (foot f l) (F l)
      (each_of_every (λ k. permitted_point rows.foot_limit (foot f k))
      (and_l (permitted_feet rows.foot_limit f) (permitted_configuration c) all_permitted) l)

  pub ik_within : (l : Leg) → IkArguments (foot f l) c.body (leg c l)
  ik_within l =
      ik_arguments (foot f l) c.body (leg c l) (foot_bounds l) (shared_bounds c C config_permitted) (legs_bounds c C config_permitted l)

  pub strict_within : (l : Leg) → ReachNumbers (foot f l) c.body (leg c l)
  strict_within l =
      let B = shared_bounds c C config_permitted in
      record {
        straight = straight (foot f l) c.body (leg c l) (foot_bounds l) B (legs_bounds c C config_permitted l);
        sum = farthest_between c.body B;
        difference = difference_of_lengths c.body B;
        least = nearest_between c.body B;
        apart = apart c.body B;
      }

pub fk_within :
    (j : Joints) (c : Configuration)
    → ((l : Leg) → HeldAngles (angles j l))
    → HeldConfiguration c
    → fk_refusal j c ≡ 0
    → (l : Leg)
    → FkArguments (angles j l) c.body (leg c l)
unfolding fk_refusal
fk_within j c F C e l =
    let p = permitted_joints j in
    let h = none_refused (finite_joints j && finite_configuration c) (p && permitted_configuration c) e in
    let g = and_r p (permitted_configuration c) h in
    fk_arguments (angles j l) c.body (leg c l)
    (angle_bounds (angles j l) (F l) (each_of_every (λ k. permitted_angles (angles j k)) (and_l p (permitted_configuration c) h) l))
    (shared_bounds c C g)
    (legs_bounds c C g l)
