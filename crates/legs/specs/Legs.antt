-- Document 01, "Feet and masks": "Leg order of a row is left front, right front, left middle, right middle, left rear, right rear."
-- What is said of six legs is said of `Leg` once: `six` makes six of a value for each leg and `at` reads one, `row` lists in row order,
-- `every` and `some` ask.
-- Request K12: "The foot record shall hold, besides its point, whether it is lifted." Of six feet `foot` reads a point, `lifted` a mark,
-- `whole` both; `points` are the six points, `marked` puts marks on them.
use Rattle.std.specs.Prelude.{Bool, true, false, ◌&&◌, ◌||◌, List, [], ◌∷◌, ◌++◌, from_bits, slice_index_or}
use Rattle.std.specs.Prelude.{Float}
use Rattle.std.specs.Float.{nan, binary32}
use Rattle.numbers.specs.Door.{finite, permits}
use Rattle.numbers.specs.declared.door.Limit.{Limit}
use Rattle.legs.specs.declared.Point.{Point}
use Rattle.legs.specs.declared.Foot.{Foot}
use Rattle.legs.specs.declared.LegAngles.{LegAngles}
use Rattle.legs.specs.declared.six.HexapodTypes.{HexapodTypes}

pub data Leg : Type 0 where
  left_front right_front left_middle right_middle left_rear right_rear : Leg

-- in row order
abbrev pub row : {A : Type 0} → (Leg → A) → List A
row g = g left_front ∷ g right_front ∷ g left_middle ∷ g right_middle ∷ g left_rear ∷ g right_rear ∷ []

-- whether all six pass, whether one of the six passes
abbrev pub every : (Leg → Bool) → Bool
every t = t left_front && t right_front && t left_middle && t right_middle && t left_rear && t right_rear

abbrev pub some : (Leg → Bool) → Bool
some t = t left_front || t right_front || t left_middle || t right_middle || t left_rear || t right_rear

-- that of one leg, and six of a value for each
abbrev pub at : {A : Type 0} → HexapodTypes A → Leg → A
at h left_front = h.left_front
at h right_front = h.right_front
at h left_middle = h.left_middle
at h right_middle = h.right_middle
at h left_rear = h.left_rear
at h right_rear = h.right_rear

abbrev pub six : {A : Type 0} → (Leg → A) → HexapodTypes A
six g =
    record {
      left_front = g left_front;
      left_middle = g left_middle;
      left_rear = g left_rear;
      right_front = g right_front;
      right_middle = g right_middle;
      right_rear = g right_rear;
    }

-- the six of a row; what stands for a place past its end is given
abbrev pub six_of_row : {A : Type 0} → A → List A → HexapodTypes A
six_of_row none as' =
    record {
      left_front = slice_index_or as' 0 none;
      left_middle = slice_index_or as' 2 none;
      left_rear = slice_index_or as' 4 none;
      right_front = slice_index_or as' 1 none;
      right_middle = slice_index_or as' 3 none;
      right_rear = slice_index_or as' 5 none;
    }

-- six points, six feet, eighteen angles
abbrev pub Points : Type 0
Points = HexapodTypes Point

abbrev pub Feet : Type 0
Feet = HexapodTypes Foot

abbrev pub Joints : Type 0
Joints = HexapodTypes LegAngles

abbrev pub point : Points → Leg → Point
point p l = at p l

abbrev pub six_points : (Leg → Point) → Points
six_points g = six g

-- the points of six feet, and one of them
abbrev pub points : Feet → Points
points f =
    record {
      left_front = f.left_front.point;
      left_middle = f.left_middle.point;
      left_rear = f.left_rear.point;
      right_front = f.right_front.point;
      right_middle = f.right_middle.point;
      right_rear = f.right_rear.point;
    }

abbrev pub foot : Feet → Leg → Point
foot f l = point (points f) l

-- whether a foot is lifted; it stands where it is not
abbrev pub lifted : Feet → Leg → Bool
lifted f left_front = f.left_front.lifted
lifted f right_front = f.right_front.lifted
lifted f left_middle = f.left_middle.lifted
lifted f right_middle = f.right_middle.lifted
lifted f left_rear = f.left_rear.lifted
lifted f right_rear = f.right_rear.lifted

-- one foot, point and mark together, and the record of six
abbrev pub whole : Feet → Leg → Foot
whole f l = record { point = foot f l; lifted = lifted f l }

abbrev pub feet : (Leg → Foot) → Feet
feet g = six g

-- six feet at these points, with these marks
abbrev pub marked : (Leg → Bool) → Points → Feet
marked b p = feet (λ l. record { point = point p l; lifted = b l })

-- the same for joint angles
abbrev pub angles : Joints → Leg → LegAngles
angles j l = at j l

abbrev pub joints : (Leg → LegAngles) → Joints
joints g = six g

abbrev pub origin : Point
origin = record { x = from_bits binary32 0; y = from_bits binary32 0; z = from_bits binary32 0 }

-- what a read past a row's end stands for; a row of six has none
abbrev pub nowhere : Foot
nowhere = record { point = record { x = nan; y = nan; z = nan }; lifted = false }

-- an unused place of a row
abbrev pub unused : Foot
unused = record { point = origin; lifted = false }

-- the feet of a row
abbrev pub from_row : List Foot → Feet
from_row ps = six_of_row nowhere ps

-- all three coordinates pass
unfoldable pub finite_point : Point → Bool
finite_point p = finite p.x && finite p.y && finite p.z

unfoldable pub permitted_point : Limit → Point → Bool
permitted_point l p = permits l p.x && permits l p.y && permits l p.z

-- all six points pass, and all six feet by theirs
abbrev pub finite_points : Points → Bool
finite_points p = every (λ l. finite_point (point p l))

abbrev pub permitted_points : Limit → Points → Bool
permitted_points limit p = every (λ l. permitted_point limit (point p l))

abbrev pub finite_feet : Feet → Bool
finite_feet f = every (λ l. finite_point (foot f l))

abbrev pub permitted_feet : Limit → Feet → Bool
permitted_feet limit f = every (λ l. permitted_point limit (foot f l))

-- the floats of a point, of an angle triple, and of a list of them
abbrev pub coordinates : Point → List Float
coordinates p = p.x ∷ p.y ∷ p.z ∷ []

abbrev pub joints_of : LegAngles → List Float
joints_of a = a.coxa ∷ a.femur ∷ a.tibia ∷ []

abbrev pub values : {A : Type 0} → (A → List Float) → List A → List Float
values g [] = []
values g (a ∷ as') = g a ++ values g as'
