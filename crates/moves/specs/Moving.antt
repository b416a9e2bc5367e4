-- Document 01, "Moving towards", with request K6: one step, of a point or a vector, and of six feet, which keep their marks (request K12).
use Rattle.std.specs.Prelude.{Bool, true, false}
use Rattle.std.specs.Prelude.{Float}
use Rattle.std.specs.Float.{binary32}
use Rattle.std.specs.Float.Ieee.{add, sub, mul, div, le}
use Rattle.numbers.specs.Told.{choose}
use Rattle.legs.specs.Legs.{Leg}
use Rattle.legs.specs.Legs.{some, point, six_points, points, lifted, marked}
use Rattle.legs.specs.declared.Point.{Point}
use Rattle.legs.specs.Legs.{Points}
use Rattle.legs.specs.Legs.{Feet}
use Rattle.moves.specs.Distance.{same, distance}
use Rattle.moves.specs.declared.Step.{Step}
use Rattle.moves.specs.declared.Step.TheVariants.{Moved, Arrived}

-- a step of a point or a vector, of six points, of six feet
abbrev pub MoveStep : Type 0
MoveStep = Step Point

abbrev pub PointsStep : Type 0
PointsStep = Step Points

abbrev pub FeetStep : Type 0
FeetStep = Step Feet

-- "each component is last + ((target - last) / distance) * max move"
unfoldable pub component : Float → Float → Float → Float → Float
component d m l t = add binary32 l (mul binary32 (div binary32 (sub binary32 t l) d) m)

unfoldable pub along : Float → Float → Point → Point → Point
along d m l t = record { x = component d m l.x t.x; y = component d m l.y t.y; z = component d m l.z t.z }

-- "at most max move: the target, moved. Else ..": where a step from l takes a point that is d away from its target t
unfoldable pub nearer : Float → Point → Point → Float → Point
nearer d l t m = choose (le d m) t (along d m l t)

-- "Points equal in every component as numbers: the target, not moved. Else .." moved: the one rule, over the distance d
unfoldable pub step_at : Float → Point → Point → Float → MoveStep
step_at d l t m = choose (same l t) (Arrived t) (Moved (nearer d l t m))

unfoldable pub move_towards : Point → Point → Float → MoveStep
move_towards l t m = step_at (distance l t) l t m

-- the place after a step, and whether it moved
unfoldable pub place_of : {A : Type 0} → Step A → A
place_of (Moved p) = p
place_of (Arrived p) = p

unfoldable pub has_moved : {A : Type 0} → Step A → Bool
has_moved (Moved p) = true
has_moved (Arrived p) = false

abbrev pub point_of : MoveStep → Point
point_of s = place_of s

-- six steps share one flag: whether one of them moved
abbrev pub together : (Leg → MoveStep) → PointsStep
together g =
    choose (some (λ l. has_moved (g l)))
    (Moved (six_points (λ l. point_of (g l))))
    (Arrived (six_points (λ l. point_of (g l))))

-- "Six feet move as six single ones": their points
unfoldable pub move_points_towards : Points → Points → Float → PointsStep
move_points_towards a t m = together (λ l. move_towards (point a l) (point t l) m)

-- the points of a step, and the shared flag
abbrev pub points_of : PointsStep → Points
points_of s = place_of s

abbrev pub one_moved : PointsStep → Bool
one_moved s = has_moved s

-- Request K12: a foot "moved by move-towards keeps the mark it had", which is last's; a target's marks mean nothing
abbrev pub keeping : (Leg → Bool) → PointsStep → FeetStep
keeping had (Moved p) = Moved (marked had p)
keeping had (Arrived p) = Arrived (marked had p)

unfoldable pub move_feet_towards : Feet → Feet → Float → FeetStep
move_feet_towards last t m = keeping (lifted last) (move_points_towards (points last) (points t) m)

-- the feet of a step
abbrev pub feet_of : FeetStep → Feet
feet_of s = place_of s
