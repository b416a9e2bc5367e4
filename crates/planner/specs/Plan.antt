-- Document 01, "Steps": "The planner follows 000." "Start vectors are taken from the start's centre, relaxed ones are not: keep that."
-- One definition over the lifted tripod. The two orders of summation are the source's, and both show in the bits.
use Rattle.commands.specs.Constants.{nought}
use Rattle.std.specs.Prelude.{Bool}
use Rattle.std.specs.Prelude.{Float}
use Rattle.std.specs.Float.{binary32}
use Rattle.std.specs.Float.Ieee.{add, sub, div, neg}
use Rattle.numbers.specs.Told.{choose}
use Rattle.numbers.specs.Limits.{over}
use Rattle.legs.specs.Legs.{Leg, left_front, right_front, left_middle, right_middle, left_rear, right_rear, point, six_points}
use Rattle.legs.specs.Vectors.{plus, minus}
use Rattle.legs.specs.declared.Point.{Point}
use Rattle.legs.specs.Legs.{Points}
use Rattle.commands.specs.Tripods.{has}
use Rattle.commands.specs.declared.Tripod.{Tripod}
use Rattle.commands.specs.declared.Tripod.TheVariants.{LRL, RLR}
use Rattle.commands.specs.declared.MoveCommand.{MoveCommand}
use Rattle.planner.specs.Turns.{turn, applied, rotation_between}
use Rattle.planner.specs.declared.unchecked.Trio.{Trio}

abbrev pub trio_of : Point → Point → Point → Trio
trio_of p q r = record { first = p; second = q; third = r }

abbrev pub trio : Points → Leg → Leg → Leg → Trio
trio f a b c = trio_of (point f a) (point f b) (point f c)

-- the three that stand, in the order in which their points are summed
abbrev pub summed : Tripod → Points → Trio
summed LRL f = trio f left_middle right_front right_rear
summed RLR f = trio f left_front left_rear right_middle

-- and in the order of a row, in which their angles are
abbrev pub in_row : Tripod → Points → Trio
in_row LRL f = trio f right_front left_middle right_rear
in_row RLR f = trio f left_front right_middle left_rear

unfoldable pub two : Float
two = over 2 1

unfoldable pub three : Float
three = over 3 1

abbrev pub mean_of_three : Float → Float → Float → Float
mean_of_three a b c = div binary32 (add binary32 (add binary32 a b) c) three

-- vectors in x and y have 0 for their third component
abbrev pub level : Float → Float → Point
level a b = record { x = a; y = b; z = nought }

unfoldable pub center_point : Trio → Point
center_point t =
    level
    (mean_of_three t.first.x t.second.x t.third.x)
    (mean_of_three t.first.y t.second.y t.third.y)

-- the way from the first to the second, in x and y
unfoldable pub between : Point → Point → Point
between a b = level (sub binary32 b.x a.x) (sub binary32 b.y a.y)

-- the mean of the three angles: start vectors from the start's centre, relaxed ones as they stand
unfoldable pub average_rotation : Trio → Point → Trio → Float
average_rotation start middle relaxed =
    mean_of_three
    (rotation_between (between middle start.first) relaxed.first)
    (rotation_between (between middle start.second) relaxed.second)
    (rotation_between (between middle start.third) relaxed.third)

-- a foot before its turn
unfoldable pub ready_foot : Bool → Point → Point → Point → Point → Point
ready_foot lifted start relaxed linear_motion translation =
    choose lifted (plus relaxed linear_motion) (minus (plus start translation) linear_motion)

-- the angles of the source's two rotations about z: of a lifted foot, and of a standing one
abbrev pub rotation : MoveCommand → Float
rotation c = div binary32 c.rotation two

abbrev pub correcting_rotation : Points → Points → Tripod → MoveCommand → Float
correcting_rotation start relaxed lifted c =
    add binary32
    (average_rotation (in_row lifted start) (center_point (summed lifted start)) (in_row lifted relaxed))
    (div binary32 (neg c.rotation) two)

abbrev pub linear_motion : MoveCommand → Point
linear_motion c = level c.direction_x c.direction_y

abbrev pub translation : Points → Points → Tripod → Point
translation start relaxed lifted = between (center_point (summed lifted start)) (center_point (summed lifted relaxed))

unfoldable pub planned : Points → Points → Tripod → MoveCommand → Points
planned start relaxed lifted c =
    six_points (λ l.
    applied
    (turn (choose (has lifted l) (rotation c) (correcting_rotation start relaxed lifted c)))
    (ready_foot (has lifted l) (point start l) (point relaxed l) (linear_motion c) (translation start relaxed lifted)))
