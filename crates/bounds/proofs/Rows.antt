-- From document 01's table to whole bounds, row by row, and back; a permitted point.
use mathlib.Core.Bool.{◌&&◌}
use Prim.Native.Nat.{ℕ, ◌*◌, ◌^◌, ◌≤◌}
use lib.Dec.{T, lit≤}
use lib.Ieee.{Float, binary32, fits}
use lib.Ieee.Fits.{and_l, and_r}
use Rattle.numbers.specs.Door.{permits}
use Rattle.numbers.specs.Limits as rows
use Rattle.units.specs.Units.{unity}
use Rattle.units.proofs.Table as table
use Rattle.legs.specs.Legs.{permitted_point}
use Rattle.legs.specs.declared.Point.{Point}
use Rattle.bounds.specs.Between.{Between, HeldPoint, PointBounds}
use Rattle.bounds.proofs.Between.{wider, through_the_door, in_the_table}

-- ---- what is permitted, in whole metres and radians
pub at_foot : (x : Float) → T (fits binary32 x) → T (permits rows.foot_limit x) → Between 4 4 x
at_foot = through_the_door rows.foot_limit 0 (4 * unity) (4 * unity) table.foot_ends 4 4 (lit≤ tt) (lit≤ tt)

pub at_direction : (x : Float) → T (fits binary32 x) → T (permits rows.direction x) → Between 1 1 x
at_direction = through_the_door rows.direction 0 unity unity table.direction_ends 1 1 (lit≤ tt) (lit≤ tt)

pub at_rotation : (x : Float) → T (fits binary32 x) → T (permits rows.rotation x) → Between 4 4 x
at_rotation = through_the_door rows.rotation 0 (4 * unity) (4 * unity) table.rotation_ends 4 4 (lit≤ tt) (lit≤ tt)

pub at_correction : (x : Float) → T (fits binary32 x) → T (permits rows.correction x) → Between 6 6 x
at_correction = through_the_door rows.correction 0 (6 * unity) (6 * unity) table.correction_ends 6 6 (lit≤ tt) (lit≤ tt)

pub at_offset : (x : Float) → T (fits binary32 x) → T (permits rows.offset x) → Between 2 2 x
at_offset = through_the_door rows.offset 0 (2 * unity) (2 * unity) table.offset_ends 2 2 (lit≤ tt) (lit≤ tt)

pub at_length : (x : Float) → T (fits binary32 x) → T (permits rows.leg_length x) → Between 0 1 x
at_length = through_the_door rows.leg_length (2 ^ 141) 0 unity table.leg_length_ends 0 1 (lit≤ tt) (lit≤ tt)

pub at_motor : (x : Float) → T (fits binary32 x) → T (permits rows.motor_angle x) → Between 0 8 x
at_motor = through_the_door rows.motor_angle 0 0 (8 * unity) table.motor_angle_ends 0 8 (lit≤ tt) (lit≤ tt)

pub at_max_move : (x : Float) → T (fits binary32 x) → T (permits rows.max_move x) → Between 0 1 x
at_max_move = through_the_door rows.max_move 0 0 unity table.max_move_ends 0 1 (lit≤ tt) (lit≤ tt)

-- ---- within a row
pub sine_row : {N Q : ℕ} {x : Float} → Between N Q x → N ≤ 16 → Q ≤ 16 → T (permits rows.sine_argument x)
sine_row b n q = in_the_table rows.sine_argument (16 * unity) (16 * unity) table.sine_argument_ends (lit≤ tt) (lit≤ tt) (wider b n q)

pub atan2_row : {N Q : ℕ} {x : Float} → Between N Q x → N ≤ 128 → Q ≤ 128 → T (permits rows.atan2_argument x)
atan2_row b n q = in_the_table rows.atan2_argument (128 * unity) (128 * unity) table.atan2_argument_ends (lit≤ tt) (lit≤ tt) (wider b n q)

pub root_row : {Q : ℕ} {x : Float} → Between 0 Q x → Q ≤ 65536 → T (permits rows.root_argument x)
root_row b q = in_the_table rows.root_argument 0 (65536 * unity) table.root_argument_ends {N = 0} (lit≤ tt) (lit≤ tt) (wider b (lit≤ tt) q)

-- ---- a point
pub point_bounds : (p : Point) → HeldPoint p → T (permitted_point rows.foot_limit p) → PointBounds 4 p
unfolding permitted_point
point_bounds p H h =
    let x = permits rows.foot_limit p.x in
    let y = permits rows.foot_limit p.y in
    let z = permits rows.foot_limit p.z in
    let xy = and_l (x && y) z h in
    record {
      x = at_foot p.x H.x (and_l x y xy);
      y = at_foot p.y H.y (and_r x y xy);
      z = at_foot p.z H.z (and_r (x && y) z h);
    }
