-- No number passes a limit inside: where the door lets feet and a command through, every argument that the planner hands to sine, cosine
-- and atan2 is within document 01's row for it. A coordinate is at most 4, a centred one 8, a product 32, a turn 4, and half a rotation 2.
use Rattle.commands.specs.Constants.{nought}
use Rattle.std.specs.Prelude.{◌≡◌, ℕ, ◌*◌, Bool, true, false, ◌&&◌, ◌||◌, T}
use mathlib.Core.Path.{refl}
use lib.Dec.{lit≤, lit<}
use lib.Ieee.{Float, binary32, fits}
use lib.Ieee.Fits.{and_l, and_r}
use lib.Ieee.Exact.{HasValue}
use Rattle.numbers.specs.Told.{choose}
use Rattle.numbers.specs.Door.{permits, unless}
use Rattle.numbers.specs.Limits.{over}
use Rattle.numbers.specs.Limits as rows
use Rattle.units.specs.Units.{unity, hi, lo}
use Rattle.legs.specs.Legs.{Leg, left_front, right_front, left_middle, right_middle, left_rear, right_rear}
use Rattle.legs.specs.Legs.{point, points, foot, permitted_point, finite_feet, permitted_feet}
use Rattle.legs.specs.declared.Point.{Point}
use Rattle.legs.specs.Legs.{Points}
use Rattle.legs.specs.Legs.{Feet}
use Rattle.bounds.specs.Between.{Between, HeldFeet, PointBounds}
use Rattle.bounds.proofs.Between.{result_between, sum_between, difference_between, product_between, share_between, flip_between}
use Rattle.bounds.proofs.Rows.{at_rotation, sine_row, atan2_row, point_bounds}
use Rattle.legs.proofs.Laws.{each_of_every}
use Rattle.numbers.proofs.OnePass.{none_refused_before}
use Rattle.arcs.specs.How.{atan2}
use Rattle.arcs.proofs.Bounds.{pi_units, atan2_bounds}
use Rattle.commands.specs.Times.{period_permitted}
use Rattle.commands.specs.Command.{finite_command, permitted_command}
use Rattle.commands.specs.declared.Tripod.{Tripod}
use Rattle.commands.specs.declared.Tripod.TheVariants.{LRL, RLR}
use Rattle.commands.specs.declared.MoveCommand.{MoveCommand}
use Rattle.planner.specs.Turns.{is_zero, across, inner, rotation_between}
use Rattle.planner.specs.Plan.{two, three, mean_of_three, summed, in_row, center_point, between, average_rotation}
use Rattle.planner.specs.Plan.{rotation, correcting_rotation}
use Rattle.planner.specs.Entry.{plan_refusal}
use Rattle.planner.specs.declared.unchecked.Trio.{Trio}

-- what atan2 is handed for a turn, unless a vector is zero
pub record TurnArguments (a b : Point) : Type 0 where
  pub first : T (permits rows.atan2_argument (across a b))
  pub second : T (permits rows.atan2_argument (inner a b))

-- all that is handed over in one plan
pub record PlanArguments (start relaxed : Points) (lifted : Tripod) (c : MoveCommand) : Type 0 where
  pub lifted_turn : T (permits rows.sine_argument (rotation c))
  pub standing_turn : T (permits rows.sine_argument (correcting_rotation start relaxed lifted c))
  pub first : TurnArguments (between (center_point (summed lifted start)) (in_row lifted start).first) (in_row lifted relaxed).first
  pub second : TurnArguments (between (center_point (summed lifted start)) (in_row lifted start).second) (in_row lifted relaxed).second
  pub third : TurnArguments (between (center_point (summed lifted start)) (in_row lifted start).third) (in_row lifted relaxed).third

-- ---- the constants
pub nought_between : Between 4 4 nought
unfolding nought over fits hi lo
nought_between = record { held = tt; ok = (refl, refl); low = lit≤ tt; high = lit≤ tt }

two_value : HasValue two false (2 * unity) unity
unfolding two over
two_value = (refl, refl)

three_value : HasValue three false (3 * unity) unity
unfolding three over
three_value = (refl, refl)

-- ---- a mean of three, a centre, a way from it
mean_between : {a b c : Float} → Between 4 4 a → Between 4 4 b → Between 4 4 c → Between 4 4 (mean_of_three a b c)
mean_between a b c =
    share_between 4 3 three (sum_between (sum_between a b (lit< tt) (lit< tt)) c (lit< tt) (lit< tt)) three_value (lit< tt) (lit< tt)

pub record TrioBounds (t : Trio) : Type 0 where
  pub first : PointBounds 4 t.first
  pub second : PointBounds 4 t.second
  pub third : PointBounds 4 t.third

-- in x and y alone
pub record Level (n : ℕ) (p : Point) : Type 0 where
  pub x : Between n n p.x
  pub y : Between n n p.y

pub centre_level : (t : Trio) → TrioBounds t → Level 4 (center_point t)
unfolding center_point
centre_level t b =
    record {
      x = mean_between b.first.x b.second.x b.third.x;
      y = mean_between b.first.y b.second.y b.third.y;
    }

way_level : (a b : Point) → Level 4 a → PointBounds 4 b → Level 8 (between a b)
unfolding between
way_level a b p q =
    record {
      x = difference_between q.x p.x (lit< tt) (lit< tt);
      y = difference_between q.y p.y (lit< tt) (lit< tt);
    }

-- ---- what atan2 is handed
turn_arguments : (a b : Point) → Level 8 a → PointBounds 4 b → TurnArguments a b
turn_arguments a b p q =
    let xy = product_between p.x q.y (lit< tt) in
    let yx = product_between p.y q.x (lit< tt) in
    let xx = product_between p.x q.x (lit< tt) in
    let yy = product_between p.y q.y (lit< tt) in
    record {
      first = atan2_row (difference_between xy yx (lit< tt) (lit< tt)) (lit≤ tt) (lit≤ tt);
      second = atan2_row (sum_between xx yy (lit< tt) (lit< tt)) (lit≤ tt) (lit≤ tt);
    }

-- ---- from the door: no refusal says that all is permitted
pub feet_bounds : (f : Feet) → HeldFeet f → T (permitted_feet rows.foot_limit f) → (l : Leg) → PointBounds 4 (foot f l)
feet_bounds f H h l = point_bounds (foot f l) (H l) (each_of_every (λ k. permitted_point rows.foot_limit (foot f k)) h l)

pub summed_bounds : (p : Points) → ((l : Leg) → PointBounds 4 (point p l)) → (lifted : Tripod) → TrioBounds (summed lifted p)
summed_bounds p b LRL = record { first = b left_middle; second = b right_front; third = b right_rear }
summed_bounds p b RLR = record { first = b left_front; second = b left_rear; third = b right_middle }

row_bounds : (p : Points) → ((l : Leg) → PointBounds 4 (point p l)) → (lifted : Tripod) → TrioBounds (in_row lifted p)
row_bounds p b LRL = record { first = b right_front; second = b left_middle; third = b right_rear }
row_bounds p b RLR = record { first = b left_front; second = b right_middle; third = b left_rear }

rotation_permitted : (c : MoveCommand) → T (permitted_command c) → T (permits rows.rotation c.rotation)
unfolding permitted_command
rotation_permitted c h =
    let x = permits rows.direction c.direction_x in
    let y = permits rows.direction c.direction_y in
    let r = permits rows.rotation c.rotation in
    let z = permits rows.direction c.step_height in
    and_r (x && y) r (and_l (x && y && r) z h)

-- ---- the plan; atan2 gives no more than a half turn
angle_most : (y x : Float) → Between 4 4 (atan2 y x)
angle_most y x = let b = atan2_bounds y x in result_between 4 pi_units (atan2 y x) b.held (lit≤ tt) b.units

rotation_between_lem : (a b : Point) → Between 4 4 (rotation_between a b)
unfolding rotation_between
rotation_between_lem a b = by_test (is_zero a || is_zero b)
  where
    by_test : (t : Bool) → Between 4 4 (choose t nought (atan2 (across a b) (inner a b)))
    by_test true = nought_between
    by_test false = angle_most (across a b) (inner a b)

average_between : (s : Trio) (m : Point) (r : Trio) → Between 4 4 (average_rotation s m r)
unfolding average_rotation
average_between s m r = mean_between (rotation_between_lem _ _) (rotation_between_lem _ _) (rotation_between_lem _ _)

pub plan_within :
    (start relaxed : Feet) (lifted : Tripod) (c : MoveCommand)
    → HeldFeet start
    → HeldFeet relaxed
    → T (fits binary32 c.rotation)
    → plan_refusal start relaxed c ≡ 0
    → PlanArguments (points start) (points relaxed) lifted c
unfolding plan_refusal
plan_within start relaxed lifted c S R C e =
    let p = permitted_feet rows.foot_limit start in
    let q = permitted_feet rows.foot_limit relaxed in
    let h =
    none_refused_before
    (finite_feet start && finite_feet relaxed && finite_command c)
    (p && q && permitted_command c)
    (unless (period_permitted c.step_time) 3)
    e
    in
    let feet = and_l (p && q) (permitted_command c) h in
    let s = feet_bounds start S (and_l p q feet) in
    let r = feet_bounds relaxed R (and_r p q feet) in
    let turn = at_rotation c.rotation C (rotation_permitted c (and_r (p && q) (permitted_command c) h)) in
    let from = in_row lifted (points start) in
    let to = in_row lifted (points relaxed) in
    let m = center_point (summed lifted (points start)) in
    let M = centre_level (summed lifted (points start)) (summed_bounds (points start) s lifted) in
    let i = row_bounds (points start) s lifted in
    let j = row_bounds (points relaxed) r lifted in
    let average = average_between from m to in
    let undone = share_between 2 2 two (flip_between turn) two_value (lit< tt) (lit< tt) in
    record {
      lifted_turn = sine_row (share_between 2 2 two turn two_value (lit< tt) (lit< tt)) (lit≤ tt) (lit≤ tt);
      standing_turn = sine_row (sum_between average undone (lit< tt) (lit< tt)) (lit≤ tt) (lit≤ tt);
      first = turn_arguments (between m from.first) to.first (way_level m from.first M i.first) j.first;
      second = turn_arguments (between m from.second) to.second (way_level m from.second M i.second) j.second;
      third = turn_arguments (between m from.third) to.third (way_level m from.third M i.third) j.third;
    }
