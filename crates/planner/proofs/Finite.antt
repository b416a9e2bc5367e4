-- What is planned from permitted numbers is finite, also where it is outside document 01's table: a foot before its turn is at most 16 in
-- each coordinate, the numbers of a turn at most 5, and three products are summed. Sine and cosine are from -1 to 1 at any angle.
use Rattle.commands.specs.Constants.{one}
use Rattle.std.specs.Prelude.{◌≡◌, ℕ, ◌*◌, ◌<◌, ◌≤◌, Bool, true, false, ◌&&◌, T, List, get_or, pos}
use mathlib.Core.Path.{refl, sym, subst}
use native.Mathlib.Nat.{mul-le-mul_right, le_of_mul-le-mul_left}
use native.Mathlib.Omega.{arith}
use lib.Dec.{lit≤, lit<}
use lib.Ieee.{Float, nan, inf, fin, binary32, up, down, fits}
use lib.Ieee.Bits.{is_true}
use lib.Ieee.Fits.{add-fits, div-fits, down_pos, and_i, and_l, and_r}
use Rattle.numbers.specs.Told.{choose}
use Rattle.numbers.specs.Door.{finite, permits}
use Rattle.numbers.specs.Limits.{over}
use Rattle.numbers.specs.Limits as rows
use Rattle.units.specs.Units.{unity, Part, hi, lo}
use Rattle.units.proofs.Door.{holds, finite_single}
use Rattle.legs.specs.Legs.{Leg, point, points, foot, finite_point, finite_feet, permitted_feet}
use Rattle.legs.specs.Vectors.{plus, minus}
use Rattle.legs.specs.declared.Point.{Point}
use Rattle.legs.specs.Legs.{Points}
use Rattle.legs.specs.Legs.{Feet}
use Rattle.legs.proofs.Laws.{point_of_six}
use Rattle.legs.proofs.OnePass.{every_true}
use Rattle.bounds.specs.Between.{Between, HeldFeet, PointBounds}
use Rattle.bounds.proofs.Between.{wider, between_finite, sum_between, difference_between, product_between}
use Rattle.bounds.proofs.Rows.{at_direction}
use Rattle.sines.specs.How.{sine, cosine}
use Rattle.sines.proofs.Sharp.{FromMinusOneToOne, sine_finite, cosine_finite, sine_one, cosine_one, sine_outside, cosine_outside}
use Rattle.sines.proofs.Fits.{sine_fits, cosine_fits}
use Rattle.commands.specs.Command.{permitted_command}
use Rattle.commands.specs.Tripods.{has}
use Rattle.commands.specs.declared.Tripod.{Tripod}
use Rattle.commands.specs.declared.MoveCommand.{MoveCommand}
use Rattle.planner.specs.Turns.{turn, dot, applied}
use Rattle.planner.specs.Plan.{summed, center_point, between, ready_foot}
use Rattle.planner.specs.Plan.{rotation, correcting_rotation, linear_motion, translation, planned}
use Rattle.planner.specs.Entry.{planned_feet}
use Rattle.planner.proofs.Within.{nought_between, Level, centre_level, feet_bounds, summed_bounds}
use Rattle.planner.proofs.Marks.{points_of_plan}

-- ---- from -1 to 1
most : (r : Float) (p n : ℕ) → Part binary32 r p n → FromMinusOneToOne r → (n ≤ 1 * unity) × (p ≤ 1 * unity)
most nan p n h b = absurd h
most (inf s) p n h b = absurd h
most (fin s m e) p n h b = by_sign s h b
  where
    none : (i u : ℕ) → i ≡ 0 → i ≤ 1 * u
    none i u e = omega arith

    cut : (a d i u : ℕ) → 0 < d → a * u ≡ i * d → a ≤ d → i ≤ 1 * u
    cut a d i u D e l = le_of_mul-le-mul_left {m = i} {n = 1 * u} {k = d} (omega (arith, e, mul-le-mul_right u l)) D

    by_sign : (s : Bool) → Part binary32 (fin s m e) p n → FromMinusOneToOne (fin s m e) → (n ≤ 1 * unity) × (p ≤ 1 * unity)
    by_sign false h b =
        (none n unity h.1, cut (m * up e) (down e) p unity (down_pos e) h.0 (omega (arith, b.high)))
    by_sign true h b =
        (cut (m * up e) (down e) n unity (down_pos e) h.0 (omega (arith, b.low)), none p unity h.1)

to_one : (r : Float) → T (finite r) → T (fits binary32 r) → FromMinusOneToOne r → Between 1 1 r
to_one r t F b =
    let s = finite_single r t F in
    let (l, h) = most r (hi r) (lo r) s.ok b in
    record { held = F; ok = s.ok; low = l; high = h }

zero_between : Between 1 1 (fin false 0 (pos 0))
unfolding fits hi lo
zero_between = record { held = tt; ok = (refl, refl); low = lit≤ tt; high = lit≤ tt }

one_between : Between 1 1 one
unfolding one over fits hi lo
one_between = record { held = tt; ok = (refl, refl); low = lit≤ tt; high = lit≤ tt }

module _ (x : Float) (F : T (fits binary32 x)) where
  sine_between : Between 1 1 (sine x)
  sine_between = by_test (permits rows.sine_argument x) refl
    where
      by_test : (b : Bool) → permits rows.sine_argument x ≡ b → Between 1 1 (sine x)
      by_test true h = to_one (sine x) (sine_finite x F (holds h)) (sine_fits x F) (sine_one x F (holds h))
      by_test false h = subst (Between 1 1) (sym (sine_outside x h)) zero_between

  cosine_between : Between 1 1 (cosine x)
  cosine_between = by_test (permits rows.sine_argument x) refl
    where
      by_test : (b : Bool) → permits rows.sine_argument x ≡ b → Between 1 1 (cosine x)
      by_test true h = to_one (cosine x) (cosine_finite x F (holds h)) (cosine_fits x) (cosine_one x F (holds h))
      by_test false h = subst (Between 1 1) (sym (cosine_outside x h)) zero_between

-- ---- a turn
entry : {n : ℕ} {x : Float} → Between n n x → n ≤ 5 → Between 5 5 x
entry b h = wider b h h

dot_between : (r : List Float) (p : Point)
    → Between 5 5 (get_or r 0 nan) → Between 5 5 (get_or r 1 nan) → Between 5 5 (get_or r 2 nan)
    → PointBounds 16 p
    → Between 240 240 (dot r p)
unfolding dot
dot_between r p a b c q =
    sum_between
    (sum_between (product_between a q.x (lit< tt)) (product_between b q.y (lit< tt)) (lit< tt) (lit< tt))
    (product_between c q.z (lit< tt))
    (lit< tt) (lit< tt)

turned_bounds : (x : Float) (p : Point) → T (fits binary32 x) → PointBounds 16 p → PointBounds 240 (applied (turn x) p)
unfolding turn applied
turned_bounds x p F q =
    let s = sine_between x F in
    let c = entry (cosine_between x F) (lit≤ tt) in
    let zero = entry nought_between (lit≤ tt) in
    record {
      x = dot_between _ p c (difference_between nought_between s (lit< tt) (lit< tt)) zero q;
      y = dot_between _ p (entry s (lit≤ tt)) c zero q;
      z = dot_between _ p zero zero (entry one_between (lit≤ tt)) q;
    }

point_finite : {n : ℕ} (p : Point) → PointBounds n p → finite_point p ≡ true
unfolding finite_point
point_finite p b =
    is_true (finite p.x && finite p.y && finite p.z)
    (and_i (finite p.x && finite p.y) (finite p.z)
    (and_i (finite p.x) (finite p.y) (between_finite b.x) (between_finite b.y))
    (between_finite b.z))

-- ---- a foot before its turn
ready_bounds : (lifted : Bool) (s r m t : Point) → PointBounds 4 s → PointBounds 4 r → PointBounds 4 m → PointBounds 8 t
    → PointBounds 16 (ready_foot lifted s r m t)
unfolding ready_foot plus minus
ready_bounds true s r m t S R M W =
    record {
      x = wider (sum_between R.x M.x (lit< tt) (lit< tt)) (lit≤ tt) (lit≤ tt);
      y = wider (sum_between R.y M.y (lit< tt) (lit< tt)) (lit≤ tt) (lit≤ tt);
      z = wider (sum_between R.z M.z (lit< tt) (lit< tt)) (lit≤ tt) (lit≤ tt);
    }
ready_bounds false s r m t S R M W =
    record {
      x = difference_between (sum_between S.x W.x (lit< tt) (lit< tt)) M.x (lit< tt) (lit< tt);
      y = difference_between (sum_between S.y W.y (lit< tt) (lit< tt)) M.y (lit< tt) (lit< tt);
      z = difference_between (sum_between S.z W.z (lit< tt) (lit< tt)) M.z (lit< tt) (lit< tt);
    }

shift_bounds : (a b : Point) → Level 4 a → Level 4 b → PointBounds 8 (between a b)
unfolding between
shift_bounds a b p q =
    record {
      x = difference_between q.x p.x (lit< tt) (lit< tt);
      y = difference_between q.y p.y (lit< tt) (lit< tt);
      z = wider nought_between (lit≤ tt) (lit≤ tt);
    }

motion_bounds : (c : MoveCommand) → T (fits binary32 c.direction_x) → T (fits binary32 c.direction_y) → T (permitted_command c)
    → PointBounds 4 (linear_motion c)
unfolding permitted_command
motion_bounds c X Y h =
    let x = permits rows.direction c.direction_x in
    let y = permits rows.direction c.direction_y in
    let r = permits rows.rotation c.rotation in
    let z = permits rows.direction c.step_height in
    let xy = and_l (x && y) r (and_l (x && y && r) z h) in
    record {
      x = wider (at_direction c.direction_x X (and_l x y xy)) (lit≤ tt) (lit≤ tt);
      y = wider (at_direction c.direction_y Y (and_r x y xy)) (lit≤ tt) (lit≤ tt);
      z = nought_between;
    }

-- ---- the plan
module _ (start relaxed : Points) (lifted : Tripod) (c : MoveCommand) where
  abbrev angle : Leg → Float
  angle l = choose (has lifted l) (rotation c) (correcting_rotation start relaxed lifted c)

  abbrev ready : Leg → Point
  ready l = ready_foot (has lifted l) (point start l) (point relaxed l) (linear_motion c) (translation start relaxed lifted)

  planned_foot : (l : Leg) → point (planned start relaxed lifted c) l ≡ applied (turn (angle l)) (ready l)
  unfolding planned
  planned_foot = point_of_six (λ l. applied (turn (angle l)) (ready l))

  angle_fits : (l : Leg) → T (fits binary32 (angle l))
  angle_fits l = by_test (has lifted l)
    where
      by_test : (b : Bool) → T (fits binary32 (choose b (rotation c) (correcting_rotation start relaxed lifted c)))
      by_test true = div-fits binary32 _ _
      by_test false = add-fits binary32 _ _

  module _ (S : (l : Leg) → PointBounds 4 (point start l)) (R : (l : Leg) → PointBounds 4 (point relaxed l))
      (M : PointBounds 4 (linear_motion c)) where
    shift : PointBounds 8 (translation start relaxed lifted)
    shift =
        shift_bounds (center_point (summed lifted start)) (center_point (summed lifted relaxed))
        (centre_level (summed lifted start) (summed_bounds start S lifted))
        (centre_level (summed lifted relaxed) (summed_bounds relaxed R lifted))

    foot_bounds : (l : Leg) → PointBounds 240 (point (planned start relaxed lifted c) l)
    foot_bounds l =
        subst (PointBounds 240) (sym (planned_foot l))
        (turned_bounds (angle l) (ready l) (angle_fits l)
        (ready_bounds (has lifted l) (point start l) (point relaxed l) (linear_motion c) (translation start relaxed lifted)
        (S l) (R l) M shift))

module _ (start relaxed : Feet) (lifted : Tripod) (c : MoveCommand) (S : HeldFeet start) (R : HeldFeet relaxed)
    (X : T (fits binary32 c.direction_x)) (Y : T (fits binary32 c.direction_y))
    (i : permitted_feet rows.foot_limit start ≡ true) (j : permitted_feet rows.foot_limit relaxed ≡ true) (k : permitted_command c ≡ true)
  where
    plan_bounds : (l : Leg) → PointBounds 240 (foot (planned_feet start relaxed lifted c) l)
    plan_bounds l =
        subst (λ (q : Points). PointBounds 240 (point q l)) (sym (points_of_plan start relaxed lifted c))
        (foot_bounds (points start) (points relaxed) lifted c (feet_bounds start S (holds i)) (feet_bounds relaxed R (holds j))
        (motion_bounds c X Y (holds k)) l)

    pub plan_finite : finite_feet (planned_feet start relaxed lifted c) ≡ true
    plan_finite =
        every_true (λ l. finite_point (foot (planned_feet start relaxed lifted c) l))
        (λ l. point_finite (foot (planned_feet start relaxed lifted c) l) (plan_bounds l))

    pub plan_held : HeldFeet (planned_feet start relaxed lifted c)
    plan_held l = let b = plan_bounds l in record { x = b.x.held; y = b.y.held; z = b.z.held }
