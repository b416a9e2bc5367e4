-- Request K5 read out, of one foot of a step at even pace that nothing refuses: once the time is up it is at its target; before that a
-- foot that is not there yet is above its start by the sine's height, and where start and target do not differ sideways it has its
-- start's x and y. So z does not glide from start to target.
use Rattle.std.specs.Prelude.{◌≡◌, ℕ, ◌+◌, ◌-◌, ◌*◌, ◌<◌, ◌≤◌, Bool, true, false, ◌&&◌, T, ◌⊎◌, Some}
use mathlib.Core.Path.{refl, sym, ap, ◌∙◌, subst}
use mathlib.Core.Logic.{inl, inr}
use mathlib.Core.Bool.{true≢false}
use native.Mathlib.Nat.{le_of_eq, lt_of_le_of_lt}
use native.Mathlib.Omega.{arith}
use lib.Dec.{lit<}
use lib.Ieee.{Float, binary32, add, sub, mul, le, eq}
use lib.Ieee.Fits.{sub-fits, and_l, and_r}
use lib.Ieee.Scale.{overflow}
use Rattle.commands.specs.Constants.{one}
use Rattle.commands.specs.declared.Time.{Time}
use Rattle.numbers.specs.Told.{choose}
use Rattle.numbers.specs.Door.{permits}
use Rattle.numbers.specs.Limits.{foot_limit, direction}
use Rattle.numbers.proofs.OnePass.{none_refused_before}
use Rattle.units.specs.Units.{unity, hi, lo, rounded}
use Rattle.units.proofs.Add.{add_part, sub_part}
use Rattle.units.proofs.Errors.{unity_pos}
use Rattle.units.proofs.Grid.{grid_zero}
use Rattle.units.proofs.Held.{single}
use Rattle.units.proofs.Order.{eq_part}
use Rattle.units.proofs.Values.{one_side, part_finite}
use Rattle.legs.specs.Legs.{Leg, points, foot, permitted_point, permitted_feet}
use Rattle.legs.specs.declared.Point.{Point}
use Rattle.legs.specs.Legs.{Feet}
use Rattle.legs.proofs.Laws.{each_of_every}
use Rattle.bounds.specs.Between.{Between, HeldFeet, PointBounds}
use Rattle.bounds.proofs.Between.{made, product_between}
use Rattle.bounds.proofs.Rows.{point_bounds}
use Rattle.moves.specs.Distance.{same}
use Rattle.moves.specs.Moving.{place_of, point_of}
use Rattle.moves.specs.declared.Step.TheVariants.{Moved, Arrived}
use Rattle.steps.specs.Leg.{part_way, above, step_lifted_leg}
use Rattle.steps.specs.Progress.{even_progress}
use Rattle.steps.specs.Marks.{stepped}
use Rattle.steps.specs.Shift.{height_of, leg_step}
use Rattle.steps.specs.Next.{EvenStepIterator, next_even}
use Rattle.steps.specs.Refusals.{timely, finite_lift, permitted_lift, permitted_course, lift_refusal}
use Rattle.steps.proofs.FootByFoot.{each_foot}
use Rattle.steps.proofs.Taken.{even_step_taken}
use Rattle.steps.proofs.Within.{even_below_one, period_taken}

-- ---- a coordinate whose start and target are equal as numbers keeps to its start, whatever the progress
nothing : (i j : ℕ) → i ≡ j → rounded (i - j) unity ≡ 0
nothing i j h = ap (λ (k : ℕ). rounded k unity) (none i j h) ∙ grid_zero binary32 unity unity_pos
  where
    none : (i j : ℕ) → i ≡ j → i - j ≡ 0
    none i j h = omega arith

module _ (s t p : Float) (a : Between 4 4 s) (b : Between 4 4 t) (c : Between 1 1 p) (e : T (eq s t)) where
  no_way : Between 0 0 (sub binary32 t s)
  no_way =
      let level : hi t + lo s ≡ lo t + hi s =
      turned (hi s) (lo s) (hi t) (lo t) ((eq_part binary32 s t (hi s) (lo s) (hi t) (lo t) a.ok b.ok).0 e) in
      let up = nothing (hi t + lo s) (lo t + hi s) level in
      let down = nothing (lo t + hi s) (hi t + lo s) (sym level) in
      made 0 0 (sub binary32 t s) (rounded (hi t + lo s - (lo t + hi s)) unity) (rounded (lo t + hi s - (hi t + lo s)) unity)
      (sub-fits binary32 t s)
      (sub_part binary32 t s (hi t) (lo t) (hi s) (lo s) b.ok a.ok (small up) (small down))
      (le_of_eq down)
      (le_of_eq up)
    where
      turned : (i j k l : ℕ) → i + l ≡ j + k → k + j ≡ l + i
      turned i j k l h = omega arith

      small : {k : ℕ} → k ≡ 0 → k < overflow binary32
      small {k} h = subst (λ (w : ℕ). w < overflow binary32) (sym h) (lit< tt)

  pub keeps_to_start : T (eq (part_way p s t) s)
  keeps_to_start =
      let z = mul binary32 (sub binary32 t s) p in
      let d : Between 0 0 z = product_between no_way c (lit< tt) in
      let x = single s (part_finite binary32 s (hi s) (lo s) a.ok) a.held in
      let w =
      alone (hi s) (lo s) (hi z) (lo z) unity (one_side binary32 s (hi s) (lo s) a.ok) d.high d.low in
      let up : rounded (hi s + hi z - (lo s + lo z)) unity ≡ hi s = ap (λ (k : ℕ). rounded k unity) w.0 ∙ x.hi_exact in
      let down : rounded (lo s + lo z - (hi s + hi z)) unity ≡ lo s = ap (λ (k : ℕ). rounded k unity) w.1 ∙ x.lo_exact in
      (eq_part binary32 (add binary32 s z) s _ _ (hi s) (lo s)
      (add_part binary32 s z (hi s) (lo s) (hi z) (lo z) a.ok d.ok (small up a.high) (small down a.low))
      a.ok).1 (even up down)
    where
      -- adding nothing
      alone : (i j k l u : ℕ) → (i ≡ 0) ⊎ (j ≡ 0) → k ≤ 0 * u → l ≤ 0 * u → (i + k - (j + l) ≡ i) × (j + l - (i + k) ≡ j)
      alone i j k l u (inl h) m n = (omega arith, omega arith)
      alone i j k l u (inr h) m n = (omega arith, omega arith)

      small : {k i : ℕ} → k ≡ i → i ≤ 4 * unity → k < overflow binary32
      small {k} {i} h m = subst (λ (w : ℕ). w < overflow binary32) (sym h) (lt_of_le_of_lt m (lit< tt))

      even : {k l i j : ℕ} → k ≡ i → l ≡ j → k + j ≡ l + i
      even {k} {l} {i} {j} h g = omega arith

-- ---- one foot of a step
module _ (s s' : EvenStepIterator) (elapsed : Time) (f : Feet) (e : next_even s elapsed ≡ Some (f, s')) (l : Leg) where
  abbrev progress : Float
  progress = even_progress elapsed s.period

  pub its_step : foot f l ≡ point_of (leg_step (points s.start) (points s.last) (points s.target) s.lift progress l)
  unfolding stepped
  its_step =
      ap (λ (g : Feet). foot g l) (even_step_taken s s' elapsed f e).0
      ∙ each_foot (points s.start) (points s.last) (points s.target) s.lift progress l

  -- once the time is up
  pub at_its_target : le one progress ≡ true → foot f l ≡ foot s.target l
  unfolding step_lifted_leg place_of
  at_its_target h = its_step ∙ by_test (foot s.target l) _ (same (foot s.last l) (foot s.target l)) (le one progress) h
    where
      by_test : (t p : Point) (b c : Bool) → c ≡ true → point_of (choose b (Arrived t) (choose c (Moved t) (Moved p))) ≡ t
      by_test t p true c h = refl
      by_test t p false true h = refl
      by_test t p false false h = absurd (true≢false (sym h))

  -- before that
  module _ (away : same (foot s.last l) (foot s.target l) ≡ false) (early : le one progress ≡ false) where
    pub on_its_way : foot f l
        ≡ record {
          x = part_way progress (foot s.start l).x (foot s.target l).x;
          y = part_way progress (foot s.start l).y (foot s.target l).y;
          z =
              add binary32 (above (height_of s.lift l) progress s.lift.aggressive_leg_lift) (foot s.start l).z;
        }
    unfolding step_lifted_leg place_of
    on_its_way = its_step ∙ simp (away, early)

    -- with no sideways distance
    module _ (A : HeldFeet s.start) (B : HeldFeet s.target)
        (n : lift_refusal s.start s.last s.target s.lift (timely elapsed s.period) ≡ 0) where
      course : T (permitted_course s.start s.last s.target)
      unfolding lift_refusal
      course =
          let all = permitted_course s.start s.last s.target in
          let height = permits direction s.lift.step_height in
          and_l all height
          (and_l (all && height) (permits direction s.lift.grounded_leg_descent)
          (none_refused_before
          (finite_lift s.start s.last s.target s.lift)
          (permitted_lift s.start s.last s.target s.lift) _ n))

      p_between : Between 1 1 progress
      p_between =
          even_below_one elapsed s.period
          (period_taken s.start s.last s.target s.lift elapsed s.period n)
          early

      start_bounds : PointBounds 4 (foot s.start l)
      start_bounds =
          let i = permitted_feet foot_limit s.start in
          let j = permitted_feet foot_limit s.last in
          let k = permitted_feet foot_limit s.target in
          point_bounds (foot s.start l) (A l)
          (each_of_every (λ g. permitted_point foot_limit (foot s.start g)) (and_l i j (and_l (i && j) k course)) l)

      target_bounds : PointBounds 4 (foot s.target l)
      target_bounds =
          let i = permitted_feet foot_limit s.start && permitted_feet foot_limit s.last in
          point_bounds (foot s.target l) (B l)
          (each_of_every (λ g. permitted_point foot_limit (foot s.target g)) (and_r i (permitted_feet foot_limit s.target) course) l)

      pub over_its_start_x : T (eq (foot s.start l).x (foot s.target l).x) → T (eq (foot f l).x (foot s.start l).x)
      over_its_start_x h =
          subst (λ (p : Point). T (eq p.x (foot s.start l).x)) (sym on_its_way)
          (keeps_to_start (foot s.start l).x (foot s.target l).x progress start_bounds.x target_bounds.x p_between h)

      pub over_its_start_y : T (eq (foot s.start l).y (foot s.target l).y) → T (eq (foot f l).y (foot s.start l).y)
      over_its_start_y h =
          subst (λ (p : Point). T (eq p.y (foot s.start l).y)) (sym on_its_way)
          (keeps_to_start (foot s.start l).y (foot s.target l).y progress start_bounds.y target_bounds.y p_between h)
