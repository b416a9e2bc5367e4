-- A step by distance hands the root and the sine nothing outside their tables: the root by `moves`, and the progress is
-- never more than 1.
use Rattle.commands.specs.Constants.{nought}
use Rattle.std.specs.Prelude.{◌≡◌, ℕ, zero, suc, ◌+◌, ◌*◌, ◌≤◌, Bool, true, false, not, ◌&&◌, T}
use mathlib.Core.Path.{refl, sym, ◌∙◌, subst}
use mathlib.Core.Bool.{true≢false}
use Prim.Native.Nat.{zero-le}
use native.Mathlib.Nat.{le_trans, le_of_eq, zero-lt-suc, mul_comm}
use native.Mathlib.Omega.{arith}
use lib.Dec.{lit≤, lit<}
use lib.Ieee.{Float, nan, inf, fin, binary32, add, mul, div, lt, eq, fits}
use lib.Ieee.Fits.{div-fits, and_l, and_r}
use lib.Ieee.Exact.{HasValue}
use Rattle.numbers.specs.Told.{choose}
use Rattle.numbers.specs.Finite.{lesser, greater}
use Rattle.numbers.specs.Door.{permits}
use Rattle.numbers.specs.Limits.{over}
use Rattle.numbers.specs.Limits as rows
use Rattle.units.specs.Units.{unity, Part, hi, lo}
use Rattle.units.proofs.Values.{plus_part, mag_is}
use Rattle.units.proofs.Held.{grid_exact}
use Rattle.units.proofs.Order.{eq_part, not_lt_part}
use Rattle.units.proofs.Bounds.{div_most}
use Rattle.units.proofs.Door.{permitted}
use Rattle.units.proofs.Table.{root_argument_ends}
use Rattle.roots.specs.Root.{square_root}
use Rattle.roots.proofs.Laws.{rooted, root_fits, root_high}
use Rattle.legs.specs.Legs.{Leg, left_front, right_front, left_middle, right_middle, left_rear, right_rear}
use Rattle.legs.specs.Legs.{points, foot, permitted_point, permitted_feet}
use Rattle.legs.specs.Legs.{Feet}
use Rattle.bounds.specs.Between.{Between, HeldFeet}
use Rattle.bounds.proofs.Between.{made, result_between, sum_between, product_between}
use Rattle.bounds.proofs.Rows.{at_max_move, sine_row}
use Rattle.legs.proofs.Laws.{each_of_every}
use Rattle.numbers.proofs.OnePass.{none_refused}
use Rattle.moves.specs.Distance.{horizontal_sum, horizontal_distance, max_horizontal_distance}
use Rattle.moves.proofs.Largest.{Rootable, upward, horizontal_sum_rootable}
use Rattle.moves.proofs.Squares.{horizontal_sum_permitted}
use Rattle.steps.specs.Leg.{half_turn}
use Rattle.steps.specs.Progress.{step_progress}
use Rattle.steps.specs.Refusals.{permitted_course, finite_step, permitted_step, step_refusal}
use Rattle.steps.specs.Next.{step_ended}
use Rattle.steps.specs.declared.StepIterator.{StepIterator}
use Rattle.steps.proofs.Times.{Above}
use Rattle.steps.proofs.Within.{half_turn_between}

-- ---- a distance: from 0 to 256
record Distance (x : Float) : Type 0 where
  held : T (fits binary32 x)
  q : ℕ
  value : HasValue x false q unity
  few : q ≤ 256 * unity

sum_value : (x : Float) → Rootable x → T (permits rows.root_argument x) → HasValue x false (hi x) unity
sum_value x r h = by_form x r.from_zero (permitted rows.root_argument 0 0 (65536 * unity) 0 root_argument_ends x r.held h).single.ok
  where
    by_form : (y : Float) → T (upward y) → Part binary32 y (hi y) (lo y) → HasValue y false (hi y) unity
    by_form nan u p = absurd p
    by_form (inf s) u p = absurd p
    by_form (fin true m e) u p = absurd u
    by_form (fin false m e) u p = (refl, p.0)

root_distance : (x : Float) → Rootable x → T (permits rows.root_argument x) → Distance (square_root x)
root_distance x r h =
    let v = rooted x (hi x) r.held (sum_value x r h) in
    record {
      held = root_fits x r.held;
      q = v.q;
      value = v.value;
      few = le_trans (le_of_eq (sym (mag_is (square_root x) false v.q v.value))) (root_high x r.held h);
    }

greater_distance : {x y : Float} → Distance x → Distance y → Distance (greater x y)
greater_distance {x} {y} a b = by_test (lt x y)
  where
    by_test : (t : Bool) → Distance (choose t y x)
    by_test true = b
    by_test false = a

-- what the root is handed, leg by leg
module _ (a b : Feet) (A : HeldFeet a) (B : HeldFeet b) (h : T (permitted_feet rows.foot_limit a))
    (k : T (permitted_feet rows.foot_limit b)) where
  pub root_within : (l : Leg) → T (permits rows.root_argument (horizontal_sum (foot a l) (foot b l)))
  root_within l =
      horizontal_sum_permitted (foot a l) (foot b l)
      ((A l).x, (A l).y, (A l).z) ((B l).x, (B l).y, (B l).z)
      (each_of_every (λ g. permitted_point rows.foot_limit (foot a g)) h l)
      (each_of_every (λ g. permitted_point rows.foot_limit (foot b g)) k l)

  longest_distance : Distance (max_horizontal_distance (points a) (points b))
  unfolding max_horizontal_distance horizontal_distance
  longest_distance =
      let d : (l : Leg) → Distance (square_root (horizontal_sum (foot a l) (foot b l))) =
      λ l. root_distance (horizontal_sum (foot a l) (foot b l)) (horizontal_sum_rootable (foot a l) (foot b l)) (root_within l) in
      let front = greater_distance (d left_front) (d right_front) in
      let middle = greater_distance (greater_distance front (d left_middle)) (d right_middle) in
      greater_distance (greater_distance middle (d left_rear)) (d right_rear)

-- ---- the progress is at most 1
distance_between : {x : Float} → Distance x → Between 0 256 x
distance_between {x} d = made 0 256 x d.q 0 d.held (plus_part binary32 x d.q d.value) zero-le d.few

nought_part : Part binary32 nought 0 0
unfolding nought over
nought_part = (refl, refl)

above : {x : Float} → Distance x → eq x nought ≡ false → Above x
above {x} d h = by_size d.q d.value
  where
    by_size : (q : ℕ) → HasValue x false q unity → Above x
    by_size zero v =
        let same = (eq_part binary32 x nought 0 0 0 0 (plus_part binary32 x 0 v) nought_part).1 refl in
        absurd (true≢false (sym (holds (eq x nought) same) ∙ h))
      where
        holds : (b : Bool) → T b → b ≡ true
        holds true t = refl
        holds false t = absurd t
    by_size (suc q) v = record { q = suc q; value = v; more = zero-lt-suc q }

-- s is from 0 on, and full above zero: the lesser of the two is at most full
module _ (s full : Float) (k : ℕ) (b : Between 0 k s) (a : Above full) where
  record Lesser (x : Float) : Type 0 where
    p : ℕ
    n : ℕ
    part : Part binary32 x p n
    most : p + n ≤ a.q

  lesser_most : Lesser (lesser s full)
  lesser_most = by_test (lt full s) refl
    where
      none : (i u : ℕ) → i ≤ 0 * u → i ≡ 0
      none i u h = omega arith

      small : (i j q : ℕ) → j ≡ 0 → 0 + i ≤ q + j → i + j ≤ q
      small i j q e h = omega arith

      itself : (q : ℕ) → q + 0 ≤ q
      itself q = omega arith

      by_test : (t : Bool) → lt full s ≡ t → Lesser (choose t full s)
      by_test true h = record { p = a.q; n = 0; part = plus_part binary32 full a.q a.value; most = itself a.q }
      by_test false h =
          record {
            p = hi s;
            n = lo s;
            part = b.ok;
            most =
                small (hi s) (lo s) a.q (none (lo s) unity b.low)
                (not_lt_part binary32 full s a.q 0 (hi s) (lo s)
                (plus_part binary32 full a.q a.value)
                b.ok
                (subst (λ (t : Bool). T (not t)) (sym h) tt));
          }

  progress_between : Between 1 1 (div binary32 (lesser s full) full)
  progress_between =
      let x = lesser s full in
      let m = lesser_most in
      result_between 1 unity (div binary32 x full) (div-fits binary32 x full) (lit≤ tt)
      (div_most binary32 x full false m.p m.n a.q a.q unity m.part a.value a.more m.most
      (grid_exact binary32 1 149 (lit< tt) (lit< tt))
      (lit< tt)
      (le_of_eq (mul_comm a.q unity)))

module _ (s : StepIterator) (A : HeldFeet s.start) (B : HeldFeet s.last) (C : HeldFeet s.target)
    (M : T (fits binary32 s.max_move)) (e : step_refusal s ≡ 0) where
  taken : T (permitted_step s)
  unfolding step_refusal
  taken = none_refused (finite_step s) (permitted_step s) e

  abbrev full : Float
  full = max_horizontal_distance (points s.start) (points s.target)

  abbrev gone : Float
  gone = max_horizontal_distance (points s.last) (points s.start)

  -- whatever the step, its progress is at most 1, and the sine is asked for within its table
  pub step_progress_between : step_ended full ≡ false → Between 1 1 (step_progress gone s.max_move full)
  unfolding step_progress
  step_progress_between h =
      let all = permitted_course s.start s.last s.target in
      let move = permits rows.max_move s.max_move in
      let c = and_l all move (and_l (all && move) (permits rows.direction s.step_height) taken) in
      let m = at_max_move s.max_move M (and_r all move (and_l (all && move) (permits rows.direction s.step_height) taken)) in
      let i = permitted_feet rows.foot_limit s.start in
      let j = permitted_feet rows.foot_limit s.last in
      let k = permitted_feet rows.foot_limit s.target in
      let ij = and_l (i && j) k c in
      let start = and_l i j ij in
      let f = longest_distance s.start s.target A C start (and_r (i && j) k c) in
      let g = longest_distance s.last s.start B A (and_r i j ij) start in
      progress_between (add binary32 gone s.max_move) full 257
      (sum_between (distance_between g) m (lit< tt) (lit< tt))
      (above f h)

  pub step_within : step_ended full ≡ false → T (permits rows.sine_argument (mul binary32 (step_progress gone s.max_move full) half_turn))
  step_within h = sine_row (product_between (step_progress_between h) half_turn_between (lit< tt)) (lit≤ tt) (lit≤ tt)
