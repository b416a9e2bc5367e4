-- A step at even pace is done once its period is over: where the elapsed time is no less than the period, the progress is 1 or more, so
-- that each foot of the step is at its target, and no step follows. The later of two times is no less as f32, and their quotient rounds to
-- no less than 1.
use Rattle.std.specs.Prelude.{◌≡◌, ℕ, ◌*◌, ◌^◌, ◌<◌, ◌≤◌, true, false, Some, None}
use mathlib.Core.Path.{refl, sym, ap, fun_ext, ◌∙◌}
use native.Mathlib.Nat.{le_trans, le_of_eq, lt_of_le_of_lt, lt_of_lt_of_le, mul-le-mul_left, mul-le-mul_right}
use native.Mathlib.Omega.{arith}
use lib.Dec.{lit<, lit≤}
use lib.Ieee.{binary32, div, le}
use lib.Ieee.Bits.{is_true}
use lib.Ieee.Exact.{HasValue}
use lib.Ieee.Scale.{grid, overflow}
use Rattle.numbers.specs.Limits.{over}
use Rattle.units.specs.Units.{unity}
use Rattle.units.proofs.Errors.{unity_pos}
use Rattle.units.proofs.Grid.{grid_mono}
use Rattle.units.proofs.Held.{grid_exact}
use Rattle.units.proofs.Multiply.{div_value}
use Rattle.units.proofs.Order.{le_values}
use Rattle.legs.specs.Legs.{Leg, every, six_points, points, foot, finite_point, finite_feet}
use Rattle.legs.specs.declared.Point.{Point}
use Rattle.legs.specs.Legs.{Feet}
use Rattle.legs.proofs.OnePass.{each_true, every_true}
use Rattle.moves.specs.Distance.{same}
use Rattle.moves.proofs.Same.{same_itself}
use Rattle.commands.specs.Constants.{one}
use Rattle.commands.specs.Times.{elapsed_permitted, period_permitted, in_seconds, in_nanoseconds}
use Rattle.commands.specs.declared.Time.{Time}
use Rattle.steps.specs.Progress.{even_progress}
use Rattle.steps.specs.Next.{EvenStepIterator, next_even}
use Rattle.steps.proofs.Times.{time_units, time_most, time_value, time_mono, elapsed_few, elapsed_below}
use Rattle.steps.proofs.Times.{period_few, period_below, period_least}
use Rattle.steps.proofs.Straight.{at_its_target}
use Rattle.steps.proofs.Taken.{even_step_taken}
use Rattle.steps.proofs.Ends.{even_ends}

-- ---- a quotient: from 1 on, and no overflow
one_value : HasValue one false unity unity
unfolding one over
one_value = (refl, refl)

from_one : (a b : ℕ) → 0 < b → b ≤ a → unity ≤ grid binary32 a b
from_one a b B h =
    le_trans
    (le_of_eq (sym (grid_exact binary32 1 149 (lit< tt) (lit< tt))))
    (grid_mono binary32 unity unity a b unity_pos B (swap a b unity h))
  where
    swap : (a b u : ℕ) → b ≤ a → u * b ≤ a * u
    swap a b u h = omega (arith, mul-le-mul_right u h)

held : (a b : ℕ) → 0 < b → a ≤ 3601 * unity → 2 ^ 139 ≤ b → grid binary32 a b < overflow binary32
held a b B most least =
    lt_of_le_of_lt
    (le_trans
    (grid_mono binary32 a b (3687424 * unity) unity B unity_pos (cross a b unity most (le_trans (lit≤ tt) (mul-le-mul_left 1024 least))))
    (le_of_eq (grid_exact binary32 3687424 149 (lit< tt) (lit< tt))))
    (lit< tt)
  where
    cross : (a b u : ℕ) → a ≤ 3601 * u → u ≤ 1024 * b → a * u ≤ 3687424 * u * b
    cross a b u h k = omega (arith, mul-le-mul_right u h, mul-le-mul_left u k)

-- ---- the progress
module _ (elapsed period : Time) (E : elapsed_permitted elapsed ≡ true) (P : period_permitted period ≡ true)
    (h : in_nanoseconds period ≤ in_nanoseconds elapsed) where
  pub even_done : le one (even_progress elapsed period) ≡ true
  unfolding even_progress
  even_done =
      let a = time_units elapsed in
      let b = time_units period in
      let B : 0 < b = lt_of_lt_of_le (lit< tt) (period_least period P) in
      let few = elapsed_few elapsed E in
      let below = elapsed_below elapsed E in
      let e = time_value elapsed few below in
      let p = time_value period (period_few period P) (period_below period P) in
      let no_less = time_mono period elapsed (period_below period P) below h in
      let d =
      div_value binary32 (in_seconds elapsed) (in_seconds period) a b e p B
      (held a b B (time_most elapsed few below) (period_least period P))
      in
      is_true (le one (div binary32 (in_seconds elapsed) (in_seconds period)))
      ((le_values binary32 one (div binary32 (in_seconds elapsed) (in_seconds period)) unity (grid binary32 a b) one_value d).1
      (from_one a b B no_less))

-- ---- the feet of the step
module _ (s s' : EvenStepIterator) (elapsed : Time) (f : Feet)
    (E : elapsed_permitted elapsed ≡ true) (P : period_permitted s.period ≡ true)
    (h : in_nanoseconds s.period ≤ in_nanoseconds elapsed) (e : next_even s elapsed ≡ Some (f, s')) where
  pub even_at_its_target : (l : Leg) → foot f l ≡ foot s.target l
  even_at_its_target l = at_its_target s s' elapsed f e l (even_done elapsed s.period E P h)

  pub even_points : points f ≡ points s.target
  even_points = ap six_points (fun_ext even_at_its_target)

  -- as numbers, where the target is finite; so the step that follows is none
  module _ (F : finite_feet s.target ≡ true) where
    pub even_same : (l : Leg) → same (foot f l) (foot s.target l) ≡ true
    even_same l =
        ap (λ (p : Point). same p (foot s.target l)) (even_at_its_target l)
        ∙ same_itself (foot s.target l) (each_true (λ k. finite_point (foot s.target k)) F l)

    pub even_all_there : every (λ l. same (foot f l) (foot s.target l)) ≡ true
    even_all_there = every_true (λ l. same (foot f l) (foot s.target l)) even_same

    pub none_after : (later : Time) → next_even s' later ≡ None
    none_after later =
        let after = (even_step_taken s s' elapsed f e).1 in
        ap (λ (r : EvenStepIterator). next_even r later) after ∙ (even_ends _ later).1 even_all_there
