-- When a step ends. Request K5: even pace "only when every last point equals its target in all three coordinates", so start, times and
-- the sideways distance have no say in it. The source's two end there too, and where nothing moves sideways, though z may differ. Of
-- every float, refused or not.
use Rattle.std.specs.Prelude.{◌≡◌, Bool, true, false, not, ◌&&◌, ◌||◌, ◌↔◌, Some, None}
use mathlib.Core.Path.{refl, sym, ◌∙◌}
use mathlib.Core.Bool.{true≢false}
use lib.Ieee.{Float, le}
use Rattle.commands.specs.Constants.{one}
use Rattle.numbers.specs.Told.{choose}
use Rattle.legs.specs.Legs.{Leg, left_front, right_front, left_middle, right_middle, left_rear, right_rear, every, some}
use Rattle.legs.specs.Legs.{point, points, foot}
use Rattle.legs.specs.declared.Point.{Point}
use Rattle.legs.specs.Legs.{Points}
use Rattle.legs.specs.Legs.{Feet}
use Rattle.moves.specs.Distance.{same, max_horizontal_distance}
use Rattle.moves.specs.Moving.{has_moved, one_moved}
use Rattle.moves.specs.declared.Step.{Step}
use Rattle.moves.specs.declared.Step.TheVariants.{Moved, Arrived}
use Rattle.commands.specs.declared.Time.{Time}
use Rattle.steps.specs.Leg.{step_lifted_leg}
use Rattle.steps.specs.Progress.{step_progress, timed_progress, even_progress}
use Rattle.steps.specs.Shift.{height_of, leg_step, shift_legs}
use Rattle.steps.specs.Next.{TimedStepIterator, EvenStepIterator}
use Rattle.steps.specs.Next.{onward, step_ended, timed_ended, step_lift, by_time, step_last, paced_last}
use Rattle.steps.specs.Next.{step_feet, paced_feet}
use Rattle.steps.specs.Next.{timed_at, even_at, next_step, next_timed, next_even}
use Rattle.steps.specs.declared.Lift.{Lift}
use Rattle.steps.specs.declared.StepIterator.{StepIterator}
use Rattle.steps.proofs.FootByFoot.{shared_flag}
use Rattle.steps.proofs.Taken.{none_is_no_step}

-- whether a foot is at its target, in x, y and z as numbers; whether all six are
abbrev pub there : Feet → Feet → Leg → Bool
there last target l = same (foot last l) (foot target l)

abbrev pub all_there : Feet → Feet → Bool
all_there last target = every (there last target)

-- ---- a leg moved where it was not at its target, and one of six where not all were
by_tests : (t p : Point) (b c : Bool) → has_moved (choose b (Arrived t) (choose c (Moved t) (Moved p))) ≡ not b
unfolding has_moved
by_tests t p true c = refl
by_tests t p false true = refl
by_tests t p false false = refl

pub leg_moved : (s l t : Point) (h p : Float) (a : Bool) → has_moved (step_lifted_leg s l t h p a) ≡ not (same l t)
unfolding step_lifted_leg
leg_moved s l t h p a = by_tests t _ (same l t) (le one p)

not_all : (a b c d e f : Bool) → (not a || not b || not c || not d || not e || not f) ≡ not (a && b && c && d && e && f)
not_all false b c d e f = cc
not_all true false c d e f = cc
not_all true true false d e f = cc
not_all true true true false e f = cc
not_all true true true true false f = cc
not_all true true true true true f = refl

abbrev at : Points → Points → Leg → Bool
at last target l = same (point last l) (point target l)

module _ (start last target : Points) (lift : Lift) (progress : Float) where
  each_moved : (l : Leg) → has_moved (leg_step start last target lift progress l) ≡ not (at last target l)
  each_moved l =
      leg_moved (point start l) (point last l) (point target l) (height_of lift l) progress lift.aggressive_leg_lift

  some_moved : some (λ l. has_moved (leg_step start last target lift progress l)) ≡ some (λ l. not (at last target l))
  some_moved =
      simp (
        each_moved left_front,
        each_moved right_front,
        each_moved left_middle,
        each_moved right_middle,
        each_moved left_rear,
        each_moved right_rear,
      )

  pub one_moved_lem : one_moved (shift_legs start last target lift progress) ≡ not (every (at last target))
  one_moved_lem =
      let b = at last target in
      shared_flag start last target lift progress ∙ some_moved
      ∙ not_all (b left_front) (b right_front) (b left_middle) (b right_middle) (b left_rear) (b right_rear)

-- ---- whatever the state: `feet` and `last` make what a step that moved leads to, `all` is whether all six feet were at their targets
module _ {S : Type 0} (feet : Points → Feet) (last : Feet → S) (all : Bool) where
  stood : (g : Step Points) → one_moved g ≡ not all → (onward feet last g ≡ None) ↔ (all ≡ true)
  unfolding has_moved
  stood (Moved p) h = (λ e. absurd (none_is_no_step (feet p) (last (feet p)) (sym e)), λ e. absurd (true≢false (moved e)))
    where
      moved : all ≡ true → true ≡ false
      moved e = simp (h, e)
  stood (Arrived p) h = (λ e. by_flag all h, λ e. refl)
    where
      by_flag : (b : Bool) → false ≡ not b → b ≡ true
      by_flag true h = refl
      by_flag false h = absurd (true≢false (sym h))

  -- or it was over before a leg was asked
  ended : (over : Bool) (g : Step Points) → one_moved g ≡ not all
      → (choose over None (onward feet last g) ≡ None) ↔ ((over || all) ≡ true)
  ended true g h = (λ e. refl, λ e. refl)
  ended false g h = stood g h

  ended_by_time : (over : Bool) (before : Points) (g : Step Points) → one_moved g ≡ not all
      → (onward feet last (choose over (Arrived before) g) ≡ None) ↔ ((over || all) ≡ true)
  ended_by_time true before g h = (λ e. refl, λ e. refl)
  ended_by_time false before g h = stood g h

-- ---- by distance
pub step_ends : (s : StepIterator)
    → (next_step s ≡ None)
    ↔ ((step_ended (max_horizontal_distance (points s.start) (points s.target)) || all_there s.last s.target) ≡ true)
unfolding next_step
step_ends s =
    let full = max_horizontal_distance (points s.start) (points s.target) in
    let p = step_progress (max_horizontal_distance (points s.last) (points s.start)) s.max_move full in
    ended (step_feet s) (step_last s) (all_there s.last s.target) (step_ended full)
    (shift_legs (points s.start) (points s.last) (points s.target) (step_lift s) p)
    (one_moved_lem (points s.start) (points s.last) (points s.target) (step_lift s) p)

-- ---- by time
pub timed_ends : (s : TimedStepIterator) (elapsed : Time)
    → (next_timed s elapsed ≡ None)
    ↔ ((timed_ended (max_horizontal_distance (points s.start) (points s.target)) || all_there s.last s.target) ≡ true)
unfolding next_timed timed_at by_time
timed_ends s elapsed =
    let p = timed_progress elapsed s.period in
    ended_by_time (paced_feet s) (paced_last s) (all_there s.last s.target)
    (timed_ended (max_horizontal_distance (points s.start) (points s.target)))
    (points s.last)
    (shift_legs (points s.start) (points s.last) (points s.target) s.lift p)
    (one_moved_lem (points s.start) (points s.last) (points s.target) s.lift p)

-- ---- at even pace: THE PROMISE OF K5
pub even_ends : (s : EvenStepIterator) (elapsed : Time)
    → (next_even s elapsed ≡ None) ↔ (every (λ l. same (foot s.last l) (foot s.target l)) ≡ true)
unfolding next_even even_at
even_ends s elapsed =
    let p = even_progress elapsed s.period in
    stood (paced_feet s) (paced_last s) (all_there s.last s.target)
    (shift_legs (points s.start) (points s.last) (points s.target) s.lift p)
    (one_moved_lem (points s.start) (points s.last) (points s.target) s.lift p)

-- for a host: where there is a step, a foot was not at its target
one_away : (b : Leg → Bool) → (every b ≡ true → ⊥) → (l : Leg) × (b l ≡ false)
one_away b away =
    find (b left_front) (b right_front) (b left_middle) (b right_middle) (b left_rear) (b right_rear) refl refl refl refl refl refl
  where
    find : (lf rf lm rm lr rr : Bool)
        → b left_front ≡ lf → b right_front ≡ rf → b left_middle ≡ lm → b right_middle ≡ rm → b left_rear ≡ lr → b right_rear ≡ rr
        → (l : Leg) × (b l ≡ false)
    find false rf lm rm lr rr e1 e2 e3 e4 e5 e6 = (left_front, e1)
    find true false lm rm lr rr e1 e2 e3 e4 e5 e6 = (right_front, e2)
    find true true false rm lr rr e1 e2 e3 e4 e5 e6 = (left_middle, e3)
    find true true true false lr rr e1 e2 e3 e4 e5 e6 = (right_middle, e4)
    find true true true true false rr e1 e2 e3 e4 e5 e6 = (left_rear, e5)
    find true true true true true false e1 e2 e3 e4 e5 e6 = (right_rear, e6)
    find true true true true true true e1 e2 e3 e4 e5 e6 = absurd (away (simp (e1, e2, e3, e4, e5, e6)))

pub a_foot_was_away : (s s' : EvenStepIterator) (elapsed : Time) (f : Feet) → next_even s elapsed ≡ Some (f, s')
    → (l : Leg) × (same (foot s.last l) (foot s.target l) ≡ false)
a_foot_was_away s s' elapsed f e =
    one_away (there s.last s.target) (λ h. none_is_no_step f s' (sym ((even_ends s elapsed).1 h) ∙ e))
