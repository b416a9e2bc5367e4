-- What a step taken holds: the feet are those of the six legs, with their marks, the state after remembers them, and nothing else of it
-- changed.
use Rattle.std.specs.Prelude.{◌≡◌, Bool, true, false, Option, Some, None}
use mathlib.Core.Path.{sym, ap, ◌∙◌}
use Rattle.numbers.specs.Told.{choose}
use Rattle.legs.specs.Legs.{points}
use Rattle.legs.specs.Legs.{Points}
use Rattle.legs.specs.Legs.{Feet}
use Rattle.moves.specs.Distance.{max_horizontal_distance}
use Rattle.moves.specs.Moving.{place_of, points_of}
use Rattle.moves.specs.declared.Step.{Step}
use Rattle.moves.specs.declared.Step.TheVariants.{Moved, Arrived}
use Rattle.commands.specs.declared.Time.{Time}
use Rattle.steps.specs.Progress.{step_progress, timed_progress, even_progress}
use Rattle.steps.specs.Shift.{shift_legs}
use Rattle.steps.specs.Next.{TimedStepIterator, EvenStepIterator}
use Rattle.steps.specs.Next.{onward, step_ended, timed_ended, step_lift, by_time, step_last, paced_last}
use Rattle.steps.specs.Next.{step_feet, paced_feet}
use Rattle.steps.specs.Next.{timed_at, even_at, next_step, next_timed, next_even}
use Rattle.steps.specs.declared.StepIterator.{StepIterator}

-- no step is none
pub none_is_no_step : {S : Type 0} (f : Feet) (s : S) → ◌≡◌ {A = Option (Feet × S)} None (Some (f, s)) → ⊥
none_is_no_step f s e = cc

-- ---- whatever the state: `feet` makes feet of the points of a step, `last` is the state with these feet as its last
module _ {S : Type 0} (feet : Points → Feet) (last : Feet → S) (f : Feet) (s' : S) where
  taken : (g : Step Points) → onward feet last g ≡ Some (f, s') → (f ≡ feet (points_of g)) × (s' ≡ last f)
  unfolding place_of
  taken (Arrived p) e = absurd (none_is_no_step f s' e)
  taken (Moved p) e =
      let q : ◌≡◌ {A = Feet × S} (feet p, last (feet p)) (f, s') = cc in
      let same : feet p ≡ f = ap (λ (r : Feet × S). r.0) q in
      (sym same, sym (ap (λ (r : Feet × S). r.1) q) ∙ ap last same)

  not_ended : (b : Bool) (g : Step Points) → choose b None (onward feet last g) ≡ Some (f, s')
      → (f ≡ feet (points_of g)) × (s' ≡ last f)
  not_ended true g e = absurd (none_is_no_step f s' e)
  not_ended false g e = taken g e

  not_ended_by_time : (b : Bool) (before : Points) (g : Step Points) → onward feet last (choose b (Arrived before) g) ≡ Some (f, s')
      → (f ≡ feet (points_of g)) × (s' ≡ last f)
  not_ended_by_time true before g e = absurd (none_is_no_step f s' e)
  not_ended_by_time false before g e = taken g e

-- ---- by distance
pub step_taken : (s s' : StepIterator) (f : Feet) → next_step s ≡ Some (f, s')
    → (f
    ≡ step_feet s
    (points_of
    (shift_legs (points s.start) (points s.last) (points s.target) (step_lift s)
    (step_progress
    (max_horizontal_distance (points s.last) (points s.start))
    s.max_move
    (max_horizontal_distance (points s.start) (points s.target))))))
    × (s' ≡ step_last s f)
unfolding next_step
step_taken s s' f =
    not_ended (step_feet s) (step_last s) f s'
    (step_ended (max_horizontal_distance (points s.start) (points s.target)))
    (shift_legs (points s.start) (points s.last) (points s.target) (step_lift s)
    (step_progress
    (max_horizontal_distance (points s.last) (points s.start))
    s.max_move
    (max_horizontal_distance (points s.start) (points s.target))))

-- ---- by time
pub timed_step_taken : (s s' : TimedStepIterator) (elapsed : Time) (f : Feet) → next_timed s elapsed ≡ Some (f, s')
    → (f
    ≡ paced_feet s
    (points_of
    (shift_legs (points s.start) (points s.last) (points s.target) s.lift (timed_progress elapsed s.period))))
    × (s' ≡ paced_last s f)
unfolding next_timed timed_at by_time
timed_step_taken s s' elapsed f =
    not_ended_by_time (paced_feet s) (paced_last s) f s'
    (timed_ended (max_horizontal_distance (points s.start) (points s.target)))
    (points s.last)
    (shift_legs (points s.start) (points s.last) (points s.target) s.lift (timed_progress elapsed s.period))

-- ---- at even pace
pub even_step_taken : (s s' : EvenStepIterator) (elapsed : Time) (f : Feet) → next_even s elapsed ≡ Some (f, s')
    → (f
    ≡ paced_feet s
    (points_of
    (shift_legs (points s.start) (points s.last) (points s.target) s.lift (even_progress elapsed s.period))))
    × (s' ≡ paced_last s f)
unfolding next_even even_at
even_step_taken s s' elapsed f =
    taken (paced_feet s) (paced_last s) f s'
    (shift_legs (points s.start) (points s.last) (points s.target) s.lift (even_progress elapsed s.period))
