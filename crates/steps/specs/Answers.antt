-- Document 01's number and values for each case of an answer on steps. The first mark is 1 for a step and 0 for none; a
-- state's marks are its tripod (LRL 0, RLR 1), the aggressive flag and, by time, the period, then those of start, last and target
-- (request K12); its values are its heights and max move, then start, last and target.
use Rattle.std.specs.Prelude.{ℕ, List, [], ◌∷◌, ◌++◌}
use Rattle.std.specs.Prelude.{Float, Option, Some, None, Result}
use Rattle.numbers.specs.Told.{Told, given, mark}
use Rattle.numbers.specs.Answers.{told_by}
use Rattle.numbers.specs.declared.refusal.Refusal.{Refusal}
use Rattle.legs.specs.Legs.{row, foot, coordinates, values}
use Rattle.legs.specs.Answers.{lifts}
use Rattle.legs.specs.Legs.{Feet}
use Rattle.moves.specs.Answers.{of_feet}
use Rattle.commands.specs.Answers.{tripod_mark}
use Rattle.commands.specs.declared.Time.{Time}
use Rattle.steps.specs.declared.Lift.{Lift}
use Rattle.steps.specs.declared.StepIterator.{StepIterator}
use Rattle.steps.specs.Next.{TimedStepIterator, EvenStepIterator}
use Rattle.steps.specs.declared.PacedStepIterator.{PacedStepIterator}

-- start, last and target, in row order
abbrev pub course : Feet → Feet → Feet → List Float
course start last target = values coordinates (row (foot start) ++ row (foot last) ++ row (foot target))

abbrev pub course_lifts : Feet → Feet → Feet → List ℕ
course_lifts start last target = lifts start ++ lifts last ++ lifts target

-- a state by distance
abbrev pub step_marks : StepIterator → List ℕ
step_marks s = tripod_mark s.tripod ∷ mark s.aggressive_leg_lift ∷ course_lifts s.start s.last s.target

abbrev pub step_values : StepIterator → List Float
step_values s = s.max_move ∷ s.step_height ∷ course s.start s.last s.target

-- a state by time, at either pace
abbrev pub lift_marks : Lift → Time → Feet → Feet → Feet → List ℕ
lift_marks lift period start last target =
    tripod_mark lift.tripod
    ∷ mark lift.aggressive_leg_lift
    ∷ period.seconds
    ∷ period.nanoseconds
    ∷ course_lifts start last target

abbrev pub lift_values : Lift → Feet → Feet → Feet → List Float
lift_values lift start last target = lift.step_height ∷ lift.grounded_leg_descent ∷ course start last target

-- a step: the new feet, then the state after it, marks and floats alike; none: no floats
abbrev pub given_step : Feet → List ℕ → List Float → Told
given_step f ks xs = given (1 ∷ lifts f ++ ks) (of_feet f ++ xs)

abbrev pub given_none : Told
given_none = given (0 ∷ []) []

-- a next step, whatever the state, of which `say` tells
abbrev pub given_next : {S : Type 0} → (S → Told) → Option (Feet × S) → Told
given_next say (Some r) = given_step r.0 (say r.1).marks (say r.1).values
given_next say None = given_none

-- by distance: setting out, and the next step
abbrev pub given_step_iter : StepIterator → Told
given_step_iter s = given (step_marks s) (step_values s)

abbrev pub told_step_iter : Result StepIterator Refusal → Told
told_step_iter r = told_by given_step_iter r

abbrev pub told_next_step : Result (Option (Feet × StepIterator)) Refusal → Told
told_next_step r = told_by (given_next given_step_iter) r

-- by time, at either pace
abbrev pub given_paced_iter : {pace : ℕ} → PacedStepIterator pace → Told
given_paced_iter s = given (lift_marks s.lift s.period s.start s.last s.target) (lift_values s.lift s.start s.last s.target)

abbrev pub told_paced_iter : {pace : ℕ} → Result (PacedStepIterator pace) Refusal → Told
told_paced_iter r = told_by given_paced_iter r

abbrev pub told_next_paced : {pace : ℕ} → Result (Option (Feet × PacedStepIterator pace)) Refusal → Told
told_next_paced r = told_by (given_next given_paced_iter) r

-- a next step by each of the three iterators, and what is told of an answer at even pace
abbrev pub given_next_step : Option (Feet × StepIterator) → Told
given_next_step = given_next given_step_iter

abbrev pub given_next_timed : Option (Feet × TimedStepIterator) → Told
given_next_timed = given_next given_paced_iter

abbrev pub given_next_even : Option (Feet × EvenStepIterator) → Told
given_next_even = given_next given_paced_iter

abbrev pub told_next_even : Result (Option (Feet × EvenStepIterator)) Refusal → Told
told_next_even r = told_next_paced r
