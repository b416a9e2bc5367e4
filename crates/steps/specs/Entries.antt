-- What each entry tells: the first refusal that applies, else its values. A state begins with last = start.
use Rattle.std.specs.Prelude.{ℕ, Bool, true, false, [], ◌∷◌}
use Rattle.std.specs.Prelude.{Float}
use Rattle.numbers.specs.Told.{Told, given, answer}
use Rattle.legs.specs.Legs.{Feet}
use Rattle.commands.specs.Times.{period_permitted}
use Rattle.commands.specs.declared.Time.{Time}
use Rattle.commands.specs.declared.Tripod.{Tripod}
use Rattle.steps.specs.Progress.{timed_progress, even_progress}
use Rattle.steps.specs.Next.{next_step, next_timed, next_even}
use Rattle.steps.specs.Answers.{step_marks, step_values, lift_marks, lift_values, given_next, given_step_iter, given_paced_iter}
use Rattle.steps.specs.Refusals.{timely, progress_refusal, step_refusal, lift_refusal}
use Rattle.steps.specs.declared.Lift.{Lift}
use Rattle.steps.specs.declared.StepIterator.{StepIterator}
use Rattle.steps.specs.declared.PacedStepIterator.{PacedStepIterator}

unfoldable pub timed_progress_told : Time → Time → Told
timed_progress_told e p = answer (progress_refusal e p) (given [] (timed_progress e p ∷ []))

unfoldable pub even_progress_told : Time → Time → Told
even_progress_told e p = answer (progress_refusal e p) (given [] (even_progress e p ∷ []))

-- by distance
abbrev pub step_state : Feet → Feet → Float → Float → Tripod → Bool → StepIterator
step_state start target move height lifted aggressive =
    record {
      start = start;
      last = start;
      target = target;
      max_move = move;
      step_height = height;
      tripod = lifted;
      aggressive_leg_lift = aggressive;
    }

unfoldable pub step_iter_told : Feet → Feet → Float → Float → Tripod → Bool → Told
step_iter_told start target move height lifted aggressive =
    answer
    (step_refusal (step_state start target move height lifted aggressive))
    (given
    (step_marks (step_state start target move height lifted aggressive))
    (step_values (step_state start target move height lifted aggressive)))

unfoldable pub next_step_told : StepIterator → Told
next_step_told s = answer (step_refusal s) (given_next given_step_iter (next_step s))

-- by time, at either pace
unfoldable pub timed_iter_told : Feet → Feet → Time → Lift → Told
timed_iter_told start target period lift =
    answer
    (lift_refusal start start target lift (period_permitted period))
    (given (lift_marks lift period start start target) (lift_values lift start start target))

unfoldable pub next_timed_told : {pace : ℕ} → PacedStepIterator pace → Time → Told
next_timed_told s elapsed =
    answer
    (lift_refusal s.start s.last s.target s.lift (timely elapsed s.period))
    (given_next given_paced_iter (next_timed s elapsed))

-- at even pace
unfoldable pub next_even_told : {pace : ℕ} → PacedStepIterator pace → Time → Told
next_even_told s elapsed =
    answer
    (lift_refusal s.start s.last s.target s.lift (timely elapsed s.period))
    (given_next given_paced_iter (next_even s elapsed))

-- by its pace
abbrev pub next_paced_told : {pace : ℕ} → Bool → PacedStepIterator pace → Time → Told
next_paced_told true s elapsed = next_even_told s elapsed
next_paced_told false s elapsed = next_timed_told s elapsed
