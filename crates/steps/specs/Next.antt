-- Document 01, "Steps", with requests K5 and K12: the three iterators. A step that moved hands on its feet, and the state that remembers
-- them; "No step" leaves all as it is.
use Rattle.commands.specs.Constants.{nought}
use Rattle.std.specs.Prelude.{ℕ, Bool}
use Rattle.std.specs.Prelude.{Float, Option, Some, None}
use Rattle.std.specs.Float.Ieee.{eq, le}
use Rattle.numbers.specs.Told.{choose}
use Rattle.legs.specs.Legs.{points}
use Rattle.legs.specs.Legs.{Points}
use Rattle.legs.specs.Legs.{Feet}
use Rattle.moves.specs.Distance.{max_horizontal_distance}
use Rattle.moves.specs.declared.Step.{Step}
use Rattle.moves.specs.declared.Step.TheVariants.{Moved, Arrived}
use Rattle.commands.specs.declared.Time.{Time}
use Rattle.steps.specs.Progress.{step_progress, timed_progress, even_progress}
use Rattle.steps.specs.Shift.{shift_legs}
use Rattle.steps.specs.Marks.{stepped}
use Rattle.steps.specs.declared.Lift.{Lift}
use Rattle.steps.specs.declared.StepIterator.{StepIterator}
use Rattle.steps.specs.declared.PacedStepIterator.{PacedStepIterator}

-- full: "longest of start and target". "Longest of start and target is 0: no step, though z may differ."
-- The source tests a step by time with <=
abbrev pub step_ended : Float → Bool
step_ended full = eq full nought

abbrev pub timed_ended : Float → Bool
timed_ended full = le full nought

-- what follows a step, whatever the state: the feet that its points make with the state that remembers them, or none
abbrev pub onward : {S : Type 0} → (Points → Feet) → (Feet → S) → Step Points → Option (Feet × S)
onward feet last (Moved p) = Some (feet p, last (feet p))
onward feet last (Arrived p) = None

-- `StepIterator`: "its descent is 0"
abbrev pub step_lift : StepIterator → Lift
step_lift s =
    record {
      step_height = s.step_height;
      grounded_leg_descent = nought;
      tripod = s.tripod;
      aggressive_leg_lift = s.aggressive_leg_lift;
    }

-- the state with these feet as its last
abbrev pub step_last : StepIterator → Feet → StepIterator
step_last s f =
    record {
      start = s.start;
      last = f;
      target = s.target;
      max_move = s.max_move;
      step_height = s.step_height;
      tripod = s.tripod;
      aggressive_leg_lift = s.aggressive_leg_lift;
    }

-- the feet of its step, and what follows
abbrev pub step_feet : StepIterator → Points → Feet
step_feet s = stepped s.tripod s.last (points s.target)

abbrev pub step_after : StepIterator → Step Points → Option (Feet × StepIterator)
step_after s = onward (step_feet s) (step_last s)

unfoldable pub next_step : StepIterator → Option (Feet × StepIterator)
next_step s =
    choose (step_ended (max_horizontal_distance (points s.start) (points s.target)))
    None
    (step_after s
    (shift_legs (points s.start) (points s.last) (points s.target) (step_lift s)
    (step_progress
    (max_horizontal_distance (points s.last) (points s.start))
    s.max_move
    (max_horizontal_distance (points s.start) (points s.target)))))

-- the six legs of `TimedStepIterator`, as the source has it
unfoldable pub by_time : Points → Points → Points → Lift → Float → Step Points
by_time start last target lift progress =
    choose (timed_ended (max_horizontal_distance start target))
    (Arrived last)
    (shift_legs start last target lift progress)

-- by time, at either pace: the state with these feet as its last, the feet of its step, and what follows
abbrev pub paced_last : {pace : ℕ} → PacedStepIterator pace → Feet → PacedStepIterator pace
paced_last s f = record { start = s.start; last = f; target = s.target; period = s.period; lift = s.lift }

abbrev pub paced_feet : {pace : ℕ} → PacedStepIterator pace → Points → Feet
paced_feet s = stepped s.lift.tripod s.last (points s.target)

abbrev pub paced_after : {pace : ℕ} → PacedStepIterator pace → Step Points → Option (Feet × PacedStepIterator pace)
paced_after s = onward (paced_feet s) (paced_last s)

-- as the source paces it; the type's number is 1 at even pace
abbrev pub TimedStepIterator : Type 0
TimedStepIterator = PacedStepIterator 0

-- at this progress, and at this time
unfoldable pub timed_at : {pace : ℕ} → PacedStepIterator pace → Float → Option (Feet × PacedStepIterator pace)
timed_at s progress = paced_after s (by_time (points s.start) (points s.last) (points s.target) s.lift progress)

unfoldable pub next_timed : {pace : ℕ} → PacedStepIterator pace → Time → Option (Feet × PacedStepIterator pace)
next_timed s elapsed = timed_at s (timed_progress elapsed s.period)

-- Request K5: "Even pace ends only when every last point equals its target in all three coordinates; with no sideways distance the
-- progress still runs by time." The leg rule's first test is which foot is at its target, and where no leg moved there is no step: so no
-- distance is taken (proofs/Ends, `even_ends`)
abbrev pub EvenStepIterator : Type 0
EvenStepIterator = PacedStepIterator 1

unfoldable pub even_at : {pace : ℕ} → PacedStepIterator pace → Float → Option (Feet × PacedStepIterator pace)
even_at s progress = paced_after s (shift_legs (points s.start) (points s.last) (points s.target) s.lift progress)

unfoldable pub next_even : {pace : ℕ} → PacedStepIterator pace → Time → Option (Feet × PacedStepIterator pace)
next_even s elapsed = even_at s (even_progress elapsed s.period)

-- the parts under the names of the two paces
abbrev pub timed_after : TimedStepIterator → Step Points → Option (Feet × TimedStepIterator)
timed_after s = paced_after s

abbrev pub even_after : EvenStepIterator → Step Points → Option (Feet × EvenStepIterator)
even_after s = paced_after s

abbrev pub even_last : EvenStepIterator → Feet → EvenStepIterator
even_last s f = paced_last s f
