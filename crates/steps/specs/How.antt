-- How ours computes a leg's step: the sine is asked for once for all six legs, and only where a height needs it; and how it makes the step
-- of all three iterators by one function. Nothing of document 01.
use Rattle.commands.specs.Constants.{nought, one}
use Rattle.commands.specs.How.{capped}
use Rattle.commands.specs.declared.Time.{Time}
use Rattle.std.specs.Prelude.{⊤, ℕ, Bool, true, false, ◌&&◌, ◌||◌}
use Rattle.std.specs.Prelude.{Float, Option, Some, None, Result, Ok, Err}
use Rattle.std.specs.Float.{binary32}
use Rattle.std.specs.Float.Ieee.{add, mul, lt, le}
use Rattle.numbers.specs.Told.{choose}
use Rattle.numbers.specs.declared.refusal.Refusal.{Refusal}
use Rattle.numbers.specs.declared.refusal.Refusal.TheVariants.{NotFinite, Outside, Time as OutOfTime}
use Rattle.numbers.specs.Door.{finite, permits}
use Rattle.numbers.specs.Limits.{foot_limit, max_move, direction}
use Rattle.legs.specs.Legs.{points, finite_points, permitted_points, finite_feet, permitted_feet}
use Rattle.legs.specs.declared.Point.{Point}
use Rattle.legs.specs.Legs.{Feet, Points}
use Rattle.sines.specs.How.{sine}
use Rattle.moves.specs.Distance.{same, max_horizontal_distance}
use Rattle.moves.specs.declared.Step.{Step}
use Rattle.moves.specs.declared.Step.TheVariants.{Moved, Arrived}
use Rattle.steps.specs.Leg.{half, half_turn, part_way}
use Rattle.steps.specs.Progress.{step_progress, timed_progress, even_progress}
use Rattle.steps.specs.Refusals.{timely}
use Rattle.steps.specs.Shift.{shift_legs}
use Rattle.steps.specs.Marks.{stepped}
use Rattle.steps.specs.Next.{EvenStepIterator, step_ended, timed_ended, step_last, paced_last}
use Rattle.steps.specs.declared.Lift.{Lift}
use Rattle.steps.specs.declared.StepIterator.{StepIterator}
use Rattle.steps.specs.declared.PacedStepIterator.{PacedStepIterator}
use Rattle.steps.specs.declared.unchecked.Course.{Course}
use Rattle.steps.specs.declared.unchecked.Pace.{Pace}
use Rattle.steps.specs.declared.unchecked.Pace.TheVariants.{Distance, Timed, Even}

unfoldable pub at_once : Bool → Float → Bool
at_once aggressive progress = aggressive && lt progress half

unfoldable pub swing : Bool → Float → Float
swing unused progress =
    choose (unused || le one progress)
    nought
    (sine (mul binary32 progress half_turn))

unfoldable pub raised : Bool → Float → Float → Float
raised now swung height = choose now height (mul binary32 swung height)

-- a leg's step, where the foot is this far above its start
unfoldable pub leg_at : Point → Point → Point → Float → Float → Step Point
leg_at start last target progress up =
    choose (same last target)
    (Arrived target)
    (choose (le one progress)
    (Moved target)
    (Moved
    (record {
      x = part_way progress start.x target.x;
      y = part_way progress start.y target.y;
      z = add binary32 up start.z;
    })))

-- ---- the step that the three iterators share: from where, over what, to where
abbrev pub course_of : Feet → Feet → Feet → Course
course_of start last target = record { start = points start; last = last; target = points target }

abbrev pub finite_along : Course → Bool
finite_along c = finite_points c.start && finite_feet c.last && finite_points c.target

abbrev pub permitted_along : Course → Bool
permitted_along c = permitted_points foot_limit c.start && permitted_feet foot_limit c.last && permitted_points foot_limit c.target

-- by its pace: a max move comes in, a progress is ours
abbrev pub pace_finite : Pace → Bool
pace_finite (Distance m) = finite m
pace_finite (Timed p) = true
pace_finite (Even p) = true

abbrev pub pace_permitted : Pace → Bool
pace_permitted (Distance m) = permits max_move m
pace_permitted (Timed p) = true
pace_permitted (Even p) = true

-- all its floats
abbrev pub finite_paced : Course → Lift → Pace → Bool
finite_paced c lift pace = finite_along c && pace_finite pace && finite lift.step_height && finite lift.grounded_leg_descent

abbrev pub permitted_paced : Course → Lift → Pace → Bool
permitted_paced c lift pace =
    permitted_along c
    && pace_permitted pace
    && permits direction lift.step_height
    && permits direction lift.grounded_leg_descent

-- how far it is, or that there is none
unfoldable pub by_distance : Course → Float → Option Float
by_distance c m =
    let full = max_horizontal_distance c.start c.target in
    choose (step_ended full) None (Some (step_progress (max_horizontal_distance (points c.last) c.start) m full))

unfoldable pub sideways : Course → Float → Option Float
sideways c p = choose (timed_ended (max_horizontal_distance c.start c.target)) None (Some p)

abbrev pub way_of : Course → Pace → Option Float
way_of c (Distance m) = by_distance c m
way_of c (Timed p) = sideways c p
way_of c (Even p) = Some p

-- what it makes of the feet
abbrev pub reached : Course → Lift → Step Points → Option Feet
reached c lift (Moved p) = Some (stepped lift.tripod c.last c.target p)
reached c lift (Arrived p) = None

abbrev pub on_its_way : Course → Lift → Option Float → Option Feet
on_its_way c lift (Some p) = reached c lift (shift_legs c.start (points c.last) c.target lift p)
on_its_way c lift None = None

-- the door, as ours looks: what is permitted is finite, so that numbers are let through by one test; whether its times are in the table is
-- known already
abbrev pub admission : Course → Lift → Pace → Bool → Result ⊤ Refusal
admission c lift pace timely =
    choose (permitted_paced c lift pace)
    (choose timely (Ok tt) (Err OutOfTime))
    (Err (choose (finite_paced c lift pace) Outside NotFinite))

-- and what is answered behind it
abbrev pub behind : {A : Type 0} → Result ⊤ Refusal → A → Result A Refusal
behind (Ok u) a = Ok a
behind (Err r) a = Err r

unfoldable pub step_made : Course → Lift → Pace → Bool → Result (Option Feet) Refusal
step_made c lift pace timely = behind (admission c lift pace timely) (on_its_way c lift (way_of c pace))

-- by time, evenly or as the source paces it
abbrev pub pace_of : Bool → Time → Time → Pace
pace_of true elapsed period = Even (even_progress (capped elapsed) (capped period))
pace_of false elapsed period = Timed (timed_progress (capped elapsed) (capped period))

abbrev pub paced_made : Bool → Course → Time → Lift → Time → Result (Option Feet) Refusal
paced_made even c period lift elapsed = step_made c lift (pace_of even elapsed period) (timely elapsed period)

abbrev pub even_made : Course → Time → Lift → Time → Result (Option Feet) Refusal
even_made c period lift elapsed = paced_made true c period lift elapsed

-- what follows for a state, which remembers the feet that were made
abbrev pub following : {S : Type 0} → (Feet → S) → Result (Option Feet) Refusal → Result (Option (Feet × S)) Refusal
following last (Ok (Some f)) = Ok (Some (f, last f))
following last (Ok None) = Ok None
following last (Err r) = Err r

abbrev pub step_of : StepIterator → Result (Option Feet) Refusal → Result (Option (Feet × StepIterator)) Refusal
step_of s = following (step_last s)

abbrev pub paced_of : {pace : ℕ} → PacedStepIterator pace → Result (Option Feet) Refusal
    → Result (Option (Feet × PacedStepIterator pace)) Refusal
paced_of s = following (paced_last s)

abbrev pub even_of : EvenStepIterator → Result (Option Feet) Refusal → Result (Option (Feet × EvenStepIterator)) Refusal
even_of s = paced_of s
