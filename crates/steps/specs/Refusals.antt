-- Document 01, "Numbered refusals", of steps. 1: a float is NaN or infinite; 2: one is outside the table; 3: a time is.
use Rattle.std.specs.Prelude.{ℕ, Bool, ◌&&◌, [], ◌∷◌}
use Rattle.numbers.specs.Door.{finite, permits, unless, first_of}
use Rattle.numbers.specs.Limits.{foot_limit, max_move, direction}
use Rattle.legs.specs.Legs.{Feet}
use Rattle.legs.specs.Legs.{finite_feet, permitted_feet}
use Rattle.commands.specs.Times.{elapsed_permitted, period_permitted}
use Rattle.commands.specs.declared.Time.{Time}
use Rattle.steps.specs.declared.Lift.{Lift}
use Rattle.steps.specs.declared.StepIterator.{StepIterator}

-- elapsed and period are both in the table
abbrev pub timely : Time → Time → Bool
timely elapsed period = elapsed_permitted elapsed && period_permitted period

unfoldable pub progress_refusal : Time → Time → ℕ
progress_refusal elapsed period = unless (timely elapsed period) 3

-- start, last and target pass
abbrev pub finite_course : Feet → Feet → Feet → Bool
finite_course start last target = finite_feet start && finite_feet last && finite_feet target

abbrev pub permitted_course : Feet → Feet → Feet → Bool
permitted_course start last target =
    permitted_feet foot_limit start && permitted_feet foot_limit last && permitted_feet foot_limit target

-- the floats of a step by distance pass
abbrev pub finite_step : StepIterator → Bool
finite_step s =
    finite_course s.start s.last s.target && finite s.max_move && finite s.step_height

abbrev pub permitted_step : StepIterator → Bool
permitted_step s =
    permitted_course s.start s.last s.target
    && permits max_move s.max_move
    && permits direction s.step_height

unfoldable pub step_refusal : StepIterator → ℕ
step_refusal s = first_of (unless (finite_step s) 1 ∷ unless (permitted_step s) 2 ∷ [])

-- the floats of a step by time pass
abbrev pub finite_lift : Feet → Feet → Feet → Lift → Bool
finite_lift start last target lift =
    finite_course start last target && finite lift.step_height && finite lift.grounded_leg_descent

abbrev pub permitted_lift : Feet → Feet → Feet → Lift → Bool
permitted_lift start last target lift =
    permitted_course start last target
    && permits direction lift.step_height
    && permits direction lift.grounded_leg_descent

-- a step by time, and whether its times are in the table: the period, and at a next step elapsed too
unfoldable pub lift_refusal : Feet → Feet → Feet → Lift → Bool → ℕ
lift_refusal start last target lift in_time =
    first_of
    (unless (finite_lift start last target lift) 1
    ∷ unless (permitted_lift start last target lift) 2
    ∷ unless in_time 3
    ∷ [])
