-- How ours makes a call, part by part: the step of a course under a command, what an ended step leads to, and the state after a call by
-- what the call said. Nothing of the request.
use Rattle.std.specs.Prelude.{Bool, ◌&&◌, Option, Result, Ok, Err}
use Rattle.numbers.specs.Told.{choose}
use Rattle.numbers.specs.Limits.{foot_limit}
use Rattle.numbers.specs.declared.refusal.Refusal.{Refusal}
use Rattle.legs.specs.Legs.{Feet, permitted_feet}
use Rattle.commands.specs.Constants.{nought}
use Rattle.commands.specs.Command.{permitted_command, should_move}
use Rattle.commands.specs.declared.Time.{Time}
use Rattle.commands.specs.declared.Tripod.{Tripod}
use Rattle.commands.specs.declared.MoveCommand.{MoveCommand}
use Rattle.steps.specs.How.{course_of, even_made}
use Rattle.steps.specs.declared.Lift.{Lift}
use Rattle.steps.specs.declared.unchecked.Course.{Course}
use Rattle.joints.specs.Configured.{permitted_configuration}
use Rattle.joints.specs.declared.refusal.SolverRefusal.{SolverRefusal}
use Rattle.conductor.specs.States.{with_last, planned_state}
use Rattle.conductor.specs.Answers.{Kind, planned, rests}
use Rattle.conductor.specs.declared.State.{State}
use Rattle.conductor.specs.declared.Reply.{Reply}
use Rattle.conductor.specs.declared.Reply.TheVariants.{Step as SaysStep, Planned as SaysPlanned, Rests as SaysRests}

-- how the feet are lifted under a command: descent 0
abbrev pub lift_under : Tripod → MoveCommand → Lift
lift_under lifted c =
    record {
      step_height = c.step_height;
      grounded_leg_descent = nought;
      tripod = lifted;
      aggressive_leg_lift = c.aggressive_leg_lift;
    }

-- the step of a course, and of a state
abbrev pub made_under : Course → Tripod → MoveCommand → Time → Result (Option Feet) Refusal
made_under course lifted c elapsed = even_made course c.step_time (lift_under lifted c) elapsed

abbrev pub made_of : State → Time → Result (Option Feet) Refusal
made_of s elapsed = made_under (course_of s.start s.last s.target) s.lifted s.command elapsed

-- what the step does not look at
abbrev pub others_permitted : State → Bool
others_permitted s =
    permitted_feet foot_limit s.relaxed && permitted_command s.command && permitted_configuration s.configuration

-- where no leg moves
abbrev pub end_kind : MoveCommand → Kind
end_kind c = choose (should_move c) planned rests

-- the state after
abbrev pub after_reply : State → Result Reply SolverRefusal → State
after_reply s (Ok (SaysStep f j)) = with_last s f
after_reply s (Ok (SaysPlanned j)) = planned_state s
after_reply s (Ok (SaysRests j)) = s
after_reply s (Err r) = s
