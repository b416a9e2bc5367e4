-- Request K10: "its state holds start, last, target and relaxed feet, the lifted tripod, the command and the leg configuration". What a
-- state's step is, what a state is after a step and after a plan, and what of it is refused.
use Rattle.std.specs.Prelude.{ℕ, Bool, ◌&&◌, [], ◌∷◌}
use Rattle.numbers.specs.Door.{unless, first_of}
use Rattle.numbers.specs.Limits.{foot_limit}
use Rattle.legs.specs.Legs.{finite_feet, permitted_feet}
use Rattle.legs.specs.Legs.{Feet}
use Rattle.commands.specs.Constants.{nought}
use Rattle.commands.specs.Command.{finite_command, permitted_command, default_command}
use Rattle.commands.specs.Tripods.{inverted}
use Rattle.commands.specs.Times.{period_permitted}
use Rattle.commands.specs.declared.Time.{Time}
use Rattle.commands.specs.declared.Tripod.TheVariants.{LRL}
use Rattle.commands.specs.declared.MoveCommand.{MoveCommand}
use Rattle.steps.specs.Refusals.{timely}
use Rattle.steps.specs.Next.{EvenStepIterator}
use Rattle.planner.specs.Entry.{planned_feet}
use Rattle.joints.specs.Configured.{finite_configuration, permitted_configuration}
use Rattle.joints.specs.declared.configuration.Configuration.{Configuration}
use Rattle.conductor.specs.declared.State.{State}

-- "steps in even pace with descent 0": in the command's step time, over the command's height
abbrev pub even_of : State → EvenStepIterator
even_of s =
    record {
      start = s.start;
      last = s.last;
      target = s.target;
      period = s.command.step_time;
      lift =
          record {
            step_height = s.command.step_height;
            grounded_leg_descent = nought;
            tripod = s.lifted;
            aggressive_leg_lift = s.command.aggressive_leg_lift;
          };
    }

-- the state with these feet as its last
abbrev pub with_last : State → Feet → State
with_last s f =
    record {
      start = s.start;
      last = f;
      target = s.target;
      relaxed = s.relaxed;
      lifted = s.lifted;
      command = s.command;
      configuration = s.configuration;
    }

-- "it inverts the tripod, plans the next target from the last feet, which become the start": by the new tripod
abbrev pub planned_state : State → State
planned_state s =
    record {
      start = s.last;
      last = s.last;
      target = planned_feet s.last s.relaxed (inverted s.lifted) s.command;
      relaxed = s.relaxed;
      lifted = inverted s.lifted;
      command = s.command;
      configuration = s.configuration;
    }

-- all its floats pass: four sets of feet, the command's four, the configuration's 41
unfoldable pub finite_state : State → Bool
finite_state s =
    finite_feet s.start
    && finite_feet s.last
    && finite_feet s.target
    && finite_feet s.relaxed
    && finite_command s.command
    && finite_configuration s.configuration

unfoldable pub permitted_state : State → Bool
permitted_state s =
    permitted_feet foot_limit s.start
    && permitted_feet foot_limit s.last
    && permitted_feet foot_limit s.target
    && permitted_feet foot_limit s.relaxed
    && permitted_command s.command
    && permitted_configuration s.configuration

-- "1 to 3 for state and elapsed time": 1: a float is NaN or infinite; 2: one is outside the table; 3: elapsed or the step time is
unfoldable pub state_refusal : State → Time → ℕ
state_refusal s elapsed =
    first_of
    (unless (finite_state s) 1
    ∷ unless (permitted_state s) 2
    ∷ unless (timely elapsed s.command.step_time) 3
    ∷ [])

-- ---- what a host sets
-- a fresh state: all stand where they are relaxed, and the command stands still
unfoldable pub stood_state : Feet → Configuration → State
stood_state f c =
    record { start = f; last = f; target = f; relaxed = f; lifted = LRL; command = default_command; configuration = c }

-- the state under another command; all else stays
abbrev pub under_command : State → MoveCommand → State
under_command s c =
    record {
      start = s.start;
      last = s.last;
      target = s.target;
      relaxed = s.relaxed;
      lifted = s.lifted;
      command = c;
      configuration = s.configuration;
    }

-- 1, 2 and 3 over the state, with the command that it has, and over the new command
unfoldable pub new_command_refusal : State → MoveCommand → ℕ
new_command_refusal s c =
    first_of
    (unless (finite_state s && finite_command c) 1
    ∷ unless (permitted_state s && permitted_command c) 2
    ∷ unless (period_permitted s.command.step_time && period_permitted c.step_time) 3
    ∷ [])
