-- A part that goes into the bytes of a state gives the bytes of the state with that part; points are read alike with marks and without.
-- Assumes nothing.
use Rattle.std.specs.Prelude.{◌≡◌, ℕ, List}
use mathlib.Core.Path.{refl}
use Rattle.legs.specs.Legs.{points}
use Rattle.legs.specs.Legs.{Feet}
use Rattle.commands.specs.declared.MoveCommand.{MoveCommand}
use Rattle.commands.specs.declared.Tripod.{Tripod}
use Rattle.packed.specs.Packed.{feet_in}
use Rattle.conductor.specs.States.{with_last, under_command}
use Rattle.conductor.specs.declared.State.{State}
use Rattle.state_row.specs.Layout.{state_bytes}
use Rattle.state_row.specs.How.{points_in, last_put, plan_put, command_put}

pub points_alike : (l : List ℕ) (marks at : ℕ) → points_in l at ≡ points (feet_in l marks at)
unfolding points_in feet_in
points_alike l marks at = refl

pub last_put_lem : (s : State) (f : Feet) → last_put (state_bytes s) f ≡ state_bytes (with_last s f)
unfolding state_bytes
last_put_lem s f = refl

-- a state that goes from its last feet to this target, by this tripod
abbrev pub set_out : State → Feet → Tripod → State
set_out s target t =
    record {
      start = s.last;
      last = s.last;
      target = target;
      relaxed = s.relaxed;
      lifted = t;
      command = s.command;
      configuration = s.configuration;
    }

pub plan_put_lem : (s : State) (target : Feet) (t : Tripod) → plan_put (state_bytes s) s.last target t ≡ state_bytes (set_out s target t)
unfolding state_bytes
plan_put_lem s target t = refl

pub command_put_lem : (s : State) (c : MoveCommand) → command_put (state_bytes s) c ≡ state_bytes (under_command s c)
unfolding state_bytes
command_put_lem s c = refl
