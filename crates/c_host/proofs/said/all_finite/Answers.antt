-- `c_host::said::all_finite` meets its contract: the points of four sets of feet, the command, the configuration.
use Rattle.std.specs.Prelude.{◌≡◌, ℕ, Bool, ◌&&◌, List}
use mathlib.Core.Path.{refl}
use Rattle.legs.specs.Legs.{finite_points}
use Rattle.commands.specs.Command.{finite_command}
use Rattle.commands.specs.declared.MoveCommand.{MoveCommand}
use Rattle.joints.specs.Configured.{finite_configuration}
use Rattle.joints.specs.declared.configuration.Configuration.{Configuration}
use Rattle.packed.specs.Packed.{feet_in}
use Rattle.conductor.specs.States.{finite_state}
use Rattle.state_row.specs.Layout.{command_of, state_of}
use Rattle.state_row.specs.How.{points_in}
use Rattle.c_host.proofs.said.all_finite.Goals as goal

module _ (l : List ℕ) (a b c d e f : Bool) (m : MoveCommand) (k : Configuration) where
  in_order : a ≡ finite_points (points_in l 0) → b ≡ finite_points (points_in l 72) → c ≡ finite_points (points_in l 144)
      → d ≡ finite_points (points_in l 216) → e ≡ finite_command m → m ≡ command_of l → f ≡ finite_configuration k →
      k ≡ (state_of l).configuration
      → (a && b && c && d && e && f) ≡ finite_state (state_of l)
  unfolding finite_state state_of points_in feet_in
  in_order a b c d e m f k = rw (a, b, c, d, e, m, f, k) refl

pub returns : goal.returns
returns c =
    in_order c.args.s.now _ _ _ _ _ _ _ _ c.points_finite.ensures c.points_finite-2.ensures
    c.points_finite-3.ensures c.points_finite-4.ensures c.command_finite.ensures c.command_at.ensures
    c.finite.ensures c.configuration.ensures
