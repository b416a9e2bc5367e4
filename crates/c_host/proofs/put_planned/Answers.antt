-- `c_host::put_planned` meets its contract: the other tripod, and the target that is planned for it, of what the row holds.
use Rattle.std.specs.Prelude.{◌≡◌, ℕ, List, get_or}
use mathlib.Core.Path.{ap, ap₂, ◌∙◌}
use Rattle.legs.specs.Legs.{finite_feet}
use Rattle.legs.specs.Legs.{Feet}
use Rattle.commands.specs.Tripods.{inverted}
use Rattle.commands.specs.declared.MoveCommand.{MoveCommand}
use Rattle.commands.specs.declared.Tripod.{Tripod}
use Rattle.commands.proofs.OneAnswer.{told_tripod_loses_nothing}
use Rattle.planner.specs.Entry.{planned_feet}
use Rattle.packed.specs.Packed.{feet_in}
use Rattle.conductor.specs.States.{planned_state}
use Rattle.state_row.specs.Layout.{tripod_of, command_of, state_of}
use Rattle.state_row.specs.How.{plan_put}
use Rattle.state_row.proofs.Finite.{of_state}
use Rattle.c_host.proofs.put_planned.Goals as goal

module _ (l : List ℕ) (last relaxed target : Feet) (other : Tripod) (m : MoveCommand) where
  abbrev OfRow : Type 0
  OfRow =
      (last ≡ (state_of l).last)
      × (target ≡ (planned_state (state_of l)).target)
      × (other ≡ (planned_state (state_of l)).lifted)

  in_order : last ≡ feet_in l 486 72 → relaxed ≡ feet_in l 498 216 → other ≡ inverted (tripod_of (get_or l 504 0)) → m ≡ command_of l
      → target ≡ planned_feet last relaxed other m → OfRow
  unfolding state_of
  in_order a b i e t =
      let target_is =
      t
      ∙ ap₂ (λ (x y : Feet). planned_feet x y other m) a b
      ∙ ap₂ (planned_feet (feet_in l 486 72) (feet_in l 498 216)) i e in
      (a, target_is, i)

pub put_plan-requires : goal.put_plan-requires
put_plan-requires c =
    let planned : OfRow c.args.state.now c.feet_in-last.result c.feet_in-relaxed.result c.next_target-target.result c.invert-other.result
    c.command_at-command.result = in_order c.args.state.now _ _ _ _ _ c.feet_in-last.ensures c.feet_in-relaxed.ensures
    (told_tripod_loses_nothing _ _ c.invert-other.ensures ∙ ap inverted c.tripod_of-lifted.ensures)
    c.command_at-command.ensures c.next_target-target.ensures in
    let finite = of_state (planned_state (state_of c.args.state.now)) c.requires.1 in
    (c.requires.0, ap finite_feet planned.0 ∙ finite.1, ap finite_feet planned.1 ∙ finite.2)

pub returns : goal.returns
returns c =
    let planned : OfRow c.args.state.now c.feet_in-last.result c.feet_in-relaxed.result c.next_target-target.result c.invert-other.result
    c.command_at-command.result = in_order c.args.state.now _ _ _ _ _ c.feet_in-last.ensures c.feet_in-relaxed.ensures
    (told_tripod_loses_nothing _ _ c.invert-other.ensures ∙ ap inverted c.tripod_of-lifted.ensures)
    c.command_at-command.ensures c.next_target-target.ensures in
    let l = c.args.state.now in
    c.put_plan.ensures
    ∙ ap (λ (f : Feet). plan_put l f c.next_target-target.result c.invert-other.result) planned.0
    ∙ ap₂ (plan_put l (state_of l).last) planned.1 planned.2
