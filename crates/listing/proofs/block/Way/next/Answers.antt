-- `listing::block::Way::next` meets its contract, by the test of the definition.
use mathlib.Core.Path.{sym, ◌∙◌}
use Rattle.listing.proofs.Blocks.{made_fits, goes_on, ends}
use Rattle.listing.proofs.block.Way.next.Goals as goal

pub overflow_add-made : goal.overflow_add-made
overflow_add-made c = record { fits = made_fits _ _ _ (sym c.moves_on.ensures ∙ c.if-moves_on.true) }

pub returns-then-moves_on : goal.returns-then-moves_on
returns-then-moves_on c =
    simp (c.step_line.ensures, c.place-last.ensures, c.move_towards.ensures)
    (goes_on c.args.self (sym c.moves_on.ensures ∙ c.if-moves_on.true))

pub returns-else-moves_on : goal.returns-else-moves_on
returns-else-moves_on c = rw c.end_line.ensures (ends c.args.self (sym c.moves_on.ensures ∙ c.if-moves_on.false))
