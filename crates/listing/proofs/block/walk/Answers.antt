-- `listing::block::walk` meets its contract. Before the first step the whole block is left; the walk has a count, since the door let it in.
use mathlib.Core.Path.{sym}
use Rattle.listing.proofs.Blocks.{walk_printed, refusal_printed}
use borrow.Author.Rules.{rules}
use Rattle.listing.proofs.block.walk.Goals as goal

pub returns-in-Ok : goal.returns-in-Ok
returns-in-Ok c =
    walk_printed _ _ _ _ _ c.point_of-start.ensures c.point_of-target.ensures
    (search rules) (search rules, search rules, search rules) (search rules, search rules, search rules)
    (sym c.in-Ok.ensures)

pub returns-in-Err : goal.returns-in-Err
returns-in-Err c =
    refusal_printed _ _ _ _ _ c.point_of-start.ensures c.point_of-target.ensures c.in-Err.refusal
    (sym c.in-Err.ensures)
