-- `listing::block::fill` meets its contract. What is stored so far and what is left join to the block.
use mathlib.Core.Path.{sym, ◌∙◌}
use borrow.Author.Rules.{rules}
use Rattle.listing.proofs.Blocks.{part_more, no_room}
use Rattle.listing.proofs.block.fill.Goals as goal

pub loop-r-preserved : goal.loop-r-preserved
loop-r-preserved c =
    let l = c.loop-r in
    let fits = sym c.has_room.ensures ∙ c.loop-r-test.true in
    let stored = c.put_line-at.ensures in (
      search rules,
      part_more l.r c.in-Some.n l.invariant.1 fits c.in-Some.ensures stored.0 stored.1,
      λ none. no_room c.args.buf.now l.buf _ _ none (l.invariant.2 none).0 l.invariant.0 fits,
    )
