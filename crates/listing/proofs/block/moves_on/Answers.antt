-- `listing::block::moves_on` meets its contract.
use Rattle.listing.specs.Block.{moves_on, most_steps}
use Rattle.listing.proofs.block.moves_on.Goals as goal

pub returns-then-is_same : goal.returns-then-is_same
unfolding moves_on
returns-then-is_same c = simp (← c.is_same.ensures, c.if-is_same.true)

pub returns : goal.returns
unfolding moves_on most_steps
returns c = simp (← c.is_same.ensures, c.if-is_same.false)
