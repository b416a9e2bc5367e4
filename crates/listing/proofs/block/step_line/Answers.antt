-- `listing::block::step_line` meets its contract.
use Rattle.listing.proofs.block.step_line.Goals as goal

pub returns : goal.returns
returns c = simp (c.bits_of-3.ensures, c.bits_of-2.ensures, c.bits_of.ensures)
