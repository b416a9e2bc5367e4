-- `listing::block::header` meets its contract: the line of its version is stored where there is room.
use Rattle.listing.proofs.block.header.Goals as goal

pub returns : goal.returns
returns c = c.put_line.ensures
