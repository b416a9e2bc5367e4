-- `listing::block::Rest::next` meets its contract: a refusal has one line.
use Rattle.listing.proofs.Blocks.{refuses}
use Rattle.listing.proofs.block.Rest.next.Goals as goal

pub returns-in-Refusing : goal.returns-in-Refusing
returns-in-Refusing c = rw (c.in-Refusing.is, c.number.ensures) (refuses c.in-Refusing.refusal)
