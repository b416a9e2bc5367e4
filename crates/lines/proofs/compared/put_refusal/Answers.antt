-- `lines::compared::put_refusal` meets its contract.
use Rattle.lines.specs.Fields.{parted}
use Rattle.numbers.proofs.Stores.{stored_more}
use Rattle.lines.proofs.compared.put_refusal.Goals as goal

pub returns : goal.returns
unfolding parted
returns c = stored_more c.letter-a.ensures c.put_short.ensures
