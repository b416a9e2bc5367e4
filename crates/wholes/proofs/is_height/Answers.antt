-- `wholes::is_height` meets its contract: the range, asked of what is read.
use lib.IntN.{pos}
use Rattle.wholes.proofs.Steps.{tested}
use Rattle.wholes.proofs.is_height.Goals as goal

pub returns : goal.returns
returns c = tested (pos 0) (pos 1000) c.args.n _ c.ranges.n c.in_range.ensures
