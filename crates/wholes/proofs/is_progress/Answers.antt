-- `wholes::is_progress` meets its contract: the range, asked of what is read.
use lib.IntN.{pos}
use Rattle.wholes.proofs.Steps.{tested}
use Rattle.wholes.proofs.is_progress.Goals as goal

pub returns : goal.returns
returns c = tested (pos 0) (pos 2048) c.args.n _ c.ranges.n c.in_range.ensures
