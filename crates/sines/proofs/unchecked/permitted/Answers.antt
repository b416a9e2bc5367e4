-- `sines::unchecked::permitted` meets its contract: the door's test of the row.
use Rattle.numbers.specs.Limits.{sine_argument}
use Rattle.numbers.proofs.OnePass.{tested}
use Rattle.sines.proofs.unchecked.permitted.Goals as goal

pub returns : goal.returns
returns c =
    tested sine_argument c.sine_argument.result c.args.x c.is_permitted.result c.sine_argument.ensures
    c.is_permitted.ensures
