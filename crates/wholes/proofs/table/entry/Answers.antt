-- `wholes::table::entry` meets its contract: the constant is the table that the test of Rule has passed.
use Rattle.wholes.proofs.Listed.{table}
use Rattle.wholes.proofs.Rule.{entry_at, at_most_scale}
use Rattle.wholes.proofs.table.entry.Goals as goal

pub returns : goal.returns
unfolding table
returns c = (entry_at c.args.k c.requires, at_most_scale c.args.k c.requires)
