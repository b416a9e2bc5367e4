-- `lines::record::walk_of` meets its contract.
use Rattle.lines.proofs.record.walk_of.Goals as goal

pub returns : goal.returns
returns c = simp (c.place_of-from.ensures, c.place_of-to.ensures, c.from_pattern.ensures)
