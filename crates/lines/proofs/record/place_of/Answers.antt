-- `lines::record::place_of` meets its contract.
use Rattle.lines.proofs.record.place_of.Goals as goal

pub returns : goal.returns
returns c = simp (c.from_pattern.ensures, c.from_pattern-2.ensures, c.from_pattern-3.ensures)
