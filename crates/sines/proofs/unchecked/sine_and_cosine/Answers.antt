-- `sines::unchecked::sine_and_cosine` meets its contract, by its count and what the whole numbers give for that.
use mathlib.Core.Path.{ap}
use Rattle.sines.specs.declared.unchecked.Turn.{Turn}
use Rattle.sines.specs.declared.table.Eighths.{Eighths}
use Rattle.sines.proofs.unchecked.sine_and_cosine.Goals as goal

pub both_at-requires : goal.both_at-requires
both_at-requires c = (
  c.count_of-n.ensures.1,
  ap (λ (e : Eighths). e.0) c.entry_of-at.ensures,
  ap (λ (e : Eighths). e.1) c.entry_of-at.ensures,
)

pub turned-requires : goal.turned-requires
turned-requires c = (c.count_of-n.ensures.0, c.both_at.ensures.0, c.both_at.ensures.1)

pub returns : goal.returns
returns c = (ap (λ (t : Turn). t.sine) c.turned.ensures, ap (λ (t : Turn). t.cosine) c.turned.ensures)
