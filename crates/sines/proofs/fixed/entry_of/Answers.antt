-- `sines::fixed::entry_of` meets its contract: what the table has at the place.
use mathlib.Core.Path.{ap₂}
use Rattle.std.specs.Prelude.{ℕ}
use Rattle.sines.specs.declared.table.Eighths.{Eighths}
use Rattle.sines.proofs.fixed.entry_of.Goals as goal

abbrev both : ℕ → ℕ → Eighths
both s c = record { 0 = s; 1 = c }

pub returns : goal.returns
returns c = ap₂ both c.entry.ensures.0 c.entry.ensures.1
