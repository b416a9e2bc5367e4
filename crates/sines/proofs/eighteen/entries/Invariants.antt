-- `sines::eighteen::entries` meets its contract: behind the loop stand the entries so far.
use Rattle.std.specs.Prelude.{◌≡◌, map, length, take}
use Rattle.sines.specs.How.{entry_at}
use Rattle.sines.proofs.eighteen.entries.Given as goal

abbrev pub invariant-loop-i : goal.invariant-loop-i
invariant-loop-i l = (18 ≡ length l.o) × (take l.i l.o ≡ map entry_at (take l.i l.n))
