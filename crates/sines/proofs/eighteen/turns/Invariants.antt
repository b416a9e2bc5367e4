-- `sines::eighteen::turns` meets its contract: behind the loop stand the turns so far; the counts and the entries are those of the angles.
use Rattle.std.specs.Prelude.{◌≡◌, map, length, take}
use Rattle.sines.specs.How.{turn}
use Rattle.sines.proofs.eighteen.turns.Given as goal

abbrev pub invariant-loop-i : goal.invariant-loop-i
invariant-loop-i l = (18 ≡ length l.o) × (take l.i l.o ≡ map turn (take l.i l.x))
