-- `sines::eighteen::counts` meets its contract: behind the loop stand the counts so far, each at most 16.
use Rattle.std.specs.Prelude.{◌≡◌, ℕ, ◌<◌, ◌≤◌, map, length, get_or, take}
use Rattle.sines.specs.How.{sixteen, count}
use Rattle.sines.proofs.eighteen.counts.Given as goal

abbrev pub invariant-loop-i : goal.invariant-loop-i
invariant-loop-i l =
    (18 ≡ length l.o) × (take l.i l.o ≡ map count (take l.i l.x)) × ((k : ℕ) → k < l.i → get_or l.o k 0 ≤ sixteen)
