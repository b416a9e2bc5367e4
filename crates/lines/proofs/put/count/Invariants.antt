-- `lines::put::count` meets its contract. The digits of m stored over what is there give the digits of n stored over what was there.
use mathlib.Core.Path.{◌≡◌}
use Prim.Native.Nat.{◌+◌, ◌≤◌}
use lib.ListN.{length}
use lib.Seq.{sets}
use Rattle.lines.specs.Digits.{decimal}
use Rattle.lines.proofs.put.count.Given as goal

abbrev pub invariant-loop-m : goal.invariant-loop-m
invariant-loop-m l =
    (sets l.buf l.at (decimal l.m) ≡ sets l.initial.buf l.at (decimal l.n)) × (l.j + 1 ≡ l.at + length (decimal l.m)) × (length
    (decimal l.m) ≤ length (decimal l.n))
    × (length l.buf ≡ length l.initial.buf)

abbrev pub decreases-loop-m : goal.decreases-loop-m
decreases-loop-m l = l.m
