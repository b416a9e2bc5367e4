-- `lines::put::width` meets its contract. The digits counted and those left of m are those of n and one.
use mathlib.Core.Path.{◌≡◌}
use Prim.Native.Nat.{◌+◌, ◌≤◌}
use lib.ListN.{length}
use Rattle.lines.specs.Digits.{decimal}
use Rattle.lines.proofs.put.width.Given as goal

abbrev pub invariant-loop-m : goal.invariant-loop-m
invariant-loop-m l = (l.w + length (decimal l.m) ≡ 1 + length (decimal l.n)) × (length (decimal l.n) ≤ 20)

abbrev pub decreases-loop-m : goal.decreases-loop-m
decreases-loop-m l = l.m
