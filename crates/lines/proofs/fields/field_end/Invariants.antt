-- `lines::fields::field_end` meets its contract. The bytes passed and those left before the separator are those from the start on.
use mathlib.Core.Path.{◌≡◌}
use Prim.Native.Nat.{◌≤◌, ◌-◌, ◌+◌}
use lib.ListN.{length, drop}
use Rattle.lines.specs.Fields.{span}
use Rattle.lines.proofs.fields.field_end.Given as goal

abbrev pub invariant-loop-i : goal.invariant-loop-i
invariant-loop-i l = (l.from ≤ l.i) × (l.i + span l.separator (drop l.i l.s) ≡ l.from + span l.separator (drop l.from l.s))

abbrev pub decreases-loop-i : goal.decreases-loop-i
decreases-loop-i l = length l.s - l.i

abbrev pub invariant-loop-k : goal.invariant-loop-k
invariant-loop-k l = l.k + span l.separator (drop l.k l.s) ≡ l.from + span l.separator (drop l.from l.s)
