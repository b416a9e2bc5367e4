-- The points so far are stored, one behind the other.
use Rattle.std.proofs.Common.{◌≡◌, take}
use Rattle.std.proofs.lemmas.List.Edits.{sets}
use Rattle.packed.proofs.Runs.{points_run}
use Rattle.packed.proofs.put_points.Given as goal

abbrev pub invariant-loop-i : goal.invariant-loop-i
invariant-loop-i l = l.s ≡ sets l.initial.s l.at (points_run (take l.i l.foot-items))
