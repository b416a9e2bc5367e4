-- `poses::values::run_of` meets its contract. After k digits what is left, behind the number so far, is the whole run.
use Rattle.std.specs.Prelude.{◌≡◌, ◌+◌, ◌-◌, ◌^◌, ◌<◌, drop}
use Rattle.poses.specs.Gathering.{run_read}
use Rattle.poses.proofs.Runs.{run_to}
use Rattle.poses.proofs.values.run_of.Given as goal

abbrev pub invariant-loop-k : goal.invariant-loop-k
invariant-loop-k l =
    (l.n < 10 ^ (l.k + 1)) × (run_to l.k l.n (8 - l.k) (drop (l.from + l.k) l.s) ≡ run_read l.first (drop l.from l.s))
