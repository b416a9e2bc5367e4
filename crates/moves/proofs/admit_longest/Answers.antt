-- `moves::admit_longest` meets its contract: what the first pass lets through is finite too.
use Rattle.moves.proofs.OnePass.{longest_taken, longest_turned_away}
use Rattle.moves.proofs.admit_longest.Goals as goal

pub returns-then-feet_permitted : goal.returns-then-feet_permitted
returns-then-feet_permitted c =
    let a = c.args in
    longest_taken a.a a.b
    (simp (
      c.feet_permitted-2.ensures,
      c.feet_permitted.ensures,
      c.foot_limit-limit.ensures,
    ) at c.if-feet_permitted.true)

pub returns-else-feet_permitted : goal.returns-else-feet_permitted
returns-else-feet_permitted c =
    let a = c.args in
    let p = simp (
      c.feet_permitted-2.ensures,
      c.feet_permitted.ensures,
      c.foot_limit-limit.ensures,
    ) at c.if-feet_permitted.false in
    simp (
      c.outside.ensures,
      c.feet_finite-else-feet_permitted.ensures,
      c.feet_finite.ensures,
    ) (longest_turned_away a.a a.b p)
