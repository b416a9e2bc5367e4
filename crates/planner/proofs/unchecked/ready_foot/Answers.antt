-- `planner::unchecked::ready_foot` meets its contract, by its one test: the bits of 0 are the third component of both vectors.
use Rattle.legs.specs.Vectors.{plus, minus}
use Rattle.commands.proofs.Constants.{nought_bits}
use Rattle.planner.specs.Plan.{ready_foot}
use Rattle.planner.proofs.unchecked.ready_foot.Goals as goal

pub returns-then-lifted : goal.returns-then-lifted
unfolding ready_foot plus
returns-then-lifted c = simp (nought_bits, c.if-lifted.true)

pub returns-else-lifted : goal.returns-else-lifted
unfolding ready_foot plus minus
returns-else-lifted c = simp (nought_bits, c.if-lifted.false)
