-- `lines::put::width` meets its contract. The digits counted and those left of m are those of n and one.
use native.Mathlib.Omega.{arith}
use Rattle.lines.proofs.Decimal.{length_few, length_more, length_at_most}
use Rattle.lines.proofs.put.width.Goals as goal

pub loop-m-init : goal.loop-m-init
loop-m-init c = (omega arith, length_at_most 19 c.args.n (omega arith))

pub loop-m-preserved : goal.loop-m-preserved
loop-m-preserved c = (omega (arith, length_more c.loop-m.m c.loop-m-test.true), c.loop-m.invariant.1)

pub returns : goal.returns
returns c = omega (arith, length_few c.loop-m.m (omega arith))
