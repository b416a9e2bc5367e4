-- `lines::compared::put_number` meets its contract.
use native.Mathlib.Omega.{arith}
use Rattle.lines.specs.Fields.{parted}
use Rattle.lines.proofs.Decimal.{length_at_most}
use Rattle.numbers.proofs.Stores.{stored_more}
use Rattle.lines.proofs.compared.put_number.Goals as goal

pub count-requires : goal.count-requires
count-requires c = omega (arith, length_at_most 19 c.args.n (omega arith))

pub returns : goal.returns
unfolding parted
returns c = stored_more c.letter-a.ensures c.count.ensures
