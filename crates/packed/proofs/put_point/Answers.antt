-- `packed::put_point` meets its contract: each coordinate of a finite point is finite.
use Rattle.std.proofs.Common.{arith}
use Rattle.packed.proofs.Storing.{finite_each}
use Rattle.packed.proofs.put_point.Goals as goal

pub put_float-requires-2 : goal.put_float-requires-2
put_float-requires-2 c = (omega arith, (finite_each _ c.requires.1).1)

pub put_float-requires-3 : goal.put_float-requires-3
put_float-requires-3 c = (omega arith, (finite_each _ c.requires.1).2)
