-- `lines::put::digit` meets its contract: the digits stand in their order.
use native.Mathlib.Omega.{arith}
use Prim.Native.Nat.{◌%◌}
use Rattle.lines.proofs.Values.{digits_in_order}
use Rattle.lines.proofs.put.digit.Goals as goal

pub returns : goal.returns
returns c = digits_in_order (c.args.n % 16) (omega arith)
