-- `commands::unchecked::rounded` meets its contract: two halves that are exact, and one sum.
use native.Mathlib.Omega.{arith}
use Rattle.std.specs.Prelude.{◌/◌, ◌%◌}
use lib.Dec.{le→leb}
use lib.Ieee.{in_float}
use Rattle.commands.proofs.Halves.{two_halves}
use Rattle.commands.proofs.unchecked.rounded.Goals as goal

pub int_to_float-high : goal.int_to_float-high
unfolding in_float
int_to_float-high c = le→leb (c.args.n / 16777216) 16777216 (omega arith)

pub int_to_float-low : goal.int_to_float-low
unfolding in_float
int_to_float-low c = le→leb (c.args.n % 16777216) 16777216 (omega arith)

pub returns : goal.returns
returns c = two_halves c.args.n (omega arith)
