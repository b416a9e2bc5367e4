-- `arcs::digits::scaled` meets its contract: the product by 2 ^ -22 is exact.
use mathlib.Core.Path.{◌∙◌, ap}
use native.Mathlib.Omega.{arith}
use lib.Dec.{le→leb}
use Rattle.std.specs.Prelude.{pos}
use lib.Ieee.{binary32, in_float, mul, of_int}
use Rattle.arcs.proofs.Results.{product_is}
use Rattle.arcs.proofs.digits.scaled.Goals as goal

pub int_to_float-result : goal.int_to_float-result
unfolding in_float
int_to_float-result c = le→leb c.args.a 16777216 (omega arith)

pub returns : goal.returns
returns c = ap (mul binary32 (of_int binary32 (pos c.args.a))) c.angle_unit.ensures ∙ product_is c.args.below c.args.a c.requires
