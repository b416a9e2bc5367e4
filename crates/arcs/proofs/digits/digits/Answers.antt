-- `arcs::digits::digits` meets its contract: the sum's pattern lies between those of 1 and 2.
use native.Mathlib.Omega.{arith}
use Rattle.arcs.proofs.Ratios.{sum_no_nan, sum_least, sum_most, digits_is}
use Rattle.arcs.proofs.digits.digits.Goals as goal

pub float_to_bits-result : goal.float_to_bits-result
float_to_bits-result c = sum_no_nan c.args.u c.requires

pub overflow_sub-result : goal.overflow_sub-result
overflow_sub-result c = sum_least c.args.u c.requires

pub overflow_mul-result : goal.overflow_mul-result
overflow_mul-result c = omega (arith, sum_most c.args.u c.requires)

pub returns : goal.returns
returns c = digits_is c.args.u c.requires
