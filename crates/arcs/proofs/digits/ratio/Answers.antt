-- `arcs::digits::ratio` meets its contract: the quotient is a number from 0 to 1.
use Rattle.arcs.proofs.Ratios.{quotient_proper, ratio_is}
use Rattle.arcs.proofs.digits.ratio.Goals as goal

pub digits-requires : goal.digits-requires
digits-requires c = quotient_proper c.args.u c.args.v c.requires

pub returns : goal.returns
returns c = (ratio_is c.args.u c.args.v c.requires c.digits.result c.digits.ensures.0, c.digits.ensures.1)
