-- `sines::unchecked::last_place_of` meets its contract, by its test.
use borrow.Author.Tests.{le-leb, lt-leb}
use lib.Ieee.{of_bits, neg}
use Rattle.sines.proofs.unchecked.last_place_of.Goals as goal

pub returns-then-b-ge2147483648 : goal.returns-then-b-ge2147483648
unfolding of_bits neg
returns-then-b-ge2147483648 c = simp (le-leb 2147483648 c.args.b c.if-b-ge2147483648.true)

pub returns-else-b-ge2147483648 : goal.returns-else-b-ge2147483648
unfolding of_bits
returns-else-b-ge2147483648 c = simp (lt-leb 2147483648 c.args.b c.if-b-ge2147483648.false)
