-- `lines::digits::hex` meets its contract. Its test is that of the definition.
use mathlib.Core.Bool.{◌&&◌}
use lib.Dec.{leb}
use lib.ListN.{length}
use borrow.Author.Rules.{rules}
use borrow.Author.Tests.{leb-true}
use Rattle.lines.specs.Digits.{hex_of}
use Rattle.numbers.proofs.OnePass.{and_right}
use Rattle.lines.proofs.digits.hex.Goals as goal

pub read_in-requires : goal.read_in-requires
read_in-requires c = (
  search rules,
  leb-true _ 16
      (and_right (leb c.args.least (length c.args.s.now)
      && leb (length c.args.s.now) c.args.most) _ c.if-least-n.true),
)

pub returns-then-least-n : goal.returns-then-least-n
unfolding hex_of
returns-then-least-n c = simp (c.if-least-n.true, c.read_in.ensures)

pub returns-else-least-n : goal.returns-else-least-n
unfolding hex_of
returns-else-least-n c = simp c.if-least-n.false
