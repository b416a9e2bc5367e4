-- `lines::digits::count` meets its contract. Its tests are those of the definition.
use mathlib.Core.Bool.{◌&&◌, and-true, and-false}
use borrow.Author.Rules.{rules}
use borrow.Author.Tests.{leb-true}
use native.Mathlib.Omega.{arith}
use lib.Dec.{leb}
use lib.ListN.{length}
use Rattle.numbers.proofs.OnePass.{and_left, and_right}
use Rattle.lines.specs.Digits.{count_of}
use Rattle.lines.proofs.digits.count.Goals as goal

pub bounds-s-0 : goal.bounds-s-0
bounds-s-0 c = leb-true 1 _ (and_left _ _ (and_left _ _ c.if-n-limit.true))

pub read_in-requires : goal.read_in-requires
read_in-requires c =
    let few = leb-true (length c.args.s.now) 9
    (and_right (leb 1 (length c.args.s.now) && leb (length c.args.s.now)
    c.args.limit) _ c.if-n-limit.true) in
    (search rules, omega arith)

pub returns-then-n-s : goal.returns-then-n-s
unfolding count_of
returns-then-n-s c = simp (c.if-n-limit.true, c.if-n-s.true, and-true) c.read_in.ensures

pub returns-else-n-s : goal.returns-else-n-s
unfolding count_of
returns-else-n-s c = simp (c.if-n-limit.true, c.if-n-s.false, and-false)

pub returns-else-n-limit : goal.returns-else-n-limit
unfolding count_of
returns-else-n-limit c = simp c.if-n-limit.false
