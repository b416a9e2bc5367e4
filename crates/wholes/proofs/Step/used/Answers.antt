-- `wholes::Step::used` meets its contract: the place itself up to the middle, and counted back from 2,048 after it.
use Prim.Native.Nat.{◌-◌, ◌≤◌, ◌<◌}
use native.Mathlib.Omega.{arith}
use lib.Dec.{leb}
use borrow.Author.Tests.{le-leb, lt-leb}
use Rattle.numbers.proofs.Flags.{where_true, where_false}
use Rattle.wholes.proofs.Step.used.Goals as goal

pub returns-then-self-le1024 : goal.returns-then-self-le1024
returns-then-self-le1024 c =
    let p = c.args.self.progress in
    let h : p ≤ 1024 = c.if-self-le1024.true in
    (where_true (leb p 1024) p (2048 - p) (le-leb p 1024 h), omega arith)

pub returns-else-self-le1024 : goal.returns-else-self-le1024
returns-else-self-le1024 c =
    let p = c.args.self.progress in
    let h : 1024 < p = c.if-self-le1024.false in
    (where_false (leb p 1024) p (2048 - p) (lt-leb p 1024 h), omega arith)
