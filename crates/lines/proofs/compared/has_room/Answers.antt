-- `lines::compared::has_room` meets its contract.
use mathlib.Core.Path.{sym}
use Prim.Native.Nat.{◌+◌}
use native.Mathlib.Omega.{arith}
use borrow.Author.Tests.{le-leb, lt-leb}
use Rattle.lines.proofs.compared.has_room.Goals as goal

pub returns-then-n-lt83 : goal.returns-then-n-lt83
returns-then-n-lt83 c = sym (lt-leb (c.args.at + 83) c.args.n (omega arith))

pub returns-then-n-at : goal.returns-then-n-at
returns-then-n-at c = sym (lt-leb (c.args.at + 83) c.args.n (omega arith))

pub returns : goal.returns
returns c = sym (le-leb (c.args.at + 83) c.args.n (omega arith))
