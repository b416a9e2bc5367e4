-- `lines::listed::put_line` meets its contract. With room, each arm stores its kind of line; without, nothing is a text of no bytes.
use Prim.Native.Nat.{◌+◌}
use native.Mathlib.Omega.{arith}
use lib.ListN.{length}
use borrow.Author.Tests.{le-leb, lt-leb}
use Rattle.lines.specs.Lines.{body}
use Rattle.numbers.proofs.Stores.{stored_as, stored_nothing}
use Rattle.lines.proofs.listed.put_line.Goals as goal

pub returns-then-n-lt40 : goal.returns-then-n-lt40
returns-then-n-lt40 c = (
  stored_as (simp (lt-leb (c.args.at + 40) (length c.args.buf.now) (omega arith)))
      stored_nothing,
  omega arith,
)

pub returns-then-n-at : goal.returns-then-n-at
returns-then-n-at c = (
  stored_as
      (simp (lt-leb (c.args.at + 40) (length c.args.buf.now) (omega arith)))
      stored_nothing,
  omega arith,
)

pub returns-in-Header : goal.returns-in-Header
unfolding body
returns-in-Header c = (
  stored_as (simp (
    le-leb (c.args.at + 40)
        (length c.args.buf.now) (omega arith),
    c.in-Header.is,
  )) c.put_header.ensures.0,
  c.put_header.ensures.1,
)

pub returns-in-Move : goal.returns-in-Move
unfolding body
returns-in-Move c = (
  stored_as (simp (
    le-leb (c.args.at + 40)
        (length c.args.buf.now) (omega arith),
    c.in-Move.is,
  )) c.put_move.ensures.0,
  c.put_move.ensures.1,
)

pub returns-in-Arrived : goal.returns-in-Arrived
unfolding body
returns-in-Arrived c = (
  stored_as (simp (
    le-leb (c.args.at + 40)
        (length c.args.buf.now) (omega arith),
    c.in-Arrived.is,
  )) c.put_short.ensures.0,
  c.put_short.ensures.1,
)

pub returns-in-Refused : goal.returns-in-Refused
unfolding body
returns-in-Refused c = (
  stored_as (simp (
    le-leb (c.args.at + 40)
        (length c.args.buf.now) (omega arith),
    c.in-Refused.is,
  )) c.put_short-in-Refused.ensures.0,
  c.put_short-in-Refused.ensures.1,
)
