-- `lines::fields::eight_clear` meets its contract. Eight bytes are passed one by one.
use mathlib.Core.Bool.{false≢true}
use Prim.Native.Nat.{◌+◌, ◌≤◌}
use lib.ListN.{length}
use native.Mathlib.Omega.{arith}
use Rattle.lines.proofs.Reading.{eight_passed}
use Rattle.lines.proofs.fields.eight_clear.Goals as goal

pub returns-then-n-lt8 : goal.returns-then-n-lt8
returns-then-n-lt8 c = λ e. absurd (false≢true e)

pub returns-then-n-at : goal.returns-then-n-at
returns-then-n-at c = λ e. absurd (false≢true e)

pub returns : goal.returns
returns c =
    let a = c.args in
    let h : a.at + 8 ≤ length a.s.now = omega arith in
    λ e. (h, eight_passed a.s.now a.at a.separator h e)
