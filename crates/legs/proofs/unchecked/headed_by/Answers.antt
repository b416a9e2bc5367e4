-- `legs::unchecked::headed_by` meets its contract, by its one test.
use Rattle.std.specs.Prelude.{◌≡◌, ◌<◌, Bool, true, false, ◌&&◌}
use mathlib.Core.Path.{sym}
use mathlib.Core.Bool.{true≢false}
use native.Mathlib.Omega.{arith}
use borrow.Author.Tests.{ltb-true}
use Rattle.legs.specs.How.{headed_by}
use Rattle.legs.proofs.unchecked.headed_by.Goals as goal

second : (a b : Bool) → (a && b) ≡ true → b ≡ true
second true b h = h
second false b h = absurd (true≢false (sym h))

pub overflow_add-result : goal.overflow_add-result
overflow_add-result c =
    let room : c.args.s.len < 6 = ltb-true c.args.s.len 6 (second c.args.flag _ c.if-flag-len.true) in
    omega (arith, room)

pub returns-then-flag-len : goal.returns-then-flag-len
unfolding headed_by
returns-then-flag-len c = simp c.if-flag-len.true

pub returns-else-flag-len : goal.returns-else-flag-len
unfolding headed_by
returns-else-flag-len c = simp c.if-flag-len.false
