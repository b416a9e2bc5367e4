-- `lines::fields::field_end` meets its contract. The bytes passed and those left before the separator are those from the start on.
use mathlib.Core.Path.{◌≡◌, refl, ◌∙◌}
use Prim.Native.Nat.{◌<◌, ◌≤◌}
use lib.ListN.{length}
use native.Mathlib.Omega.{arith}
use borrow.Author.Rules.{rules}
use Rattle.lines.proofs.Reading.{span_step, span_stop, span_end}
use mathlib.Core.Logic.{⊎_elim}
use Rattle.numbers.proofs.Flags.{lt_or_le}
use Rattle.std.specs.Prelude.{max}
use Rattle.lines.proofs.fields.field_end.Goals as goal

pub loop-i-init : goal.loop-i-init
loop-i-init c = (search rules, refl)

pub overflow_add-i : goal.overflow_add-i
overflow_add-i c = search (rules, (c.eight_clear.ensures c.loop-i-test.true).0)

pub loop-i-smaller : goal.loop-i-smaller
loop-i-smaller c = omega (arith, (c.eight_clear.ensures c.loop-i-test.true).0)

pub loop-i-preserved : goal.loop-i-preserved
loop-i-preserved c = (omega arith, (c.eight_clear.ensures c.loop-i-test.true).1 ∙ c.loop-i.invariant.1)

pub loop-k-init : goal.loop-k-init
loop-k-init c = c.loop-i.invariant.1

pub returns-then-s-k : goal.returns-then-s-k
returns-then-s-k c = omega (
  arith,
  span_stop c.args.s.now c.loop-k.k c.loop-k-test.true c.args.separator c.if-s-k.true,
  c.loop-k.invariant,
)

pub loop-k-preserved : goal.loop-k-preserved
loop-k-preserved c = omega (
  arith,
  span_step c.args.s.now c.loop-k.k c.loop-k-test.true c.args.separator c.if-s-k.false,
  c.loop-k.invariant,
)

pub returns : goal.returns
returns c =
    let s = c.args.s.now in
    let m : c.max.result ≡ max c.loop-i.i (length s) = search rules in
    ⊎_elim
    (λ (past : length s < c.loop-i.i). omega (arith, m, span_end s c.loop-i.i (omega arith) c.args.separator, c.loop-i.invariant.1))
    (λ (inside : c.loop-i.i ≤ length s). omega (arith, m, span_end s c.loop-k.k c.loop-k-test.false c.args.separator, c.loop-k.invariant))
    (lt_or_le (length s) c.loop-i.i)
