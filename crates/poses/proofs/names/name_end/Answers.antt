-- `poses::names::name_end` meets its contract. The end of the name stays the same while its characters are passed.
use Rattle.std.specs.Prelude.{◌≡◌, ℕ, ◌+◌, ◌≤◌, List, length}
use mathlib.Core.Path.{sym, ◌∙◌, subst}
use native.Mathlib.Omega.{arith}
use borrow.Author.Rules.{rules}
use Rattle.poses.specs.How.{name_end}
use Rattle.poses.proofs.Closing.{name_within, name_out, name_closed, name_broken, name_goes_on}
use Rattle.poses.proofs.names.name_end.Goals as goal

ended : (s : List ℕ) (from i : ℕ) {r : ℕ} → name_end s i ≡ name_end s from → r ≡ name_end s i → (r ≡ name_end s from) × (r ≤ length s + 1)
ended s from i same e = (e ∙ same, subst (λ (n : ℕ). n ≤ length s + 1) (sym e) (name_within s i))

pub returns-then-s-i-eq34 : goal.returns-then-s-i-eq34
returns-then-s-i-eq34 c =
    ended c.args.s.now c.args.from c.loop-i.i c.loop-i.invariant (name_closed c.args.s.now c.loop-i.i c.loop-i-test.true c.if-s-i-eq34.true)

pub returns-then-k-eq0 : goal.returns-then-k-eq0
returns-then-k-eq0 c =
    ended c.args.s.now c.args.from c.loop-i.i c.loop-i.invariant
    (c.nowhere.ensures
    ∙ name_broken c.args.s.now c.loop-i.i c.loop-i-test.true c.if-s-i-eq34.false
    (sym c.char_long-k.ensures.0 ∙ c.if-k-eq0.true))

pub overflow_add-i : goal.overflow_add-i
overflow_add-i c = let few : c.char_long-k.result ≤ 6 = c.char_long-k.ensures.1 in search rules

pub loop-i-smaller : goal.loop-i-smaller
loop-i-smaller c = let some : c.char_long-k.result ≡ 0 → ⊥ = c.if-k-eq0.false in omega (arith, some)

pub loop-i-preserved : goal.loop-i-preserved
loop-i-preserved c =
    let many = c.char_long-k in
    name_goes_on c.args.s.now c.loop-i.i c.loop-i-test.true c.if-s-i-eq34.false many.result
    many.ensures.0 c.if-k-eq0.false
    ∙ c.loop-i.invariant

pub returns : goal.returns
returns c =
    ended c.args.s.now c.args.from c.loop-i.i c.loop-i.invariant (c.nowhere-2.ensures
    ∙ name_out c.args.s.now c.loop-i.i c.loop-i-test.false)
