-- `lines::listed::header_of` meets its contract. The part from 12 on is what is left after the name and its tab.
use mathlib.Core.Path.{◌≡◌, sym, ◌∙◌}
use Prim.Native.Nat.{◌-◌}
use borrow.Author.Tests.{lt-ltb, le-ltb}
use native.Mathlib.Omega.{arith}
use lib.ListN.{length, length-drop, take, drop}
use lib.Seq.{take_all}
use Rattle.lines.specs.Reading.{header_of}
use Rattle.lines.proofs.Reading.{count_small, no_count_there, count_untested, count_there}
use Rattle.lines.proofs.listed.header_of.Goals as goal

pub returns-then-s-lt12 : goal.returns-then-s-lt12
unfolding header_of
returns-then-s-lt12 c = simp (lt-ltb _ 12 c.if-s-lt12.true)

pub returns-in_err-version : goal.returns-in_err-version
unfolding header_of
returns-in_err-version c =
    let s = c.args.s.now in
    let rest : take (length s - 12) (drop 12 s) ≡ drop 12 s = take_all (length s - 12) (drop 12 s) (simp length-drop (omega arith)) in
    let given = rw rest at c.count.ensures in
    c.from_residual.ensures
    ∙ rw (le-ltb _ 12 c.if-s-lt12.false) (no_count_there 9 (drop 12 s) _ (sym given ∙ c.in_err-version.was))

pub overflow_cast-result : goal.overflow_cast-result
overflow_cast-result c = record { fits = count_small _ _ _ (sym c.count.ensures ∙ c.in_ok-version.was) }

pub returns-then-named : goal.returns-then-named
unfolding header_of
returns-then-named c =
    let s = c.args.s.now in
    let rest : take (length s - 12) (drop 12 s) ≡ drop 12 s = take_all (length s - 12) (drop 12 s) (simp length-drop (omega arith)) in
    let given = rw rest at c.count.ensures in
    rw (le-ltb _ 12 c.if-s-lt12.false)
    (count_there 9 (drop 12 s) _ _ (sym given ∙ c.in_ok-version.was) (sym c.named.ensures ∙ c.if-named.true))

pub returns-else-named : goal.returns-else-named
unfolding header_of
returns-else-named c = rw (le-ltb _ 12 c.if-s-lt12.false)
    (count_untested 9 (drop 12 c.args.s.now) _ (sym c.named.ensures ∙ c.if-named.false))
