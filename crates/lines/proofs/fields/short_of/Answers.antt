-- `lines::fields::short_of` meets its contract. The part from 2 on is what is left after two bytes.
use mathlib.Core.Path.{◌≡◌, sym, ◌∙◌}
use Prim.Native.Nat.{◌-◌}
use borrow.Author.Tests.{lt-ltb, le-ltb, eq-eqb, ne_eqb}
use native.Mathlib.Omega.{arith}
use lib.ListN.{length, length-drop, take, drop}
use lib.Seq.{take_all}
use Rattle.lines.specs.Parts.{short_of}
use Rattle.lines.proofs.Reading.{count_small, no_count_there, count_untested, count_there}
use Rattle.lines.proofs.fields.short_of.Goals as goal

pub returns-then-s-lt2 : goal.returns-then-s-lt2
unfolding short_of
returns-then-s-lt2 c = simp (lt-ltb _ 2 c.if-s-lt2.true)

pub returns-in_err-count : goal.returns-in_err-count
unfolding short_of
returns-in_err-count c =
    let s = c.args.s.now in
    let rest : take (length s - 2) (drop 2 s) ≡ drop 2 s = take_all (length s - 2) (drop 2 s) (simp length-drop (omega arith)) in
    let given = rw rest at c.count.ensures in
    c.from_residual.ensures
    ∙ rw (le-ltb _ 2 c.if-s-lt2.false) (no_count_there c.args.limit (drop 2 s) _ (sym given ∙ c.in_err-count.was))

pub overflow_cast-result : goal.overflow_cast-result
overflow_cast-result c = record { fits = count_small _ _ _ (sym c.count.ensures ∙ c.in_ok-count.was) }

pub returns-then-s-eq9 : goal.returns-then-s-eq9
unfolding short_of
returns-then-s-eq9 c =
    let s = c.args.s.now in
    let rest : take (length s - 2) (drop 2 s) ≡ drop 2 s = take_all (length s - 2) (drop 2 s) (simp length-drop (omega arith)) in
    let given = rw rest at c.count.ensures in
    rw (le-ltb _ 2 c.if-s-lt2.false)
    (count_there c.args.limit (drop 2 s) _ _ (sym given ∙ c.in_ok-count.was) (eq-eqb _ 9 c.if-s-eq9.true))

pub returns-else-s-eq9 : goal.returns-else-s-eq9
unfolding short_of
returns-else-s-eq9 c = rw (le-ltb _ 2 c.if-s-lt2.false)
    (count_untested c.args.limit (drop 2 c.args.s.now) _ (ne_eqb _ 9 c.if-s-eq9.false))
