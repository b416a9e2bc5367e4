-- `lines::listed::move_of` meets its contract. The three patterns are the last 27 bytes.
use mathlib.Core.Path.{refl, sym, ap, ◌∙◌}
use mathlib.Core.Bool.{and-true, and-false}
use native.Mathlib.Omega.{arith}
use borrow.Author.Tests.{lt-ltb}
use Prim.Native.Nat.{ℕ, ◌-◌}
use lib.ListN.{drop, length}
use Rattle.lines.specs.Parts.{bits_of, tabbeds}
use Rattle.lines.specs.declared.listed.Moved.{Moved}
use Rattle.lines.specs.declared.listed.Line.TheVariants.{Move}
use Rattle.std.specs.Prelude.{Some}
use Rattle.lines.specs.Reading.{move_of, moved, step_count}
use Rattle.lines.proofs.Reading.{no_count, a_count, count_small}
use Rattle.lines.proofs.Places.{fields_good, move_yes, move_no}
use Rattle.lines.proofs.listed.move_of.Goals as goal

pub returns-then-n-lt29 : goal.returns-then-n-lt29
unfolding move_of
returns-then-n-lt29 c = simp (lt-ltb _ 29 c.if-n-lt29.true)

pub returns-in_err-count : goal.returns-in_err-count
returns-in_err-count c =
    let s = c.args.s.now in
    let bad = no_count (step_count c.args.limit s) (sym c.count.ensures ∙ c.in_err-count.was) in
    c.from_residual.ensures ∙ move_no s c.args.limit c.if-n-lt29.false _ refl _ refl (rw bad (simp and-false))

pub overflow_cast-count : goal.overflow_cast-count
overflow_cast-count c = record { fits = count_small _ _ _ (sym c.count.ensures ∙ c.in_ok-count.was) }

pub moved_to-requires : goal.moved_to-requires
moved_to-requires c =
    let s = c.args.s.now in
    let d = a_count (step_count c.args.limit s) _ (sym c.count.ensures ∙ c.in_ok-count.was) in
    let long = c.if-n-lt29.false in
    (omega arith, fields_good s c.args.limit long _ refl _ c.three_tabbed.ensures (rw (d.0, and-true) c.if-s-three_tabbed.true))

pub returns-then-s-three_tabbed : goal.returns-then-s-three_tabbed
returns-then-s-three_tabbed c =
    let s = c.args.s.now in
    let d = a_count (step_count c.args.limit s) _ (sym c.count.ensures ∙ c.in_ok-count.was) in
    let last = bits_of (tabbeds 3 (drop (length s - 27) s)) in
    ap (λ (m : Moved). Some (Move m)) (c.moved_to.ensures ∙ ap (λ (n : ℕ). moved n last) (sym d.1))
    ∙ move_yes s c.args.limit c.if-n-lt29.false _ refl _ c.three_tabbed.ensures (rw (d.0, and-true) c.if-s-three_tabbed.true)

pub returns-else-s-three_tabbed : goal.returns-else-s-three_tabbed
returns-else-s-three_tabbed c =
    let s = c.args.s.now in
    let d = a_count (step_count c.args.limit s) _ (sym c.count.ensures ∙ c.in_ok-count.was) in
    move_no s c.args.limit c.if-n-lt29.false _ refl _ c.three_tabbed.ensures (rw (d.0, and-true) c.if-s-three_tabbed.false)
