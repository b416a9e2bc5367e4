-- `lines::record::record_of` meets its contract. The tests are the definition's: the length, the letter, the seven fields.
use mathlib.Core.Path.{sym, ap, ◌∙◌}
use borrow.Author.Tests.{ne_eqb}
use Rattle.std.specs.Prelude.{Some}
use Rattle.lines.specs.Record.{record_of}
use Rattle.lines.proofs.Places.{another_letter, record_yes, record_no}
use Rattle.lines.proofs.record.record_of.Goals as goal

pub returns-then-s-ne64 : goal.returns-then-s-ne64
unfolding record_of
returns-then-s-ne64 c = simp (ne_eqb _ 64 c.if-s-ne64.true)

pub returns-then-s-ne87 : goal.returns-then-s-ne87
returns-then-s-ne87 c = another_letter c.args.s.now c.if-s-ne64.false c.if-s-ne87.true

pub walk_in-requires : goal.walk_in-requires
walk_in-requires c = (c.if-s-ne64.false, sym c.seven_tabbed.ensures ∙ c.if-seven_tabbed.true)

pub returns-then-seven_tabbed : goal.returns-then-seven_tabbed
returns-then-seven_tabbed c =
    ap Some c.walk_in.ensures
    ∙ record_yes c.args.s.now
    c.if-s-ne64.false
    c.if-s-ne87.false (sym c.seven_tabbed.ensures ∙ c.if-seven_tabbed.true)

pub returns-else-seven_tabbed : goal.returns-else-seven_tabbed
returns-else-seven_tabbed c = record_no c.args.s.now c.if-s-ne64.false
    c.if-s-ne87.false (sym c.seven_tabbed.ensures ∙ c.if-seven_tabbed.false)
