-- `listing::printer::end` meets its contract.
use Rattle.std.specs.Prelude.{Option}
use mathlib.Core.Path.{sym, subst, ◌∙◌}
use Rattle.lines.specs.declared.record.Walk.{Walk}
use Rattle.listing.specs.Listing.{Prints}
use Rattle.listing.specs.Block.{text_of}
use Rattle.listing.proofs.Feeding.{ends_later, ends_nothing, ends_line}
use Rattle.listing.proofs.printer.end.Goals as goal

pub returns-then-not-is_done : goal.returns-then-not-is_done
returns-then-not-is_done c =
    let p = c.args.p in
    ends_later p (sym c.is_done.ensures ∙ c.if-not-is_done.true)

pub returns-then-not-has_begun : goal.returns-then-not-has_begun
returns-then-not-has_begun c =
    let p = c.args.p in
    ends_nothing p (sym c.is_done.ensures ∙ c.if-not-is_done.false)
    (sym c.has_begun.ensures ∙ c.if-not-has_begun.true)

pub returns : goal.returns
returns c =
    let p = c.args.p in
    let w = c.whole in
    ends_line p _ (sym c.is_done.ensures ∙ c.if-not-is_done.false)
    (sym c.has_begun.ensures ∙ c.if-not-has_begun.false) c.empty.ensures
    (subst (λ (a : Option Walk). Prints a (text_of w.result)) c.asked.ensures w.ensures)
