-- `listing::stretch::line_read` meets its contract: a line is read where nothing is left and there is room.
use mathlib.Core.Path.{sym, subst, ◌∙◌}
use Rattle.std.specs.Prelude.{Option}
use native.Mathlib.Omega.{arith}
use Rattle.lines.specs.declared.record.Walk.{Walk}
use Rattle.numbers.proofs.Flags.{not_false}
use Rattle.listing.specs.Listing.{Prints}
use Rattle.listing.specs.Block.{text_of}
use Rattle.listing.proofs.Stretches.{reads_on}
use Rattle.std.proofs.lemmas.Bool.{not_from_true}
use Rattle.listing.proofs.stretch.line_read.Goals as goal

pub returns : goal.returns
returns c =
    let a = c.args in
    let e = c.field_end-end in
    let w = c.whole in
    let goes = not_false _ (not_from_true _ c.if-not-goes_on.false) in
    let here = rw c.is_done.ensures at (sym c.goes_on.ensures ∙ goes) in
    reads_on a.part.now a.n a.g e.result w.result e.ensures (omega (arith, c.if-part-end.false)) here
    (subst (λ (x : Option Walk). Prints x (text_of w.result)) c.record_of.ensures w.ensures)
