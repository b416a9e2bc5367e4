-- `listing::printer::line` meets its contract.
use Rattle.std.specs.Prelude.{◌≡◌, ◌-◌, ◌<◌, ◌≤◌, length, take, drop}
use mathlib.Core.Path.{refl, subst}
use native.Mathlib.Omega.{arith}
use Rattle.lines.specs.Carry.{held, keep}
use Rattle.std.specs.Prelude.{Option}
use Rattle.lines.specs.declared.record.Walk.{Walk as Record}
use Rattle.listing.specs.Listing.{Prints}
use Rattle.listing.specs.Block.{text_of}
use Rattle.listing.specs.declared.printer.Printer.{Printer}
use Rattle.listing.proofs.Feeding.{reads_line, reads_rest}
use borrow.Author.Rules.{rules}
use Rattle.listing.proofs.printer.line.Goals as goal

pub slice_bounds-finished-end : goal.slice_bounds-finished-end
slice_bounds-finished-end c =
    let a = c.args in
    let ends : c.field_end-end.result < length a.part.now = c.if-end-n.true in
    search rules

pub returns-then-end-n : goal.returns-then-end-n
returns-then-end-n c =
    let a = c.args in
    let pre = c.requires in
    let p : Printer = record { carry = a.c; rest = a.rest } in
    let e = c.field_end-end in
    let ends : e.result < length a.part.now = c.if-end-n.true in
    let empty = c.empty.ensures in
    let w = c.whole in
    let asked = subst (λ (x : Option Record). Prints x (text_of w.result)) c.finished.ensures w.ensures in
    (reads_line a.part.now p a.from e.result _ e.ensures pre.1 pre.0 ends refl empty asked, refl, omega arith)

pub returns-else-end-n : goal.returns-else-end-n
returns-else-end-n c =
    let a = c.args in
    let pre = c.requires in
    let p : Printer = record { carry = a.c; rest = a.rest } in
    let e = c.field_end-end in
    let past : length a.part.now ≤ e.result = omega (arith, c.if-end-n.false) in
    let kept : held c.more.result ≡ keep (held a.c) (take (length a.part.now - a.from) (drop a.from a.part.now)) =
    c.more.ensures in
    (reads_rest a.part.now p a.from e.result _ e.ensures pre.1 past refl refl kept, refl, omega arith)
