-- `listing::printer::advanced` meets its contract. Where no line has begun, nothing is kept.
use mathlib.Core.Path.{◌≡◌, sym, ap, ◌∙◌}
use mathlib.Core.Bool.{false}
use Rattle.lines.specs.Carry.{held}
use Rattle.lines.proofs.Cutting.{nothing_kept}
use Rattle.listing.specs.Stretch.{reached}
use Rattle.listing.specs.declared.stretch.Stretch.{Stretch}
use Rattle.listing.proofs.printer.advanced.Goals as goal

pub returns : goal.returns
returns c =
    let carry = c.args.q.printer.carry in
    let x = c.gone.ensures in
    let whole_lines = λ (none : c.has_begun.result ≡ false). nothing_kept (held carry) (sym c.has_begun.ensures ∙ none) in
    rw c.behind.ensures (x.0 carry whole_lines, x.1, λ none. ap (λ (s : Stretch). reached carry s) (x.2 none))
