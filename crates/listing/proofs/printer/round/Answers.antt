-- `listing::printer::round` meets its contract: a line is read, and then it goes on.
use mathlib.Core.Path.{subst}
use Rattle.std.specs.Prelude.{ℕ, ◌<◌}
use native.Mathlib.Omega.{arith}
use Rattle.listing.specs.Printer.{Puts}
use Rattle.listing.proofs.Feeding.{fills_nothing, puts_line, puts_more}
use Rattle.listing.proofs.printer.round.Goals as goal

pub returns : goal.returns
returns c =
    let a = c.args in
    let r = c.line.result in
    let x = c.line.ensures in
    let y = c.advanced.ensures in
    let read = subst (λ (k : ℕ). Puts a.part.now a.buf.now a.q.printer a.q.from k a.buf.now r) x.1
    (puts_line r r x.0 (fills_nothing a.buf.now r)) in
    let nearer : a.q.from < r.from = x.2 in
    (puts_more r c.advanced.result read y.0, omega (arith, y.0.reads.place), y.1)
