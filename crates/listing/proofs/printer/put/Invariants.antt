-- `listing::printer::put` meets its contract. What is read, stored and left so far is what one call does.
use Rattle.listing.specs.Block.{is_done}
use Rattle.std.specs.Prelude.{◌≡◌, ◌-◌, false, not, ◌&&◌, length}
use Rattle.lines.specs.Lines.{has_room}
use Rattle.listing.specs.Printer.{Puts}
use Rattle.listing.proofs.printer.put.Given as goal

abbrev pub invariant-loop-buf : goal.invariant-loop-buf
invariant-loop-buf l =
    (length l.buf ≡ length l.initial.buf) × Puts l.part l.initial.buf l.initial.q.printer l.initial.q.from l.initial.q.at l.buf l.q
    × ((not (is_done l.q.printer.rest) && has_room l.buf l.q.at) ≡ false)
    × (has_room l.initial.buf l.initial.q.at ≡ false → l.q ≡ l.initial.q)

abbrev pub decreases-loop-buf : goal.decreases-loop-buf
decreases-loop-buf l = length l.part - l.q.from
