-- `listing::block::fill` meets its contract. What is stored so far and what is left join to the block.
use Rattle.std.specs.Prelude.{◌≡◌, false, length}
use Rattle.lines.specs.Lines.{has_room}
use Rattle.listing.specs.Block.{text_of, lines_left, Part}
use Rattle.listing.proofs.block.fill.Given as goal

abbrev pub invariant-loop-r : goal.invariant-loop-r
invariant-loop-r l =
    (length l.buf ≡ length l.initial.buf) × Part l.initial.buf l.initial.at (text_of l.initial.r) l.at (text_of l.r) l.buf
    × (has_room l.initial.buf l.initial.at ≡ false → (l.at ≡ l.initial.at) × (l.r ≡ l.initial.r))

abbrev pub decreases-loop-r : goal.decreases-loop-r
decreases-loop-r l = lines_left l.r
