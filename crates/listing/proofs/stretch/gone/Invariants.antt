-- `listing::stretch::gone` meets its contract: the place goes up to the end of the part.
use Rattle.std.specs.Prelude.{◌≡◌, ◌-◌, length}
use Rattle.listing.specs.Stretch.{Goes, Unmoved}
use Rattle.listing.proofs.stretch.gone.Given as goal

abbrev pub invariant-loop-g : goal.invariant-loop-g
invariant-loop-g l =
    (length l.buf ≡ length l.initial.buf) × Goes l.part l.begun l.initial.buf l.initial.g l.buf l.g × Unmoved l.initial.buf l.initial.g l.g

abbrev pub decreases-loop-g : goal.decreases-loop-g
decreases-loop-g l = length l.part - l.g.from
