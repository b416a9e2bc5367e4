-- `listing::stretch::gone` meets its contract: the place goes up to the end of the part.
use Rattle.std.specs.Prelude.{◌≡◌, length}
use mathlib.Core.Path.{refl}
use borrow.Author.Rules.{rules}
use Rattle.listing.proofs.Stretches.{goes_nowhere, filled_behind, read_behind, moved_on}
use Rattle.listing.proofs.stretch.gone.Goals as goal

pub loop-g-init : goal.loop-g-init
loop-g-init c = (refl, goes_nowhere _ _ _ _, λ none. refl)

pub returns-then-begun : goal.returns-then-begun
returns-then-begun c =
    let l = c.loop-g in
    let x = c.filled-g.ensures in
    let y = filled_behind c.args.part.now c.args.begun l.invariant.0 l.invariant.1 l.invariant.2 x.0 x.2 in
    (y.0, x.1, y.1)

pub loop-g-preserved : goal.loop-g-preserved
loop-g-preserved c =
    let l = c.loop-g in
    let x = c.filled-g.ensures in
    let y = filled_behind c.args.part.now c.args.begun l.invariant.0 l.invariant.1 l.invariant.2 x.0 x.2 in
    let long : length c.filled-g.new.buf ≡ length c.args.buf.now = search rules in
    (long, read_behind c.args.begun c.if-begun.false y.0 c.in-Some.ensures, moved_on _ _ _ _ y.1 long c.in-Some.ensures.room)

pub returns-in-None : goal.returns-in-None
returns-in-None c =
    let l = c.loop-g in
    let x = c.filled-g.ensures in
    let y = filled_behind c.args.part.now c.args.begun l.invariant.0 l.invariant.1 l.invariant.2 x.0 x.2 in
    (y.0, x.1, y.1)
