-- `listing::stretch::filled` meets its contract: what is left is stored, whatever part it is.
use mathlib.Core.Path.{ap}
use Rattle.listing.specs.declared.block.Filled.{Filled}
use Rattle.listing.proofs.Stretches.{stores}
use Rattle.listing.proofs.stretch.filled.Goals as goal

pub returns : goal.returns
returns c =
    let g = c.args.g in
    let y = c.fill-f.ensures in (
      stores _ _ g c.fill-f.result y.0,
      y.1,
      λ none. ap (λ (f : Filled). record { rest = f.rest; from = g.from; at = f.at }) (y.2 none),
    )
