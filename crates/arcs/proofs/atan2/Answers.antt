-- `arcs::atan2` meets its contract: what the door lets through is finite, and what the core gives of it keeps the wedge.
use Rattle.std.proofs.Common.{rules}
use Rattle.std.specs.Prelude.{◌&&◌, T}
use mathlib.Core.Path.{sym, subst}
use lib.Ieee.{binary32, fits}
use Rattle.numbers.specs.Door.{finite}
use Rattle.arcs.specs.Wedges.{Atan2Of}
use Rattle.arcs.proofs.Bands.{atan2_band}
use Rattle.arcs.proofs.atan2.Goals as goal

pub returns-clause-band : goal.returns-clause-band
returns-clause-band c =
    let y = c.args.y in
    let x = c.args.x in
    let held_y : T (fits binary32 y) = subst T (sym c.well_formed.0.1) tt in
    let held_x : T (fits binary32 x) = subst T (sym c.well_formed.1.0.1) tt in
    let passed : T (finite y && finite x) = search rules in
    subst (Atan2Of y x) (sym c.finite_atan2.ensures) (atan2_band y x held_y held_x passed)
