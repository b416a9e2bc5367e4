-- `lines::compared::put_coordinates` meets its contract.
use native.Mathlib.Omega.{arith}
use Rattle.lines.specs.Compared.{coordinates}
use Rattle.numbers.proofs.Stores.{stored_more}
use Rattle.lines.proofs.Widths.{coordinate_width}
use Rattle.lines.proofs.compared.put_coordinates.Goals as goal

pub put_coordinate-y-requires : goal.put_coordinate-y-requires
put_coordinate-y-requires c =
    let a = c.args in
    omega (arith, coordinate_width 120 a.bench.x a.office.x)

pub put_coordinate-requires : goal.put_coordinate-requires
put_coordinate-requires c =
    let a = c.args in
    omega (arith, coordinate_width 120 a.bench.x a.office.x, coordinate_width 121 a.bench.y a.office.y)

pub returns : goal.returns
unfolding coordinates
returns c =
    let x = c.put_coordinate-x.ensures in
    let y = c.put_coordinate-y.ensures in
    stored_more x (stored_more y c.put_coordinate.ensures)
