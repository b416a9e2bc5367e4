-- `lines::compared::put_moves` meets its contract.
use mathlib.Core.List.{append_assoc}
use native.Mathlib.Omega.{arith}
use Rattle.lines.proofs.Widths.{number_width, coordinates_width}
use Rattle.numbers.proofs.Stores.{stored_more, stored_as}
use borrow.Author.Rules.{rules}
use Rattle.lines.proofs.compared.put_moves.Goals as goal

pub put_coordinates-b-requires : goal.put_coordinates-b-requires
put_coordinates-b-requires c = omega (
  arith,
  number_width 68 c.args.both.position (search rules),
)

pub newline-requires : goal.newline-requires
newline-requires c =
    let b = c.args.both in
    omega (arith, number_width 68 b.position (search rules), coordinates_width b.bench b.office)

pub returns : goal.returns
returns c =
    let number = c.put_number-a.ensures in
    let letters = c.put_coordinates-b.ensures in
    stored_as (simp append_assoc) (stored_more (stored_more number letters) c.newline.ensures)
