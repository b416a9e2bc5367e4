-- `lines::compared::put_short` meets its contract.
use native.Mathlib.Omega.{arith}
use Rattle.lines.proofs.Widths.{number_width}
use Rattle.numbers.proofs.Stores.{stored_more}
use Rattle.lines.proofs.compared.put_short.Goals as goal

pub newline-requires : goal.newline-requires
newline-requires c =
    let a = c.args in
    omega (arith, number_width a.letter a.n (omega arith))

pub returns : goal.returns
returns c = stored_more c.put_number-a.ensures c.newline.ensures
