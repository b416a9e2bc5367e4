-- `wholes::is_place` meets its contract: the range, asked of each coordinate that is read.
use mathlib.Core.Path.{◌≡◌}
use mathlib.Core.Bool.{Bool}
use lib.IntN.{ℤ, pos, negsuc}
use mir.Syntax.{w32}
use mir.Val.{SFits}
use Rattle.wholes.specs.Wholes.{is_coordinate}
use Rattle.wholes.proofs.Steps.{read, tested, all_three}
use Rattle.wholes.proofs.is_place.Goals as goal

-- the test of one coordinate that is read
asked : (n : ℤ) (r : Bool) → SFits w32 n → r ≡ is_coordinate (read n) → r ≡ is_coordinate n
asked = tested (negsuc 39999) (pos 40000)

pub returns : goal.returns
returns c =
    let p = c.args.p in
    all_three
    (asked p.x _ (record { sfits = c.struct_told-1.given.0.1 }) c.in_range.ensures)
    (asked p.y _ (record { sfits = c.struct_told-2-1.given.1.0.1 }) c.in_range-2.ensures)
    (asked p.z _ (record { sfits = c.struct_told-3-1.given.1.1.0.1 }) c.in_range-3.ensures)
