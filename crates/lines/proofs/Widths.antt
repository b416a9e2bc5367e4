-- How long the parts of a comparison's lines are at most.
use mathlib.Core.Bool.{Bool, true, false}
use mathlib.Core.List.{[], ◌∷◌, ◌++◌}
use Prim.Native.Nat.{ℕ, ◌≤◌, ◌<◌, ◌^◌}
use native.Mathlib.Omega.{arith}
use lib.Dec.{eqb, lit≤}
use lib.ListN.{length, length-append}
use Rattle.lines.specs.declared.listed.Moved.{Moved}
use Rattle.numbers.specs.Told.{choose}
use Rattle.lines.specs.Digits.{hex}
use Rattle.lines.specs.Fields.{tab, parted}
use Rattle.lines.specs.Lines.{lettered}
use Rattle.lines.specs.Compared.{coordinate, coordinates}
use Rattle.lines.proofs.Decimal.{length_at_most}
use Rattle.lines.proofs.Numerals.{length_hex}

-- a number of 64 bits has at most twenty digits
pub number_width : (letter n : ℕ) → n < 2 ^ 64 → length (lettered letter n) ≤ 22
unfolding parted
number_width letter n h = omega (arith, length_at_most 19 n (omega arith))

pub coordinate_width : (letter bench office : ℕ) → length (coordinate letter bench office) ≤ 20
unfolding coordinate
coordinate_width letter bench office = by_flag (eqb bench office)
  where
    by_flag : (t : Bool) → length (choose t [] (tab ∷ letter ∷ tab ∷ (hex bench ++ (tab ∷ hex office)))) ≤ 20
    by_flag true = lit≤ tt
    by_flag false = omega (arith, length-append (hex bench) (tab ∷ hex office), length_hex bench, length_hex office)

pub coordinates_width : (bench office : Moved) → length (coordinates bench office) ≤ 60
unfolding coordinates
coordinates_width bench office =
    let x = coordinate 120 bench.x office.x in
    let y = coordinate 121 bench.y office.y in
    let z = coordinate 122 bench.z office.z in
    omega (
      arith,
      length-append x (y ++ z),
      length-append y z,
      coordinate_width 120 bench.x office.x,
      coordinate_width 121 bench.y office.y,
      coordinate_width 122 bench.z office.z,
    )
