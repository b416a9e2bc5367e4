-- Request K1: the lines that a comparison of two listings prints, as lists of bytes, each with the one newline that ends it.
use Rattle.std.specs.Prelude.{ℕ, ◌+◌, Bool, List, [], ◌∷◌, ◌++◌, eqb, leb, length}
use Rattle.numbers.specs.Told.{choose}
use Rattle.lines.specs.Digits.{hex, decimal}
use Rattle.lines.specs.Fields.{tab, parted}
use Rattle.lines.specs.Lines.{lettered, ended}
use Rattle.lines.specs.declared.listed.Moved.{Moved}
use Rattle.lines.specs.declared.compared.Both.{Both}
use Rattle.lines.specs.declared.compared.Told.{Told}
use Rattle.lines.specs.declared.compared.Told.TheVariants.{Same, Differs, Moves, Refused, Total}

-- "for each of x, y, z that differs a tab, its letter, a tab, the bench bits, a tab and the office bits"
unfoldable pub coordinate : ℕ → ℕ → ℕ → List ℕ
coordinate letter bench office =
    choose (eqb bench office) [] (tab ∷ letter ∷ tab ∷ (hex bench ++ (tab ∷ hex office)))

unfoldable pub coordinates : Moved → Moved → List ℕ
coordinates bench office =
    coordinate 120 bench.x office.x ++ (coordinate 121 bench.y office.y ++ coordinate 122 bench.z office.z)

-- "`D`, tab, the line number, .. and, where both are `M` lines, for each of x, y, z"
abbrev pub differing : Both → List ℕ
differing both = ended (lettered 68 both.position ++ coordinates both.bench both.office)

-- "`R`, tab, 7, tab, line number"
abbrev pub refusing : ℕ → List ℕ
refusing position = ended (parted tab ((82 ∷ []) ∷ (55 ∷ []) ∷ decimal position ∷ []))

-- "at the end `T`, tab, the total"
unfoldable pub told_text : Told → List ℕ
told_text Same = []
told_text (Differs position) = ended (lettered 68 position)
told_text (Moves both) = differing both
told_text (Refused position) = refusing position
told_text (Total total) = ended (lettered 84 total)

-- no such line is longer than 83 bytes
abbrev pub has_told_room : List ℕ → ℕ → Bool
has_told_room buf at = leb (at + 83) (length buf)
