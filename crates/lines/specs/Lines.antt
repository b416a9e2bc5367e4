-- Document 01, "The walk printer": the lines that it prints, as lists of bytes, each with the one newline that ends it.
use Rattle.std.specs.Prelude.{ℕ, ◌+◌, ◌≤◌, Bool, List, [], ◌∷◌, ◌++◌, eqb, leb, length}
use Rattle.numbers.specs.Told.{choose}
use Rattle.lines.specs.Digits.{hex, decimal}
use Rattle.lines.specs.Fields.{tab, newline, parted, AreBits}
use Rattle.lines.specs.declared.listed.Line.{Line}
use Rattle.lines.specs.declared.listed.Line.TheVariants.{Header, Move, Arrived, Refused}

-- hopper-walk
abbrev pub walk_word : List ℕ
walk_word = 104 ∷ 111 ∷ 112 ∷ 112 ∷ 101 ∷ 114 ∷ 45 ∷ 119 ∷ 97 ∷ 108 ∷ 107 ∷ []

-- a letter and a number
abbrev pub lettered : ℕ → ℕ → List ℕ
lettered letter n = parted tab ((letter ∷ []) ∷ decimal n ∷ [])

-- `hopper-walk` and the version; `M`, the count, x, y, z; `A` and the count; `R` and the number
unfoldable pub body : Line → List ℕ
body (Header version) = parted tab (walk_word ∷ decimal version ∷ [])
body (Move m) = parted tab ((77 ∷ []) ∷ decimal m.count ∷ hex m.x ∷ hex m.y ∷ hex m.z ∷ [])
body (Arrived count) = lettered 65 count
body (Refused number) = lettered 82 number

-- "the line end is one newline byte"
abbrev pub ended : List ℕ → List ℕ
ended s = s ++ (newline ∷ [])

abbrev pub written : Line → List ℕ
written line = ended (body line)

-- no line is longer than 40 bytes
abbrev pub has_room : List ℕ → ℕ → Bool
has_room buf at = leb (at + 40) (length buf)

-- how many digits a count has at most, by the listing's version: document 01 has version 1, "one to five"; request K9 has version 2, "up to
-- six". No other version is one, and without a version nothing is a count
unfoldable pub count_digits : ℕ → ℕ
count_digits version = choose (eqb version 1) 5 (choose (eqb version 2) 6 0)

-- the lines of a listing: counts and numbers of at most limit digits (nine at most), floats of 32 bits
abbrev pub Digited : ℕ → ℕ → Type 0
Digited limit n = (length (decimal n) ≤ limit) × (length (decimal n) ≤ 9)

unfoldable pub Listable : ℕ → Line → Type 0
Listable limit (Header version) = Digited 9 version
Listable limit (Move m) = Digited limit m.count × AreBits (m.x ∷ m.y ∷ m.z ∷ [])
Listable limit (Arrived count) = Digited limit count
Listable limit (Refused number) = Digited limit number
