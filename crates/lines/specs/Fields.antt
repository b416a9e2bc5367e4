-- Document 01, "The walk printer": "fields parted by tabs". The separator is a parameter.
use Rattle.std.specs.Prelude.{ℕ, suc, ◌+◌, ◌<◌, ◌^◌, List, [], ◌∷◌, ◌++◌, eqb, drop}
use Rattle.numbers.specs.Told.{choose}

abbrev pub tab : ℕ
tab = 9

abbrev pub newline : ℕ
newline = 10

-- fields joined, with the separator between each two
unfoldable pub parted : ℕ → List (List ℕ) → List ℕ
parted sep [] = []
parted sep (f ∷ []) = f
parted sep (f ∷ (g ∷ fs)) = f ++ (sep ∷ parted sep (g ∷ fs))

-- how many bytes stand before the first separator
unfoldable pub span : ℕ → List ℕ → ℕ
span sep [] = 0
span sep (b ∷ s) = choose (eqb b sep) 0 (suc (span sep s))

-- where the field that begins at a place ends
abbrev pub field_end : ℕ → List ℕ → ℕ → ℕ
field_end sep s from = from + span sep (drop from s)

-- bit patterns of 32 bits
abbrev pub AreBits : List ℕ → Type 0
AreBits [] = Unit
AreBits (p ∷ ps) = (p < 2 ^ 32) × AreBits ps
