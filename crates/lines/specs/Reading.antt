-- How ours reads a line of a listing: by its first byte, and the places of its parts. (That a line is found exactly where the
-- bytes are its written form is proved.)
use Rattle.std.specs.Prelude.{ℕ, suc, ◌-◌, Bool, true, ◌&&◌, List, [], ◌∷◌, ◌++◌, eqb, ltb, length, get_or, take, drop, Option, Some, None}
use Rattle.numbers.specs.Told.{choose}
use Rattle.lines.specs.Digits.{Digits, count_of}
use Rattle.lines.specs.Fields.{tab}
use Rattle.lines.specs.Parts.{Field, tabbeds, all_good, bits_of, no_field, short_of}
use Rattle.lines.specs.Lines.{walk_word}
use Rattle.lines.specs.declared.listed.Moved.{Moved}
use Rattle.lines.specs.declared.listed.Line.{Line}
use Rattle.lines.specs.declared.listed.Line.TheVariants.{Header, Move, Arrived, Refused}

-- a word at a place, and a test before it
abbrev pub spells : Bool → ℕ → List ℕ → List ℕ → Bool
spells t i [] s = t
spells t i (w ∷ ws) s = spells (t && eqb (get_or s i 0) w) (suc i) ws s

unfoldable pub named : List ℕ → Bool
named s = spells true 0 (walk_word ++ (tab ∷ [])) s

-- the name, and the version as a count
unfoldable pub header_of : List ℕ → Field
header_of s =
    choose (ltb (length s) 12) no_field
    (record { good = named s && (count_of 9 (drop 12 s)).good; bits = (count_of 9 (drop 12 s)).value })

-- the count of a step's line stands between the first two bytes and the last 27
abbrev pub step_count : ℕ → List ℕ → Digits
step_count limit s = count_of limit (take (length s - 27 - 2) (drop 2 s))

abbrev pub step_fields : List ℕ → List Field
step_fields s = tabbeds 3 (drop (length s - 27) s)

-- a count and three bit patterns
abbrev pub moved : ℕ → List ℕ → Moved
moved n p = record { count = n; x = get_or p 0 0; y = get_or p 1 0; z = get_or p 2 0 }

unfoldable pub move_of : ℕ → List ℕ → Option Line
move_of limit s =
    choose (ltb (length s) 29) None
    (choose (all_good (eqb (get_or s 0 0) 77 && eqb (get_or s 1 0) tab && (step_count limit s).good) (step_fields s))
    (Some (Move (moved (step_count limit s).value (bits_of (step_fields s)))))
    None)

abbrev pub found : (ℕ → Line) → Field → Option Line
found kind f = choose f.good (Some (kind f.bits)) None

unfoldable pub line_of : ℕ → List ℕ → Option Line
line_of limit s =
    choose (eqb (get_or s 0 0) 77) (move_of limit s)
    (choose (eqb (get_or s 0 0) 65) (found Arrived (short_of limit s))
    (choose (eqb (get_or s 0 0) 82) (found Refused (short_of limit s)) (found Header (header_of s))))
