-- Document 01, "The walk printer": "fields parted by tabs, floats as eight lower-case hex digits of their bits. A `W` line has
-- max move, start, target". The line that a record is, and the record that a line is.
use Rattle.std.specs.Prelude.{ℕ, List, [], ◌∷◌, map, eqb, Float, length, get_or, drop, Option, Some, None}
use Rattle.std.specs.Float.{binary32}
use Rattle.std.specs.Float.Ieee.{of_bits}
use Rattle.numbers.specs.Patterns.{pattern_of}
use Rattle.numbers.specs.Told.{choose}
use Rattle.lines.specs.Digits.{hex}
use Rattle.lines.specs.Fields.{tab, parted}
use Rattle.lines.specs.Parts.{tabbeds, all_good, bits_of}
use Rattle.lines.specs.declared.fields.Three.{Three}
use Rattle.lines.specs.declared.record.Place.{Place}
use Rattle.lines.specs.declared.record.Walk.{Walk}

-- the line of seven bit patterns: max move, start x, y, z, target x, y, z
unfoldable pub walk_line : List ℕ → List ℕ
walk_line patterns = parted tab ((87 ∷ []) ∷ map hex patterns)

-- the record of seven bit patterns
abbrev pub place_of : Three → Place
place_of p = record { x = of_bits binary32 p.x; y = of_bits binary32 p.y; z = of_bits binary32 p.z }

abbrev pub walk_from : ℕ → Three → Three → Walk
walk_from m a b = record { max_move = of_bits binary32 m; start = place_of a; target = place_of b }

abbrev pub walk_of : List ℕ → Walk
walk_of p =
    walk_from (get_or p 0 0) (record { x = get_or p 1 0; y = get_or p 2 0; z = get_or p 3 0 })
    (record { x = get_or p 4 0; y = get_or p 5 0; z = get_or p 6 0 })

-- a line of 64 bytes: `W`, and seven times a tab and eight digits
unfoldable pub record_of : List ℕ → Option Walk
record_of s =
    choose (eqb (length s) 64)
    (choose (all_good (eqb (get_or s 0 0) 87) (tabbeds 7 (drop 1 s))) (Some (walk_of (bits_of (tabbeds 7 (drop 1 s))))) None)
    None

-- the bits of a float; a NaN has none of its own, and is shown as the usual one
abbrev pub shown : Option ℕ → ℕ
shown (Some b) = b
shown None = 0x7fc0_0000

abbrev pub shown_bits : Float → ℕ
shown_bits x = shown (pattern_of x)
