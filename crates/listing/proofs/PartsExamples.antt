-- Request K3 on small inputs, by computation: what each part asks for, and then the end of the input. Beside this `part_answered` and
-- `cut_anywhere` (AnyCut) say that this is what is printed.
use Rattle.std.specs.Prelude.{◌≡◌, ℕ, zero, suc, true, false, List, [], ◌∷◌, ◌++◌, map}
use mathlib.Core.Path.{refl}
use Rattle.numbers.specs.Told.{choose}
use Rattle.lines.specs.Carry.{Held, fresh, has_begun, keep, run_from}
use Rattle.lines.specs.Digits.{digit, numeral, hex, value_of, push, push_all, hex_of}
use Rattle.lines.specs.Fields.{newline, parted}
use Rattle.lines.specs.Parts.{tabbed, tabbeds, all_good, bits_of}
use Rattle.lines.specs.Record.{walk_line, walk_of, record_of}
use Rattle.std.specs.Prelude.{Option}
use Rattle.lines.specs.declared.record.Walk.{Walk as Record}
use Rattle.std.specs.Prelude.{Some, None}
use Rattle.listing.specs.Asks.{asks}

-- what each part asks for, the end of the input last
unfoldable pub by_part : Held → List (List ℕ) → List (List (Option Record))
by_part h [] = map asks (choose (has_begun h) (h ∷ []) []) ∷ []
by_part h (part ∷ parts) = map asks (run_from h part).finished ∷ by_part (run_from h part).begun parts

-- document 01's record, its bytes one by one, and some bytes x
abbrev pub patterns : List ℕ
patterns = 0x3e00_0000 ∷ 0 ∷ 0 ∷ 0 ∷ 0x3e80_0000 ∷ 0 ∷ 0 ∷ []

abbrev pub w : List ℕ
w = walk_line patterns

abbrev pub asked : List (Option Record)
asked = Some (walk_of patterns) ∷ []

abbrev pub refused : List (Option Record)
refused = None ∷ []

abbrev pub n : List ℕ
n = newline ∷ []

unfoldable pub xs : ℕ → List ℕ
xs zero = []
xs (suc k) = 120 ∷ xs k

unfoldable pub bytes : List ℕ → List (List ℕ)
bytes [] = []
bytes (b ∷ s) = (b ∷ []) ∷ bytes s

-- nothing at all; a record and its newline; a record without one; two newlines; a carriage return
pub short_parts : map (by_part fresh)
    ([] ∷ ([] ∷ [] ∷ []) ∷ (w ∷ n ∷ []) ∷ ((w ++ (n ++ w)) ∷ []) ∷ (n ∷ n ∷ []) ∷ ((w ++ (13 ∷ [])) ∷ n ∷ []) ∷ [])
    ≡ ([] ∷ []) ∷ ([] ∷ [] ∷ [] ∷ []) ∷ ([] ∷ asked ∷ [] ∷ []) ∷ (asked ∷ asked ∷ []) ∷ (refused ∷ refused ∷ [] ∷ [])
    ∷ ([] ∷ refused ∷ [] ∷ []) ∷ []
unfolding by_part run_from keep has_begun asks record_of walk_line parted hex numeral digit
    tabbed tabbeds all_good bits_of hex_of push_all push value_of
short_parts = refl

-- a record that comes byte by byte
abbrev pub nothings : ℕ → List (List (Option Record)) → List (List (Option Record))
nothings zero rest = rest
nothings (suc k) rest = [] ∷ nothings k rest

pub byte_by_byte : by_part fresh (bytes (w ++ n)) ≡ nothings 64 (asked ∷ [] ∷ [])
unfolding by_part bytes run_from keep has_begun asks record_of walk_line parted hex numeral digit
    tabbed tabbeds all_good bits_of hex_of push_all push value_of
byte_by_byte = refl

-- 127, 128 and 129 bytes, then the newline, then a record; a longer line that goes on, and ends; a record at the end of such a line
pub long_parts : map (by_part fresh) ((xs 127 ∷ n ∷ (w ++ n) ∷ []) ∷ (xs 128 ∷ n ∷ (w ++ n) ∷ []) ∷ (xs 129 ∷ n ∷ (w ++ n) ∷ [])
    ∷ (xs 129 ∷ xs 130 ∷ []) ∷ ((xs 129 ++ w) ∷ n ∷ []) ∷ [])
    ≡ ([] ∷ refused ∷ asked ∷ [] ∷ []) ∷ ([] ∷ refused ∷ asked ∷ [] ∷ []) ∷ ([] ∷ refused ∷ asked ∷ [] ∷ [])
    ∷ ([] ∷ [] ∷ refused ∷ []) ∷ ([] ∷ refused ∷ [] ∷ []) ∷ []
unfolding by_part xs run_from keep has_begun asks record_of walk_line parted hex numeral digit
    tabbed tabbeds all_good bits_of hex_of push_all push value_of
long_parts = refl

-- of 128 bytes all are kept, of 129 that they are too many
pub at_the_limit : map (keep fresh) (xs 128 ∷ xs 129 ∷ [])
    ≡ record { overlong = false; text = xs 128 } ∷ record { overlong = true; text = [] } ∷ []
unfolding keep xs
at_the_limit = refl
