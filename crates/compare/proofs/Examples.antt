-- Request K1's rule on small files, by computation: a bench file of version 1 beside an office file of version 2.
use mathlib.Core.Path.{◌≡◌, refl}
use mathlib.Core.Bool.{true, false}
use mathlib.Core.List.{List, [], ◌∷◌, ◌++◌, map}
use Prim.Native.Nat.{ℕ}
use Rattle.lines.specs.Digits.{digit, numeral, hex, decimal_within, decimal, value_of, push, push_all, hex_of, count_of}
use Rattle.lines.specs.Fields.{parted}
use Rattle.lines.specs.Parts.{tabbed, tabbeds, all_good, bits_of, short_of}
use Rattle.lines.specs.Lines.{body, written, count_digits}
use Rattle.lines.specs.Reading.{named, header_of, move_of, line_of}
use Rattle.lines.specs.Carry.{lines_from}
use Rattle.lines.specs.Compared.{coordinate, coordinates, told_text}
use Rattle.lines.specs.declared.listed.Line.{Line}
use Rattle.lines.specs.declared.listed.Line.TheVariants.{Header, Move, Arrived, Refused}
use Rattle.lines.specs.declared.compared.Told.{Told}
use Rattle.lines.specs.declared.compared.Told.TheVariants as told
use Rattle.compare.specs.Seen.{good_first, good_later, may_stand, read, version_of}
use Rattle.compare.specs.Rule.{unopened, opened, rows_of, pairs, same_bytes, difference, tells_from, tells_rows, tells, printed}

-- the lines of a listing, each with its newline
unfoldable pub texts : List Line → List ℕ
texts [] = []
texts (l ∷ ls) = written l ++ texts ls

abbrev pub step : ℕ → ℕ → ℕ → ℕ → Line
step n x y z = Move (record { count = n; x = x; y = y; z = z })

abbrev pub bench : List Line
bench = Header 1 ∷ step 1 0x3e00_0000 0 0 ∷ step 2 0x3e80_0000 0 0 ∷ Arrived 2 ∷ []

abbrev pub office : List Line
office = Header 2 ∷ step 1 0x3e00_0000 0 0x8000_0000 ∷ step 2 0x3e80_0001 0 0x3f80_0000 ∷ Arrived 2 ∷ Refused 2 ∷ []

abbrev pub seen_both : List Line → List Line → List Told
seen_both a b = tells (opened false (texts a)) (opened false (texts b))

-- two steps that differ, a line that is the same, one on one side alone
abbrev pub two_steps : List Told
two_steps =
    told.Same
    ∷ told.Moves (record {
      position = 2;
      bench = record { count = 1; x = 0x3e00_0000; y = 0; z = 0 };
      office = record { count = 1; x = 0x3e00_0000; y = 0; z = 0x8000_0000 };
    })
    ∷ told.Moves (record {
      position = 3;
      bench = record { count = 2; x = 0x3e80_0000; y = 0; z = 0 };
      office = record { count = 2; x = 0x3e80_0001; y = 0; z = 0x3f80_0000 };
    })
    ∷ told.Same
    ∷ told.Differs 5
    ∷ told.Total 3
    ∷ []

pub side_by_side : seen_both bench office ≡ two_steps
unfolding texts body parted decimal decimal_within digit hex numeral lines_from line_of move_of header_of named short_of tabbed tabbeds
    all_good bits_of hex_of count_of
    push_all push value_of count_digits read may_stand good_first good_later version_of rows_of pairs same_bytes difference tells_from
    tells_rows tells
side_by_side = refl

-- D, 2, z, +0, -0; D, 3, x and z with their patterns; D, 5; T, 3
pub their_text : printed two_steps
    ≡ 68 ∷ 9 ∷ 50 ∷ 9 ∷ 122 ∷ 9 ∷ 48 ∷ 48 ∷ 48 ∷ 48 ∷ 48 ∷ 48 ∷ 48 ∷ 48 ∷ 9 ∷ 56 ∷ 48 ∷ 48 ∷ 48 ∷ 48 ∷ 48 ∷ 48 ∷ 48 ∷ 10 ∷ 68 ∷ 9 ∷
    51 ∷ 9 ∷ 120 ∷ 9 ∷ 51 ∷ 101 ∷ 56 ∷ 48 ∷ 48 ∷ 48 ∷ 48 ∷ 48 ∷ 9 ∷ 51 ∷ 101 ∷ 56 ∷ 48 ∷ 48 ∷ 48 ∷ 48 ∷ 49 ∷ 9 ∷ 122 ∷ 9 ∷ 48 ∷
    48 ∷ 48 ∷ 48 ∷ 48 ∷ 48 ∷ 48 ∷ 48 ∷ 9 ∷ 51 ∷ 102 ∷ 56 ∷ 48 ∷ 48 ∷ 48 ∷ 48 ∷ 48 ∷ 10 ∷ 68 ∷ 9 ∷ 53 ∷ 10 ∷ 84 ∷ 9 ∷ 51 ∷ 10 ∷ []
unfolding printed told_text coordinates coordinate parted decimal decimal_within digit hex numeral
their_text = refl

-- what is refused, and at which line: six digits under header 1 (its own file's, on either side), a step 0, a refusal 6, a header again, a
-- third version, a line past the other file's end; what is before it stands
pub refusals : map (λ (office : List Line). seen_both (Header 1 ∷ Arrived 3 ∷ []) office)
    ((Header 1 ∷ Arrived 100000 ∷ []) ∷ (Header 1 ∷ step 0 0 0 0 ∷ []) ∷ (Header 2 ∷ Refused 6 ∷ []) ∷ (Header 2 ∷ Header 2 ∷ [])
    ∷ (Header 3 ∷ []) ∷ (Header 2 ∷ Arrived 0 ∷ Refused 7 ∷ Refused 12 ∷ []) ∷ [])
    ≡ (told.Same ∷ told.Refused 2 ∷ []) ∷ (told.Same ∷ told.Refused 2 ∷ []) ∷ (told.Same ∷ told.Refused 2 ∷ [])
    ∷ (told.Same ∷ told.Refused 2 ∷ []) ∷ (told.Refused 1 ∷ []) ∷ (told.Same ∷ told.Differs 2 ∷ told.Differs 3 ∷ told.Refused 4 ∷ []) ∷ []
unfolding texts body parted decimal decimal_within digit hex numeral lines_from line_of move_of header_of named short_of tabbed tabbeds
    all_good bits_of hex_of count_of
    push_all push value_of count_digits read may_stand good_first good_later version_of rows_of pairs same_bytes difference tells_from
    tells_rows tells
refusals = refl

-- six digits under header 2 beside a file of header 1: each is judged by its own
pub own_header : seen_both (Header 1 ∷ Arrived 3 ∷ []) (Header 2 ∷ Arrived 100000 ∷ []) ≡ told.Same ∷ told.Differs 2 ∷ told.Total 1 ∷ []
unfolding texts body parted decimal decimal_within digit hex numeral lines_from line_of move_of header_of named short_of tabbed tabbeds
    all_good bits_of hex_of count_of
    push_all push value_of count_digits read may_stand good_first good_later version_of rows_of pairs same_bytes difference tells_from
    tells_rows tells
own_header = refl

-- no file, an empty one, one of a newline alone; a read that failed behind line 1; headers alone, of two versions
pub ends : (tells unopened (opened false []) ≡ told.Refused 0 ∷ []) × (tells (opened false (texts bench)) unopened ≡ told.Refused 0 ∷ [])
    × (tells (opened false []) (opened false (texts bench)) ≡ told.Refused 1 ∷ [])
    × (tells (opened false (10 ∷ [])) (opened false (10 ∷ [])) ≡ told.Refused 1 ∷ [])
    × (tells (opened true (texts (Header 1 ∷ []))) (opened false (texts (Header 1 ∷ []))) ≡ told.Same ∷ told.Refused 2 ∷ [])
    × (seen_both (Header 1 ∷ []) (Header 2 ∷ []) ≡ told.Same ∷ told.Total 0 ∷ [])
unfolding texts body parted decimal decimal_within digit hex numeral lines_from line_of move_of header_of named short_of tabbed tabbeds
    all_good bits_of hex_of count_of
    push_all push value_of count_digits read may_stand good_first good_later version_of rows_of pairs same_bytes difference tells_from
    tells_rows tells
ends = (refl, refl, refl, refl, refl, refl)
