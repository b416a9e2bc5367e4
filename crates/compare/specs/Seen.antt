-- Request K1: "Lines end as in 01; line 1 is the header and no other is; further lines are `M` (count from 1), `A`, or `R` with 1, 2 or 7;
-- their order and floats are not judged"; of K9, that it "reads both versions". What a file has at a position.
use Rattle.std.specs.Prelude.{ℕ, Bool, true, false, not, ◌||◌, List, eqb, Option, Some, None}
use Rattle.numbers.specs.Told.{choose}
use Rattle.lines.specs.Carry.{Held, has_begun}
use Rattle.lines.specs.Lines.{count_digits}
use Rattle.lines.specs.Reading.{line_of}
use Rattle.lines.specs.declared.listed.Line.{Line}
use Rattle.lines.specs.declared.listed.Line.TheVariants.{Header, Move, Arrived, Refused}
use Rattle.compare.specs.declared.seen.Seen.{Seen}
use Rattle.compare.specs.declared.seen.Seen.TheVariants.{Good, Bad, Nothing}

-- "line 1 is the header", of version 1 or 2
unfoldable pub good_first : Line → Bool
good_first (Header version) = eqb version 1 || eqb version 2
good_first (Move m) = false
good_first (Arrived count) = false
good_first (Refused number) = false

-- "and no other is; further lines are `M` (count from 1), `A`, or `R` with 1, 2 or 7"
unfoldable pub good_later : Line → Bool
good_later (Header version) = false
good_later (Move m) = not (eqb m.count 0)
good_later (Arrived count) = true
good_later (Refused number) = eqb number 1 || eqb number 2 || eqb number 7

-- a file's version is 0 while line 1 is not read
unfoldable pub may_stand : ℕ → Line → Bool
may_stand version line = choose (eqb version 0) (good_first line) (good_later line)

abbrev pub seen_in : ℕ → Option Line → Seen
seen_in version (Some line) = choose (may_stand version line) (Good line) Bad
seen_in version None = Bad

-- the bytes of a line, without their newline, in a file of a version: a count's digits are those of the version
unfoldable pub read : ℕ → List ℕ → Seen
read version s = seen_in version (line_of (count_digits version) s)

-- the same of a line of which at most 128 bytes are kept
unfoldable pub read_kept : ℕ → Held → Seen
read_kept version h = choose h.overlong Bad (read version h.text)

-- where a file's bytes end: a read that failed makes the line that it interrupts a bad one; what follows the last newline is a line, if
-- there is some; a file with no line 1 is bad there
unfoldable pub read_last : Bool → ℕ → Held → Seen
read_last failed version h =
    choose failed Bad (choose (has_begun h) (read_kept version h) (choose (eqb version 0) Bad Nothing))

-- line 1 says the version
unfoldable pub version_of : Line → ℕ
version_of (Header version) = version
version_of (Move m) = 0
version_of (Arrived count) = 0
version_of (Refused number) = 0

abbrev pub version_in : Seen → ℕ
version_in (Good line) = version_of line
version_in Bad = 0
version_in Nothing = 0

unfoldable pub version_after : ℕ → Seen → ℕ
version_after version seen = choose (eqb version 0) (version_in seen) version
