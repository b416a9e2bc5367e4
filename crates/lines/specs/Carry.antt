-- The lines of an input, and a line that is cut between two reads: at most 128 bytes of it are kept.
use Rattle.std.specs.Prelude.{ℕ, ◌+◌, Bool, true, false, ◌||◌, List, [], ◌∷◌, ◌++◌, eqb, leb, ltb, length, take}
use Rattle.numbers.specs.Told.{choose}
use Rattle.lines.specs.Fields.{newline}
use Rattle.lines.specs.declared.carry.Carry.{Carry}
use Rattle.lines.specs.declared.carry.Carry.TheVariants.{Whole, Overlong}

-- what is kept of a line: its bytes, or that it is too long
pub record Held : Type 0 where
  pub overlong : Bool
  pub text : List ℕ

abbrev pub held : Carry → Held
held (Whole front) = record { overlong = false; text = take front.len front.bytes }
held Overlong = record { overlong = true; text = [] }

-- whether a line has begun
unfoldable pub has_begun : Held → Bool
has_begun h = h.overlong || ltb 0 (length h.text)

abbrev pub fresh : Held
fresh = record { overlong = false; text = [] }

abbrev pub too_long : Held
too_long = record { overlong = true; text = [] }

-- "keep at most 128 bytes of an unfinished line"
unfoldable pub keep : Held → List ℕ → Held
keep h s =
    choose h.overlong too_long
    (choose (leb (length h.text + length s) 128) (record { overlong = false; text = h.text ++ s }) too_long)

-- an input that comes in parts
unfoldable pub joined : List (List ℕ) → List ℕ
joined [] = []
joined (part ∷ parts) = part ++ joined parts

-- "the line end is one newline byte. Bytes after the last newline, if there are some, are a line too": the finished lines
-- of an input and what follows the last newline, after a line that has begun
pub record Lines : Type 0 where
  pub finished : List (List ℕ)
  pub begun : List ℕ

abbrev pub line : List ℕ → Lines → Lines
line l ls = record { finished = l ∷ ls.finished; begun = ls.begun }

unfoldable pub lines_from : List ℕ → List ℕ → Lines
lines_from l [] = record { finished = []; begun = l }
lines_from l (b ∷ s) = choose (eqb b newline) (line l (lines_from [] s)) (lines_from (l ++ (b ∷ [])) s)

-- the lines of an input: the finished ones, and what follows the last newline "if there are some"
abbrev pub with_last : List (List ℕ) → List ℕ → List (List ℕ)
with_last ls [] = ls
with_last ls (b ∷ s) = ls ++ ((b ∷ s) ∷ [])

abbrev pub input_lines : List ℕ → List (List ℕ)
input_lines input = with_last (lines_from [] input).finished (lines_from [] input).begun

-- the same with what is kept of each line
pub record Run : Type 0 where
  pub finished : List Held
  pub begun : Held

abbrev pub ran : Held → Run → Run
ran h r = record { finished = h ∷ r.finished; begun = r.begun }

unfoldable pub run_from : Held → List ℕ → Run
run_from h [] = record { finished = []; begun = h }
run_from h (b ∷ s) = choose (eqb b newline) (ran h (run_from fresh s)) (run_from (keep h (b ∷ [])) s)
