-- Request K1: two listings compared, as one definition on two files. "Reads two listings of the walk printer side by side .. For each
-- differing line it prints `D`, tab, the line number, counted from 1 .. at the end `T`, tab, the total."
use Rattle.std.specs.Prelude.{ℕ, ◌+◌, Bool, true, false, ◌&&◌, ◌||◌, List, [], ◌∷◌, ◌++◌, map, eqb}
use Rattle.numbers.specs.Told.{choose}
use Rattle.lines.specs.Carry.{lines_from, input_lines}
use Rattle.lines.specs.Compared.{told_text}
use Rattle.lines.specs.declared.listed.Moved.{Moved}
use Rattle.lines.specs.declared.listed.Line.{Line}
use Rattle.lines.specs.declared.listed.Line.TheVariants.{Header, Move, Arrived, Refused}
use Rattle.lines.specs.declared.compared.Told.{Told}
use Rattle.lines.specs.declared.compared.Told.TheVariants as told
use Rattle.compare.specs.Seen.{read, version_in}
use Rattle.compare.specs.declared.seen.Seen.{Seen}
use Rattle.compare.specs.declared.seen.Seen.TheVariants.{Good, Bad, Nothing}

-- a file that can't be opened; or its bytes, and whether a read failed behind them
pub data File : Type 0 where
  unopened : File
  opened : Bool → List ℕ → File

-- what a file has at a position: a line, without its newline; one that a failed read interrupts; none, behind the last
pub data Row : Type 0 where
  line : List ℕ → Row
  broken none : Row

unfoldable pub rows_of : Bool → List ℕ → List Row
rows_of false bytes = map line (input_lines bytes)
rows_of true bytes = map line (lines_from [] bytes).finished ++ (broken ∷ [])

-- a row by the version of its file, which is 0 for line 1: "7 for any other line, or no line 1"
abbrev pub seen : ℕ → Row → Seen
seen version (line s) = read version s
seen version broken = Bad
seen version none = choose (eqb version 0) Bad Nothing

abbrev pub is_bad : Seen → Bool
is_bad (Good l) = false
is_bad Bad = true
is_bad Nothing = false

-- "holding neither": the two files side by side, to the end of the longer
abbrev pub first : List Row → Row
first [] = none
first (r ∷ rows) = r

abbrev pub rest : List Row → List Row
rest [] = []
rest (r ∷ rows) = rows

pub record Position : Type 0 where
  pub bench : Row
  pub office : Row

abbrev pub alone : Row → Position
alone q = record { bench = none; office = q }

unfoldable pub pairs : List Row → List Row → List Position
pairs [] qs = map alone qs
pairs (r ∷ rs) qs = record { bench = r; office = first qs } ∷ pairs rs (rest qs)

-- lines differ "if their bytes differ, or if only one file has the line"
unfoldable pub same_bytes : List ℕ → List ℕ → Bool
same_bytes [] [] = true
same_bytes [] (c ∷ t) = false
same_bytes (b ∷ s) [] = false
same_bytes (b ∷ s) (c ∷ t) = eqb b c && same_bytes s t

abbrev pub same_row : Row → Row → Bool
same_row (line s) (line t) = same_bytes s t
same_row (line s) broken = false
same_row (line s) none = false
same_row broken q = false
same_row none (line t) = false
same_row none broken = false
same_row none none = true

-- "and, where both are `M` lines", their patterns
abbrev pub moved_in : Line → List Moved
moved_in (Header version) = []
moved_in (Move m) = m ∷ []
moved_in (Arrived count) = []
moved_in (Refused number) = []

abbrev pub moved : Seen → List Moved
moved (Good l) = moved_in l
moved Bad = []
moved Nothing = []

unfoldable pub difference : ℕ → List Moved → List Moved → Told
difference k [] office = told.Differs k
difference k (b ∷ bs) [] = told.Differs k
difference k (b ∷ bs) (o ∷ os) = told.Moves (record { position = k; bench = b; office = o })

-- the positions behind line 1, from k on, after n differences: files of versions v and w. "Printed as `R`, tab, 7, tab, line number, and
-- then nothing more"
unfoldable pub tells_from : ℕ → ℕ → ℕ → ℕ → List Position → List Told
tells_from v w k n [] = told.Total n ∷ []
tells_from v w k n (p ∷ ps) =
    choose (is_bad (seen v p.bench) || is_bad (seen w p.office))
    (told.Refused k ∷ [])
    (choose (same_row p.bench p.office) (told.Same ∷ tells_from v w (k + 1) n ps)
    (difference k (moved (seen v p.bench)) (moved (seen w p.office)) ∷ tells_from v w (k + 1) (n + 1) ps))

-- line 1 says each file's version, and is never a difference: "header aside"
abbrev pub version : List Row → ℕ
version rows = version_in (seen 0 (first rows))

unfoldable pub tells_rows : List Row → List Row → List Told
tells_rows rs qs =
    choose (eqb (version rs) 0 || eqb (version qs) 0)
    (told.Refused 1 ∷ [])
    (told.Same ∷ tells_from (version rs) (version qs) 2 0 (pairs (rest rs) (rest qs)))

-- "a file that can't be opened is a bad line 0"
unfoldable pub tells : File → File → List Told
tells unopened office = told.Refused 0 ∷ []
tells (opened f s) unopened = told.Refused 0 ∷ []
tells (opened f s) (opened g t) = tells_rows (rows_of f s) (rows_of g t)

unfoldable pub printed : List Told → List ℕ
printed [] = []
printed (t ∷ ts) = told_text t ++ printed ts

unfoldable pub compared : File → File → List ℕ
compared bench office = printed (tells bench office)
