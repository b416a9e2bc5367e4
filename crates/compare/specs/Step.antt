-- How ours goes from position to position: what one tells, and the counters.
use Rattle.std.specs.Prelude.{ℕ, ◌+◌, Bool, true, false, ◌&&◌, eqb, ltb}
use Rattle.numbers.specs.Told.{choose}
use Rattle.lines.specs.declared.listed.Moved.{Moved}
use Rattle.lines.specs.declared.listed.Line.{Line}
use Rattle.lines.specs.declared.listed.Line.TheVariants.{Header, Move, Arrived, Refused}
use Rattle.lines.specs.declared.compared.Told.{Told}
use Rattle.lines.specs.declared.compared.Told.TheVariants as told
use Rattle.compare.specs.declared.seen.Seen.{Seen}
use Rattle.compare.specs.declared.seen.Seen.TheVariants.{Good, Bad, Nothing}
use Rattle.compare.specs.Seen.{version_after}
use Rattle.compare.specs.declared.step.State.{State}
use Rattle.compare.specs.declared.step.Step.{Step}

-- two good lines by what they say: equal values are equal bytes (proofs/Bytes)
unfoldable pub same_move : Moved → Moved → Bool
same_move a b = eqb a.count b.count && eqb a.x b.x && eqb a.y b.y && eqb a.z b.z

unfoldable pub told_moves : ℕ → Moved → Moved → Told
told_moves position bench office =
    choose (same_move bench office) told.Same (told.Moves (record { position = position; bench = bench; office = office }))

unfoldable pub told_numbers : ℕ → ℕ → ℕ → Told
told_numbers position bench office = choose (eqb bench office) told.Same (told.Differs position)

unfoldable pub told_lines : ℕ → Line → Line → Told
told_lines position (Header b) (Header o) = told.Same
told_lines position (Header b) (Move o) = told.Differs position
told_lines position (Header b) (Arrived o) = told.Differs position
told_lines position (Header b) (Refused o) = told.Differs position
told_lines position (Move b) (Header o) = told.Differs position
told_lines position (Move b) (Move o) = told_moves position b o
told_lines position (Move b) (Arrived o) = told.Differs position
told_lines position (Move b) (Refused o) = told.Differs position
told_lines position (Arrived b) (Header o) = told.Differs position
told_lines position (Arrived b) (Move o) = told.Differs position
told_lines position (Arrived b) (Arrived o) = told_numbers position b o
told_lines position (Arrived b) (Refused o) = told.Differs position
told_lines position (Refused b) (Header o) = told.Differs position
told_lines position (Refused b) (Move o) = told.Differs position
told_lines position (Refused b) (Arrived o) = told.Differs position
told_lines position (Refused b) (Refused o) = told_numbers position b o

unfoldable pub tell : ℕ → ℕ → Seen → Seen → Told
tell position total Bad office = told.Refused position
tell position total (Good b) Bad = told.Refused position
tell position total (Good b) (Good o) = told_lines position b o
tell position total (Good b) Nothing = told.Differs position
tell position total Nothing Bad = told.Refused position
tell position total Nothing (Good o) = told.Differs position
tell position total Nothing Nothing = told.Total total

-- the counters stay where they are at 2^64 - 1
unfoldable pub up : ℕ → ℕ
up n = choose (ltb n 18446744073709551615) (n + 1) n

unfoldable pub is_difference : Told → Bool
is_difference told.Same = false
is_difference (told.Differs position) = true
is_difference (told.Moves both) = true
is_difference (told.Refused position) = false
is_difference (told.Total total) = false

unfoldable pub is_last : Told → Bool
is_last told.Same = false
is_last (told.Differs position) = false
is_last (told.Moves both) = false
is_last (told.Refused position) = true
is_last (told.Total total) = true

unfoldable pub total_after : ℕ → Told → ℕ
total_after total t = choose (is_difference t) (up total) total

-- before line 1, and one position by what the two files have there
unfoldable pub start : State
start = record { bench = 0; office = 0; position = 1; total = 0 }

unfoldable pub next_of : State → Seen → Seen → Told → State
next_of st bench office t =
    record {
      bench = version_after st.bench bench;
      office = version_after st.office office;
      position = up st.position;
      total = total_after st.total t;
    }

abbrev pub step_with : State → Seen → Seen → Told → Step
step_with st bench office t = record { told = t; next = next_of st bench office t }

unfoldable pub step_of : State → Seen → Seen → Step
step_of st bench office = step_with st bench office (tell st.position st.total bench office)
