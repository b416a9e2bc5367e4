-- How ours goes through two files that come in parts, of which it holds none: a line is put together from as many as it takes, then the
-- position is told.
use Rattle.std.specs.Prelude.{ℕ, zero, suc, Bool, false, List, [], ◌∷◌, ltb, length, take, drop, ◌≡◌}
use Rattle.numbers.specs.Told.{choose}
use Rattle.lines.specs.Carry.{Held, held, fresh, keep}
use Rattle.lines.specs.declared.carry.Carry.{Carry}
use Rattle.lines.specs.Fields.{newline, span}
use Rattle.lines.specs.declared.compared.Told.{Told}
use Rattle.compare.specs.Seen.{read_kept, read_last}
use Rattle.compare.specs.Step.{is_last, step_of}
use Rattle.compare.specs.declared.seen.Seen.{Seen}
use Rattle.compare.specs.declared.cut.Cut.{Cut}
use Rattle.compare.specs.declared.cut.Cut.TheVariants.{Whole, Begun}
use Rattle.compare.specs.declared.step.State.{State}

-- what a file has left: its parts, and whether a read fails behind them
pub record Side : Type 0 where
  pub failed : Bool
  pub parts : List (List ℕ)

-- what it has at a position, after what is kept of the line, and what is left then. Behind its end it is not read again
pub record Pulled : Type 0 where
  pub what : Seen
  pub left : Side

unfoldable pub pulled : ℕ → Bool → Held → List (List ℕ) → Pulled
pulled version failed h [] = record { what = read_last failed version h; left = record { failed = false; parts = [] } }
pulled version failed h (p ∷ ps) =
    choose (ltb (span newline p) (length p))
    (record {
      what = read_kept version (keep h (take (span newline p) p));
      left = record { failed = failed; parts = drop (suc (span newline p)) p ∷ ps };
    })
    (pulled version failed (keep h p) ps)

abbrev pub next : ℕ → Side → Pulled
next version side = pulled version side.failed fresh side.parts

-- at most so many positions, from a state on
unfoldable pub steps : ℕ → State → Side → Side → List Told
steps zero st bench office = []
steps (suc turns) st bench office =
    let a = next st.bench bench in
    let b = next st.office office in
    let s = step_of st a.what b.what in
    s.told ∷ choose (is_last s.told) [] (steps turns s.next a.left b.left)

-- a line goes on in a part, from a place on: whatever parts follow, it is whole and the part goes on behind it, or the next parts have it
abbrev pub pulled_on : ℕ → Bool → List ℕ → List (List ℕ) → Cut → Pulled
pulled_on version failed part ps (Whole seen from) =
    record { what = seen; left = record { failed = failed; parts = drop from part ∷ ps } }
pulled_on version failed part ps (Begun carry) = pulled version failed (held carry) ps

abbrev pub GoesOn : ℕ → Carry → List ℕ → ℕ → Cut → Type 0
GoesOn version c part from r =
    (failed : Bool) (ps : List (List ℕ))
    → pulled version failed (held c) (drop from part ∷ ps) ≡ pulled_on version failed part ps r
