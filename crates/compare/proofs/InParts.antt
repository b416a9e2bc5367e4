-- Two files that come in parts, however each is cut, are compared as the joined files are: so neither is held.
use mathlib.Core.Path.{◌≡◌, refl, ap, ◌∙◌, sym, subst}
use mathlib.Core.Bool.{Bool, true, false, ◌||◌, false≢true}
use mathlib.Core.List.{List, [], ◌∷◌, ◌++◌, map, append-nil}
use mathlib.Core.Logic.{⊎_elim}
use Prim.Native.Nat.{ℕ, zero, suc, ◌+◌, ◌-◌, ◌≤◌, ◌<◌, ◌^◌}
use native.Mathlib.Omega.{arith}
use lib.Dec.{eqb}
use lib.ListN.{length}
use borrow.Author.Tests.{lt-ltb, eqb-true, ne_eqb}
use Rattle.numbers.specs.Told.{choose}
use Rattle.lines.specs.Carry.{joined, lines_from, input_lines}
use Rattle.lines.specs.Lines.{count_digits}
use Rattle.lines.specs.Reading.{line_of}
use Rattle.lines.specs.declared.listed.Moved.{Moved}
use Rattle.lines.specs.declared.listed.Line.{Line}
use Rattle.lines.specs.declared.listed.Line.TheVariants.{Header, Move, Arrived, Refused}
use Rattle.std.specs.Prelude.{Option, Some, None}
use Rattle.lines.specs.declared.compared.Told.{Told}
use Rattle.lines.specs.declared.compared.Told.TheVariants as told
use Rattle.compare.specs.Seen.{good_first, may_stand, seen_in, read, version_of, version_in, version_after}
use Rattle.compare.specs.Step.{told_lines, tell, up, is_difference, is_last, total_after, start, next_of, step_of}
use Rattle.compare.specs.Rule.{Row, line, broken, none, rows_of, seen, is_bad, first, rest, Position, pairs, same_bytes, same_row}
use Rattle.compare.specs.Rule.{moved_in, moved, difference, tells_from, tells_rows, tells, opened, printed, compared}
use Rattle.compare.specs.Parts.{Side, next, steps}
use Rattle.compare.specs.declared.seen.Seen.{Seen}
use Rattle.compare.specs.declared.seen.Seen.TheVariants.{Good, Bad, Nothing}
use Rattle.compare.specs.declared.step.State.{State}
use Rattle.numbers.proofs.Flags.{lt_or_le}
use Rattle.compare.proofs.Bytes.{told_by_bytes}
use Rattle.compare.proofs.Pulling.{next_row}

-- what a side has left, as rows
abbrev pub rows : Side → List Row
rows side = rows_of side.failed (joined side.parts)

-- the counters count, below 2^64 - 1
abbrev most : ℕ
most = 18446744073709551615

up_one : (n : ℕ) → n < most → up n ≡ n + 1
unfolding up
up_one n h = rw (lt-ltb n most h)

abbrev exactly : ℕ → Told → ℕ
exactly n t = choose (is_difference t) (n + 1) n

total_exactly : (n : ℕ) (t : Told) → n < most → total_after n t ≡ exactly n t
unfolding total_after
total_exactly n t h = ap (λ (m : ℕ). choose (is_difference t) m n) (up_one n h)

-- a line that is read is good or bad
never_nothing : {A : Type 0} (v : ℕ) (s : List ℕ) → read v s ≡ Nothing → A
unfolding read
never_nothing v s = by_found (line_of (count_digits v) s)
  where
    by_flag : {A : Type 0} (t : Bool) (l : Line) → choose t (Good l) Bad ≡ Nothing → A
    by_flag true l e = let z : ◌≡◌ {A = Bool} true false = cc in absurd (false≢true (sym z))
    by_flag false l e = let z : ◌≡◌ {A = Bool} true false = cc in absurd (false≢true (sym z))

    by_found : {A : Type 0} (f : Option Line) → seen_in v f ≡ Nothing → A
    by_found None e = let z : ◌≡◌ {A = Bool} true false = cc in absurd (false≢true (sym z))
    by_found (Some l) e = by_flag (may_stand v l) l e

-- no row of a file is a row behind its last
abbrev Rows : List Row → Type 0
Rows [] = Unit
Rows (r ∷ rs) = (r ≡ none → ⊥) × Rows rs

is_line : (l : List ℕ) → line l ≡ none → ⊥
is_line l e = let z : ◌≡◌ {A = Bool} true false = cc in absurd (false≢true (sym z))

is_broken : broken ≡ none → ⊥
is_broken e = let z : ◌≡◌ {A = Bool} true false = cc in absurd (false≢true (sym z))

all_lines : (ls : List (List ℕ)) (end : List Row) → Rows end → Rows (map line ls ++ end)
all_lines [] end h = h
all_lines (l ∷ ls) end h = (is_line l, all_lines ls end h)

real : (f : Bool) (s : List ℕ) → Rows (rows_of f s)
unfolding rows_of
real false s = subst Rows (append-nil (map line (input_lines s))) (all_lines (input_lines s) [] tt)
real true s = all_lines (lines_from [] s).finished (broken ∷ []) (is_broken, tt)

real_first : (rs qs : List Row) → Rows rs → Rows qs → 0 < length rs + length qs → first rs ≡ none → first qs ≡ none → ⊥
real_first [] [] a b some e f = absurd (omega arith)
real_first [] (q ∷ qs) a b some e f = b.0 f
real_first (r ∷ rs) qs a b some e f = a.0 e

-- ---- one position behind line 1: what ours tells and how it counts is the rule
module _ (v w : ℕ) (v_later : eqb v 0 ≡ false) (w_later : eqb w 0 ≡ false) where
  one_side : (k : ℕ) (bs : List Moved) → difference k bs [] ≡ told.Differs k
  unfolding difference
  one_side k [] = refl
  one_side k (b ∷ bs) = refl

  -- from a position on, by what it tells
  abbrev onward : ℕ → ℕ → List Position → Told → List Told
  onward k n ps t = t ∷ choose (is_last t) [] (tells_from v w (k + 1) (exactly n t) ps)

  differs_on : (k n : ℕ) (ps : List Position) (bs os : List Moved)
      → difference k bs os ∷ tells_from v w (k + 1) (n + 1) ps ≡ onward k n ps (difference k bs os)
  unfolding difference is_last is_difference
  differs_on k n ps [] os = refl
  differs_on k n ps (b ∷ bs) [] = refl
  differs_on k n ps (b ∷ bs) (o ∷ os) = refl

  by_test : (k n : ℕ) (ps : List Position) (t : Bool) (bs os : List Moved)
      → choose t (told.Same ∷ tells_from v w (k + 1) n ps) (difference k bs os ∷ tells_from v w (k + 1) (n + 1) ps)
      ≡ onward k n ps (choose t told.Same (difference k bs os))
  unfolding is_last is_difference
  by_test k n ps true bs os = refl
  by_test k n ps false bs os = differs_on k n ps bs os

  abbrev ruled : ℕ → ℕ → List Position → Seen → Seen → Bool → List Told
  ruled k n ps a b t =
      choose (is_bad a || is_bad b) (told.Refused k ∷ [])
      (choose t (told.Same ∷ tells_from v w (k + 1) n ps) (difference k (moved a) (moved b) ∷ tells_from v w (k + 1) (n + 1) ps))

  two_lines : (k n : ℕ) (ps : List Position) (s t : List ℕ) (a b : Seen) → read v s ≡ a → read w t ≡ b
      → ruled k n ps a b (same_bytes s t) ≡ onward k n ps (tell k n a b)
  unfolding tell is_last
  two_lines k n ps s t Bad b e f = refl
  two_lines k n ps s t Nothing b e f = never_nothing v s e
  two_lines k n ps s t (Good l) Bad e f = refl
  two_lines k n ps s t (Good l) Nothing e f = never_nothing w t f
  two_lines k n ps s t (Good l) (Good m) e f =
      by_test k n ps (same_bytes s t) (moved_in l) (moved_in m) ∙ ap (onward k n ps) (sym (told_by_bytes k v w s t l m v_later w_later e f))

  bench_alone : (k n : ℕ) (ps : List Position) (s : List ℕ) (a : Seen) → read v s ≡ a
      → ruled k n ps a Nothing false ≡ onward k n ps (tell k n a Nothing)
  unfolding tell is_last is_difference
  bench_alone k n ps s Bad e = refl
  bench_alone k n ps s Nothing e = never_nothing v s e
  bench_alone k n ps s (Good l) e = ap (λ (t : Told). t ∷ tells_from v w (k + 1) (n + 1) ps) (one_side k (moved_in l))

  office_alone : (k n : ℕ) (ps : List Position) (t : List ℕ) (b : Seen) → read w t ≡ b
      → ruled k n ps Nothing b false ≡ onward k n ps (tell k n Nothing b)
  unfolding tell is_last is_difference difference
  office_alone k n ps t Bad f = refl
  office_alone k n ps t Nothing f = never_nothing w t f
  office_alone k n ps t (Good m) f = refl

  broken_office : (k n : ℕ) (ps : List Position) (a : Seen) (t : Bool) → ruled k n ps a Bad t ≡ onward k n ps (tell k n a Bad)
  unfolding tell is_last
  broken_office k n ps (Good l) t = refl
  broken_office k n ps Bad t = refl
  broken_office k n ps Nothing t = refl

  broken_bench : (k n : ℕ) (ps : List Position) (b : Seen) (t : Bool) → ruled k n ps Bad b t ≡ onward k n ps (tell k n Bad b)
  unfolding tell is_last
  broken_bench k n ps b t = refl

  -- a row behind the last is nothing, once the version is known
  ended_bench : seen v none ≡ Nothing
  ended_bench = rw v_later

  ended_office : seen w none ≡ Nothing
  ended_office = rw w_later

  abbrev together : Row → Row → Position
  together r q = record { bench = r; office = q }

  one_position : (k n : ℕ) (r q : Row) (ps : List Position) → (r ≡ none → q ≡ none → ⊥)
      → tells_from v w k n (together r q ∷ ps) ≡ onward k n ps (tell k n (seen v r) (seen w q))
  unfolding tells_from
  one_position k n (line s) (line t) ps some = two_lines k n ps s t (read v s) (read w t) refl refl
  one_position k n (line s) broken ps some = broken_office k n ps (read v s) false
  one_position k n (line s) none ps some =
      subst (λ (x : Seen). ruled k n ps (read v s) x false ≡ onward k n ps (tell k n (read v s) x)) (sym ended_office)
      (bench_alone k n ps s (read v s) refl)
  one_position k n broken q ps some = broken_bench k n ps (seen w q) (same_row broken q)
  one_position k n none (line t) ps some =
      subst (λ (x : Seen). ruled k n ps x (read w t) false ≡ onward k n ps (tell k n x (read w t))) (sym ended_bench)
      (office_alone k n ps t (read w t) refl)
  one_position k n none broken ps some = broken_office k n ps (seen v none) false
  one_position k n none none ps some = absurd (some refl refl)

  -- ---- from a position on
  abbrev at : ℕ → ℕ → State
  at k n = record { bench = v; office = w; position = k; total = n }

  next_state : (k n : ℕ) (a b : Seen) (t : Told) → next_of (at k n) a b t ≡ at (up k) (total_after n t)
  unfolding next_of version_after
  next_state k n a b t = rw (v_later, w_later)

  abbrev told_at : ℕ → ℕ → Side → Side → Told
  told_at k n bench office = tell k n (seen v (first (rows bench))) (seen w (first (rows office)))

  one_step : (turns k n : ℕ) (bench office : Side) → steps (suc turns) (at k n) bench office
      ≡ told_at k n bench office ∷ choose (is_last (told_at k n bench office)) []
      (steps turns (at (up k) (total_after n (told_at k n bench office))) (next v bench).left (next w office).left)
  unfolding steps step_of
  one_step turns k n bench office =
      let go : Seen → Seen → List Told =
      λ a b. tell k n a b ∷ choose (is_last (tell k n a b)) []
      (steps turns (next_of (at k n) a b (tell k n a b)) (next v bench).left (next w office).left) in
      let t = told_at k n bench office in
      ap (λ (a : Seen). go a (next w office).what) (next_row v bench).0
      ∙ ap (go (seen v (first (rows bench)))) (next_row w office).0
      ∙ ap (λ (st : State). t ∷ choose (is_last t) [] (steps turns st (next v bench).left (next w office).left))
      (next_state k n (seen v (first (rows bench))) (seen w (first (rows office))) t)

  -- behind the last row of both
  both_ended : (turns k n : ℕ) (bench office : Side) → rows bench ≡ [] → rows office ≡ []
      → steps (suc turns) (at k n) bench office ≡ told.Total n ∷ []
  unfolding tell is_last
  both_ended turns k n bench office no_bench no_office =
      let is : told_at k n bench office ≡ told.Total n =
      ap (λ (rs : List Row). tell k n (seen v (first rs)) (seen w (first (rows office)))) no_bench
      ∙ ap (λ (qs : List Row). tell k n (seen v none) (seen w (first qs))) no_office
      ∙ ap (λ (a : Seen). tell k n a (seen w none)) ended_bench
      ∙ ap (tell k n Nothing) ended_office in
      one_step turns k n bench office
      ∙ ap (λ (t : Told). t ∷ choose (is_last t) []
      (steps turns (at (up k) (total_after n t)) (next v bench).left (next w office).left)) is

  next_pair : (rs qs : List Row) → 0 < length rs + length qs → pairs rs qs ≡ together (first rs) (first qs) ∷ pairs (rest rs) (rest qs)
  unfolding pairs
  next_pair [] [] some = absurd (omega arith)
  next_pair [] (q ∷ qs) some = refl
  next_pair (r ∷ rs) qs some = refl

  same_tail : (t : Bool) (x y : List Told) → (t ≡ false → x ≡ y) → choose t [] x ≡ choose t [] y
  same_tail true x y e = refl
  same_tail false x y e = e refl

  -- by how many rows are left of both
  none_left : (rs : List Row) → length rs ≡ 0 → rs ≡ []
  none_left [] e = refl
  none_left (r ∷ rs) e = absurd (omega arith)

  rest_length : (rs : List Row) → length (rest rs) ≡ length rs - 1
  rest_length [] = refl
  rest_length (r ∷ rs) = omega arith

  at_most_one_more : (n : ℕ) (t : Told) → exactly n t ≤ n + 1
  at_most_one_more n t = by_flag (is_difference t)
    where
      by_flag : (b : Bool) → choose b (n + 1) n ≤ n + 1
      by_flag true = omega arith
      by_flag false = omega arith

  -- with nothing left of either the total is told
  ended_here : (turns k n : ℕ) (bench office : Side) → 0 < turns → length (rows bench) + length (rows office) ≡ 0
      → steps turns (at k n) bench office ≡ tells_from v w k n (pairs (rows bench) (rows office))
  unfolding tells_from pairs
  ended_here zero k n bench office some e = absurd (omega arith)
  ended_here (suc turns) k n bench office some e =
      let no_bench = none_left (rows bench) (omega arith) in
      let no_office = none_left (rows office) (omega arith) in
      both_ended turns k n bench office no_bench no_office
      ∙ sym (ap (λ (rs : List Row). tells_from v w k n (pairs rs (rows office))) no_bench
      ∙ ap (λ (qs : List Row). tells_from v w k n (pairs [] qs)) no_office)

  -- which no position is told with
  position_aside : (rs qs : List Row) → length rs + length qs ≡ 0 → (j k n : ℕ)
      → tells_from v w j n (pairs rs qs) ≡ tells_from v w k n (pairs rs qs)
  unfolding tells_from pairs
  position_aside [] [] e j k n = refl
  position_aside [] (q ∷ qs) e j k n = absurd (omega arith)
  position_aside (r ∷ rs) qs e j k n = absurd (omega arith)

  -- what is left after the position
  module _ (turns k n : ℕ) (bench office : Side) where
    abbrev here : Told
    here = told_at k n bench office

    abbrev bench_left : Side
    bench_left = (next v bench).left

    abbrev office_left : Side
    office_left = (next w office).left

    abbrev Goes_on : ℕ → ℕ → Type 0
    Goes_on j m = steps turns (at j m) bench_left office_left ≡ tells_from v w j m (pairs (rows bench_left) (rows office_left))

    left_rows : (j m : ℕ) → tells_from v w j m (pairs (rows bench_left) (rows office_left))
        ≡ tells_from v w j m (pairs (rest (rows bench)) (rest (rows office)))
    left_rows j m =
        ap (λ (rs : List Row). tells_from v w j m (pairs rs (rows office_left))) (next_row v bench).1
        ∙ ap (λ (qs : List Row). tells_from v w j m (pairs (rest (rows bench)) qs)) (next_row w office).1

    joined_on : 0 < length (rows bench) + length (rows office)
        → (is_last here ≡ false → steps turns (at (up k) (total_after n here)) bench_left office_left
        ≡ tells_from v w (k + 1) (exactly n here) (pairs (rest (rows bench)) (rest (rows office))))
        → steps (suc turns) (at k n) bench office ≡ tells_from v w k n (pairs (rows bench) (rows office))
    joined_on some tail =
        one_step turns k n bench office
        ∙ ap (λ (ts : List Told). here ∷ ts) (same_tail (is_last here) _ _ tail)
        ∙ sym (one_position k n (first (rows bench)) (first (rows office)) (pairs (rest (rows bench)) (rest (rows office)))
        (real_first (rows bench) (rows office) (real bench.failed (joined bench.parts)) (real office.failed (joined
        office.parts))
        some))
        ∙ sym (ap (tells_from v w k n) (next_pair (rows bench) (rows office) some))

  follows : (turns k n : ℕ) (bench office : Side) → length (rows bench) + length (rows office) < turns → n + 2 ≤ k
      → k + length (rows bench) ≤ most + 1 → k + length (rows office) ≤ most + 1
      → steps turns (at k n) bench office ≡ tells_from v w k n (pairs (rows bench) (rows office))
  follows zero k n bench office enough few b_fits o_fits = absurd (omega arith)
  follows (suc turns) k n bench office enough few b_fits o_fits =
      let t = told_at k n bench office in
      let L = (next v bench).left in
      let M = (next w office).left in
      ⊎_elim
      (λ (none : length (rows bench) + length (rows office) < 1). ended_here (suc turns) k n bench office (omega arith) (omega arith))
      (λ (some : 1 ≤ length (rows bench) + length (rows office)).
      joined_on turns k n bench office some
      (λ last.
      let bl : length (rows L) ≡ length (rows bench) - 1 = ap length (next_row v bench).1 ∙ rest_length (rows bench) in
      let ol : length (rows M) ≡ length (rows office) - 1 = ap length (next_row w office).1 ∙ rest_length (rows office) in
      let total : total_after n t ≡ exactly n t = total_exactly n t (omega arith) in
      ⊎_elim
      (λ (ends : length (rows L) + length (rows M) < 1).
      ended_here turns (up k) (total_after n t) L M (omega arith) (omega arith)
      ∙ left_rows turns k n bench office (up k) (total_after n t)
      ∙ position_aside (rest (rows bench)) (rest (rows office))
      (omega (arith, rest_length (rows bench), rest_length (rows office))) (up k) (k + 1) (total_after n t)
      ∙ ap (λ (m : ℕ). tells_from v w (k + 1) m (pairs (rest (rows bench)) (rest (rows office)))) total)
      (λ (goes : 1 ≤ length (rows L) + length (rows M)).
      let one : up k ≡ k + 1 = up_one k (omega arith) in
      ap (λ (j : ℕ). steps turns (at j (total_after n t)) L M) one
      ∙ ap (λ (m : ℕ). steps turns (at (k + 1) m) L M) total
      ∙ follows turns (k + 1) (exactly n t) L M (omega arith) (omega (arith, at_most_one_more n t)) (omega arith) (omega arith)
      ∙ left_rows turns k n bench office (k + 1) (exactly n t))
      (lt_or_le (length (rows L) + length (rows M)) 1)))
      (lt_or_le (length (rows bench) + length (rows office)) 1)

-- ---- line 1: a good header, or bad
data FirstRow (a : Seen) : Type 0 where
  bad : a ≡ Bad → FirstRow a
  header : (v : ℕ) → eqb v 0 ≡ false → a ≡ Good (Header v) → FirstRow a

first_row : (r : Row) → FirstRow (seen 0 r)
unfolding read may_stand good_first
first_row broken = bad refl
first_row none = bad refl
first_row (line s) = by_found (line_of (count_digits 0) s)
  where
    not_none : (v : ℕ) (t u : Bool) → eqb v 1 ≡ t → eqb v 2 ≡ u → FirstRow (choose (t || u) (Good (Header v)) Bad)
    not_none v true u e f = header v (ne_eqb v 0 (λ z. omega (arith, eqb-true v 1 e))) refl
    not_none v false true e f = header v (ne_eqb v 0 (λ z. omega (arith, eqb-true v 2 f))) refl
    not_none v false false e f = bad refl

    by_found : (f : Option Line) → FirstRow (seen_in 0 f)
    by_found None = bad refl
    by_found (Some (Header v)) = not_none v (eqb v 1) (eqb v 2) refl refl
    by_found (Some (Move m)) = bad refl
    by_found (Some (Arrived n)) = bad refl
    by_found (Some (Refused n)) = bad refl

-- the first position
module _ (turns : ℕ) (bench office : Side) (enough : length (rows bench) + length (rows office) < turns)
    (b_fits : length (rows bench) ≤ most) (o_fits : length (rows office) ≤ most) where
  abbrev from : Seen → Seen → List Told
  from a b =
      tell 1 0 a b ∷ choose (is_last (tell 1 0 a b)) []
      (steps turns (next_of start a b (tell 1 0 a b)) (next 0 bench).left (next 0 office).left)

  abbrev ruled_first : Seen → Seen → List Told
  ruled_first a b =
      choose (eqb (version_in a) 0 || eqb (version_in b) 0) (told.Refused 1 ∷ [])
      (told.Same ∷ tells_from (version_in a) (version_in b) 2 0 (pairs (rest (rows bench)) (rest (rows office))))

  both_headers : (v w : ℕ) → eqb v 0 ≡ false → eqb w 0 ≡ false
      → from (Good (Header v)) (Good (Header w)) ≡ ruled_first (Good (Header v)) (Good (Header w))
  unfolding tell told_lines is_last next_of start version_after version_of total_after is_difference up
  both_headers v w v_later w_later =
      let L = (next 0 bench).left in
      let M = (next 0 office).left in
      let bl : length (rows L) ≡ length (rows bench) - 1 = ap length (next_row 0 bench).1 ∙ rest_length v w v_later w_later (rows bench) in
      let ol : length (rows M) ≡ length (rows office) - 1 = ap length (next_row 0 office).1 ∙ rest_length v w v_later w_later
      (rows office) in
      rw (v_later, w_later)
      (ap (λ (ts : List Told). told.Same ∷ ts)
      (follows v w v_later w_later turns 2 0 L M (omega arith) (omega arith) (omega arith) (omega arith)
      ∙ ap (λ (rs : List Row). tells_from v w 2 0 (pairs rs (rows M))) (next_row 0 bench).1
      ∙ ap (λ (qs : List Row). tells_from v w 2 0 (pairs (rest (rows bench)) qs)) (next_row 0 office).1))

  by_first : (a b : Seen) → FirstRow a → FirstRow b → from a b ≡ ruled_first a b
  unfolding tell is_last version_of
  by_first a b (bad e) q = subst (λ (x : Seen). from x b ≡ ruled_first x b) (sym e) refl
  by_first a b (header v later e) (bad f) =
      subst (λ (x : Seen). from x b ≡ ruled_first x b) (sym e)
      (subst (λ (y : Seen). from (Good (Header v)) y ≡ ruled_first (Good (Header v)) y) (sym f) (rw later))
  by_first a b (header v later e) (header w later' f) =
      subst (λ (x : Seen). from x b ≡ ruled_first x b) (sym e)
      (subst (λ (y : Seen). from (Good (Header v)) y ≡ ruled_first (Good (Header v)) y) (sym f) (both_headers v w later later'))

  from_start : steps (suc turns) start bench office ≡ tells_rows (rows bench) (rows office)
  unfolding steps step_of tells_rows start
  from_start =
      ap (λ (a : Seen). from a (next 0 office).what) (next_row 0 bench).0
      ∙ ap (from (seen 0 (first (rows bench)))) (next_row 0 office).0
      ∙ by_first (seen 0 (first (rows bench))) (seen 0 (first (rows office))) (first_row (first (rows bench)))
      (first_row (first (rows office)))

-- the parts of the one file and of the other, each cut anywhere, empty parts among them, with or without a read that fails behind
-- them: what the steps put out, joined, is what the joined files have. It asks for fewer than 2^64 lines, and for a turn for each
pub compared_in_parts : (f g : Bool) (ps qs : List (List ℕ)) (turns : ℕ)
    → length (rows_of f (joined ps)) < 2 ^ 64 → length (rows_of g (joined qs)) < 2 ^ 64
    → length (rows_of f (joined ps)) + length (rows_of g (joined qs)) < turns
    → printed (steps (suc turns) start (record { failed = f; parts = ps }) (record { failed = g; parts = qs }))
    ≡ compared (opened f (joined ps)) (opened g (joined qs))
unfolding compared tells
compared_in_parts f g ps qs turns b_few o_few enough =
    ap printed (from_start turns (record { failed = f; parts = ps }) (record { failed = g; parts = qs }) enough (omega arith) (omega arith))
