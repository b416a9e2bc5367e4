-- What is pulled from the parts of a file, one line after the other, is what the joined file has, row by row.
use mathlib.Core.Path.{◌≡◌, refl, ap, ◌∙◌, sym, subst}
use mathlib.Core.Bool.{Bool, true, false}
use mathlib.Core.List.{List, [], ◌∷◌, ◌++◌, map, append_assoc}
use Prim.Native.Nat.{ℕ, suc, ◌≤◌, ◌<◌}
use native.Mathlib.Nat.{le_antisymm}
use lib.Dec.{ltb}
use lib.ListN.{length, take, drop}
use borrow.Author.Tests.{ltb-true, ltb-false}
use Rattle.lines.specs.Carry.{Held, fresh, has_begun, keep, joined, Lines, lines_from, with_last}
use Rattle.lines.specs.Carry as carry
use Rattle.lines.specs.Fields.{newline, span}
use Rattle.numbers.proofs.Flags.{chosen}
use Rattle.lines.proofs.Cutting.{keep_keep, lines_piece, cut_at_newline, span_at_most, begun_kept}
use Rattle.compare.specs.Seen.{read_kept, read_last}
use Rattle.compare.specs.Rule.{Row, line, broken, none, rows_of, seen, first, rest}
use Rattle.compare.specs.Parts.{Side, Pulled, pulled, next}
use Rattle.compare.proofs.Kept.{kept_whole}

-- the rows of the lines of an input, and of a line that has begun
abbrev rows_in : Bool → Lines → List Row
rows_in false ls = map line (with_last ls.finished ls.begun)
rows_in true ls = map line ls.finished ++ (broken ∷ [])

rows_in_lem : (f : Bool) (s : List ℕ) → rows_of f s ≡ rows_in f (lines_from [] s)
unfolding rows_of
rows_in_lem false s = refl
rows_in_lem true s = refl

one_row : (f : Bool) (l : List ℕ) (ls : Lines) → rows_in f (carry.line l ls) ≡ line l ∷ rows_in f ls
one_row true l ls = refl
one_row false l ls = by_last ls.finished ls.begun
  where
    by_last : (done : List (List ℕ)) (b : List ℕ) → map line (with_last (l ∷ done) b) ≡ line l ∷ map line (with_last done b)
    by_last done [] = refl
    by_last done (b ∷ s) = refl

-- what is pulled is the first row, and what is left has the others
abbrev Follows : ℕ → Bool → Lines → Pulled → Type 0
Follows v f ls p =
    (p.what ≡ seen v (first (rows_in f ls))) × (rows_of p.left.failed (joined p.left.parts) ≡ rest (rows_in f ls))

none_begun : (v : ℕ) → read_last false v (keep fresh []) ≡ seen v none
unfolding read_last has_begun keep
none_begun v = refl

kept_none : keep fresh [] ≡ fresh
unfolding keep
kept_none = refl

at_end : (v : ℕ) (f : Bool) (l : List ℕ) → Follows v f (lines_from l []) (pulled v f (keep fresh l) [])
unfolding pulled joined lines_from rows_of read_last
at_end v true l = (refl, refl)
at_end v false [] = (none_begun v, refl)
at_end v false (b ∷ l) = (rw (begun_kept b l) (kept_whole v (b ∷ l)), refl)

-- a part with a newline ends the line; one without goes on with it
module _ (l p s : List ℕ) where
  abbrev cut : ℕ
  cut = span newline p

  with_newline : cut < length p → lines_from l (p ++ s) ≡ carry.line (l ++ take cut p) (lines_from [] (drop (suc cut) p ++ s))
  unfolding lines_from
  with_newline h =
      let was = cut_at_newline p h in
      ap (λ (u : List ℕ). lines_from l (u ++ s)) was.0
      ∙ ap (lines_from l) (append_assoc (take cut p) (newline ∷ drop (suc cut) p) s)
      ∙ lines_piece (take cut p) (newline ∷ (drop (suc cut) p ++ s)) l was.1

  without : length p ≤ cut → lines_from l (p ++ s) ≡ lines_from (l ++ p) s
  without h = lines_piece p s l (le_antisymm (span_at_most p) h)

pub pulled_follows : (v : ℕ) (f : Bool) (ps : List (List ℕ)) (l : List ℕ)
    → Follows v f (lines_from l (joined ps)) (pulled v f (keep fresh l) ps)
unfolding pulled joined
pulled_follows v f [] l = at_end v f l
pulled_follows v f (p ∷ ps) l =
    let k = span newline p in
    chosen (Follows v f (lines_from l (p ++ joined ps))) (ltb k (length p)) _ _
    (λ ends.
    let ls = lines_from [] (drop (suc k) p ++ joined ps) in
    let is : rows_in f (lines_from l (p ++ joined ps)) ≡ line (l ++ take k p) ∷ rows_in f ls =
    ap (rows_in f) (with_newline l p (joined ps) (ltb-true k (length p) ends)) ∙ one_row f (l ++ take k p) ls in (
      ap (read_kept v) (keep_keep fresh l (take k p)) ∙ kept_whole v (l ++ take k p) ∙ sym (ap (λ (rows : List Row). seen v
          (first rows)) is),
      rows_in_lem f (drop (suc k) p ++ joined ps) ∙ sym (ap rest is),
    ))
    (λ goes_on.
    subst (λ (ls : Lines). Follows v f ls (pulled v f (keep (keep fresh l) p) ps))
    (sym (without l p (joined ps) (ltb-false k (length p) goes_on)))
    (subst (λ (h : Held). Follows v f (lines_from (l ++ p) (joined ps)) (pulled v f h ps)) (sym (keep_keep fresh l p))
    (pulled_follows v f ps (l ++ p))))

-- from the front of a line
pub next_row : (v : ℕ) (side : Side) → ((next v side).what ≡ seen v (first (rows_of side.failed (joined side.parts))))
    × (rows_of (next v side).left.failed (joined (next v side).left.parts) ≡ rest (rows_of side.failed (joined side.parts)))
next_row v side =
    let f = side.failed in
    let ps = side.parts in
    let was : Follows v f (lines_from [] (joined ps)) (pulled v f fresh ps) =
    subst (λ (h : Held). Follows v f (lines_from [] (joined ps)) (pulled v f h ps)) kept_none (pulled_follows v f ps []) in
    let is = sym (rows_in_lem f (joined ps)) in
    (was.0 ∙ ap (λ (rows : List Row). seen v (first rows)) is, was.1 ∙ ap rest is)
