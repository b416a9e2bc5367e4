-- Two equal files print a total of 0; swapped files tell the same with the two patterns swapped; and no second answer fits a position, nor
-- a second output two files, however they are cut.
use mathlib.Core.Path.{◌≡◌, refl, ap, ◌∙◌, sym, subst}
use mathlib.Core.Bool.{Bool, true, false, ◌&&◌, ◌||◌, false≢true}
use mathlib.Core.List.{List, [], ◌∷◌, map, append-nil}
use Prim.Native.Nat.{ℕ, suc, ◌+◌, ◌<◌, ◌^◌}
use lib.Dec.{eqb}
use lib.ListN.{length}
use borrow.Author.Tests.{eq-eqb, ne_eqb, eqb-true}
use Rattle.numbers.specs.Told.{choose}
use Rattle.lines.specs.Compared.{told_text}
use Rattle.lines.specs.declared.listed.Moved.{Moved}
use Rattle.lines.specs.declared.compared.Told.{Told}
use Rattle.lines.specs.declared.compared.Told.TheVariants as told
use Rattle.compare.specs.Rule.{File, unopened, opened, Row, line, broken, none}
use Rattle.compare.specs.Rule.{rows_of, seen, is_bad, rest, Position, alone, pairs}
use Rattle.compare.specs.Rule.{same_bytes, same_row, moved, difference, tells_from, version, tells_rows, tells, printed, compared}
use Rattle.compare.specs.Totals.{refuses}
use Rattle.lines.specs.Carry.{joined}
use Rattle.compare.specs.Parts.{steps}
use Rattle.compare.specs.Step.{start}
use Rattle.compare.specs.declared.step.Step.{Step}
use Rattle.compare.proofs.step.position.Reads as position
use Rattle.compare.proofs.InParts.{compared_in_parts}
use Rattle.compare.proofs.Bytes.{same_itself}
use Rattle.compare.proofs.Total.{no_refusal}

-- ---- equal files
module _ (v : ℕ) where
  by_row : (k n : ℕ) (r : Row) (ts us : List Told) (bad : Bool) → (is_bad (seen v r) || is_bad (seen v r)) ≡ bad
      → (refuses ts ≡ false → printed ts ≡ told_text (told.Total n))
      → refuses (choose bad (told.Refused k ∷ []) (choose (same_row r r) (told.Same ∷ ts) us)) ≡ false
      → printed (choose bad (told.Refused k ∷ []) (choose (same_row r r) (told.Same ∷ ts) us)) ≡ told_text (told.Total n)
  unfolding refuses printed told_text
  by_row k n r ts us true e before = λ h. absurd (false≢true (sym h))
  by_row k n (line s) ts us false e before =
      rw (same_itself s) (λ h. before (no_refusal told.Same ts h))
  by_row k n broken ts us false e before = λ h. absurd (false≢true (sym e))
  by_row k n none ts us false e before = λ h. before (no_refusal told.Same ts h)

  same_rows : (rs : List Row) (k n : ℕ) → refuses (tells_from v v k n (pairs rs rs)) ≡ false
      → printed (tells_from v v k n (pairs rs rs)) ≡ told_text (told.Total n)
  unfolding tells_from pairs printed
  same_rows [] k n h = append-nil (told_text (told.Total n))
  same_rows (r ∷ rs) k n h =
      by_row k n r (tells_from v v (k + 1) n (pairs rs rs))
      (difference k (moved (seen v r)) (moved (seen v r)) ∷ tells_from v v (k + 1) (n + 1) (pairs rs rs))
      (is_bad (seen v r) || is_bad (seen v r)) refl (same_rows rs (k + 1) n) h

same_files : (rs : List Row) (b : Bool) (v : ℕ)
    → refuses (choose b (told.Refused 1 ∷ []) (told.Same ∷ tells_from v v 2 0 (pairs (rest rs) (rest rs)))) ≡ false
    → printed (choose b (told.Refused 1 ∷ []) (told.Same ∷ tells_from v v 2 0 (pairs (rest rs) (rest rs)))) ≡ told_text (told.Total 0)
unfolding refuses printed told_text
same_files rs true v h = absurd (false≢true (sym h))
same_files rs false v h = same_rows v (rest rs) 2 0 (no_refusal told.Same (tells_from v v 2 0 (pairs (rest rs) (rest rs))) h)

pub equal_files : (f : Bool) (s : List ℕ) → refuses (tells (opened f s) (opened f s)) ≡ false
    → compared (opened f s) (opened f s) ≡ told_text (told.Total 0)
unfolding compared tells tells_rows
equal_files f s h =
    let rs = rows_of f s in
    same_files rs (eqb (version rs) 0 || eqb (version rs) 0) (version rs) h

-- ---- swapped files
abbrev pub swapped : Told → Told
swapped told.Same = told.Same
swapped (told.Differs k) = told.Differs k
swapped (told.Moves b) = told.Moves (record { position = b.position; bench = b.office; office = b.bench })
swapped (told.Refused k) = told.Refused k
swapped (told.Total n) = told.Total n

or_swapped : (a b : Bool) → (b || a) ≡ (a || b)
or_swapped true true = refl
or_swapped true false = refl
or_swapped false true = refl
or_swapped false false = refl

eqb_swapped : (a b : ℕ) → eqb b a ≡ eqb a b
eqb_swapped a b = by_flag (eqb a b) refl
  where
    by_flag : (t : Bool) → eqb a b ≡ t → eqb b a ≡ t
    by_flag true e = eq-eqb b a (sym (eqb-true a b e))
    by_flag false e = ne_eqb b a (λ z. false≢true (sym e ∙ eq-eqb a b (sym z)))

bytes_swapped : (s t : List ℕ) → same_bytes t s ≡ same_bytes s t
unfolding same_bytes
bytes_swapped [] [] = refl
bytes_swapped [] (c ∷ t) = refl
bytes_swapped (b ∷ s) [] = refl
bytes_swapped (b ∷ s) (c ∷ t) = ap (λ (x : Bool). x && same_bytes t s) (eqb_swapped b c) ∙ ap (λ (x : Bool). eqb b c && x)
    (bytes_swapped s t)

rows_swapped : (r q : Row) → same_row q r ≡ same_row r q
rows_swapped (line s) (line t) = bytes_swapped s t
rows_swapped (line s) broken = refl
rows_swapped (line s) none = refl
rows_swapped broken (line t) = refl
rows_swapped broken broken = refl
rows_swapped broken none = refl
rows_swapped none (line t) = refl
rows_swapped none broken = refl
rows_swapped none none = refl

difference_swapped : (k : ℕ) (bs os : List Moved) → difference k os bs ≡ swapped (difference k bs os)
unfolding difference
difference_swapped k [] [] = refl
difference_swapped k [] (o ∷ os) = refl
difference_swapped k (b ∷ bs) [] = refl
difference_swapped k (b ∷ bs) (o ∷ os) = refl

abbrev turned : Position → Position
turned p = record { bench = p.office; office = p.bench }

alone_turned : (qs : List Row) → pairs qs [] ≡ map turned (map alone qs)
unfolding pairs
alone_turned [] = refl
alone_turned (q ∷ qs) = ap (λ (ps : List Position). record { bench = q; office = none } ∷ ps) (alone_turned qs)

pairs_swapped : (rs qs : List Row) → pairs qs rs ≡ map turned (pairs rs qs)
unfolding pairs
pairs_swapped [] qs = alone_turned qs
pairs_swapped (r ∷ rs) [] = ap (λ (ps : List Position). record { bench = none; office = r } ∷ ps) (pairs_swapped rs [])
pairs_swapped (r ∷ rs) (q ∷ qs) = ap (λ (ps : List Position). record { bench = q; office = r } ∷ ps) (pairs_swapped rs qs)

choose_map : (t : Bool) (a b a' b' : List Told) → a ≡ map swapped a' → b ≡ map swapped b' → choose t a b ≡ map swapped (choose t a' b')
choose_map true a b a' b' e f = e
choose_map false a b a' b' e f = f

from_swapped : (v w : ℕ) (ps : List Position) (k n : ℕ) → tells_from w v k n (map turned ps) ≡ map swapped (tells_from v w k n ps)
unfolding tells_from
from_swapped v w [] k n = refl
from_swapped v w (p ∷ ps) k n =
    let a = seen v p.bench in
    let b = seen w p.office in
    let same = told.Same ∷ tells_from w v (k + 1) n (map turned ps) in
    let differs = difference k (moved b) (moved a) ∷ tells_from w v (k + 1) (n + 1) (map turned ps) in
    ap (λ (t : Bool). choose t (told.Refused k ∷ []) (choose (same_row p.office p.bench) same differs)) (or_swapped (is_bad a)
    (is_bad b))
    ∙ ap (λ (t : Bool). choose (is_bad a || is_bad b) (told.Refused k ∷ []) (choose t same differs)) (rows_swapped p.bench p.office)
    ∙ choose_map (is_bad a || is_bad b) _ _ (told.Refused k ∷ []) _ refl
    (choose_map (same_row p.bench p.office) same differs (told.Same ∷ tells_from v w (k + 1) n ps)
    (difference k (moved a) (moved b) ∷ tells_from v w (k + 1) (n + 1) ps)
    (ap (λ (ts : List Told). told.Same ∷ ts) (from_swapped v w ps (k + 1) n))
    (ap (λ (t : Told). t ∷ tells_from w v (k + 1) (n + 1) (map turned ps)) (difference_swapped k (moved a) (moved b))
    ∙ ap (λ (ts : List Told). swapped (difference k (moved a) (moved b)) ∷ ts) (from_swapped v w ps (k + 1) (n + 1))))

tells_rows_swapped : (rs qs : List Row) → tells_rows qs rs ≡ map swapped (tells_rows rs qs)
unfolding tells_rows
tells_rows_swapped rs qs =
    let v = version rs in
    let w = version qs in
    ap (λ (t : Bool). choose t (told.Refused 1 ∷ []) (told.Same ∷ tells_from w v 2 0 (pairs (rest qs) (rest rs)))) (or_swapped
    (eqb v 0) (eqb w 0))
    ∙ choose_map (eqb v 0 || eqb w 0) _ _ (told.Refused 1 ∷ []) (told.Same ∷ tells_from v w 2 0 (pairs (rest rs) (rest qs))) refl
    (ap (λ (ts : List Told). told.Same ∷ ts)
    (ap (tells_from w v 2 0) (pairs_swapped (rest rs) (rest qs)) ∙ from_swapped v w (pairs (rest rs) (rest qs)) 2 0))

-- the two patterns are swapped, and no number is another
pub swapped_files : (bench office : File) → tells office bench ≡ map swapped (tells bench office)
unfolding tells
swapped_files unopened unopened = refl
swapped_files unopened (opened g t) = refl
swapped_files (opened f s) unopened = refl
swapped_files (opened f s) (opened g t) = tells_rows_swapped (rows_of f s) (rows_of g t)

-- ---- one answer
pub one_step : (i : _) (a b : Step) → position.Post tt i a i → position.Post tt i b i → a ≡ b
one_step i a b p q = p ∙ sym q

-- two ways of cutting the same files print the same
module _ (f g : Bool) (turns : ℕ) where
  abbrev put_out : List (List ℕ) → List (List ℕ) → List ℕ
  put_out ps qs = printed (steps (suc turns) start (record { failed = f; parts = ps }) (record { failed = g; parts = qs }))

  abbrev Few : List ℕ → List ℕ → Type 0
  Few s t = (length (rows_of f s) < 2 ^ 64) × (length (rows_of g t) < 2 ^ 64) × (length (rows_of f s) + length (rows_of g t) < turns)

  pub one_output : (ps qs ps' qs' : List (List ℕ)) → joined ps ≡ joined ps' → joined qs ≡ joined qs' → Few (joined ps) (joined qs)
      → put_out ps qs ≡ put_out ps' qs'
  one_output ps qs ps' qs' e e' few =
      let few' : Few (joined ps') (joined qs') =
      subst (λ (s : List ℕ). Few s (joined qs')) e (subst (λ (t : List ℕ). Few (joined ps) t) e' few) in
      compared_in_parts f g ps qs turns few.0 few.1 few.2
      ∙ ap (λ (s : List ℕ). compared (opened f s) (opened g (joined qs))) e
      ∙ ap (λ (t : List ℕ). compared (opened f (joined ps')) (opened g t)) e'
      ∙ sym (compared_in_parts f g ps' qs' turns few'.0 few'.1 few'.2)
