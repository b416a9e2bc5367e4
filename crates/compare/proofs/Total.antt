-- Where nothing is refused, the number behind `T` is the number of positions at which the files differ, and of the lines that begin with
-- `D`.
use mathlib.Core.Path.{◌≡◌, refl, ap, ◌∙◌, sym}
use mathlib.Core.Bool.{Bool, true, false, ◌||◌, false≢true}
use mathlib.Core.List.{List, [], ◌∷◌, ◌++◌, append_assoc, append-nil}
use Prim.Native.Nat.{ℕ, zero, suc, ◌+◌, ◌-◌, ◌≤◌, max}
use native.Mathlib.Nat.{add-zero, zero-add, le-max_left, le-max_right}
use native.Mathlib.Omega.{arith}
use lib.Dec.{eqb}
use lib.ListN.{length, get_or}
use Rattle.numbers.specs.Told.{choose}
use Rattle.lines.specs.Carry.{lines_from}
use Rattle.lines.specs.Digits.{hex, decimal}
use Rattle.lines.specs.Fields.{tab, parted}
use Rattle.lines.specs.Lines.{lettered}
use Rattle.lines.specs.Compared.{coordinate, coordinates, told_text}
use Rattle.lines.specs.declared.listed.Moved.{Moved}
use Rattle.lines.specs.declared.compared.Told.{Told}
use Rattle.lines.specs.declared.compared.Told.TheVariants as told
use Rattle.lines.proofs.Clear.{Clear, clear_append, clear_hex, clear_decimal, begins_with}
use Rattle.compare.specs.Step.{is_difference}
use Rattle.compare.specs.Rule.{Row, none, rows_of, seen, is_bad, first, rest, Position, pairs, same_row}
use Rattle.compare.specs.Rule.{moved, difference, tells_from, version, tells_rows, tells, opened, printed, compared}
use Rattle.compare.specs.Totals.{differ_after, differing, all_differing, count_d, lines_d, is_refusal, refuses}

-- ---- the positions that differ, counted along the pairs and by their numbers
abbrev apart : Position → ℕ
apart p = choose (same_row p.bench p.office) 0 1

abbrev all_apart : List Position → ℕ
all_apart [] = 0
all_apart (p ∷ ps) = apart p + all_apart ps

later : (rs : List Row) (j : ℕ) → get_or rs (suc j) none ≡ get_or (rest rs) j none
later [] j = refl
later (r ∷ rs) j = refl

earliest : (rs : List Row) → get_or rs 0 none ≡ first rs
earliest [] = refl
earliest (r ∷ rs) = refl

abbrev test : Row → Row → ℕ
test r q = choose (same_row r q) 0 1

pub behind_the_first : (rs qs : List Row) (m j : ℕ) → differing rs qs (suc j) m ≡ differing (rest rs) (rest qs) j m
unfolding differing
behind_the_first rs qs zero j = refl
behind_the_first rs qs (suc m) j =
    ap (λ (n : ℕ). n + differing rs qs (suc (suc j)) m)
    (ap (λ (r : Row). test r (get_or qs (suc j) none)) (later rs j) ∙ ap (test (get_or (rest rs) j none)) (later qs j))
    ∙ ap (λ (n : ℕ). differ_after (rest rs) (rest qs) j + n) (behind_the_first rs qs m (suc j))

apart_first : (rs qs : List Row) → all_apart (pairs rs qs) ≡ test (first rs) (first qs) + all_apart (pairs (rest rs) (rest qs))
unfolding pairs
apart_first [] [] = refl
apart_first [] (q ∷ qs) = refl
apart_first (r ∷ rs) qs = refl

rest_shorter : (rs : List Row) (m : ℕ) → length rs ≤ suc m → length (rest rs) ≤ m
rest_shorter [] m h = omega arith
rest_shorter (r ∷ rs) m h = omega arith

by_numbers : (m : ℕ) (rs qs : List Row) → length rs ≤ m → length qs ≤ m → all_apart (pairs rs qs) ≡ differing rs qs 0 m
unfolding differing pairs
by_numbers zero [] [] h g = refl
by_numbers zero [] (q ∷ qs) h g = absurd (omega arith)
by_numbers zero (r ∷ rs) qs h g = absurd (omega arith)
by_numbers (suc m) rs qs h g =
    apart_first rs qs
    ∙ ap (λ (n : ℕ). test (first rs) (first qs) + n)
    (by_numbers m (rest rs) (rest qs) (rest_shorter rs m h) (rest_shorter qs m g) ∙ sym (behind_the_first rs qs m 0))
    ∙ ap (λ (n : ℕ). n + differing rs qs 1 m)
    (sym (ap (λ (r : Row). test r (get_or qs 0 none)) (earliest rs) ∙ ap (test (first rs)) (earliest qs)))

-- ---- the lines that begin with `D`
abbrev counts : Told → ℕ
counts t = choose (is_difference t) 1 0

abbrev all_counts : List Told → ℕ
all_counts [] = 0
all_counts (t ∷ ts) = counts t + all_counts ts

clear_coordinate : (letter bench office : ℕ) → eqb letter 10 ≡ false → Clear (coordinate letter bench office)
unfolding coordinate
clear_coordinate letter bench office l = by_flag (eqb bench office)
  where
    by_flag : (t : Bool) → Clear (choose t [] (tab ∷ letter ∷ tab ∷ (hex bench ++ (tab ∷ hex office))))
    by_flag true = tt
    by_flag false =
        (refl, (l, (refl, clear_append (hex bench) (tab ∷ hex office) (clear_hex bench) (refl, clear_hex office))))

clear_coordinates : (bench office : Moved) → Clear (coordinates bench office)
unfolding coordinates
clear_coordinates b o =
    clear_append (coordinate 120 b.x o.x) _ (clear_coordinate 120 b.x o.x refl)
    (clear_append (coordinate 121 b.y o.y) _ (clear_coordinate 121 b.y o.y refl) (clear_coordinate 122 b.z o.z refl))

one_line_more : (t : Told) (s : List ℕ) → lines_d (told_text t ++ s) ≡ counts t + lines_d s
unfolding told_text is_difference count_d parted
one_line_more told.Same s = sym (zero-add (lines_d s))
one_line_more (told.Differs k) s = ap count_d (begins_with (lettered 68 k) s (refl, (refl, clear_decimal k)))
one_line_more (told.Moves b) s =
    ap count_d
    (begins_with (lettered 68 b.position ++ coordinates b.bench b.office) s
    (refl, (refl, clear_append (decimal b.position) _ (clear_decimal b.position) (clear_coordinates b.bench b.office))))
one_line_more (told.Refused k) s =
    ap count_d (begins_with (82 ∷ 9 ∷ 55 ∷ 9 ∷ decimal k) s (refl, (refl, (refl, (refl, clear_decimal k)))))
one_line_more (told.Total n) s = ap count_d (begins_with (lettered 84 n) s (refl, (refl, clear_decimal n)))

pub lines_counted : (ts : List Told) → lines_d (printed ts) ≡ all_counts ts
unfolding printed count_d lines_from
lines_counted [] = refl
lines_counted (t ∷ ts) = one_line_more t (printed ts) ∙ ap (λ (n : ℕ). counts t + n) (lines_counted ts)

printed_append : (ts us : List Told) → printed (ts ++ us) ≡ printed ts ++ printed us
unfolding printed
printed_append [] us = refl
printed_append (t ∷ ts) us =
    ap (λ (s : List ℕ). told_text t ++ s) (printed_append ts us) ∙ sym (append_assoc (told_text t) (printed ts) (printed us))

counts_append : (ts us : List Told) → all_counts (ts ++ us) ≡ all_counts ts + all_counts us
counts_append [] us = sym (zero-add (all_counts us))
counts_append (t ∷ ts) us = ap (λ (n : ℕ). counts t + n) (counts_append ts us) ∙ regroup (counts t) (all_counts ts) (all_counts us)
  where
    regroup : (a b c : ℕ) → a + (b + c) ≡ a + b + c
    regroup a b c = omega arith

-- ---- from a position on: what is told, and then the total
pub record Counted (n : ℕ) (ps : List Position) (ts : List Told) : Type 0 where
  pub before : List Told
  pub then_total : ts ≡ before ++ (told.Total (n + all_apart ps) ∷ [])
  pub differences : all_counts before ≡ all_apart ps

one_told : (t : Told) {ts : List Told} (n m : ℕ) (p : Position) (ps : List Position) → m ≡ n + counts t → counts t ≡ apart p
    → Counted m ps ts → Counted n (p ∷ ps) (t ∷ ts)
one_told t n m p ps e f c =
    record {
      before = t ∷ c.before;
      then_total =
          ap (λ (us : List Told). t ∷ us)
          (c.then_total ∙ ap (λ (k : ℕ). c.before ++ (told.Total k ∷ [])) (regroup m n (counts t) (apart p) (all_apart ps) e f));
      differences = ap (λ (k : ℕ). k + all_counts c.before) f ∙ ap (λ (k : ℕ). apart p + k) c.differences;
    }
  where
    regroup : (m n a b c : ℕ) → m ≡ n + a → a ≡ b → m + c ≡ n + (b + c)
    regroup m n a b c e f = omega arith

a_difference : (k : ℕ) (bs os : List Moved) → counts (difference k bs os) ≡ 1
unfolding difference is_difference
a_difference k [] os = refl
a_difference k (b ∷ bs) [] = refl
a_difference k (b ∷ bs) (o ∷ os) = refl

pub no_refusal : (t : Told) (ts : List Told) → refuses (t ∷ ts) ≡ false → refuses ts ≡ false
unfolding refuses
no_refusal t ts = or_right (is_refusal t) (refuses ts)
  where
    or_right : (a b : Bool) → (a || b) ≡ false → b ≡ false
    or_right true b e = absurd (false≢true (sym e))
    or_right false b e = e

module _ (v w : ℕ) where
  by_tests : (k n : ℕ) (p : Position) (ps : List Position) (bs os : List Moved) (bad same : Bool)
      → same_row p.bench p.office ≡ same
      → ((k n : ℕ) → refuses (tells_from v w k n ps) ≡ false → Counted n ps (tells_from v w k n ps))
      → refuses (choose bad (told.Refused k ∷ []) (choose same (told.Same ∷ tells_from v w (k + 1) n ps)
      (difference k bs os ∷ tells_from v w (k + 1) (n + 1) ps))) ≡ false
      → Counted n (p ∷ ps) (choose bad (told.Refused k ∷ []) (choose same (told.Same ∷ tells_from v w (k + 1) n ps)
      (difference k bs os ∷ tells_from v w (k + 1) (n + 1) ps)))
  unfolding refuses is_difference
  by_tests k n p ps bs os true same e before r = absurd (false≢true (sym r))
  by_tests k n p ps bs os false true e before r =
      one_told told.Same n n p ps (sym (add-zero n)) (sym (ap (λ (b : Bool). choose b 0 1) e)) (before (k + 1) n
      (no_refusal told.Same (tells_from v w (k + 1) n ps) r))
  by_tests k n p ps bs os false false e before r =
      let d = difference k bs os in
      one_told d n (n + 1) p ps (sym (ap (λ (m : ℕ). n + m) (a_difference k bs os)))
      (a_difference k bs os ∙ sym (ap (λ (b : Bool). choose b 0 1) e)) (before (k + 1) (n + 1) (no_refusal d (tells_from v w (k + 1)
      (n + 1) ps) r))

  counted_from : (ps : List Position) (k n : ℕ) → refuses (tells_from v w k n ps) ≡ false → Counted n ps (tells_from v w k n ps)
  unfolding tells_from
  counted_from [] k n r =
      record { before = []; then_total = ap (λ (m : ℕ). told.Total m ∷ []) (sym (add-zero n)); differences = refl }
  counted_from (p ∷ ps) k n r =
      by_tests k n p ps (moved (seen v p.bench)) (moved (seen w p.office))
      (is_bad (seen v p.bench) || is_bad (seen w p.office)) (same_row p.bench p.office) refl (counted_from ps) r

-- ---- the whole
pub record ExactTotal (bench office : List Row) (text : List ℕ) : Type 0 where
  pub lines : List ℕ
  pub then_total : text ≡ lines ++ told_text (told.Total (all_differing bench office))
  pub lines_with_d : lines_d text ≡ all_differing bench office

module _ (rs qs : List Row) where
  all_apart_lem : all_apart (pairs (rest rs) (rest qs)) ≡ all_differing rs qs
  all_apart_lem =
      let m = max (length rs) (length qs) - 1 in
      by_numbers m (rest rs) (rest qs) (rest_shorter rs m (omega (arith, le-max_left (length rs) (length qs))))
      (rest_shorter qs m (omega (arith, le-max_right (length rs) (length qs))))
      ∙ sym (behind_the_first rs qs m 0)

  by_first : (b : Bool) (v w : ℕ) → refuses (choose b (told.Refused 1 ∷ []) (told.Same ∷ tells_from v w 2 0 (pairs (rest rs)
      (rest qs)))) ≡ false
      → ExactTotal rs qs
      (printed (choose b (told.Refused 1 ∷ []) (told.Same ∷ tells_from v w 2 0 (pairs (rest rs) (rest qs)))))
  unfolding refuses printed told_text is_difference
  by_first true v w r = absurd (false≢true (sym r))
  by_first false v w r =
      let ps = pairs (rest rs) (rest qs) in
      let ts = tells_from v w 2 0 ps in
      let c = counted_from v w ps 2 0 (no_refusal told.Same ts r) in
      let total : 0 + all_apart ps ≡ all_differing rs qs = zero-add (all_apart ps) ∙ all_apart_lem in
      let is : ts ≡ c.before ++ (told.Total (all_differing rs qs) ∷ []) =
      c.then_total ∙ ap (λ (n : ℕ). c.before ++ (told.Total n ∷ [])) total in
      record {
        lines = printed c.before;
        then_total =
            ap printed is ∙ printed_append c.before (told.Total (all_differing rs qs) ∷ [])
            ∙ ap (λ (s : List ℕ). printed c.before ++ s) (append-nil (told_text (told.Total (all_differing rs qs))));
        lines_with_d =
            lines_counted ts ∙ ap all_counts is ∙ counts_append c.before (told.Total (all_differing rs qs) ∷ [])
            ∙ add-zero (all_counts c.before) ∙ c.differences ∙ all_apart_lem;
      }

pub total_exact : (f g : Bool) (s t : List ℕ) → refuses (tells (opened f s) (opened g t)) ≡ false
    → ExactTotal (rows_of f s) (rows_of g t) (compared (opened f s) (opened g t))
unfolding tells tells_rows compared
total_exact f g s t r =
    let rs = rows_of f s in
    let qs = rows_of g t in
    by_first rs qs (eqb (version rs) 0 || eqb (version qs) 0) (version rs) (version qs) r
