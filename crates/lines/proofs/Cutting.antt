-- A line may be cut anywhere: what is kept of its parts, one after the other, is what is kept of the whole; and the lines of
-- an input that comes in parts are those of the joined input.
use mathlib.Core.Path.{◌≡◌, refl, ap, ◌∙◌, sym}
use mathlib.Core.Bool.{Bool, true, false, ◌||◌}
use mathlib.Core.List.{List, [], ◌∷◌, ◌++◌, map, append_assoc, append-nil}
use mathlib.Core.Logic.{◌⊎◌, inl, inr, ⊎_elim}
use Prim.Native.Nat.{ℕ, zero, suc, ◌+◌, ◌≤◌, ◌<◌, min}
use native.Mathlib.Omega.{arith}
use lib.Dec.{eqb, leb, ltb}
use native.Mathlib.Numerals.{add-one}
use lib.ListN.{length, get_or, take, drop, set, length-append, length-take}
use lib.Seq.{take_all, take-suc, take-suc-set}
use borrow.Author.Tests.{ne_eqb, le-leb, lt-leb, lt-ltb, leb-true, leb-false, eqb-true, ltb-false}
use Rattle.numbers.specs.Told.{choose}
use Rattle.lines.specs.Fields.{newline, span}
use Rattle.std.specs.Prelude.{◌==◌, not}
use Rattle.lines.specs.declared.carry.Carry.TheVariants.{Whole}
use Rattle.lines.specs.declared.front.Front.{Front}
use Rattle.lines.specs.Carry.{held, Held, fresh, too_long, has_begun, keep, Lines, line, lines_from, Run, ran, run_from}

by_flag : (n : ℕ) (t : Bool) → leb n 128 ≡ t → (n ≤ 128) ⊎ (128 < n)
by_flag n true e = inl (leb-true n 128 e)
by_flag n false e = inr (leb-false n 128 e)

pub short_or_long : (n : ℕ) → (n ≤ 128) ⊎ (128 < n)
short_or_long n = by_flag n (leb n 128) refl

both_ways : {A B : Type 0} (f : A → B) (t : Bool) (x y : B) (x' y' : A) → x ≡ f x' → y ≡ f y' → choose t x y ≡ f (choose t x' y')
both_ways f true x y x' y' e e' = e
both_ways f false x y x' y' e e' = e'

-- the three cases of keeping
module _ (h : Held) (s : List ℕ) where
  pub keep_over : h.overlong ≡ true → keep h s ≡ too_long
  unfolding keep
  keep_over e = rw e

  pub keep_long : h.overlong ≡ false → 128 < length h.text + length s → keep h s ≡ too_long
  unfolding keep
  keep_long e many = rw (e, lt-leb (length h.text + length s) 128 many)

  pub keep_short : h.overlong ≡ false → length h.text + length s ≤ 128 → keep h s ≡ record { overlong = false; text = h.text ++ s }
  unfolding keep
  keep_short e few = rw (e, le-leb (length h.text + length s) 128 few)

-- a row of 128 bytes has no more than 128
module _ (row : List ℕ) (len n : ℕ) (full : length row ≡ 128) (is : n ≡ min len 128) where
  pub take_kept : take len row ≡ take n row
  take_kept =
      ⊎_elim (λ (few : len ≤ 128). let e : len ≡ n = omega arith in ap (λ (k : ℕ). take k row) e)
      (λ (many : 128 < len). take_all len row (omega arith) ∙ sym (take_all n row (omega arith)))
      (short_or_long len)

  pub length_kept : length (take len row) ≡ n
  length_kept = length-take len row ∙ omega arith

-- one byte more behind those that are kept
pub copied_more : (row row₀ s : List ℕ) (n i : ℕ) → n + i < length row → i < length s → take (n + i) row ≡ take n row₀ ++ take i s
    → take (n + (i + 1)) (set row (n + i) (get_or s i 0)) ≡ take n row₀ ++ take (i + 1) s
copied_more row row₀ s n i room more was =
    let e : n + (i + 1) ≡ suc (n + i) = omega arith in
    rw (
      e,
      add-one i,
      take-suc-set row (n + i) (get_or s i 0) room,
      take-suc s i 0 more,
      was,
      append_assoc (take n row₀) (take i s) (get_or s i 0 ∷ []),
    )

-- one line, in two parts
module _ (t a b : List ℕ) where
  abbrev so_far : Held
  so_far = record { overlong = false; text = t }

  two_parts : keep (keep so_far a) b ≡ keep so_far (a ++ b)
  unfolding keep
  two_parts =
      ⊎_elim
      (λ (few : length t + length a ≤ 128).
      rw (le-leb (length t + length a) 128 few)
      (let e : length (t ++ a) + length b ≡ length t + length (a ++ b) = omega (arith, length-append t a, length-append a b) in
      rw (e, append_assoc t a b)))
      (λ (many : 128 < length t + length a).
      rw (lt-leb (length t + length a) 128 many, lt-leb (length t + length (a ++ b)) 128 (omega (arith, length-append a b))))
      (short_or_long (length t + length a))

by_kind : (o : Bool) (t a b : List ℕ) → keep (keep (record { overlong = o; text = t }) a) b ≡ keep (record { overlong = o; text = t })
    (a ++ b)
unfolding keep
by_kind true t a b = refl
by_kind false t a b = two_parts t a b

pub keep_keep : (h : Held) (a b : List ℕ) → keep (keep h a) b ≡ keep h (a ++ b)
keep_keep h a b = by_kind h.overlong h.text a b

-- an input in two parts: the run over the second goes on where that over the first ended
abbrev pub go_on : Run → List ℕ → Run
go_on r b = record { finished = r.finished ++ (run_from r.begun b).finished; begun = (run_from r.begun b).begun }

pub run_joined : (a b : List ℕ) (h : Held) → run_from h (a ++ b) ≡ go_on (run_from h a) b
unfolding run_from
run_joined [] b h = refl
run_joined (x ∷ a) b h =
    both_ways (λ (r : Run). go_on r b) (eqb x newline) _ _ (ran h (run_from fresh a)) (run_from (keep h (x ∷ [])) a)
    (ap (ran h) (run_joined a b fresh)) (run_joined a b (keep h (x ∷ [])))

-- the run over an input keeps each of its lines
abbrev pub kept_lines : Lines → Run
kept_lines ls = record { finished = map (keep fresh) ls.finished; begun = keep fresh ls.begun }

fresh_is : keep fresh [] ≡ fresh
unfolding keep
fresh_is = refl

run_lines_from : (s l : List ℕ) → run_from (keep fresh l) s ≡ kept_lines (lines_from l s)
unfolding run_from lines_from
run_lines_from [] l = refl
run_lines_from (x ∷ s) l =
    both_ways kept_lines (eqb x newline) _ _ (line l (lines_from [] s)) (lines_from (l ++ (x ∷ [])) s)
    (ap (ran (keep fresh l)) (ap (λ (h : Held). run_from h s) (sym fresh_is) ∙ run_lines_from s []))
    (ap (λ (h : Held). run_from h s) (keep_keep fresh l (x ∷ [])) ∙ run_lines_from s (l ++ (x ∷ [])))

pub run_lines : (s : List ℕ) → run_from fresh s ≡ kept_lines (lines_from [] s)
run_lines s = ap (λ (h : Held). run_from h s) (sym fresh_is) ∙ run_lines_from s []

no_newline : {A : Type 0} (t : Bool) (n m : ℕ) (u v w : A) → choose t 0 (suc n) ≡ suc m → (n ≡ m → v ≡ w) → choose t u v ≡ w
no_newline true n m u v w e f = absurd (omega arith)
no_newline false n m u v w e f = f (omega arith)

-- bytes without a newline are kept at once
kept_again : (h : Held) (x : ℕ) → keep (keep h (x ∷ [])) [] ≡ keep h (x ∷ [])
kept_again h x = keep_keep h (x ∷ []) [] ∙ ap (keep h) (append-nil (x ∷ []))

run_on : (x : ℕ) (a s : List ℕ) (h : Held) → span newline (x ∷ a) ≡ length (x ∷ a)
    → (span newline a ≡ length a → run_from (keep h (x ∷ [])) (a ++ s) ≡ run_from (keep (keep h (x ∷ [])) a) s)
    → run_from h ((x ∷ a) ++ s) ≡ run_from (keep h (x ∷ a)) s
unfolding run_from span
run_on x a s h free onward =
    no_newline (eqb x newline) (span newline a) (length a) _ _ _ free
    (λ e. onward e ∙ ap (λ (k : Held). run_from k s) (keep_keep h (x ∷ []) a))

pub run_piece : (a s : List ℕ) (h : Held) → keep h [] ≡ h → span newline a ≡ length a → run_from h (a ++ s) ≡ run_from (keep h a) s
run_piece [] s h whole free = ap (λ (k : Held). run_from k s) (sym whole)
run_piece (x ∷ a) s h whole free = run_on x a s h free (run_piece a s (keep h (x ∷ [])) (kept_again h x))

-- and where there are some, whatever was kept before
pub run_some : (x : ℕ) (a s : List ℕ) (h : Held) → span newline (x ∷ a) ≡ length (x ∷ a)
    → run_from h ((x ∷ a) ++ s) ≡ run_from (keep h (x ∷ a)) s
run_some x a s h free = run_on x a s h free (run_piece a s (keep h (x ∷ [])) (kept_again h x))

-- the lines of an input: a piece without a newline goes on with the line that has begun
pub lines_piece : (a s l : List ℕ) → span newline a ≡ length a → lines_from l (a ++ s) ≡ lines_from (l ++ a) s
unfolding lines_from span
lines_piece [] s l free = ap (λ (k : List ℕ). lines_from k s) (sym (append-nil l))
lines_piece (x ∷ a) s l free =
    no_newline (eqb x newline) (span newline a) (length a) _ _ _ free
    (λ e. lines_piece a s (l ++ (x ∷ [])) e ∙ ap (λ (k : List ℕ). lines_from k s) (append_assoc l (x ∷ []) a))

-- the lines of an input in two parts
pub lines_joined : (a s l : List ℕ) → lines_from l (a ++ s) ≡ record {
  finished = (lines_from l a).finished ++ (lines_from (lines_from l a).begun s).finished;
  begun = (lines_from (lines_from l a).begun s).begun;
}
unfolding lines_from
lines_joined [] s l = refl
lines_joined (x ∷ a) s l =
    both_ways (λ (r : Lines). record { finished = r.finished ++ (lines_from r.begun s).finished; begun = (lines_from r.begun s).begun })
    (eqb x newline) _ _ (line l (lines_from [] a)) (lines_from (l ++ (x ∷ [])) a)
    (ap (line l) (lines_joined a s [])) (lines_joined a s (l ++ (x ∷ [])))

-- a newline finishes the line that has begun
pub lines_newline : (l s : List ℕ) → lines_from l (newline ∷ s) ≡ line l (lines_from [] s)
unfolding lines_from
lines_newline l s = refl

-- behind a newline at the end nothing has begun
pub none_begun : (s l : List ℕ) → (lines_from l (s ++ (newline ∷ []))).begun ≡ []
unfolding lines_from
none_begun [] l = refl
none_begun (x ∷ s) l = by_test (eqb x newline) (none_begun s []) (none_begun s (l ++ (x ∷ [])))
  where
    by_test : (t : Bool) → (lines_from [] (s ++ (newline ∷ []))).begun ≡ [] → (lines_from (l ++ (x ∷ [])) (s ++ (newline ∷ []))).begun ≡ []
        → (choose t (line l (lines_from [] (s ++ (newline ∷ [])))) (lines_from (l ++ (x ∷ [])) (s ++ (newline ∷ [])))).begun ≡ []
    by_test true e f = e
    by_test false e f = f

-- a part with a newline, cut at its first one
abbrev pub Splits : List ℕ → ℕ → Type 0
Splits p k = (p ≡ take k p ++ (newline ∷ drop (suc k) p)) × (span newline (take k p) ≡ length (take k p))

at_newline : (x : ℕ) (p : List ℕ) (t : Bool) → eqb x newline ≡ t → (span newline p < length p → Splits p (span newline p))
    → choose t 0 (suc (span newline p)) < suc (length p) → Splits (x ∷ p) (choose t 0 (suc (span newline p)))
unfolding span
at_newline x p true e before h = (ap (λ (b : ℕ). b ∷ p) (eqb-true x newline e), refl)
at_newline x p false e before h =
    let was = before (omega arith) in (ap (λ (u : List ℕ). x ∷ u) was.0, rw e (ap suc was.1))

pub cut_at_newline : (p : List ℕ) → span newline p < length p → Splits p (span newline p)
unfolding span
cut_at_newline [] h = absurd (omega arith)
cut_at_newline (x ∷ p) h = at_newline x p (eqb x newline) refl (cut_at_newline p) h

pub span_at_most : (p : List ℕ) → span newline p ≤ length p
unfolding span
span_at_most [] = omega arith
span_at_most (x ∷ p) = by_test (eqb x newline) (span_at_most p)
  where
    by_test : (t : Bool) → span newline p ≤ length p → choose t 0 (suc (span newline p)) ≤ suc (length p)
    by_test true h = omega arith
    by_test false h = omega arith

-- where no line has begun, nothing is kept
nothing_begun : (o : Bool) (t : List ℕ) → (o || ltb 0 (length t)) ≡ false → record { overlong = o; text = t } ≡ fresh
nothing_begun true t e = cc
nothing_begun false [] e = refl
nothing_begun false (b ∷ t) e = let h : suc (length t) ≤ 0 = ltb-false 0 (suc (length t)) e in absurd (omega arith)

pub nothing_kept : (h : Held) → has_begun h ≡ false → h ≡ fresh
unfolding has_begun
nothing_kept h e = nothing_begun h.overlong h.text e

-- a line has begun where a byte of it is kept
pub begun_where_any : (t : List ℕ) → not (length t == 0) ≡ has_begun (record { overlong = false; text = t })
unfolding has_begun
begun_where_any [] = refl
begun_where_any (b ∷ t) = ap not (ne_eqb (suc (length t)) 0 (λ e. omega arith)) ∙ sym (lt-ltb 0 (suc (length t)) (omega arith))

-- of the first n bytes of a row of 128
pub begun_held : (o : Bool) (n : ℕ) (row : List ℕ) → length row ≡ 128
    → has_begun (record { overlong = o; text = take n row }) ≡ (o || ltb 0 n)
unfolding has_begun
begun_held true n row full = refl
begun_held false zero row full = refl
begun_held false (suc n) [] full = absurd (omega arith)
begun_held false (suc n) (b ∷ row) full =
    lt-ltb 0 (suc (length (take n row))) (omega arith) ∙ sym (lt-ltb 0 (suc n) (omega arith))

pub begun_kept : (b : ℕ) (l : List ℕ) → has_begun (keep fresh (b ∷ l)) ≡ true
unfolding has_begun keep
begun_kept b l = by_length (leb (0 + suc (length l)) 128)
  where
    by_length : (t : Bool) → has_begun (choose t (record { overlong = false; text = b ∷ l }) too_long) ≡ true
    by_length true = lt-ltb 0 (suc (length l)) (omega arith)
    by_length false = refl

-- no more than 128 bytes are kept
pub held_short : (front : Front) → length front.bytes ≡ 128 → length (held (Whole front)).text ≤ 128
held_short front full = omega (arith, length-take front.len front.bytes)
