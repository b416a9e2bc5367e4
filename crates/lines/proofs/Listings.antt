-- A line of a listing is found exactly where the bytes are its written form without the newline: what is written and read back is the same.
use mathlib.Core.Path.{◌≡◌, refl, ap, ◌∙◌, sym, subst}
use mathlib.Core.Bool.{Bool, true, ◌&&◌, false≢true}
use mathlib.Core.List.{List, [], ◌∷◌, ◌++◌}
use Prim.Native.Nat.{ℕ, suc, ◌+◌, ◌-◌, ◌≤◌}
use native.Mathlib.Omega.{arith}
use lib.Dec.{eqb, ltb}
use lib.ListN.{length, get_or, take, drop, length-append, length-drop, take-append-drop}
use lib.Seq.{take_at, drop_at, drop-cons, drop-drop}
use borrow.Author.Tests.{eqb-true, le-ltb, ltb-false}
use Rattle.lines.specs.Parts.{Field}
use Rattle.lines.specs.declared.listed.Moved.{Moved}
use Rattle.lines.specs.declared.listed.Line.{Line}
use Rattle.lines.specs.declared.listed.Line.TheVariants.{Header, Move, Arrived, Refused}
use Rattle.std.specs.Prelude.{Option}
use Rattle.std.specs.Prelude.{Some, None}
use Rattle.numbers.specs.Told.{choose}
use Rattle.lines.specs.Digits.{decimal, count_of}
use Rattle.lines.specs.Fields.{parted, AreBits}
use Rattle.lines.specs.Parts.{tabbeds, all_good, bits_of, no_field, short_of}
use Rattle.lines.specs.Lines.{walk_word, body, Digited, Listable}
use Rattle.lines.specs.Reading.{spells, named, header_of, step_count, step_fields, moved, move_of, found, line_of}
use Rattle.numbers.proofs.OnePass.{and_left, and_right}
use Rattle.numbers.proofs.Flags.{chosen}
use Rattle.lines.proofs.Counts.{count_back, count_exact}
use Rattle.lines.proofs.Rows.{each, length_each, parted_each, rows_back, rows_exact}

-- a letter and a number
short_back : (limit b n : ℕ) → Digited limit n → short_of limit (b ∷ 9 ∷ decimal n) ≡ record { good = true; bits = n }
unfolding short_of
short_back limit b n d = rw (le-ltb (suc (suc (length (decimal n)))) 2 (omega arith), count_back limit n d.0 d.1)

header_back : (v : ℕ) → Digited 9 v → header_of (walk_word ++ (9 ∷ decimal v)) ≡ record { good = true; bits = v }
unfolding header_of named
header_back v d = rw (le-ltb (length (walk_word ++ (9 ∷ decimal v))) 12 (omega arith), count_back 9 v d.0 d.1)

-- a step's line, by its count and its patterns
module _ (n : ℕ) (ps : List ℕ) (three : length ps ≡ 3) where
  abbrev text : List ℕ
  text = 77 ∷ 9 ∷ (decimal n ++ each ps)

  long : length text ≡ suc (suc (length (decimal n) + 27))
  long = omega (arith, length-append (decimal n) (each ps), length_each ps)

  count_part : take (length text - 27 - 2) (drop 2 text) ≡ decimal n
  count_part = take_at (decimal n) (each ps) (length text - 27 - 2) (omega (arith, long))

  fields_part : drop (length text - 27) text ≡ each ps
  fields_part =
      let e : length text - 27 ≡ suc (suc (length (decimal n))) = omega (arith, long) in
      rw e (drop_at (decimal n) (each ps) (length (decimal n)) refl)

  move_back : (limit : ℕ) → Digited limit n → AreBits ps → move_of limit text ≡ Some (Move (moved n ps))
  unfolding move_of
  move_back limit d bits =
      let was = subst (λ (k : ℕ). (all_good true (tabbeds k (each ps)) ≡ true) × (bits_of (tabbeds k (each ps)) ≡ ps)) three
      (rows_back ps true bits) in
      rw (le-ltb (length text) 29 (omega (arith, long)), count_part, fields_part, count_back limit n d.0 d.1, was.0, was.1)

body_of_move : (m : Moved) → body (Move m) ≡ 77 ∷ 9 ∷ (decimal m.count ++ each (m.x ∷ m.y ∷ m.z ∷ []))
unfolding body parted
body_of_move m =
    ap (λ (t : List ℕ). 77 ∷ 9 ∷ t) (parted_each (decimal m.count) (m.x ∷ m.y ∷ m.z ∷ []))

-- what is written is found
pub line_back : (limit : ℕ) (line : Line) → Listable limit line → line_of limit (body line) ≡ Some line
unfolding line_of body parted Listable
line_back limit (Header v) d = rw (header_back v d)
line_back limit (Move m) d =
    ap (line_of limit) (body_of_move m) ∙ move_back m.count (m.x ∷ m.y ∷ m.z ∷ []) refl limit d.0 d.1
line_back limit (Arrived n) d = rw (short_back limit 65 n d)
line_back limit (Refused n) d = rw (short_back limit 82 n d)

-- no line of a listing is longer than 38 bytes
pub listed_width : (limit : ℕ) (line : Line) → Listable limit line → length (body line) ≤ 38
unfolding body parted Listable
listed_width limit (Header v) d = omega (arith, d.0)
listed_width limit (Move m) d =
    omega (arith, ap length (body_of_move m), long m.count (m.x ∷ m.y ∷ m.z ∷ []) refl, d.0.1)
listed_width limit (Arrived n) d = omega (arith, d.1)
listed_width limit (Refused n) d = omega (arith, d.1)

-- what is found is what is written
pub record ReadFrom (limit : ℕ) (s : List ℕ) (line : Line) : Type 0 where
  pub bytes : s ≡ body line
  pub listable : Listable limit line

digited : (limit : ℕ) (t : List ℕ) → (count_of limit t).good ≡ true → (t ≡ decimal (count_of limit t).value)
    × Digited limit (count_of limit t).value
digited limit t good =
    let was = count_exact limit t good in
    (was.0, subst (λ (u : List ℕ). (length u ≤ limit) × (length u ≤ 9)) was.0 (was.1, was.2))

two_first : (s : List ℕ) → 2 ≤ length s → s ≡ get_or s 0 0 ∷ get_or s 1 0 ∷ drop 2 s
two_first [] h = absurd (omega arith)
two_first (x ∷ []) h = absurd (omega arith)
two_first (x ∷ (y ∷ s)) h = refl

short_exact : (limit b : ℕ) (s : List ℕ) → get_or s 0 0 ≡ b → (short_of limit s).good ≡ true → (s ≡ b ∷ 9 ∷ decimal (short_of limit s).bits)
    × Digited limit (short_of limit s).bits
unfolding short_of
short_exact limit b s first =
    let d = count_of limit (drop 2 s) in
    chosen (λ (f : Field). f.good ≡ true → (s ≡ b ∷ 9 ∷ decimal f.bits) × Digited limit f.bits) (ltb (length s) 2) no_field
    (record { good = eqb (get_or s 1 0) 9 && d.good; bits = d.value })
    (λ short good. absurd (false≢true good))
    (λ long good.
    let was = digited limit (drop 2 s) (and_right (eqb (get_or s 1 0) 9) d.good good) in
    let second : get_or s 1 0 ≡ 9 = eqb-true (get_or s 1 0) 9 (and_left (eqb (get_or s 1 0) 9) d.good good) in
    (two_first s (ltb-false (length s) 2 long) ∙ rw (first, second) (ap (λ (t : List ℕ). b ∷ 9 ∷ t) was.0), was.1))

-- a word that is spelt at a place stands there
spelt : (ws : List ℕ) (t : Bool) (i : ℕ) (s : List ℕ) → i + length ws ≤ length s → spells t i ws s ≡ true
    → (t ≡ true) × (take (length ws) (drop i s) ≡ ws)
spelt [] t i s room good = (good, refl)
spelt (w ∷ ws) t i s room good =
    let was = spelt ws (t && eqb (get_or s i 0) w) (suc i) s (omega arith) good in
    let e : get_or s i 0 ≡ w = eqb-true (get_or s i 0) w (and_right t (eqb (get_or s i 0) w) was.0) in
    (and_left t (eqb (get_or s i 0) w) was.0, rw (drop-cons s i 0 (omega arith), e) (ap (λ (l : List ℕ). w ∷ l) was.1))

header_exact : (s : List ℕ) → (header_of s).good ≡ true → (s ≡ walk_word ++ (9 ∷ decimal (header_of s).bits)) × Digited 9 (header_of s).bits
unfolding header_of named
header_exact s =
    let d = count_of 9 (drop 12 s) in
    let name = walk_word ++ (9 ∷ []) in
    chosen (λ (f : Field). f.good ≡ true → (s ≡ walk_word ++ (9 ∷ decimal f.bits)) × Digited 9 f.bits) (ltb (length s) 12) no_field
    (record { good = spells true 0 name s && d.good; bits = d.value })
    (λ short good. absurd (false≢true good))
    (λ long good.
    let was = digited 9 (drop 12 s) (and_right (spells true 0 name s) d.good good) in
    let front = spelt name true 0 s (ltb-false (length s) 12 long) (and_left (spells true 0 name s) d.good good) in
    (sym (take-append-drop 12 s) ∙ ap (λ (t : List ℕ). t ++ drop 12 s) front.1 ∙ ap (λ (t : List ℕ). name ++ t) was.0, was.1))

clash : {A : Type 0} (line : Line) → None ≡ Some line → A
clash line e = let z : ◌≡◌ {A = ℕ} 0 1 = cc in absurd (omega arith)

abbrev Kept : ℕ → List ℕ → Line → Option Line → Type 0
Kept limit s line f = f ≡ Some line → ReadFrom limit s line

-- the parts of a step's line, put together again
parts : (s : List ℕ) (v : ℕ) (ps : List ℕ) → 29 ≤ length s → get_or s 0 0 ≡ 77 → get_or s 1 0 ≡ 9
    → take (length s - 27 - 2) (drop 2 s) ≡ decimal v → drop (length s - 27) s ≡ each ps → s ≡ 77 ∷ 9 ∷ (decimal v ++ each ps)
parts s v ps long first second count fields =
    let j = length s - 27 - 2 in
    let e : 2 + j ≡ length s - 27 = omega arith in
    let rest : drop j (drop 2 s) ≡ each ps = drop-drop j 2 s ∙ ap (λ (k : ℕ). drop k s) e ∙ fields in
    two_first s (omega arith)
    ∙ rw (first, second)
    (ap (λ (t : List ℕ). 77 ∷ 9 ∷ t)
    (sym (take-append-drop j (drop 2 s)) ∙ ap (λ (t : List ℕ). t ++ drop j (drop 2 s)) count
    ∙ ap (λ (t : List ℕ). decimal v ++ t) rest))

move_exact : (limit : ℕ) (s : List ℕ) (line : Line) → move_of limit s ≡ Some line → ReadFrom limit s line
unfolding move_of tabbeds bits_of Listable
move_exact limit s line =
    let d = step_count limit s in
    let fs = step_fields s in
    let a = eqb (get_or s 0 0) 77 in
    let b = eqb (get_or s 1 0) 9 in
    let m = moved d.value (bits_of fs) in
    chosen (Kept limit s line) (ltb (length s) 29) None (choose (all_good (a && b && d.good) fs) (Some (Move m)) None)
    (λ short e. clash line e)
    (λ enough.
    let long = ltb-false (length s) 29 enough in
    chosen (Kept limit s line) (all_good (a && b && d.good) fs) (Some (Move m)) None
    (λ good e.
    let was = rows_exact 3 (a && b && d.good) (drop (length s - 27) s) (omega (arith, length-drop (length s - 27) s)) good in
    let ab = and_left (a && b) d.good was.0 in
    let count = digited limit (take (length s - 27 - 2) (drop 2 s)) (and_right (a && b) d.good was.0) in
    let is : Move m ≡ line = cc in
    subst (ReadFrom limit s) is
    (record {
      bytes =
          parts s d.value (bits_of fs) long (eqb-true (get_or s 0 0) 77 (and_left a b ab)) (eqb-true (get_or s 1 0) 9 (and_right a b ab))
          count.0 was.1
          ∙ sym (body_of_move m);
      listable = (count.1, was.2);
    }))
    (λ bad e. clash line e))

found_exact : (limit : ℕ) (kind : ℕ → Line) (s : List ℕ) (f : Field) (line : Line) → (f.good ≡ true → ReadFrom limit s (kind f.bits))
    → found kind f ≡ Some line → ReadFrom limit s line
found_exact limit kind s f line read =
    chosen (Kept limit s line) f.good (Some (kind f.bits)) None
    (λ good e. let is : kind f.bits ≡ line = cc in subst (ReadFrom limit s) is (read good))
    (λ bad e. clash line e)

pub line_exact : (limit : ℕ) (s : List ℕ) (line : Line) → line_of limit s ≡ Some line → ReadFrom limit s line
unfolding line_of body parted Listable
line_exact limit s line =
    let b = get_or s 0 0 in
    let a = found Arrived (short_of limit s) in
    let r = found Refused (short_of limit s) in
    let h = found Header (header_of s) in
    chosen (Kept limit s line) (eqb b 77) (move_of limit s) (choose (eqb b 65) a (choose (eqb b 82) r h))
    (λ is. move_exact limit s line)
    (λ not_m.
    chosen (Kept limit s line) (eqb b 65) a (choose (eqb b 82) r h)
    (λ is.
    found_exact limit Arrived s (short_of limit s) line
    (λ good. let was = short_exact limit 65 s (eqb-true b 65 is) good in record { bytes = was.0; listable = was.1 }))
    (λ not_a.
    chosen (Kept limit s line) (eqb b 82) r h
    (λ is.
    found_exact limit Refused s (short_of limit s) line
    (λ good. let was = short_exact limit 82 s (eqb-true b 82 is) good in record { bytes = was.0; listable = was.1 }))
    (λ not_r.
    found_exact limit Header s (header_of s) line
    (λ good. let was = header_exact s good in record { bytes = was.0; listable = was.1 }))))
