-- Digits are read one byte after the other: what is left from i on by its first byte and what is left from i + 1 on, and how large the
-- number gets.
use mathlib.Core.Path.{◌≡◌, refl, ap, ap₂, ◌∙◌, sym, subst}
use mathlib.Core.Bool.{Bool, true, false, not, ◌&&◌, false≢true, and-true, and-false, and_assoc}
use mathlib.Core.List.{List, [], ◌∷◌}
use Prim.Native.Nat.{ℕ, suc, ◌+◌, ◌*◌, ◌%◌, ◌≤◌, ◌<◌, ◌^◌}
use native.Mathlib.Nat.{pow-zero, pow-suc, pow-succ', mul-one, mul_assoc}
use native.Mathlib.Nat.{add-zero, mul-le-mul_left, mod-lt, mod-eq_of_lt, pow-le-pow_right, lt_of_lt_of_le}
use native.Mathlib.Numerals.{add-one}
use native.Mathlib.Omega.{arith}
use lib.Dec.{eqb, leb, ltb, lit<, lit≤}
use borrow.Author.Tests.{leb-true, ltb-true, lt-ltb, le-ltb, eq-eqb, ne_eqb, eqb-true}
use Rattle.std.specs.Prelude.{Some, None}
use Rattle.std.specs.List.{starts_with, list_all}
use lib.ListN.{length, get_or, drop, drop_of_length-le}
use lib.Seq.{drop-cons}
use Rattle.lines.specs.Digits.{Digits, number, value_of, push, push_all, nothing_yet, read_in, no_digits, leads, hex_of, count_of}
use Rattle.lines.specs.Fields.{span}
use Rattle.lines.specs.Parts.{Field, field_number}
use Rattle.lines.specs.Reading.{spells}
use Rattle.numbers.proofs.OnePass.{and_left, and_right}
use Rattle.numbers.proofs.Flags.{chosen, both_ways}

module _ (s : List ℕ) (i : ℕ) (h : i < length s) where
  from_on : drop i s ≡ get_or s i 0 ∷ drop (i + 1) s
  from_on = rw (add-one, drop-cons s i 0)

  pub read_step : (base : ℕ) (a : Digits) → push_all base a (drop i s) ≡ push_all base (push base a (get_or s i 0)) (drop (i + 1) s)
  unfolding push_all
  read_step base a = ap (push_all base a) from_on

  pub span_stop : (sep : ℕ) → get_or s i 0 ≡ sep → span sep (drop i s) ≡ 0
  unfolding span
  span_stop sep e = ap (span sep) from_on ∙ simp (eq-eqb _ sep e)

  pub span_step : (sep : ℕ) → (get_or s i 0 ≡ sep → ⊥) → span sep (drop i s) ≡ span sep (drop (i + 1) s) + 1
  unfolding span
  span_step sep n = ap (span sep) from_on ∙ simp (ne_eqb _ sep n, add-one)

  -- one byte of a word
  pub spells_step : (t : Bool) (text : List ℕ) → spells t i (drop i s) text ≡ spells (t && eqb (get_or text i 0) (get_or s i 0)) (i + 1)
      (drop (i + 1) s) text
  spells_step t text = ap (λ (ws : List ℕ). spells t i ws text) from_on ∙ rw (add-one i)

pub span_end : (s : List ℕ) (i : ℕ) → length s ≤ i → (sep : ℕ) → span sep (drop i s) ≡ 0
unfolding span
span_end s i h sep = ap (span sep) (drop_of_length-le s h)

-- ---- a word that is spelt at a place is what the text from there on starts with
turned : (a b : ℕ) → eqb a b ≡ eqb b a
turned a b = both_ways (eqb a b) (eqb b a) (λ e. eq-eqb b a (sym (eqb-true a b e))) (λ e. eq-eqb a b (sym (eqb-true b a e)))

pub spells_starts : (ws : List ℕ) (t : Bool) (i : ℕ) (s : List ℕ) → i + length ws ≤ length s
    → spells t i ws s ≡ (t && starts_with eqb (drop i s) ws)
spells_starts [] t i s h = sym (and-true t)
spells_starts (w ∷ ws) t i s h =
    spells_starts ws (t && eqb (get_or s i 0) w) (suc i) s (omega arith)
    ∙ and_assoc t (eqb (get_or s i 0) w) (starts_with eqb (drop (suc i) s) ws)
    ∙ rw (drop-cons s i 0 (omega arith), turned w (get_or s i 0))

-- ---- eight bytes passed at once
abbrev pub apart : List ℕ → ℕ → ℕ → Bool
apart s i sep = not (eqb (get_or s i 0) sep)

passed : (s : List ℕ) (sep i j : ℕ) → j ≡ i + 1 → i < length s → apart s i sep ≡ true → j + span sep (drop j s) ≡ i + span sep (drop i s)
passed s sep i j e h t =
    let n : get_or s i 0 ≡ sep → ⊥ = λ q. absurd (false≢true (sym (ap not (eq-eqb (get_or s i 0) sep q)) ∙ t)) in
    let w : span sep (drop i s) ≡ span sep (drop (i + 1) s) + 1 = span_step s i h sep n in
    ap (λ (k : ℕ). k + span sep (drop k s)) e ∙ regroup (span sep (drop (i + 1) s)) (span sep (drop i s)) w
  where
    regroup : (a b : ℕ) → b ≡ a + 1 → i + 1 + a ≡ i + b
    regroup a b g = omega arith

pub eight_passed : (s : List ℕ) (at sep : ℕ) → at + 8 ≤ length s
    → (apart s at sep && apart s (at + 1) sep && apart s (at + 2) sep && apart s (at + 3) sep && apart s (at + 4) sep
    && apart s (at + 5) sep && apart s (at + 6) sep && apart s (at + 7) sep) ≡ true
    → at + 8 + span sep (drop (at + 8) s) ≡ at + span sep (drop at s)
eight_passed s at sep h t =
    let on : (i j : ℕ) → j ≡ i + 1 → i < at + 8 → apart s i sep ≡ true → j + span sep (drop j s) ≡ i + span sep (drop i s) =
    λ i j e l u. passed s sep i j e (lt_of_lt_of_le l h) u in
    let r7 : apart s (at + 7) sep ≡ true =
    and_right (apart s at sep && apart s (at + 1) sep && apart s (at + 2) sep && apart s (at + 3) sep && apart s (at + 4) sep
    && apart s (at + 5) sep && apart s (at + 6) sep) (apart s (at + 7) sep) t in
    let t7 : (apart s at sep && apart s (at + 1) sep && apart s (at + 2) sep && apart s (at + 3) sep && apart s (at + 4) sep
    && apart s (at + 5) sep && apart s (at + 6) sep) ≡ true = and_left
    (apart s at sep && apart s (at + 1) sep && apart s (at + 2) sep && apart s (at + 3) sep && apart s (at + 4) sep
    && apart s (at + 5) sep && apart s (at + 6) sep) (apart s (at + 7) sep) t in
    let r6 : apart s (at + 6) sep ≡ true =
    and_right (apart s at sep && apart s (at + 1) sep && apart s (at + 2) sep && apart s (at + 3) sep && apart s (at + 4) sep
    && apart s (at + 5) sep) (apart s (at + 6) sep) t7 in
    let t6 : (apart s at sep && apart s (at + 1) sep && apart s (at + 2) sep && apart s (at + 3) sep && apart s (at + 4) sep
    && apart s (at + 5) sep) ≡ true = and_left
    (apart s at sep && apart s (at + 1) sep && apart s (at + 2) sep && apart s (at + 3) sep && apart s (at + 4) sep
    && apart s (at + 5) sep) (apart s (at + 6) sep) t7 in
    let r5 : apart s (at + 5) sep ≡ true =
    and_right (apart s at sep && apart s (at + 1) sep && apart s (at + 2) sep && apart s (at + 3) sep && apart s (at + 4) sep)
    (apart s (at + 5) sep) t6 in
    let t5 : (apart s at sep && apart s (at + 1) sep && apart s (at + 2) sep && apart s (at + 3) sep && apart s (at + 4) sep) ≡ true =
    and_left (apart s at sep && apart s (at + 1) sep && apart s (at + 2) sep && apart s (at + 3) sep && apart s (at + 4) sep)
    (apart s (at + 5) sep) t6 in
    let r4 : apart s (at + 4) sep ≡ true =
    and_right (apart s at sep && apart s (at + 1) sep && apart s (at + 2) sep && apart s (at + 3) sep) (apart s (at + 4) sep) t5 in
    let t4 : (apart s at sep && apart s (at + 1) sep && apart s (at + 2) sep && apart s (at + 3) sep) ≡ true =
    and_left (apart s at sep && apart s (at + 1) sep && apart s (at + 2) sep && apart s (at + 3) sep) (apart s (at + 4) sep) t5 in
    let r3 : apart s (at + 3) sep ≡ true =
    and_right (apart s at sep && apart s (at + 1) sep && apart s (at + 2) sep) (apart s (at + 3) sep) t4 in
    let t3 : (apart s at sep && apart s (at + 1) sep && apart s (at + 2) sep) ≡ true =
    and_left (apart s at sep && apart s (at + 1) sep && apart s (at + 2) sep) (apart s (at + 3) sep) t4 in
    let r2 : apart s (at + 2) sep ≡ true = and_right (apart s at sep && apart s (at + 1) sep) (apart s (at + 2) sep) t3 in
    let t2 : (apart s at sep && apart s (at + 1) sep) ≡ true =
    and_left (apart s at sep && apart s (at + 1) sep) (apart s (at + 2) sep) t3 in
    let r1 : apart s (at + 1) sep ≡ true = and_right (apart s at sep) (apart s (at + 1) sep) t2 in
    let t1 : (apart s at sep) ≡ true = and_left (apart s at sep) (apart s (at + 1) sep) t2 in
    on (at + 7) (at + 8) (omega arith) (omega arith) r7
    ∙ on (at + 6) (at + 7) (omega arith) (omega arith) r6
    ∙ on (at + 5) (at + 6) (omega arith) (omega arith) r5
    ∙ on (at + 4) (at + 5) (omega arith) (omega arith) r4
    ∙ on (at + 3) (at + 4) (omega arith) (omega arith) r3
    ∙ on (at + 2) (at + 3) (omega arith) (omega arith) r2
    ∙ on (at + 1) (at + 2) (omega arith) (omega arith) r1
    ∙ on at (at + 1) (omega arith) (omega arith) t1

pub read_end : (s : List ℕ) (i : ℕ) → length s ≤ i → (base : ℕ) (a : Digits) → push_all base a (drop i s) ≡ a
unfolding push_all
read_end s i h base a = ap (push_all base a) (drop_of_length-le s h)

-- digits that have no number are not good, and those that have one are
pub no_count : (d : Digits) → number d ≡ None → d.good ≡ false
no_count d = by_flag d.good d.value
  where
    by_flag : (t : Bool) (v : ℕ) → number (record { good = t; value = v }) ≡ None → t ≡ false
    by_flag true v e = let z : ◌≡◌ {A = Bool} true false = cc in absurd (false≢true (sym z))
    by_flag false v e = refl

pub a_count : (d : Digits) (n : ℕ) → number d ≡ Some n → (d.good ≡ true) × (d.value ≡ n)
a_count d n = by_flag d.good d.value
  where
    by_flag : (t : Bool) (v : ℕ) → number (record { good = t; value = v }) ≡ Some n → (t ≡ true) × (v ≡ n)
    by_flag true v e = (refl, (cc))
    by_flag false v e = let z : ◌≡◌ {A = Bool} true false = cc in absurd (false≢true (sym z))

-- where all bytes are hex digits, so is the next, and the number is read without a test
abbrev pub known : ℕ → Digits
known v = record { good = true; value = v }

-- digits are good where all of them are
pub good_all : (base : ℕ) (s : List ℕ) (a : Digits) → (push_all base a s).good ≡ (a.good && list_all (λ b. ltb (value_of b) base) s)
unfolding push_all push
good_all base [] a = sym (and-true a.good)
good_all base (b ∷ s) a =
    good_all base s (push base a b) ∙ and_assoc a.good (ltb (value_of b) base) (list_all (λ x. ltb (value_of x) base) s)

pub all_good_in : (base : ℕ) (s : List ℕ) → list_all (λ b. ltb (value_of b) base) s ≡ (read_in base s).good
all_good_in base s = sym (good_all base s nothing_yet)

-- the bytes from i on are read after the number v of those before
module _ (base : ℕ) (s : List ℕ) (i v : ℕ) (h : i < length s) (so_far : push_all base (known v) (drop i s) ≡ read_in base s) where
  abbrev here : ℕ
  here = get_or s i 0

  next_is : push_all base (push base (known v) here) (drop (i + 1) s) ≡ read_in base s
  next_is = sym (read_step s i h base (known v)) ∙ so_far

  good_is : (read_in base s).good ≡ (ltb (value_of here) base && list_all (λ b. ltb (value_of b) base) (drop (i + 1) s))
  unfolding push
  good_is = ap (λ (d : Digits). d.good) (sym next_is) ∙ good_all base (drop (i + 1) s) (push base (known v) here)

  -- where they are all digits, so is the next
  pub next_digit : (read_in base s).good ≡ true → value_of here < base
  next_digit good =
      ltb-true (value_of here) base
      (and_left (ltb (value_of here) base) (list_all (λ b. ltb (value_of b) base) (drop (i + 1) s)) (sym good_is ∙ good))

  -- where the next is none, there is no number
  pub no_number : base ≤ value_of here → None ≡ number (read_in base s)
  no_number high =
      let bad : (read_in base s).good ≡ false = good_is ∙ rw (le-ltb (value_of here) base high) in
      rw bad

  -- where it is one, it is pushed
  pub next_number : base ≤ 16 → value_of here < base → push_all base (known (v * base + value_of here)) (drop (i + 1) s) ≡ read_in base s
  unfolding push
  next_number few low =
      let m : value_of here % 16 ≡ value_of here = mod-eq_of_lt {n = value_of here} {m = 16} (omega arith) in
      ap (λ (d : Digits). push_all base d (drop (i + 1) s))
      (ap₂ (λ (t : Bool) (w : ℕ). record { good = t; value = v * base + w }) (sym (lt-ltb (value_of here) base low)) (sym m))
      ∙ next_is

  pub number_below : base ≤ 16 → v < 16 ^ i → value_of here < base → v * base + value_of here < 16 ^ (i + 1)
  number_below few below low =
      let m : v * base ≤ v * 16 = mul-le-mul_left v few in
      rw (add-one, pow-suc) (omega arith)

-- with all bytes read, the number is known
pub number_known : (base : ℕ) (s : List ℕ) (i v : ℕ) → length s ≤ i → push_all base (known v) (drop i s) ≡ read_in base s
    → Some v ≡ number (read_in base s)
number_known base s i v end so_far = ap number (sym (read_end s i end base (known v)) ∙ so_far)

-- where all bytes are hex digits, so are the next two
started_good : (base : ℕ) (a : Digits) (s : List ℕ) → (push_all base a s).good ≡ true → a.good ≡ true
unfolding push_all push
started_good base a [] h = h
started_good base a (b ∷ s) h = and_left a.good (ltb (value_of b) base) (started_good base (push base a b) s h)

known_next : (s : List ℕ) (i v : ℕ) → i < length s → (read_in 16 s).good ≡ true → push_all 16 (known v) (drop i s) ≡ read_in 16 s
    → (value_of (get_or s i 0) < 16) × (push_all 16 (known (v * 16 + value_of (get_or s i 0) % 16)) (drop (i + 1) s) ≡ read_in 16 s)
unfolding push
known_next s i v h good so_far =
    let b = get_or s i 0 in
    let next : push_all 16 (push 16 (known v) b) (drop (i + 1) s) ≡ read_in 16 s = sym (read_step s i h 16 (known v)) ∙ so_far in
    let digit : ltb (value_of b) 16 ≡ true =
    started_good 16 (push 16 (known v) b) (drop (i + 1) s) (ap (λ (d : Digits). d.good) next ∙ good) in (
      ltb-true (value_of b) 16 digit,
      ap (λ (t : Bool). push_all 16 (record { good = t; value = v * 16 + value_of b % 16 }) (drop (i + 1) s)) (sym digit) ∙ next,
    )

pub known_two : (s : List ℕ) (i v : ℕ) → i + 1 < length s → (read_in 16 s).good ≡ true → push_all 16 (known v) (drop i s) ≡ read_in 16 s
    → (value_of (get_or s i 0) < 16) × (value_of (get_or s (i + 1) 0) < 16)
    × (push_all 16 (known ((v * 16 + value_of (get_or s i 0) % 16) * 16 + value_of (get_or s (i + 1) 0) % 16)) (drop (i + 1 + 1) s)
    ≡ read_in 16 s)
known_two s i v h good so_far =
    let one = known_next s i v (omega arith) good so_far in
    let two = known_next s (i + 1) (v * 16 + value_of (get_or s i 0) % 16) h good one.1 in
    (one.0, two.0, two.1)

-- k digits of a base of at most sixteen stay below 16 ^ k
pub push_below : (base : ℕ) (a : Digits) (b k : ℕ) → base ≤ 16 → a.value < 16 ^ k → (push base a b).value < 16 ^ (k + 1)
unfolding push
push_below base a b k small below =
    let m : a.value * base ≤ a.value * 16 = mul-le-mul_left a.value small in
    let d : value_of b % 16 < 16 = mod-lt (value_of b) (lit< tt) in
    rw (add-one, pow-suc) (omega arith)

-- a number with room for one digit more
pub room : (v k : ℕ) → v < 16 ^ k → k < 16 → v < 2 ^ 60
room v k below few =
    let m : 16 ^ k ≤ 16 ^ 15 = pow-le-pow_right (lit< tt) {i = k} {j = 15} (omega arith) in
    omega arith

-- a number with room for two more
pub room_for_two : (v k : ℕ) → v < 16 ^ k → k ≤ 14 → v < 2 ^ 56
room_for_two v k below few =
    let m : 16 ^ k ≤ 16 ^ 14 = pow-le-pow_right (lit< tt) {i = k} {j = 14} few in
    omega arith

pub two_below : (v a b k : ℕ) → v < 16 ^ k → (v * 16 + value_of a % 16) * 16 + value_of b % 16 < 16 ^ (k + 1 + 1)
unfolding push
two_below v a b k below =
    push_below 16 (known (v * 16 + value_of a % 16)) b (k + 1) (lit≤ tt) (push_below 16 (known v) a k (lit≤ tt) below)

pub read_below : (base : ℕ) (s : List ℕ) (a : Digits) (k : ℕ) → base ≤ 16 → a.value < 16 ^ k
    → (push_all base a s).value < 16 ^ (k + length s)
unfolding push_all
read_below base [] a k small below = rw add-zero below
read_below base (b ∷ s) a k small below =
    let e : k + 1 + length s ≡ k + suc (length s) = omega arith in
    subst (λ (m : ℕ). (push_all base (push base a b) s).value < 16 ^ m) e
    (read_below base s (push base a b) (k + 1) small (push_below base a b k small below))

push_ten_below : (a : Digits) (b m : ℕ) → 9 * a.value + 15 ≤ 15 * m → 9 * (push 10 a b).value + 15 ≤ 15 * (m * 10)
unfolding push
push_ten_below a b m h = omega arith

-- k bytes read as decimal digits: each counts at most 15
pub read_ten_below : (s : List ℕ) (a : Digits) (m : ℕ) → 9 * a.value + 15 ≤ 15 * m
    → 9 * (push_all 10 a s).value + 15 ≤ 15 * (m * 10 ^ length s)
unfolding push_all
read_ten_below [] a m h = rw (pow-zero, mul-one) h
read_ten_below (b ∷ s) a m h =
    let e : m * 10 * 10 ^ length s ≡ m * 10 ^ suc (length s) =
    mul_assoc m 10 (10 ^ length s) ∙ ap (λ (p : ℕ). m * p) (sym (pow-succ' 10 (length s))) in
    subst (λ (n : ℕ). 9 * (push_all 10 (push 10 a b) s).value + 15 ≤ 15 * n) e
    (read_ten_below s (push 10 a b) (m * 10) (push_ten_below a b m h))

-- eight hex digits and a count fit 32 bits
pub hex_fits : (s : List ℕ) → (hex_of 8 8 s).value < 2 ^ 32
unfolding hex_of
hex_fits s =
    let n = length s in
    chosen (λ (d : Digits). d.value < 2 ^ 32) (leb 8 n && leb n 8 && leb n 16) (read_in 16 s) no_digits
    (λ e.
    let few : n ≤ 8 = leb-true n 8 (and_right (leb 8 n) (leb n 8) (and_left (leb 8 n && leb n 8) (leb n 16) e)) in
    let most : 16 ^ (0 + n) ≤ 16 ^ 8 = pow-le-pow_right (lit< tt) {i = 0 + n} {j = 8} (omega arith) in
    omega (arith, read_below 16 s nothing_yet 0 (lit≤ tt) (lit< tt)))
    (λ e. lit< tt)

pub count_fits : (limit : ℕ) (s : List ℕ) → (count_of limit s).value < 2 ^ 32
unfolding count_of
count_fits limit s =
    let n = length s in
    chosen (λ (d : Digits). d.value < 2 ^ 32) (leb 1 n && leb n limit && leb n 9)
    (record { good = (read_in 10 s).good && leads s; value = (read_in 10 s).value }) no_digits
    (λ e.
    let few : n ≤ 9 = leb-true n 9 (and_right (leb 1 n && leb n limit) (leb n 9) e) in
    let most : 10 ^ n ≤ 10 ^ 9 = pow-le-pow_right (lit< tt) {i = n} {j = 9} few in
    omega (arith, read_ten_below s nothing_yet 1 (lit≤ tt)))
    (λ e. lit< tt)

pub count_small : (limit : ℕ) (s : List ℕ) (n : ℕ) → number (count_of limit s) ≡ Some n → n < 2 ^ 32
count_small limit s n e = subst (λ (v : ℕ). v < 2 ^ 32) (a_count (count_of limit s) n e).1 (count_fits limit s)

-- a field whose count is behind a test
module _ (limit : ℕ) (s : List ℕ) (t : Bool) where
  abbrev pub tested : Field
  tested = record { good = t && (count_of limit s).good; bits = (count_of limit s).value }

  pub no_count_there : number (count_of limit s) ≡ None → None ≡ field_number tested
  no_count_there e = rw (no_count (count_of limit s) e, and-false)

  pub count_untested : t ≡ false → None ≡ field_number tested
  count_untested e = rw e

  pub count_there : (n : ℕ) → number (count_of limit s) ≡ Some n → t ≡ true → Some n ≡ field_number tested
  count_there n e is = let d = a_count (count_of limit s) n e in rw (is, d.0, d.1)
