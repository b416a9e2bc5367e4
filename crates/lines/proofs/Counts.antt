-- A count is accepted exactly where it is the written form of its number, in as many digits as are allowed.
use mathlib.Core.Path.{◌≡◌, ap, ◌∙◌, sym}
use mathlib.Core.Bool.{true, false, ◌&&◌, false≢true, or-true}
use mathlib.Core.List.{List, [], ◌∷◌, ◌++◌}
use mathlib.Core.Logic.{⊎_elim}
use Prim.Native.Nat.{ℕ, zero, suc, ◌+◌, ◌*◌, ◌/◌, ◌%◌, ◌≤◌, ◌<◌}
use native.Mathlib.Nat.{zero-add, mod-eq_of_lt, not-suc-le-zero, div-add-mod'}
use native.Mathlib.Omega.{arith}
use lib.Dec.{eqb, leb, ltb, lit<, lit≤}
use lib.ListN.{length, get_or, length-append, get_or-append}
use borrow.Author.Tests.{ltb-true, leb-true, le-leb, lt-ltb, ne_eqb, not-true, eqb-false}
use Rattle.lines.specs.Digits.{Digits}
use Rattle.lines.specs.Digits.{digit, value_of, decimal, push, push_all, read_in, count_of, leads, no_digits}
use Rattle.numbers.proofs.OnePass.{and_left, and_right}
use Rattle.numbers.proofs.Flags.{lt_or_le, chosen}
use Rattle.lines.proofs.Values.{digit_of_value, by_bytes}
use Rattle.lines.proofs.Decimal.{decimal_few, decimal_more, length_positive}
use Rattle.lines.proofs.Exact.{read_last, push_digit, good_digits}

read_one : (n : ℕ) → n < 10 → read_in 10 (digit n ∷ []) ≡ good_digits n
unfolding push_all
read_one n few = push_digit 10 (lit< tt) (lit≤ tt) 0 n few ∙ ap good_digits (zero-add n)

-- what is written is read
read_decimal_below : (m n : ℕ) → n < m → read_in 10 (decimal n) ≡ good_digits n
read_decimal_below zero n h = absurd (not-suc-le-zero h)
read_decimal_below (suc m) n h =
    ⊎_elim
    (λ (few : n < 10). ap (read_in 10) (decimal_few n few) ∙ read_one n few)
    (λ (many : 10 ≤ n).
    ap (read_in 10) (decimal_more n many)
    ∙ read_last 10 (decimal (n / 10)) (digit (n % 10))
    ∙ ap (λ (a : Digits). push 10 a (digit (n % 10))) (read_decimal_below m (n / 10) (omega arith))
    ∙ push_digit 10 (lit< tt) (lit≤ tt) (n / 10) (n % 10) (omega arith)
    ∙ ap good_digits (div-add-mod' n 10))
    (lt_or_le n 10)

pub read_decimal : (n : ℕ) → read_in 10 (decimal n) ≡ good_digits n
read_decimal n = read_decimal_below (suc n) n (omega arith)

-- only 0 begins with a 0
zero_digit : (n : ℕ) → n < 10 → digit n ≡ 48 + n
unfolding digit
zero_digit n few = rw (lt-ltb n 10 few)

begins_below : (m n : ℕ) → n < m → 1 ≤ n → get_or (decimal n) 0 0 ≡ 48 → ⊥
begins_below zero n h some e = absurd (not-suc-le-zero h)
begins_below (suc m) n h some e =
    ⊎_elim
    (λ (few : n < 10). omega (arith, zero_digit n few, sym (ap (λ (s : List ℕ). get_or s 0 0) (decimal_few n few)) ∙ e))
    (λ (many : 10 ≤ n).
    begins_below m (n / 10) (omega arith) (omega arith)
    (sym (ap (λ (s : List ℕ). get_or s 0 0) (decimal_more n many)
    ∙ get_or-append (decimal (n / 10)) _ 0 0 (omega (arith, length_positive (n / 10)))) ∙ e))
    (lt_or_le n 10)

pub leads_decimal : (n : ℕ) → leads (decimal n) ≡ true
leads_decimal n =
    ⊎_elim
    (λ (few : n < 10). rw (decimal_few n few))
    (λ (many : 10 ≤ n). rw (ne_eqb (get_or (decimal n) 0 0) 48 (begins_below (suc n) n (omega arith) (omega arith)), or-true))
    (lt_or_le n 10)

pub count_back : (limit n : ℕ) → length (decimal n) ≤ limit → length (decimal n) ≤ 9 → count_of limit (decimal n) ≡ good_digits n
unfolding count_of
count_back limit n few nine =
    rw (
      le-leb 1 (length (decimal n)) (length_positive n),
      le-leb (length (decimal n)) limit few,
      le-leb (length (decimal n)) 9 nine,
      read_decimal n,
      leads_decimal n,
    )

-- what is read is what is written
unfoldable Spelt : List ℕ → Type 0
Spelt s = (read_in 10 s).good ≡ true → leads s ≡ true → 1 ≤ length s → s ≡ decimal (read_in 10 s).value

spelt_one : (b : ℕ) → Spelt (b ∷ [])
unfolding Spelt push push_all
spelt_one b good lead some =
    let d = value_of b in
    let low : d < 10 = ltb-true d 10 good in
    let e : 0 * 10 + d % 16 ≡ d = omega (arith, mod-eq_of_lt {n = d} {m = 16} (omega arith)) in
    sym (ap decimal e ∙ decimal_few d low ∙ ap (λ (x : ℕ). x ∷ []) (digit_of_value b (omega arith)))

-- a lead that is no 0, of a text of two bytes or more
lead_of : (x : ℕ) (s : List ℕ) (b : ℕ) → leads ((x ∷ s) ++ (b ∷ [])) ≡ true → x ≡ 48 → ⊥
lead_of x s b e =
    let two : eqb (length ((x ∷ s) ++ (b ∷ []))) 1 ≡ false =
    ne_eqb (length ((x ∷ s) ++ (b ∷ []))) 1 (λ q. omega (arith, length-append s (b ∷ []))) in
    eqb-false x 48 (not-true (eqb x 48) (rw two at e))

positive : (x : ℕ) (s : List ℕ) (v : ℕ) → x ∷ s ≡ decimal v → (x ≡ 48 → ⊥) → 1 ≤ v
positive x s v e n =
    ⊎_elim (λ (none : v < 1). absurd
    (n (ap (λ (t : List ℕ). get_or t 0 0) (e ∙ decimal_few v (omega arith)) ∙ omega (arith, zero_digit v (omega arith))))) (λ h. h)
    (lt_or_le v 1)

spelt_more : (s : List ℕ) (b : ℕ) → Spelt s → Spelt (s ++ (b ∷ []))
unfolding Spelt push
spelt_more [] b before good lead some = spelt_one b good lead some
spelt_more (x ∷ s) b before good lead some =
    let a = read_in 10 (x ∷ s) in
    let last = read_last 10 (x ∷ s) b in
    let d = value_of b in
    let good' : (a.good && ltb d 10) ≡ true = rw last at good in
    let low : d < 10 = ltb-true d 10 (and_right a.good (ltb d 10) good') in
    let not_zero : x ≡ 48 → ⊥ = lead_of x s b lead in
    let leads' : leads (x ∷ s) ≡ true = rw (ne_eqb x 48 not_zero, or-true) in
    let was : x ∷ s ≡ decimal a.value = before (and_left a.good (ltb d 10) good') leads' (omega arith) in
    let much : 1 ≤ a.value = positive x s a.value was not_zero in
    let value : (read_in 10 ((x ∷ s) ++ (b ∷ []))).value ≡ a.value * 10 + d =
    ap (λ (y : Digits). y.value) last ∙ ap (λ (r : ℕ). a.value * 10 + r) (mod-eq_of_lt {n = d} {m = 16} (omega arith)) in
    let q : (a.value * 10 + d) / 10 ≡ a.value = omega arith in
    let r : (a.value * 10 + d) % 10 ≡ d = omega arith in
    rw (value, decimal_more (a.value * 10 + d) (omega arith), q, r, digit_of_value b (omega arith))
    (ap (λ (t : List ℕ). t ++ (b ∷ [])) was)

pub decimal_read : (s : List ℕ) → (read_in 10 s).good ≡ true → leads s ≡ true → 1 ≤ length s → s ≡ decimal (read_in 10 s).value
unfolding Spelt
decimal_read = by_bytes Spelt (λ good lead some. absurd (not-suc-le-zero some)) spelt_more

-- a good count: its bytes are the decimal digits of its number
pub count_exact : (limit : ℕ) (s : List ℕ) → (count_of limit s).good ≡ true → (s ≡ decimal (count_of limit s).value) × (length s ≤ limit)
    × (length s ≤ 9)
unfolding count_of
count_exact limit s =
    let n = length s in
    chosen (λ (d : Digits). d.good ≡ true → (s ≡ decimal d.value) × (length s ≤ limit) × (length s ≤ 9))
    (leb 1 n && leb n limit && leb n 9) (record { good = (read_in 10 s).good && leads s; value = (read_in 10 s).value }) no_digits
    (λ e good.
    let front = and_left (leb 1 n && leb n limit) (leb n 9) e in (
      decimal_read s (and_left (read_in 10 s).good (leads s) good) (and_right (read_in 10 s).good (leads s) good)
          (leb-true 1 n (and_left (leb 1 n) (leb n limit) front)),
      leb-true n limit (and_right (leb 1 n) (leb n limit) front),
      leb-true n 9 (and_right (leb 1 n && leb n limit) (leb n 9) e),
    ))
    (λ e good. absurd (false≢true good))
