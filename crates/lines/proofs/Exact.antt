-- Digits are accepted exactly where they are the written form of their number: hex of a fixed length, and counts.
use mathlib.Core.Path.{◌≡◌, refl, ap, ◌∙◌, subst}
use mathlib.Core.Bool.{Bool, true, ◌&&◌, false≢true}
use mathlib.Core.List.{List, [], ◌∷◌, ◌++◌}
use Prim.Native.Nat.{ℕ, zero, suc, ◌+◌, ◌*◌, ◌/◌, ◌%◌, ◌≤◌, ◌<◌, ◌^◌}
use native.Mathlib.Nat.{pow-zero, pow-suc, mod-lt, mod-eq_of_lt, div-lt_iff_lt-mul, div-add-mod'}
use native.Mathlib.Nat.{mul-add-div_right, mul-add-mod_self_right, div-eq_of_lt, add-zero, mul-le-mul_right, suc-mul}
use native.Mathlib.Numerals.{add-one}
use native.Mathlib.Omega.{arith}
use lib.Dec.{leb, ltb, lit<, lit≤}
use lib.ListN.{length, length-append}
use borrow.Author.Tests.{lt-ltb, ltb-true, leb-true}
use Rattle.lines.specs.Digits.{Digits}
use Rattle.lines.specs.Digits.{digit, value_of, numeral, hex, push, push_all}
use Rattle.lines.specs.Digits.{nothing_yet, read_in, hex_of, no_digits}
use Rattle.numbers.proofs.OnePass.{and_left, and_right}
use Rattle.numbers.proofs.Flags.{chosen}
use Rattle.lines.proofs.Values.{value_of_digit, digit_of_value, by_bytes}
use Rattle.lines.proofs.Numerals.{length_numeral}

abbrev pub good_digits : ℕ → Digits
good_digits n = record { good = true; value = n }

pub read_append : (base : ℕ) (a : Digits) (s t : List ℕ) → push_all base a (s ++ t) ≡ push_all base (push_all base a s) t
unfolding push_all
read_append base a [] t = refl
read_append base a (b ∷ s) t = read_append base (push base a b) s t

pub read_last : (base : ℕ) (s : List ℕ) (b : ℕ) → read_in base (s ++ (b ∷ [])) ≡ push base (read_in base s) b
unfolding push_all
read_last base s b = read_append base nothing_yet s (b ∷ [])

-- a base of digits: at least two, at most sixteen
module _ (base : ℕ) (some : 0 < base) (few : base ≤ 16) where
  pub push_digit : (v d : ℕ) → d < base → push base (good_digits v) (digit d) ≡ good_digits (v * base + d)
  unfolding push
  push_digit v d h =
      let e : value_of (digit d) ≡ d = value_of_digit d (omega arith) in
      rw (e, lt-ltb d base h, mod-eq_of_lt {n = d} {m = 16} (omega arith))

  pub read_numeral : (k n : ℕ) → n < base ^ k → read_in base (numeral base k n) ≡ good_digits n
  unfolding numeral push_all
  read_numeral zero n h = ap good_digits (omega (arith, pow-zero base))
  read_numeral (suc k) n h =
      let t : n / base < base ^ k = (div-lt_iff_lt-mul some).1 (subst (λ (m : ℕ). n < m) (pow-suc base k) h) in
      read_last base (numeral base k (n / base)) (digit (n % base))
      ∙ ap (λ (a : Digits). push base a (digit (n % base))) (read_numeral k (n / base) t)
      ∙ push_digit (n / base) (n % base) (mod-lt n some)
      ∙ ap good_digits (div-add-mod' n base)

  -- a text that is all digits is the numeral of its number
  unfoldable pub Spelt : List ℕ → Type 0
  Spelt s = (read_in base s).good ≡ true → (s ≡ numeral base (length s) (read_in base s).value) × ((read_in base s).value < base ^ length s)

  numeral_last : (k v d : ℕ) → d < base → numeral base (suc k) (v * base + d) ≡ numeral base k v ++ (digit d ∷ [])
  unfolding numeral
  numeral_last k v d h =
      let q : (v * base + d) / base ≡ v = mul-add-div_right some v d ∙ ap (λ (r : ℕ). v + r) (div-eq_of_lt h) ∙ add-zero v in
      let r : (v * base + d) % base ≡ d = mul-add-mod_self_right v base d ∙ mod-eq_of_lt h in
      rw (q, r)

  spelt_more : (s : List ℕ) (b : ℕ) → Spelt s → Spelt (s ++ (b ∷ []))
  unfolding Spelt push
  spelt_more s b before good =
      let a = read_in base s in
      let last = read_last base s b in
      let good' : (a.good && ltb (value_of b) base) ≡ true = rw last at good in
      let d = value_of b in
      let low : d < base = ltb-true d base (and_right a.good (ltb d base) good') in
      let was = before (and_left a.good (ltb d base) good') in
      let long : length (s ++ (b ∷ [])) ≡ suc (length s) = length-append s (b ∷ []) ∙ add-one (length s) in
      let m : d % 16 ≡ d = mod-eq_of_lt (omega arith) in
      let value : (read_in base (s ++ (b ∷ []))).value ≡ a.value * base + d =
      ap (λ (x : Digits). x.value) last ∙ ap (λ (r : ℕ). a.value * base + r) m in
      let most : suc a.value * base ≤ base ^ length s * base = mul-le-mul_right base was.1 in (
        rw (long, value, numeral_last (length s) a.value d low, digit_of_value b (omega arith))
            (ap (λ (t : List ℕ). t ++ (b ∷ [])) was.0),
        rw (long, value, pow-suc) (omega (arith, suc-mul a.value base)),
      )

  pub numeral_read : (s : List ℕ) → Spelt s
  unfolding Spelt numeral push_all
  numeral_read = by_bytes Spelt (λ e. (refl, omega (arith, pow-zero base))) spelt_more

-- eight hex digits
abbrev eight : ℕ → Bool
eight n = leb 8 n && leb n 8 && leb n 16

pub hex_back : (n : ℕ) → n < 2 ^ 32 → hex_of 8 8 (hex n) ≡ good_digits n
unfolding hex_of hex
hex_back n h = rw length_numeral (read_numeral 16 (lit< tt) (lit≤ tt) 8 n h)

pub hex_exact : (s : List ℕ) → (hex_of 8 8 s).good ≡ true → (s ≡ hex (hex_of 8 8 s).value) × ((hex_of 8 8 s).value < 2 ^ 32)
unfolding hex_of hex Spelt
hex_exact s =
    let n = length s in
    chosen (λ (d : Digits). d.good ≡ true → (s ≡ numeral 16 8 d.value) × (d.value < 2 ^ 32)) (eight n) (read_in 16 s) no_digits
    (λ e good.
    let full : n ≡ 8 =
    omega (
      arith,
      leb-true n 8 (and_right (leb 8 n) (leb n 8) (and_left (leb 8 n && leb n 8) (leb n 16) e)),
      leb-true 8 n (and_left (leb 8 n) (leb n 8) (and_left (leb 8 n && leb n 8) (leb n 16) e)),
    )
    in
    let was = numeral_read 16 (lit< tt) (lit≤ tt) s good in
    (was.0 ∙ ap (λ (k : ℕ). numeral 16 k (read_in 16 s).value) full, subst (λ (k : ℕ). (read_in 16 s).value < 16 ^ k) full was.1))
    (λ e good. absurd (false≢true good))
