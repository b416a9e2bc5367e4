-- A character's number and its bytes: each of RFC 3629's ranges of bytes, up to four, is that of one number, and the other way round.
use Rattle.std.specs.Prelude.{◌≡◌, ℕ, ◌+◌, ◌-◌, ◌*◌, ◌/◌, ◌<◌, ◌≤◌, Bool, true, false, not, ◌&&◌, T, eqb, leb, ◌⊎◌, List, [], ◌∷◌}
use mathlib.Core.Path.{refl, ◌∙◌, subst}
use mathlib.Core.Logic.{inl, inr, ⊎_elim}
use native.Mathlib.Omega.{arith}
use lib.Ieee.Bits.{is_true}
use borrow.Author.Tests.{ne_eqb, eqb-true, eqb-false, le-leb, lt-leb, leb-true, leb-false, lt-ltb, le-ltb}
use Rattle.numbers.proofs.OnePass.{and_left, and_right}
use Rattle.numbers.proofs.Flags.{chosen, lt_or_le, not_true}
use Rattle.units.proofs.Door.{holds}
use Rattle.numbers.specs.Told.{choose}
use Rattle.poses.specs.Json.{utf8, tail, is_character, is_plain}
use Rattle.poses.specs.How.{between, wide}

-- ---- which numbers are plain
abbrev pub Apart : ℕ → Type 0
Apart n = (n < 55296) ⊎ (57343 < n)

and_false : (b : Bool) → (b && false) ≡ false
and_false true = refl
and_false false = refl

no_surrogate : (n : ℕ) → Apart n → (leb 55296 n && leb n 57343) ≡ false
no_surrogate n (inl h) = rw (lt-leb 55296 n h)
no_surrogate n (inr h) = rw (lt-leb n 57343 h) (and_false (leb 55296 n))

pub plain_is : (n : ℕ) → 32 ≤ n → (n ≡ 34 → ⊥) → (n ≡ 92 → ⊥) → n ≤ 1114111 → Apart n → T (is_plain n)
plain_is n low no_quote no_slash high apart =
    holds {b = is_plain n} (rw (le-leb n 1114111 high, no_surrogate n apart, le-leb 32 n low, ne_eqb n 34 no_quote, ne_eqb n 92 no_slash))

module _ (n : ℕ) (p : T (is_plain n)) where
  three_tests : (is_character n && leb 32 n && not (eqb n 34)) ≡ true
  three_tests = and_left (is_character n && leb 32 n && not (eqb n 34)) (not (eqb n 92)) (is_true (is_plain n) p)

  two_tests : (is_character n && leb 32 n) ≡ true
  two_tests = and_left (is_character n && leb 32 n) (not (eqb n 34)) three_tests

  pub plain_no_slash : n ≡ 92 → ⊥
  plain_no_slash =
      eqb-false n 92
      (not_true (eqb n 92) (and_right (is_character n && leb 32 n && not (eqb n 34)) (not (eqb n 92)) (is_true (is_plain n) p)))

  pub plain_no_quote : n ≡ 34 → ⊥
  plain_no_quote = eqb-false n 34 (not_true (eqb n 34) (and_right (is_character n && leb 32 n) (not (eqb n 34)) three_tests))

  pub plain_low : 32 ≤ n
  plain_low = leb-true 32 n (and_right (is_character n) (leb 32 n) two_tests)

  is_character_lem : is_character n ≡ true
  is_character_lem = and_left (is_character n) (leb 32 n) two_tests

  pub plain_high : n ≤ 1114111
  plain_high = leb-true n 1114111 (and_left (leb n 1114111) (not (leb 55296 n && leb n 57343)) is_character_lem)

  pub plain_apart : Apart n
  plain_apart =
      outside (leb 55296 n) (leb n 57343) refl refl
      (not_true (leb 55296 n && leb n 57343) (and_right (leb n 1114111) (not (leb 55296 n && leb n 57343)) is_character_lem))
    where
      outside : (b c : Bool) → leb 55296 n ≡ b → leb n 57343 ≡ c → (b && c) ≡ false → Apart n
      outside true true e f g = absurd (subst T g tt)
      outside true false e f g = inr (leb-false n 57343 f)
      outside false c e f g = inl (leb-false 55296 n e)

-- ---- the tests of a table's row
abbrev pub Within : ℕ → ℕ → ℕ → Type 0
Within low high b = (low ≤ b) × (b ≤ high)

within_is : (low high b : ℕ) → low ≤ b → b ≤ high → between low high b ≡ true
within_is low high b h l = rw (le-leb low b h, le-leb b high l)

pub within_was : (low high b : ℕ) → between low high b ≡ true → Within low high b
within_was low high b e =
    (leb-true low b (and_left (leb low b) (leb b high) e), leb-true b high (and_right (leb low b) (leb b high) e))

above_is : (low high b : ℕ) → high < b → between low high b ≡ false
above_is low high b h = rw (lt-leb b high h) (and_false (leb low b))

-- ---- the bytes of a number
pub two_bytes : (n : ℕ) → 128 ≤ n → n < 2048 → utf8 n ≡ (192 + n / 64) ∷ tail n ∷ []
unfolding utf8
two_bytes n low high = rw (le-ltb n 128 low, lt-ltb n 2048 high)

pub three_bytes : (n : ℕ) → 2048 ≤ n → n < 65536 → utf8 n ≡ (224 + n / 4096) ∷ tail (n / 64) ∷ tail n ∷ []
unfolding utf8
three_bytes n low high = rw (le-ltb n 128 (omega arith), le-ltb n 2048 low, lt-ltb n 65536 high)

pub four_bytes : (n : ℕ) → 65536 ≤ n → utf8 n ≡ (240 + n / 262144) ∷ tail (n / 4096) ∷ tail (n / 64) ∷ tail n ∷ []
unfolding utf8
four_bytes n low = rw (le-ltb n 128 (omega arith), le-ltb n 2048 (omega arith), le-ltb n 65536 low)

-- the number of two bytes, of three, of four
abbrev pub IsOf : ℕ → List ℕ → Type 0
IsOf n bytes = T (is_plain n) × (utf8 n ≡ bytes)

pub of_two : (a b : ℕ) → Within 194 223 a → Within 128 191 b → (n : ℕ) × IsOf n (a ∷ b ∷ [])
of_two a b p q = (
  n,
  (
    plain_is n (omega arith) (omega arith) (omega arith) (omega arith) (inl (omega arith)),
    two_bytes n (omega arith) (omega arith) ∙ λ k. (first k) ∷ (second k) ∷ [],
  ),
)
  where
    n : ℕ
    n = (a - 192) * 64 + (b - 128)

    first : 192 + n / 64 ≡ a
    first = omega arith

    second : tail n ≡ b
    second = omega arith

-- an end of a row's second range that one first byte shifts
low_was : (v p q a b : ℕ) → leb (choose (eqb a v) p q) b ≡ true → ((a ≡ v) × (p ≤ b)) ⊎ ((a ≡ v → ⊥) × (q ≤ b))
low_was v p q a b =
    chosen (λ (k : ℕ). leb k b ≡ true → ((a ≡ v) × (p ≤ b)) ⊎ ((a ≡ v → ⊥) × (q ≤ b))) (eqb a v) p q
    (λ e h. inl (eqb-true a v e, leb-true p b h))
    (λ e h. inr (eqb-false a v e, leb-true q b h))

high_was : (v p q a b : ℕ) → leb b (choose (eqb a v) p q) ≡ true → ((a ≡ v) × (b ≤ p)) ⊎ ((a ≡ v → ⊥) × (b ≤ q))
high_was v p q a b =
    chosen (λ (k : ℕ). leb b k ≡ true → ((a ≡ v) × (b ≤ p)) ⊎ ((a ≡ v → ⊥) × (b ≤ q))) (eqb a v) p q
    (λ e h. inl (eqb-true a v e, leb-true b p h))
    (λ e h. inr (eqb-false a v e, leb-true b q h))

-- the number of three bytes
abbrev of_three : ℕ → ℕ → ℕ → ℕ
of_three a b c = (a - 224) * 4096 + (b - 128) * 64 + (c - 128)

module _ (a b c : ℕ) (p : Within 224 239 a) (r : Within 128 191 c) where
  three_low : leb (choose (eqb a 224) 160 128) b ≡ true → (128 ≤ b) × (2048 ≤ of_three a b c)
  three_low e =
      ⊎_elim (λ (x : (a ≡ 224) × (160 ≤ b)). (omega arith, omega arith))
      (λ (x : (a ≡ 224 → ⊥) × (128 ≤ b)). (omega arith, omega arith))
      (low_was 224 160 128 a b e)

  three_apart : 128 ≤ b → leb b (choose (eqb a 237) 159 191) ≡ true → (b ≤ 191) × Apart (of_three a b c)
  three_apart l e =
      ⊎_elim (λ (x : (a ≡ 237) × (b ≤ 159)). (omega arith, inl (omega arith)))
      (λ (x : (a ≡ 237 → ⊥) × (b ≤ 191)).
      (x.1, ⊎_elim (λ (y : a < 237). inl (omega arith)) (λ (y : 237 ≤ a). inr (omega arith)) (lt_or_le a 237)))
      (high_was 237 159 191 a b e)

three_back : (a b c : ℕ) → Within 224 239 a → Within 128 191 b → Within 128 191 c
    → (224 + of_three a b c / 4096 ≡ a) × (tail (of_three a b c / 64) ≡ b) × (tail (of_three a b c) ≡ c) × (of_three a b c < 65536)
three_back a b c p q r = (omega arith, omega arith, omega arith, omega arith)

abbrev pub second_of_three : ℕ → ℕ → Bool
second_of_three a b = between (choose (eqb a 224) 160 128) (choose (eqb a 237) 159 191) b

pub of_three_lem : (a b c : ℕ) → Within 224 239 a → second_of_three a b ≡ true → Within 128 191 c → (n : ℕ) × IsOf n (a ∷ b ∷ c ∷ [])
of_three_lem a b c p q r =
    let n = of_three a b c in
    let lows = leb (choose (eqb a 224) 160 128) b in
    let highs = leb b (choose (eqb a 237) 159 191) in
    let l = three_low a b c p r (and_left lows highs q) in
    let h = three_apart a b c p r l.0 (and_right lows highs q) in
    let e = three_back a b c p (l.0, h.0) r in
    let low : 2048 ≤ n = l.1 in
    let high : n < 65536 = e.3 in (
      n,
      (
        plain_is n (omega arith) (omega arith) (omega arith) (omega arith) h.1,
        three_bytes n low high ∙ (λ k. e.0 k ∷ e.1 k ∷ e.2 k ∷ []),
      ),
    )

-- the number of four bytes
abbrev of_four : ℕ → ℕ → ℕ → ℕ → ℕ
of_four a b c d = (a - 240) * 262144 + (b - 128) * 4096 + (c - 128) * 64 + (d - 128)

module _ (a b c d : ℕ) (p : Within 240 244 a) (r : Within 128 191 c) (s : Within 128 191 d) where
  four_low : leb (choose (eqb a 240) 144 128) b ≡ true → (128 ≤ b) × (65536 ≤ of_four a b c d)
  four_low e =
      ⊎_elim (λ (x : (a ≡ 240) × (144 ≤ b)). (omega arith, omega arith))
      (λ (x : (a ≡ 240 → ⊥) × (128 ≤ b)). (omega arith, omega arith))
      (low_was 240 144 128 a b e)

  four_high : 128 ≤ b → leb b (choose (eqb a 244) 143 191) ≡ true → (b ≤ 191) × (of_four a b c d ≤ 1114111)
  four_high l e =
      ⊎_elim (λ (x : (a ≡ 244) × (b ≤ 143)). (omega arith, omega arith))
      (λ (x : (a ≡ 244 → ⊥) × (b ≤ 191)). (omega arith, omega arith))
      (high_was 244 143 191 a b e)

four_back : (a b c d : ℕ) → Within 240 244 a → Within 128 191 b → Within 128 191 c → Within 128 191 d
    → (240 + of_four a b c d / 262144 ≡ a)
    × (tail (of_four a b c d / 4096) ≡ b)
    × (tail (of_four a b c d / 64) ≡ c)
    × (tail (of_four a b c d) ≡ d)
four_back a b c d p q r s = (omega arith, omega arith, omega arith, omega arith)

abbrev pub second_of_four : ℕ → ℕ → Bool
second_of_four a b = between (choose (eqb a 240) 144 128) (choose (eqb a 244) 143 191) b

pub of_four_lem : (a b c d : ℕ) → Within 240 244 a → second_of_four a b ≡ true → Within 128 191 c → Within 128 191 d
    → (n : ℕ) × IsOf n (a ∷ b ∷ c ∷ d ∷ [])
of_four_lem a b c d p q r s =
    let n = of_four a b c d in
    let lows = leb (choose (eqb a 240) 144 128) b in
    let highs = leb b (choose (eqb a 244) 143 191) in
    let l = four_low a b c d p r s (and_left lows highs q) in
    let h = four_high a b c d p r s l.0 (and_right lows highs q) in
    let e = four_back a b c d p (l.0, h.0) r s in
    let low : 65536 ≤ n = l.1 in (
      n,
      (
        plain_is n (omega arith) (omega arith) (omega arith) h.1 (inr (omega arith)),
        four_bytes n low ∙ (λ k. e.0 k ∷ e.1 k ∷ e.2 k ∷ e.3 k ∷ []),
      ),
    )

-- ---- the other way round: the bytes of a number stand in the table
between_is : (v p q v' p' q' a b : ℕ) → q ≤ b → b ≤ q' → (a ≡ v → p ≤ b) → (a ≡ v' → b ≤ p')
    → between (choose (eqb a v) p q) (choose (eqb a v') p' q') b ≡ true
between_is v p q v' p' q' a b low high low' high' =
    let l : leb (choose (eqb a v) p q) b ≡ true =
    chosen (λ (k : ℕ). leb k b ≡ true) (eqb a v) p q (λ e. le-leb p b (low' (eqb-true a v e))) (λ e. le-leb q b low) in
    let h : leb b (choose (eqb a v') p' q') ≡ true =
    chosen (λ (k : ℕ). leb b k ≡ true) (eqb a v') p' q' (λ e. le-leb b p' (high' (eqb-true a v' e))) (λ e. le-leb b q' high) in
    rw (l, h)

pub wide_two : (n c d : ℕ) → 128 ≤ n → n < 2048 → wide (192 + n / 64) (tail n) c d ≡ 2
unfolding wide
wide_two n c d low high =
    rw (within_is 194 223 (192 + n / 64) (omega arith) (omega arith), within_is 128 191 (tail n) (omega arith) (omega arith))

pub wide_three : (n d : ℕ) → 2048 ≤ n → n < 65536 → Apart n → wide (224 + n / 4096) (tail (n / 64)) (tail n) d ≡ 3
unfolding wide
wide_three n d low high apart =
    let a = 224 + n / 4096 in
    let b = tail (n / 64) in
    let second : second_of_three a b ≡ true =
    between_is 224 160 128 237 159 191 a b (omega arith) (omega arith) (λ e. omega arith)
    (λ e. ⊎_elim (λ (h : n < 55296). omega arith) (λ (h : 57343 < n). omega arith) apart) in
    rw (
      above_is 194 223 a (omega arith),
      within_is 224 239 a (omega arith) (omega arith),
      second,
      within_is 128 191 (tail n) (omega arith) (omega arith),
    )

pub wide_four : (n : ℕ) → 65536 ≤ n → n ≤ 1114111 → wide (240 + n / 262144) (tail (n / 4096)) (tail (n / 64)) (tail n) ≡ 4
unfolding wide
wide_four n low high =
    let a = 240 + n / 262144 in
    let b = tail (n / 4096) in
    let second : second_of_four a b ≡ true =
    between_is 240 144 128 244 143 191 a b (omega arith) (omega arith) (λ e. omega arith) (λ e. omega arith) in
    rw (
      above_is 194 223 a (omega arith),
      above_is 224 239 a (omega arith),
      within_is 240 244 a (omega arith) (omega arith),
      second,
      within_is 128 191 (tail (n / 64)) (omega arith) (omega arith),
      within_is 128 191 (tail n) (omega arith) (omega arith),
    )
