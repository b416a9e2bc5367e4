-- A digit's byte and its value: each is the other's inverse. And a list is built from the left, so what holds of a list holds of it with a
-- byte behind it.
use mathlib.Core.Path.{◌≡◌, sym, subst}
use mathlib.Core.Bool.{Bool, true, false, ◌&&◌, ◌||◌, false≢true}
use mathlib.Core.List.{List, [], ◌∷◌, ◌++◌, append-nil, append_assoc}
use mathlib.Core.Logic.{⊎_elim}
use Prim.Native.Nat.{ℕ, ◌+◌, ◌-◌, ◌*◌, ◌/◌, ◌%◌, ◌≤◌, ◌<◌}
use native.Mathlib.Omega.{arith}
use lib.Dec.{leb, ltb}
use lib.ListN.{get_or}
use borrow.Author.Tests.{lt-ltb, le-ltb, le-leb, lt-leb, leb-true, ltb-true, ltb-false}
use Rattle.std.specs.Prelude.{Option, Some, None}
use Rattle.std.proofs.lemmas.List.FromFn.{get_or-map-range_with_len}
use Rattle.numbers.specs.Told.{choose}
use Rattle.lines.specs.Digits.{digit, value_of, digit_value}
use Rattle.numbers.proofs.OnePass.{and_left, and_right}
use Rattle.numbers.proofs.Flags.{lt_or_le, chosen}

pub value_of_digit : (d : ℕ) → d < 16 → value_of (digit d) ≡ d
unfolding digit value_of
value_of_digit d h =
    ⊎_elim
    (λ (low : d < 10). simp (lt-ltb d 10 low, le-leb 48 (48 + d) (omega arith), le-leb (48 + d) 57 (omega arith)) (omega arith))
    (λ (high : 10 ≤ d).
    simp (
      le-ltb d 10 high,
      le-leb 48 (87 + d) (omega arith),
      lt-leb (87 + d) 57 (omega arith),
      le-leb 97 (87 + d) (omega arith),
      le-leb (87 + d) 102 (omega arith),
    ) (omega arith))
    (lt_or_le d 10)

pub digit_of_value : (b : ℕ) → value_of b < 16 → digit (value_of b) ≡ b
unfolding digit value_of
digit_of_value b =
    chosen (λ (v : ℕ). v < 16 → digit v ≡ b) (leb 48 b && leb b 57) (b - 48) (choose (leb 97 b && leb b 102) (b - 87) 16)
    (λ e h.
    let low : 48 ≤ b = leb-true 48 b (and_left (leb 48 b) (leb b 57) e) in
    let high : b ≤ 57 = leb-true b 57 (and_right (leb 48 b) (leb b 57) e) in
    simp (lt-ltb (b - 48) 10 (omega arith)) (omega arith))
    (λ e.
    chosen (λ (v : ℕ). v < 16 → digit v ≡ b) (leb 97 b && leb b 102) (b - 87) 16
    (λ e' h.
    let low : 97 ≤ b = leb-true 97 b (and_left (leb 97 b) (leb b 102) e') in
    simp (le-ltb (b - 87) 10 (omega arith)) (omega arith))
    (λ e' h. absurd (omega arith)))

-- the digits in their order
abbrev pub all_digits : List ℕ
all_digits = 48 ∷ 49 ∷ 50 ∷ 51 ∷ 52 ∷ 53 ∷ 54 ∷ 55 ∷ 56 ∷ 57 ∷ 97 ∷ 98 ∷ 99 ∷ 100 ∷ 101 ∷ 102 ∷ []

pub digits_in_order : (k : ℕ) → k < 16 → get_or all_digits k 0 ≡ digit k
unfolding digit
digits_in_order k h = get_or-map-range_with_len digit 0 16 k k 0 h (omega arith)

-- a byte that is no digit has no value, and one that is has its own
pub no_digit : (b : ℕ) → digit_value b ≡ None → 16 ≤ value_of b
no_digit b =
    chosen (λ (o : Option ℕ). o ≡ None → 16 ≤ value_of b) (ltb (value_of b) 16) (Some (value_of b)) None
    (λ low e. let z : ◌≡◌ {A = Bool} true false = cc in absurd (false≢true (sym z)))
    (λ high e. ltb-false (value_of b) 16 high)

pub one_digit : (b d : ℕ) → digit_value b ≡ Some d → (d ≡ value_of b) × (value_of b < 16)
one_digit b d =
    chosen (λ (o : Option ℕ). o ≡ Some d → (d ≡ value_of b) × (value_of b < 16)) (ltb (value_of b) 16) (Some (value_of b)) None
    (λ low e. ((cc), ltb-true (value_of b) 16 low))
    (λ high e. let z : ◌≡◌ {A = Bool} true false = cc in absurd (false≢true (sym z)))

-- the two ranges of digits are the bytes that have a value
pub is_digit : (b : ℕ) → ((leb 48 b && leb b 57) || (leb 97 b && leb b 102)) ≡ ltb (value_of b) 16
unfolding value_of
is_digit b =
    let low = leb 48 b && leb b 57 in
    let high = leb 97 b && leb b 102 in
    chosen (λ (v : ℕ). (low || high) ≡ ltb v 16) low (b - 48) (choose high (b - 87) 16)
    (λ e.
    let few : b ≤ 57 = leb-true b 57 (and_right (leb 48 b) (leb b 57) e) in
    rw e (sym (lt-ltb (b - 48) 16 (omega arith))))
    (λ e.
    chosen (λ (v : ℕ). (low || high) ≡ ltb v 16) high (b - 87) 16
    (λ e'.
    let few : b ≤ 102 = leb-true b 102 (and_right (leb 97 b) (leb b 102) e') in
    rw (e, e') (sym (lt-ltb (b - 87) 16 (omega arith))))
    (λ e'. rw (e, e')))

-- letters have the bit of 64, and nine more than their lowest four bits
pub digit_by_bits : (b : ℕ) → value_of b < 16 → b % 16 + b / 64 * 9 ≡ value_of b
unfolding value_of
digit_by_bits b =
    chosen (λ (v : ℕ). v < 16 → b % 16 + b / 64 * 9 ≡ v) (leb 48 b && leb b 57) (b - 48) (choose (leb 97 b && leb b 102) (b - 87) 16)
    (λ e h.
    let low : 48 ≤ b = leb-true 48 b (and_left (leb 48 b) (leb b 57) e) in
    let high : b ≤ 57 = leb-true b 57 (and_right (leb 48 b) (leb b 57) e) in
    omega arith)
    (λ e.
    chosen (λ (v : ℕ). v < 16 → b % 16 + b / 64 * 9 ≡ v) (leb 97 b && leb b 102) (b - 87) 16
    (λ e' h.
    let low : 97 ≤ b = leb-true 97 b (and_left (leb 97 b) (leb b 102) e') in
    let high : b ≤ 102 = leb-true b 102 (and_right (leb 97 b) (leb b 102) e') in
    omega arith)
    (λ e' h. absurd (omega arith)))

-- what holds of no bytes, and of one byte more wherever it holds, holds of every text
onward : (P : List ℕ → Type 0) → ((s : List ℕ) (b : ℕ) → P s → P (s ++ (b ∷ []))) → (t s : List ℕ) → P s → P (s ++ t)
onward P step [] s h = subst P (sym (append-nil s)) h
onward P step (b ∷ t) s h = subst P (append_assoc s (b ∷ []) t) (onward P step t (s ++ (b ∷ [])) (step s b h))

pub by_bytes : (P : List ℕ → Type 0) → P [] → ((s : List ℕ) (b : ℕ) → P s → P (s ++ (b ∷ []))) → (s : List ℕ) → P s
by_bytes P none step s = onward P step s [] none
