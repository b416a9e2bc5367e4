-- Digits behind a point are read one by one: what is left from a place on by its byte and what is left behind it, and how large the number
-- gets.
use Rattle.std.specs.Prelude.{◌≡◌, ℕ, zero, suc, ◌+◌, ◌-◌, ◌*◌, ◌^◌, ◌<◌, ◌≤◌, true, false, leb, List, [], ◌∷◌, length, drop}
use mathlib.Core.Path.{refl, sym, ap, ◌∙◌, subst}
use mathlib.Core.Logic.{inl, inr}
use Prim.Native.Nat.{zero-le}
use native.Mathlib.Nat.{mul-one, add-zero, zero-add, pow-suc, one-le-pow, mul-lt-mul_of_pos_right}
use native.Mathlib.Omega.{arith}
use lib.Dec.{lit<}
use lib.Pow.{pow-add}
use lib.ListN.{drop_of_length-le}
use borrow.Author.Tests.{leb-true}
use Rattle.numbers.proofs.OnePass.{and_left, and_right}
use Rattle.units.proofs.Whole.{le_or_lt}
use Rattle.numbers.proofs.Flags.{chosen}
use Rattle.poses.specs.Json.{is_digit}
use Rattle.poses.specs.How as how
use Rattle.poses.specs.How.{byte, run_of}
use Rattle.poses.specs.Gathering.{run_read}
use Rattle.poses.specs.declared.values.Run.{Run}
use Rattle.poses.proofs.Places.{some_byte, from_on}

pub digit_low : (b : ℕ) → is_digit b ≡ true → 48 ≤ b
digit_low b is = leb-true 48 b (and_left (leb 48 b) (leb b 57) is)

pub digit_high : (b : ℕ) → is_digit b ≡ true → b ≤ 57
digit_high b is = leb-true b 57 (and_right (leb 48 b) (leb b 57) is)

abbrev pub no_digit : ℕ → ℕ → how.Run
no_digit left n = record { parts = n * 10 ^ left; taken = 0 }

abbrev pub one_digit : how.Run → how.Run
one_digit r = record { parts = r.parts; taken = suc r.taken }

module _ (s : List ℕ) (i left n : ℕ) where
  stop : is_digit (byte s i) ≡ false → run_of (suc left) n (drop i s) ≡ no_digit (suc left) n
  unfolding run_of
  stop is = elim (le_or_lt (length s) i) [
    | inl out ↦ ap (run_of (suc left) n) (drop_of_length-le s out)
    | inr in' ↦ ap (run_of (suc left) n) (from_on s i in') ∙ simp is
  ]

  step : is_digit (byte s i) ≡ true
      → run_of (suc left) n (drop i s) ≡ one_digit (run_of left (n * 10 + (byte s i - 48)) (drop (i + 1) s))
  unfolding run_of
  step is =
      let some : 48 ≤ byte s i = digit_low (byte s i) is in
      ap (run_of (suc left) n) (from_on s i (some_byte s i (byte s i) (omega arith) refl)) ∙ simp is

-- after k digits
abbrev pub run_to : ℕ → ℕ → ℕ → List ℕ → Run
run_to k n left s = record { parts = (run_of left n s).parts; taken = k + (run_of left n s).taken }

pub run_begins : (n from : ℕ) (s : List ℕ) → run_to 0 n 8 (drop (from + 0) s) ≡ run_read n (drop from s)
run_begins n from s = simp (add-zero, zero-add)

pub run_stops : (s : List ℕ) (i k left n : ℕ) → is_digit (byte s i) ≡ false
    → record { parts = n * 10 ^ left; taken = k } ≡ run_to k n left (drop i s)
unfolding run_of
run_stops s i k zero n is = simp (add-zero, mul-one)
run_stops s i k (suc left) n is =
    sym (ap (λ (r : how.Run). record { parts = r.parts; taken = k + r.taken }) (stop s i left n is) ∙ (simp add-zero))

pub run_goes_on : (s : List ℕ) (i k n : ℕ) → k < 8 → is_digit (byte s i) ≡ true
    → run_to (k + 1) (n * 10 + (byte s i - 48)) (8 - (k + 1)) (drop (i + 1) s) ≡ run_to k n (8 - k) (drop i s)
run_goes_on s i k n few is =
    let e : 8 - k ≡ suc (8 - (k + 1)) = omega arith in
    subst (λ (left : ℕ). run_to (k + 1) (n * 10 + (byte s i - 48)) (8 - (k + 1)) (drop (i + 1) s) ≡ run_to k n left (drop i s)) (sym e)
    (sym (ap (λ (r : how.Run). record { parts = r.parts; taken = k + r.taken }) (step s i (8 - (k + 1)) n is) ∙ shifted))
  where
    rest : how.Run
    rest = run_of (8 - (k + 1)) (n * 10 + (byte s i - 48)) (drop (i + 1) s)

    shifted : ◌≡◌ {A = Run} (record { parts = rest.parts; taken = k + suc rest.taken })
        (record { parts = rest.parts; taken = k + 1 + rest.taken })
    shifted = let e : k + suc rest.taken ≡ k + 1 + rest.taken = omega arith in
        ap (λ (t : ℕ). record { parts = rest.parts; taken = t }) e

pub run_ends : (n : ℕ) (s : List ℕ) → record { parts = n; taken = 8 } ≡ run_to 8 n 0 s
unfolding run_of
run_ends n s = refl

-- ---- how large, and how many
pub digit_below : (n j b : ℕ) → n < 10 ^ j → is_digit b ≡ true → n * 10 + (b - 48) < 10 ^ suc j
digit_below n j b h is =
    let d : b ≤ 57 = digit_high b is in
    let e : 10 ^ suc j ≡ 10 ^ j * 10 = pow-suc 10 j in
    omega arith

pub run_below : (left n j : ℕ) (s : List ℕ) → n < 10 ^ j → (run_of left n s).parts < 10 ^ (j + left)
unfolding run_of
run_below zero n j s h = rw add-zero h
run_below (suc left) n j [] h = rw (pow-add 10 j (suc left)) (mul-lt-mul_of_pos_right h (one-le-pow (suc left) 10 (lit< tt)))
run_below (suc left) n j (b ∷ s) h =
    chosen (λ (r : how.Run). r.parts < 10 ^ (j + suc left)) (is_digit b) (one_digit (run_of left (n * 10 + (b - 48)) s))
    (no_digit (suc left) n)
    (λ is. subst (λ (k : ℕ). (run_of left (n * 10 + (b - 48)) s).parts < 10 ^ k) shift
    (run_below left (n * 10 + (b - 48)) (suc j) s (digit_below n j b h is)))
    (λ is. rw (pow-add 10 j (suc left)) (mul-lt-mul_of_pos_right h (one-le-pow (suc left) 10 (lit< tt))))
  where
    shift : suc j + left ≡ j + suc left
    shift = omega arith

pub run_few : (left n : ℕ) (s : List ℕ) → (run_of left n s).taken ≤ left
unfolding run_of
run_few zero n s = zero-le
run_few (suc left) n [] = zero-le
run_few (suc left) n (b ∷ s) =
    chosen (λ (r : how.Run). r.taken ≤ suc left) (is_digit b) (one_digit (run_of left (n * 10 + (b - 48)) s)) (no_digit (suc left) n)
    (λ is. let h : (run_of left (n * 10 + (b - 48)) s).taken ≤ left = run_few left (n * 10 + (b - 48)) s in omega arith)
    (λ is. zero-le)

pub digit_inside : (s : List ℕ) (i b : ℕ) → b ≡ byte s i → is_digit b ≡ true → i < length s
digit_inside s i b e is = let low : 48 ≤ b = digit_low b is in some_byte s i b (omega arith) (sym e)
