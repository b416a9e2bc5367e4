-- The bytes of a text by their places: a byte that is not 0 stands within the text, what follows a place begins with its byte, and
-- blanks are passed one by one.
use Rattle.std.specs.Prelude.{◌≡◌, ℕ, suc, ◌+◌, ◌<◌, ◌≤◌, true, false, List, ◌∷◌, length, drop, max}
use mathlib.Core.Path.{sym, ap, ◌∙◌}
use mathlib.Core.Logic.{inl, inr}
use native.Mathlib.Numerals.{add-one}
use native.Mathlib.Omega.{arith}
use lib.ListN.{drop_of_length-le, get_or-eq_default}
use lib.Seq.{drop-cons}
use borrow.Author.Tests.{ne_eqb}
use Rattle.units.proofs.Whole.{le_or_lt}
use Rattle.poses.specs.Json.{is_blank}
use Rattle.poses.specs.How.{byte, blanks, past}

pub some_byte : (s : List ℕ) (i c : ℕ) → 0 < c → byte s i ≡ c → i < length s
some_byte s i c some is = elim (le_or_lt (length s) i) [
  | inl out ↦ let none : byte s i ≡ 0 = get_or-eq_default s 0 {n = i} out in absurd (omega arith)
  | inr in' ↦ in'
]

pub no_blank : (b : ℕ) → 33 ≤ b → is_blank b ≡ false
no_blank b h =
    simp (ne_eqb b 32 (omega arith), ne_eqb b 9 (omega arith), ne_eqb b 10 (omega arith), ne_eqb b 13 (omega arith))

module _ (s : List ℕ) (i : ℕ) where
  pub from_on : i < length s → drop i s ≡ byte s i ∷ drop (i + 1) s
  from_on h = rw (add-one, drop-cons s i 0 h)

  pub blank_passed : i < length s → is_blank (byte s i) ≡ true → past s (i + 1) ≡ past s i
  unfolding blanks
  blank_passed h is =
      let e : blanks (drop i s) ≡ suc (blanks (drop (i + 1) s)) = ap blanks (from_on h) ∙ simp is in
      omega (arith, e)

  pub past_stays : i < length s → is_blank (byte s i) ≡ false → past s i ≡ i
  unfolding blanks
  past_stays h is =
      let e : blanks (drop i s) ≡ 0 = ap blanks (from_on h) ∙ simp is in
      omega (arith, e)

  pub past_end : length s ≤ i → past s i ≡ i
  unfolding blanks
  past_end h =
      let e : blanks (drop i s) ≡ 0 = ap blanks (drop_of_length-le s h) in
      omega (arith, e)

-- where all is passed from a place on: i is where the passing ended
pub past_all : (s : List ℕ) (from i r : ℕ) → r ≡ max from (length s) → length s ≤ i → (from ≤ length s → i ≤ length s)
    → past s i ≡ past s from → r ≡ past s from
past_all s from i r is far near same = elim (le_or_lt from (length s)) [
  | inl l ↦
      let n : i ≤ length s = near l in
      let e : r ≡ i = omega (arith, is, l, n, far) in
      e ∙ sym (past_end s i far) ∙ same
  | inr g ↦
      let e : r ≡ from = omega (arith, is, g) in
      e ∙ sym (past_end s from (omega (arith, g)))
]
