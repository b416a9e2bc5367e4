-- The closing quote of a name, character by character: where it stands, and that it stands within the text.
use Rattle.std.specs.Prelude.{◌≡◌, ℕ, zero, suc, ◌+◌, ◌-◌, ◌<◌, ◌≤◌, false, eqb, List, [], ◌∷◌, length, drop}
use mathlib.Core.Path.{refl, sym, ap, ◌∙◌}
use Prim.Native.Nat.{zero-le}
use native.Mathlib.Nat.{zero-add, suc-add, le_refl, le_trans}
use native.Mathlib.Omega.{arith}
use lib.ListN.{drop_of_length-le, length-drop}
use lib.Seq.{drop-drop}
use borrow.Author.Tests.{eq-eqb, ne_eqb}
use Rattle.numbers.specs.Told.{choose}
use Rattle.numbers.proofs.Flags.{chosen}
use Rattle.poses.specs.How.{byte, nowhere, char_long, further, closing, name_end}
use Rattle.poses.proofs.Places.{from_on}

pub further_some : (n : ℕ) → (n ≡ 0 → ⊥) → further n ≡ suc n
further_some zero h = absurd (h refl)
further_some (suc n) h = refl

not_none : (n : ℕ) → eqb (suc n) 0 ≡ false
not_none n = ne_eqb (suc n) 0 (λ z. omega arith)

-- so many bytes further, where there is a quote
abbrev pub onward : ℕ → ℕ → ℕ
onward j n = choose (eqb n 0) 0 (j + n)

onward_suc : (j n : ℕ) → further (onward j n) ≡ onward (suc j) n
onward_suc j zero = refl
onward_suc j (suc n) = simp (not_none n) (further_some (j + suc n) (λ z. omega arith) ∙ sym (suc-add j (suc n)))

onward_none : (n : ℕ) → n ≡ onward 0 n
onward_none zero = refl
onward_none (suc n) = simp (not_none n) (sym (zero-add (suc n)))

-- bytes of a character are passed
pub skipped : (j : ℕ) (t : List ℕ) → closing j t ≡ onward j (closing 0 (drop j t))
unfolding closing
skipped zero [] = refl
skipped zero (b ∷ t) = onward_none (closing 0 (b ∷ t))
skipped (suc j) [] = refl
skipped (suc j) (b ∷ t) = ap further (skipped j t) ∙ onward_suc j (closing 0 (drop j t))

further_within : (m n : ℕ) → m ≤ n → further m ≤ suc n
further_within zero n h = zero-le
further_within (suc m) n h = omega arith

closing_within : (j : ℕ) (t : List ℕ) → closing j t ≤ length t
unfolding closing
closing_within zero [] = zero-le
closing_within (suc j) [] = zero-le
closing_within (suc j) (b ∷ t) = further_within (closing j t) (length t) (closing_within j t)
closing_within zero (b ∷ t) =
    chosen (λ (m : ℕ). m ≤ suc (length t)) (eqb b 34) 1
    (choose (eqb (char_long (b ∷ t)) 0) 0 (further (closing (char_long (b ∷ t) - 1) t)))
    (λ e. omega arith)
    (λ e.
    chosen (λ (m : ℕ). m ≤ suc (length t)) (eqb (char_long (b ∷ t)) 0) 0 (further (closing (char_long (b ∷ t) - 1) t))
    (λ f. zero-le) (λ f. further_within (closing (char_long (b ∷ t) - 1) t) (length t) (closing_within (char_long (b ∷ t) - 1) t)))

module _ (s : List ℕ) (i : ℕ) where
  pub name_within : name_end s i ≤ length s + 1
  unfolding name_end
  name_within =
      let n = closing 0 (drop i s) in
      let h : n ≤ length s - i = le_trans (closing_within 0 (drop i s)) (rw (length-drop i s) (le_refl (length s - i))) in
      inside n h
    where
      inside : (n : ℕ) → n ≤ length s - i → choose (eqb n 0) (nowhere s) (i + n) ≤ length s + 1
      inside zero h = omega arith
      inside (suc n) h = simp (not_none n) (omega arith)

  pub name_out : length s ≤ i → nowhere s ≡ name_end s i
  unfolding name_end closing
  name_out h = sym (ap (λ (t : List ℕ). choose (eqb (closing 0 t) 0) (nowhere s) (i + closing 0 t)) (drop_of_length-le s h))

  module _ (h : i < length s) where
    pub name_closed : byte s i ≡ 34 → i + 1 ≡ name_end s i
    unfolding name_end closing
    name_closed is =
        let e : closing 0 (drop i s) ≡ 1 = ap (closing 0) (from_on s i h) ∙ simp (eq-eqb (byte s i) 34 is) in
        simp e

    module _ (other : byte s i ≡ 34 → ⊥) where
      by_character : closing 0 (drop i s)
          ≡ choose (eqb (char_long (drop i s)) 0) 0 (further (closing (char_long (drop i s) - 1) (drop (i + 1) s)))
      unfolding closing
      by_character =
          ap (closing 0) (from_on s i h)
          ∙ (simp (ne_eqb (byte s i) 34 other))
          ∙ ap (λ (t : List ℕ). choose (eqb (char_long t) 0) 0 (further (closing (char_long t - 1) (drop (i + 1) s)))) (sym (from_on s i h))

      pub name_broken : char_long (drop i s) ≡ 0 → nowhere s ≡ name_end s i
      unfolding name_end
      name_broken none =
          let e : closing 0 (drop i s) ≡ 0 = by_character ∙ simp (eq-eqb (char_long (drop i s)) 0 none) in
          simp e

      pub name_goes_on : (k : ℕ) → k ≡ char_long (drop i s) → (k ≡ 0 → ⊥) → name_end s (i + k) ≡ name_end s i
      unfolding name_end
      name_goes_on zero is some = absurd (some refl)
      name_goes_on (suc j) is some =
          let e : closing 0 (drop i s) ≡ onward (suc j) (closing 0 (drop (i + suc j) s)) =
          by_character
          ∙ ap (λ (m : ℕ). choose (eqb m 0) 0 (further (closing (m - 1) (drop (i + 1) s)))) (sym is)
          ∙ (simp (ne_eqb (suc j) 0 some))
          ∙ ap (λ (m : ℕ). further (closing m (drop (i + 1) s))) less
          ∙ ap further (skipped j (drop (i + 1) s))
          ∙ ap (λ (t : List ℕ). further (onward j (closing 0 t))) (drop-drop j (i + 1) s ∙ ap (λ (m : ℕ). drop m s) place)
          ∙ onward_suc j (closing 0 (drop (i + suc j) s)) in
          sym (ap (λ (n : ℕ). choose (eqb n 0) (nowhere s) (i + n)) e ∙ ended (closing 0 (drop (i + suc j) s)))
        where
          less : suc j - 1 ≡ j
          less = omega arith

          place : i + 1 + j ≡ i + suc j
          place = omega arith

          ended : (n : ℕ) → choose (eqb (onward (suc j) n) 0) (nowhere s) (i + onward (suc j) n)
              ≡ choose (eqb n 0) (nowhere s) (i + suc j + n)
          ended zero = refl
          ended (suc n) =
              let both : eqb (suc j + suc n) 0 ≡ false = ne_eqb (suc j + suc n) 0 (λ z. omega arith) in
              let e : i + (suc j + suc n) ≡ i + suc j + suc n = omega arith in
              simp (not_none n, both) e
