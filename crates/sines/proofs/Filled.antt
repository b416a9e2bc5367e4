-- A row that a loop fills from its first place on with what f gives of another row's elements. Assumes nothing.
use Rattle.std.specs.Prelude.{◌≡◌, ℕ, zero, suc, ◌+◌, ◌<◌, ◌≤◌, List, [], ◌∷◌, ◌++◌, map, length, get_or, take, set}
use mathlib.Core.Path.{refl, sym, ap, ◌∙◌, subst}
use mathlib.Core.List.{map-append}
use mathlib.Core.Logic.{inl, inr}
use native.Mathlib.Nat.{le_of_suc-le-suc}
use native.Mathlib.Numerals.{add-one}
use native.Mathlib.Omega.{arith}
use borrow.Author.Count.{below_more}
use lib.ListN.{length-map}
use lib.Seq.{take_all, take-suc, take-suc-set, get_or-set_same, get_or-set_other}

module _ {A B : Type 0} (f : A → B) where
  -- what stands at a place of the whole row
  mapped_at : (x : List A) (i : ℕ) (d : A) (e : B) → i < length x → get_or (map f x) i e ≡ f (get_or x i d)
  mapped_at [] i d e h = absurd (omega arith)
  mapped_at (a ∷ x) zero d e h = refl
  mapped_at (a ∷ x) (suc i) d e h = mapped_at x i d e (le_of_suc-le-suc h)

  pub read_mapped : (x : List A) (r : List B) (i : ℕ) (d : A) (e : B) → r ≡ map f x → i < length x → get_or r i e ≡ f (get_or x i d)
  read_mapped x r i d e is h = ap (λ (l : List B). get_or l i e) is ∙ mapped_at x i d e h

  -- one more place
  pub filled_on :
      (x : List A) (o : List B) (i : ℕ) (d : A) (b : B)
      → i < length x
      → i < length o
      → take i o ≡ map f (take i x)
      → b ≡ f (get_or x i d)
      → take (i + 1) (set o i b) ≡ map f (take (i + 1) x)
  filled_on x o i d b h g so_far e =
      ap (λ (n : ℕ). take n (set o i b)) (add-one i)
      ∙ take-suc-set o i b g
      ∙ ap (λ (l : List B). l ++ (b ∷ [])) so_far
      ∙ ap (λ (c : B). map f (take i x) ++ (c ∷ [])) e
      ∙ sym (map-append f (take i x) (get_or x i d ∷ []))
      ∙ ap (map f) (sym (take-suc x i d h))
      ∙ ap (λ (n : ℕ). map f (take n x)) (sym (add-one i))

  -- all places
  pub filled_whole :
      (x : List A) (o : List B) (i : ℕ)
      → length x ≤ i
      → length o ≤ i
      → take i o ≡ map f (take i x)
      → o ≡ map f x
  filled_whole x o i h g so_far = sym (take_all i o g) ∙ so_far ∙ ap (map f) (take_all i x h)

-- what holds of every number behind holds with one more
pub each_on :
    (P : ℕ → Type 0) (o : List ℕ) (i b : ℕ)
    → i < length o
    → P b
    → ((k : ℕ) → k < i → P (get_or o k 0))
    → (k : ℕ)
    → k < i + 1
    → P (get_or (set o i b) k 0)
each_on P o i b h p behind =
    below_more (λ k. P (get_or (set o i b) k 0)) i
    (λ k l. subst P (sym (get_or-set_other o i k b 0 (λ e. absurd (omega (arith, e, l))))) (behind k l))
    (subst P (sym (get_or-set_same o i b 0 h)) p)
