-- What `first_leg` says of six legs: where every leg passes, what is given; else the first leg in row order that does not pass, and its
-- refusal. Both ways: a leg that is the first is the one that is named. Assumes nothing.
use Rattle.std.specs.Prelude.{◌≡◌, ℕ, zero, suc, ◌+◌, ◌<◌, Bool, true, false, eqb, ◌⊎◌, List, [], ◌∷◌, length, get_or}
use mathlib.Core.Path.{refl, sym, ap, ap₂, ◌∙◌}
use mathlib.Core.Logic.{inl, inr}
use native.Mathlib.Omega.{arith}
use borrow.Author.Tests.{eqb-true, eqb-false}
use Rattle.numbers.specs.Told.{Told}
use Rattle.legs.specs.Legs.{Leg, left_front, right_front, left_middle, right_middle, left_rear, right_rear, row}
use Rattle.joints.specs.Answers.{leg_refused, first_leg}

-- ---- of a list: the i-th is the first that is not 0
record At (ns : List ℕ) (i : ℕ) : Type 0 where
  there : i < length ns
  refused : get_or ns i 0 ≡ 0 → ⊥
  before : (j : ℕ) → j < i → get_or ns j 0 ≡ 0

module _ (t : Told) where
  abbrev Passed : List ℕ → ℕ → Type 0
  Passed ns k = ((j : ℕ) → get_or ns j 0 ≡ 0) × (first_leg ns k t ≡ t)

  abbrev Named : List ℕ → ℕ → Type 0
  Named ns k = (i : ℕ) × At ns i × (first_leg ns k t ≡ leg_refused (get_or ns i 0) (k + i))

  one_more : (n : ℕ) (ns : List ℕ) (k : ℕ) (b : Bool) → eqb n 0 ≡ b
      → Passed ns (suc k) ⊎ Named ns (suc k)
      → Passed (n ∷ ns) k ⊎ Named (n ∷ ns) k
  one_more n ns k false e h =
      inr (
        0,
        record { there = omega arith; refused = eqb-false n 0 e; before = λ j l. absurd (omega (arith, l)) },
        rw (e) (ap (leg_refused n) (omega arith)),
      )
  one_more n ns k true e (inl (p, q)) = inl (all, simp (e, q))
    where
      all : (j : ℕ) → get_or (n ∷ ns) j 0 ≡ 0
      all zero = eqb-true n 0 e
      all (suc j) = p j
  one_more n ns k true e (inr (i, a, q)) =
      inr (
        suc i,
        record { there = omega (arith, a.there); refused = a.refused; before = earlier },
        rw (e) (q ∙ ap (leg_refused (get_or ns i 0)) (omega arith)),
      )
    where
      earlier : (j : ℕ) → j < suc i → get_or (n ∷ ns) j 0 ≡ 0
      earlier zero l = eqb-true n 0 e
      earlier (suc j) l = a.before j (omega (arith, l))

  in_list : (ns : List ℕ) (k : ℕ) → Passed ns k ⊎ Named ns k
  in_list [] k = inl (λ j. refl, refl)
  in_list (n ∷ ns) k = one_more n ns k (eqb n 0) refl (in_list ns (suc k))

-- ---- of six legs
-- a leg's number, its place in a row
abbrev pub leg_number : Leg → ℕ
leg_number left_front = 0
leg_number right_front = 1
leg_number left_middle = 2
leg_number right_middle = 3
leg_number left_rear = 4
leg_number right_rear = 5

pub record First (g : Leg → ℕ) (l : Leg) : Type 0 where
  pub refused : g l ≡ 0 → ⊥
  pub before : (m : Leg) → leg_number m < leg_number l → g m ≡ 0

in_row : (g : Leg → ℕ) (l : Leg) → get_or (row g) (leg_number l) 0 ≡ g l
in_row g left_front = refl
in_row g right_front = refl
in_row g left_middle = refl
in_row g right_middle = refl
in_row g left_rear = refl
in_row g right_rear = refl

numbered_leg : (k : ℕ) → k < 6 → (l : Leg) × (leg_number l ≡ k)
numbered_leg zero h = (left_front, refl)
numbered_leg (suc zero) h = (right_front, refl)
numbered_leg (suc (suc zero)) h = (left_middle, refl)
numbered_leg (suc (suc (suc zero))) h = (right_middle, refl)
numbered_leg (suc (suc (suc (suc zero)))) h = (left_rear, refl)
numbered_leg (suc (suc (suc (suc (suc zero))))) h = (right_rear, refl)
numbered_leg (suc (suc (suc (suc (suc (suc k)))))) h = absurd (omega (arith, h))

one_number : (l m : Leg) → leg_number l ≡ leg_number m → l ≡ m
one_number l m e = sym (at_number l) ∙ ap leg_at e ∙ at_number m
  where
    leg_at : ℕ → Leg
    leg_at k = get_or (row (λ (l : Leg). l)) k left_front

    at_number : (l : Leg) → leg_at (leg_number l) ≡ l
    at_number left_front = refl
    at_number right_front = refl
    at_number left_middle = refl
    at_number right_middle = refl
    at_number left_rear = refl
    at_number right_rear = refl

module _ (g : Leg → ℕ) (t : Told) where
  abbrev pub AllPass : Type 0
  AllPass = ((l : Leg) → g l ≡ 0) × (first_leg (row g) 0 t ≡ t)

  abbrev pub OneNamed : Type 0
  OneNamed = (l : Leg) × First g l × (first_leg (row g) 0 t ≡ leg_refused (g l) (leg_number l))

  named : (i : ℕ) → At (row g) i → first_leg (row g) 0 t ≡ leg_refused (get_or (row g) i 0) (0 + i)
      → (l : Leg) × (leg_number l ≡ i)
      → OneNamed
  named i a q (l, e) = (l, record { refused = λ z. a.refused (there ∙ z); before = earlier }, q ∙ ap₂ leg_refused there (omega (arith, e)))
    where
      there : get_or (row g) i 0 ≡ g l
      there = ap (λ (k : ℕ). get_or (row g) k 0) (sym e) ∙ in_row g l

      earlier : (m : Leg) → leg_number m < leg_number l → g m ≡ 0
      earlier m h = sym (in_row g m) ∙ a.before (leg_number m) (omega (arith, e, h))

  pub first_leg_lem : AllPass ⊎ OneNamed
  first_leg_lem = of_six (in_list t (row g) 0)
    where
      of_six : Passed t (row g) 0 ⊎ Named t (row g) 0 → AllPass ⊎ OneNamed
      of_six (inl (p, q)) = inl (λ l. sym (in_row g l) ∙ p (leg_number l), q)
      of_six (inr (i, a, q)) = inr (named i a q (numbered_leg i a.there))

  -- and back
  pub all_pass : ((l : Leg) → g l ≡ 0) → first_leg (row g) 0 t ≡ t
  all_pass p = go first_leg_lem
    where
      go : AllPass ⊎ OneNamed → first_leg (row g) 0 t ≡ t
      go (inl (r, q)) = q
      go (inr (l, F, q)) = absurd (F.refused (p l))

  -- no second leg fits
  pub the_first : (l : Leg) → First g l → first_leg (row g) 0 t ≡ leg_refused (g l) (leg_number l)
  the_first l F = go first_leg_lem
    where
      go : AllPass ⊎ OneNamed → first_leg (row g) 0 t ≡ leg_refused (g l) (leg_number l)
      go (inl (p, q)) = absurd (F.refused (p l))
      go (inr (m, G, q)) = q ∙ ap (λ (l : Leg). leg_refused (g l) (leg_number l)) (one_number m l (omega (arith, no_earlier, no_later)))
        where
          no_earlier : leg_number m < leg_number l → ⊥
          no_earlier h = G.refused (F.before m h)

          no_later : leg_number l < leg_number m → ⊥
          no_later h = F.refused (G.before l h)
