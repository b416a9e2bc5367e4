-- The inputs settle a walk's answer: no second count arrives as the least, and what is told loses nothing.
use Rattle.std.specs.Prelude.{◌≡◌, ℕ, zero, suc, ◌<◌, ◌≤◌, Bool, not, T, [], ◌∷◌, Result}
use mathlib.Core.Path.{refl, sym, ap, ◌∙◌}
use native.Mathlib.Nat.{le_antisymm}
use native.Mathlib.Omega.{arith}
use borrow.Author.Tests.{ne_eqb}
use lib.Dec.{T_not}
use lib.Ieee.{Float}
use Rattle.numbers.specs.Told.{Told, given, refused, answer}
use Rattle.numbers.specs.declared.refusal.Refusal.{Refusal}
use Rattle.numbers.proofs.OneAnswer.{told_by_loses_nothing}
use Rattle.legs.specs.declared.Point.{Point}
use Rattle.legs.specs.Legs.{points}
use Rattle.legs.specs.Legs.{Points}
use Rattle.legs.specs.Legs.{Feet}
use Rattle.moves.specs.Distance.{same}
use Rattle.walks.specs.Walk.{point_after, Walk, WalkFeet, all_arrived}
use Rattle.walks.specs.Answers.{given_count, told, walk_refusal, walk_feet_refusal, Counts}

-- two numbers at which a test holds, and below which it does not, are one
least_is_one : (there : ℕ → Bool) (k j : ℕ) → T (there k) → ((i : ℕ) → i < k → T (not (there i))) → T (there j)
    → ((i : ℕ) → i < j → T (not (there i))) → k ≡ j
least_is_one there k j a f b g =
    le_antisymm (not_above k j (λ h. T_not (there j) (f j h) b)) (not_above j k (λ h. T_not (there k) (g k h) a))
  where
    not_above : (i n : ℕ) → (n < i → ⊥) → i ≤ n
    not_above i n h = omega arith

pub one_count : (m : Float) (s t : Point) (k j : ℕ) → Walk m s t k → Walk m s t j → k ≡ j
one_count m s t k j a b = least_is_one (λ i. same (point_after m s t i) t) k j a.arrives a.least b.arrives b.least

pub one_count_of_feet : (m : Float) (s t : Points) (k j : ℕ) → WalkFeet m s t k → WalkFeet m s t j → k ≡ j
one_count_of_feet m s t k j a b = least_is_one (all_arrived m s t) k j a.arrives a.least b.arrives b.least

-- ---- the answers
pub told_loses_nothing : (a b : Result ℕ Refusal) → told a ≡ told b → a ≡ b
told_loses_nothing =
    told_by_loses_nothing given_count
    (λ k j e. let v : k ∷ [] ≡ j ∷ [] = ap (λ (t : Told). t.marks) e in cc)
    (λ k. refl)

refuses : (n : ℕ) (u : Told) → answer (suc n) u ≡ refused (suc n)
refuses n u = rw (ne_eqb (suc n) 0 (λ e. above e))
  where
    above : suc n ≡ 0 → ⊥
    above e = omega arith

one_told : (n : ℕ) (P : ℕ → Type 0) → ((k j : ℕ) → P k → P j → k ≡ j) → (u v : Told) → Counts n P u → Counts n P v → u ≡ v
one_told zero P one u v a b = a.1 ∙ ap (λ (k : ℕ). given (k ∷ []) []) (one a.0 b.0 (a.2 refl) (b.2 refl)) ∙ sym b.1
one_told (suc n) P one u v a b = a.1 ∙ refuses n (given (a.0 ∷ []) []) ∙ sym (b.1 ∙ refuses n (given (b.0 ∷ []) []))

module _ (m : Float) (a b : Result ℕ Refusal) where
  pub walk_settled : (s t : Point) → Counts (walk_refusal m s t) (Walk m s t) (told a)
      → Counts (walk_refusal m s t) (Walk m s t) (told b) → a ≡ b
  walk_settled s t x y = told_loses_nothing a b (one_told (walk_refusal m s t) (Walk m s t) (one_count m s t) (told a) (told b) x y)

  pub walk_feet_settled : (s t : Feet) → Counts (walk_feet_refusal m s t) (WalkFeet m (points s) (points t)) (told a)
      → Counts (walk_feet_refusal m s t) (WalkFeet m (points s) (points t)) (told b) → a ≡ b
  walk_feet_settled s t x y =
      told_loses_nothing a b
      (one_told (walk_feet_refusal m s t) (WalkFeet m (points s) (points t)) (one_count_of_feet m (points s) (points t))
      (told a) (told b) x y)
