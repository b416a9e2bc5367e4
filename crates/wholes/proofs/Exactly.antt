-- An answer is a point exactly where nothing is refused, and then it is the step's; a refusal's number is 2. Assumes nothing.
use Rattle.std.specs.Prelude.{Ok, Err}
use mathlib.Core.Path.{◌≡◌, refl, sym, ap}
use mathlib.Core.Bool.{Bool, true, false, false≢true}
use mathlib.Core.List.{List, [], ◌∷◌}
use Prim.Native.Nat.{ℕ}
use lib.Dec.{eqb}
use lib.IntN.{ℤ, nat_abs}
use Rattle.numbers.specs.Told.{Told, refused, answer}
use Rattle.numbers.specs.Door.{unless}
use Rattle.numbers.specs.Refusals.{number_of}
use Rattle.numbers.specs.declared.refusal.Refusal.{Refusal}
use Rattle.wholes.specs.Wholes.{refusal, whole_step}
use Rattle.wholes.specs.Answers.{told, given_point, step_leg_told}
use Rattle.wholes.specs.declared.WholePoint.{WholePoint}
use Rattle.wholes.proofs.Door.{all_good}
use Rattle.wholes.proofs.OneAnswer.{given_point_loses_nothing}

-- a point has marks and a refusal has none
none : List ℕ → Bool
none [] = true
none (k ∷ ks) = false

no_point : (p : WholePoint) (n : ℕ) → given_point p ≡ refused n → ⊥
unfolding none
no_point p n e = false≢true (ap (λ (t : Told). none t.marks) e)

module _ (start target : WholePoint) (height progress : ℤ) where
  foot : WholePoint
  foot = whole_step start target (nat_abs height) (nat_abs progress)

  pub at_is : (p : WholePoint) → told (Ok p) ≡ step_leg_told start target height progress
      → (refusal start target height progress ≡ 0) × (p ≡ whole_step start target (nat_abs height) (nat_abs progress))
  unfolding foot
  at_is p e = by_test (all_good start target height progress) e
    where
      by_test : (t : Bool) → given_point p ≡ answer (unless t 2) (given_point foot) → (unless t 2 ≡ 0) × (p ≡ foot)
      by_test true e = (refl, given_point_loses_nothing p foot e)
      by_test false e = absurd (no_point p 2 e)

  pub refused_is : (r : Refusal) → told (Err r) ≡ step_leg_told start target height progress
      → (number_of r ≡ refusal start target height progress) × (eqb (refusal start target height progress) 0 ≡ false)
  unfolding foot
  refused_is r e = by_test (all_good start target height progress) e
    where
      by_test : (t : Bool) → refused (number_of r) ≡ answer (unless t 2) (given_point foot) → (number_of r ≡ unless t 2)
          × (eqb (unless t 2) 0 ≡ false)
      by_test true e = absurd (no_point foot (number_of r) (sym e))
      by_test false e = (ap (λ (t : Told). t.number) e, refl)
