-- What upper rooms may cite of a next step at even pace, however it is made: its answer is the refusal of state and time where there is
-- one, else `next_even`'s, which is a step or none; and what refuses. Assumes nothing.
use Rattle.std.specs.Prelude.{◌≡◌, ℕ, Bool, true, false, eqb, [], ◌∷◌, Option, Some, None, Result, Ok, Err}
use mathlib.Core.Path.{refl, sym, ap, ◌∙◌}
use borrow.Author.Tests.{eqb-true}
use Rattle.numbers.specs.Told.{Told, answer}
use Rattle.numbers.specs.Refusals.{number_or_0}
use Rattle.numbers.specs.declared.refusal.Refusal.{Refusal}
use Rattle.numbers.specs.Door.{unless, first_of}
use Rattle.legs.specs.Legs.{points}
use Rattle.legs.specs.Legs.{Feet, Points}
use Rattle.moves.specs.declared.Step.{Step}
use Rattle.moves.specs.declared.Step.TheVariants.{Moved, Arrived}
use Rattle.commands.specs.declared.Time.{Time}
use Rattle.steps.specs.Progress.{even_progress}
use Rattle.steps.specs.Shift.{shift_legs}
use Rattle.steps.specs.Next.{EvenStepIterator, paced_last, paced_feet, paced_after, even_at, next_even}
use Rattle.steps.specs.Answers.{given_next, given_paced_iter, told_next_paced}
use Rattle.steps.specs.Refusals.{timely, finite_lift, permitted_lift, lift_refusal}
use Rattle.steps.specs.Entries.{next_even_told}
use Rattle.steps.specs.declared.Lift.{Lift}
use Rattle.steps.proofs.OneAnswer.{told_next_paced_loses_nothing}

-- ---- why a step by time is refused
pub lift_refusal_is : (start last target : Feet) (lift : Lift) (in_time : Bool)
    → lift_refusal start last target lift in_time
    ≡ first_of
    (unless (finite_lift start last target lift) 1
    ∷ unless (permitted_lift start last target lift) 2
    ∷ unless in_time 3
    ∷ [])
unfolding lift_refusal
lift_refusal_is start last target lift in_time = refl

module _ (s : EvenStepIterator) (elapsed : Time) where
  abbrev pub even_refusal : ℕ
  even_refusal = lift_refusal s.start s.last s.target s.lift (timely elapsed s.period)

  -- ---- the answer that a contract's telling settles
  numbered : (r : Result (Option (Feet × EvenStepIterator)) Refusal) → (told_next_paced r).number ≡ number_or_0 r
  numbered (Ok (Some a)) = refl
  numbered (Ok None) = refl
  numbered (Err e) = refl

  given_number : (a : Option (Feet × EvenStepIterator)) → (given_next given_paced_iter a).number ≡ 0
  given_number (Some a) = refl
  given_number None = refl

  answered : (n : ℕ) (t : Told) → t.number ≡ 0 → (answer n t).number ≡ n
  answered n t e = by_test (eqb n 0) refl
    where
      by_test : (b : Bool) → eqb n 0 ≡ b → (answer n t).number ≡ n
      by_test true h = simp h (e ∙ sym (eqb-true n 0 h))
      by_test false h = simp h

  -- which refusal it is, and what it is where nothing is refused
  pub next_even_is : (r : Result (Option (Feet × EvenStepIterator)) Refusal) → told_next_paced r ≡ next_even_told s elapsed
      → (number_or_0 r ≡ even_refusal) × (even_refusal ≡ 0 → r ≡ Ok (next_even s elapsed))
  unfolding next_even_told
  next_even_is r h = (
    sym (numbered r)
        ∙ ap (λ (t : Told). t.number) h
        ∙ answered even_refusal (given_next given_paced_iter (next_even s elapsed)) (given_number (next_even s elapsed)),
    λ none.
        told_next_paced_loses_nothing r (Ok (next_even s elapsed))
        (h ∙ ap (λ (n : ℕ). answer n (given_next given_paced_iter (next_even s elapsed))) none),
  )

  -- ---- a step, whose state is the one before with its feet as the last, or none
  pub next_even_step_or_none : (P : Option (Feet × EvenStepIterator) → Type 0) → ((f : Feet) → P (Some (f, paced_last s f))) → P None
      → P (next_even s elapsed)
  unfolding next_even even_at
  next_even_step_or_none P step none =
      by_step (shift_legs (points s.start) (points s.last) (points s.target) s.lift (even_progress elapsed s.period))
    where
      by_step : (g : Step Points) → P (paced_after s g)
      by_step (Moved p) = step (paced_feet s p)
      by_step (Arrived p) = none
