-- What is told of an answer on steps can be read back, marks and floats together, so telling loses nothing and no second answer fits a
-- contract stated by it.
use Rattle.std.specs.Prelude.{◌≡◌, ℕ, zero, suc, Bool, eqb, List, [], ◌∷◌, get_or, drop, Option, Some, None, Result}
use mathlib.Core.Path.{refl, ap, ap₂, ◌∙◌}
use lib.Ieee.{Float, nan}
use Rattle.numbers.specs.Told.{Told, mark}
use Rattle.numbers.specs.Answers.{told_by}
use Rattle.numbers.specs.declared.refusal.Refusal.{Refusal}
use Rattle.legs.specs.Legs.{Feet}
use Rattle.numbers.proofs.OneAnswer.{undone, flag_of_mark, told_by_loses_nothing}
use Rattle.legs.specs.Legs.{points, lifted, marked}
use Rattle.legs.proofs.OneAnswer.{feet_at, marks_back}
use Rattle.commands.proofs.OneAnswer.{tripod_of_mark, tripod_back}
use Rattle.commands.specs.declared.Time.{Time}
use Rattle.commands.specs.declared.Tripod.{Tripod}
use Rattle.steps.specs.Answers.{step_marks, step_values, given_next, given_step_iter, given_paced_iter}
use Rattle.steps.specs.Answers.{told_step_iter, told_next_step, told_paced_iter, told_next_paced}
use Rattle.steps.specs.declared.Lift.{Lift}
use Rattle.steps.specs.declared.StepIterator.{StepIterator}
use Rattle.steps.specs.declared.PacedStepIterator.{PacedStepIterator}

-- ---- a lift, from its floats and marks
lift : Float → Float → Tripod → Bool → Lift
lift height descent t b =
    record { step_height = height; grounded_leg_descent = descent; tripod = t; aggressive_leg_lift = b }

-- ---- feet as their marks tell them, and three sets of them
abbrev again : Feet → Feet
again f = marked (λ l. eqb (mark (lifted f l)) 1) (points f)

course_back : {S : Type 0} (make : Feet → Feet → Feet → S) (a b c : Feet) → make (again a) (again b) (again c) ≡ make a b c
course_back make a b c =
    ap (λ (f : Feet). make f (again b) (again c)) (marks_back a) ∙ ap₂ (make a) (marks_back b) (marks_back c)

-- ---- a state by distance
step_made : Feet → Feet → Feet → Float → Float → Tripod → Bool → StepIterator
step_made a b c move height t aggressive =
    record {
      start = a;
      last = b;
      target = c;
      max_move = move;
      step_height = height;
      tripod = t;
      aggressive_leg_lift = aggressive;
    }

step_of : List ℕ → List Float → StepIterator
step_of ks xs =
    step_made (feet_at ks 2 xs 2) (feet_at ks 8 xs 20) (feet_at ks 14 xs 38)
    (get_or xs 0 nan) (get_or xs 1 nan) (tripod_of_mark (get_or ks 0 0)) (eqb (get_or ks 1 0) 1)

step_back : (s : StepIterator) → step_of (step_marks s) (step_values s) ≡ s
unfolding step_of step_made
step_back s =
    let m = s.max_move in
    let h = s.step_height in
    ap₂
    (λ (t : Tripod) (b : Bool). step_made (again s.start) (again s.last) (again s.target) m h t b)
    (tripod_back s.tripod) (flag_of_mark s.aggressive_leg_lift)
    ∙ course_back (λ a b c. step_made a b c m h s.tripod s.aggressive_leg_lift) s.start s.last s.target

-- ---- a state by time, at either pace
module _ {pace : ℕ} where
  paced : Feet → Feet → Feet → Time → Lift → PacedStepIterator pace
  paced a b c p l = record { start = a; last = b; target = c; period = p; lift = l }

  paced_of : List ℕ → List Float → PacedStepIterator pace
  paced_of ks xs =
      paced (feet_at ks 4 xs 2) (feet_at ks 10 xs 20) (feet_at ks 16 xs 38)
      (record { seconds = get_or ks 2 0; nanoseconds = get_or ks 3 0 })
      (lift (get_or xs 0 nan) (get_or xs 1 nan) (tripod_of_mark (get_or ks 0 0)) (eqb (get_or ks 1 0) 1))

  paced_back : (s : PacedStepIterator pace) → paced_of (given_paced_iter s).marks (given_paced_iter s).values ≡ s
  unfolding paced_of paced lift
  paced_back s =
      let l = s.lift in
      ap₂
      (λ (t : Tripod) (f : Bool).
      paced (again s.start) (again s.last) (again s.target) s.period (lift l.step_height l.grounded_leg_descent t f))
      (tripod_back l.tripod) (flag_of_mark l.aggressive_leg_lift)
      ∙ course_back (λ a b c. paced a b c s.period l) s.start s.last s.target

-- ---- a next step with its state, of which `say` tells and which `of` reads back, or none
module _ {S : Type 0} (say : S → Told) (of : List ℕ → List Float → S) (of_back : (s : S) → of (say s).marks (say s).values ≡ s) where
  next : List ℕ → List Float → Option (Feet × S)
  next [] xs = None
  next (zero ∷ ks) xs = None
  next (suc k ∷ ks) xs = Some (feet_at ks 0 xs 0, of (drop 6 ks) (drop 18 xs))

  next_back : (a : Option (Feet × S)) → next (given_next say a).marks (given_next say a).values ≡ a
  unfolding next
  next_back (Some (f, s)) = ap₂ (λ (g : Feet) (r : S). Some (g, r)) (marks_back f) (of_back s)
  next_back None = refl

  given : (a : Option (Feet × S)) → (given_next say a).number ≡ 0
  given (Some a) = refl
  given None = refl

  next_loses_nothing : (a b : Result (Option (Feet × S)) Refusal)
      → told_by (given_next say) a ≡ told_by (given_next say) b → a ≡ b
  next_loses_nothing = told_by_loses_nothing (given_next say) (undone (given_next say) (λ t. next t.marks t.values) next_back) given

-- ---- by distance
pub told_step_iter_loses_nothing : (a b : Result StepIterator Refusal) → told_step_iter a ≡ told_step_iter b → a ≡ b
told_step_iter_loses_nothing =
    told_by_loses_nothing given_step_iter (undone given_step_iter (λ t. step_of t.marks t.values) step_back) (λ s. refl)

pub told_next_step_loses_nothing : (a b : Result (Option (Feet × StepIterator)) Refusal) → told_next_step a ≡ told_next_step b → a ≡ b
told_next_step_loses_nothing = next_loses_nothing given_step_iter step_of step_back

-- ---- by time, at either pace
pub told_paced_iter_loses_nothing : {pace : ℕ} (a b : Result (PacedStepIterator pace) Refusal)
    → told_paced_iter a ≡ told_paced_iter b → a ≡ b
told_paced_iter_loses_nothing =
    told_by_loses_nothing given_paced_iter (undone given_paced_iter (λ t. paced_of t.marks t.values) paced_back) (λ s. refl)

pub told_next_paced_loses_nothing : {pace : ℕ} (a b : Result (Option (Feet × PacedStepIterator pace)) Refusal)
    → told_next_paced a ≡ told_next_paced b → a ≡ b
told_next_paced_loses_nothing = next_loses_nothing given_paced_iter paced_of paced_back
