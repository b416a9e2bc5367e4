-- One function makes the steps of all three iterators: what it makes by each pace is document 01's answer, its refusals included.
use Rattle.std.specs.Prelude.{◌≡◌, ⊤, ℕ, Bool, true, false, ◌&&◌, [], ◌∷◌, Option, Some, None, Result, Ok, Err}
use mathlib.Core.Path.{refl, sym, ap, ap₂, ◌∙◌}
use mathlib.Core.Bool.{and-true, true≢false}
use native.Mathlib.Omega.{arith}
use lib.Ieee.{Float, le}
use Rattle.numbers.specs.Told.{Told, refused, choose, answer}
use Rattle.numbers.specs.Refusals.{number_of, number_or_0}
use Rattle.numbers.proofs.Admitted.{turned_back}
use Rattle.numbers.specs.declared.refusal.Refusal.{Refusal}
use Rattle.numbers.specs.declared.refusal.Refusal.TheVariants.{NotFinite, Outside, Time as OutOfTime}
use Rattle.numbers.specs.Door.{finite, permits, unless, first_of}
use Rattle.numbers.specs.Limits.{over, minus, direction}
use Rattle.legs.specs.Legs.{points}
use Rattle.legs.specs.Legs.{Feet, Points}
use Rattle.moves.specs.Distance.{max_horizontal_distance}
use Rattle.moves.specs.declared.Step.{Step}
use Rattle.moves.specs.declared.Step.TheVariants.{Moved, Arrived}
use Rattle.commands.specs.Constants.{nought}
use Rattle.commands.specs.How.{capped}
use Rattle.commands.specs.declared.Time.{Time}
use Rattle.steps.specs.Progress.{step_progress, timed_progress, even_progress}
use Rattle.steps.specs.Refusals.{timely, finite_course, permitted_course, finite_step, permitted_step, step_refusal}
use Rattle.steps.specs.Refusals.{lift_refusal}
use Rattle.steps.specs.Shift.{shift_legs}
use Rattle.steps.specs.Next.{step_ended, timed_ended, step_lift, step_last, step_after, paced_last, paced_after}
use Rattle.steps.specs.Next.{by_time, timed_at, even_at, next_step, next_timed, next_even}
use Rattle.steps.specs.Answers.{given_none, given_next, given_step_iter, given_paced_iter, told_next_step, told_next_paced}
use Rattle.steps.specs.Entries.{next_step_told, next_timed_told, next_even_told, next_paced_told}
use Rattle.steps.specs.How.{course_of, by_distance, sideways, reached, on_its_way, step_made}
use Rattle.steps.specs.How.{paced_made, even_made, step_of, paced_of}
use Rattle.steps.specs.declared.PacedStepIterator.{PacedStepIterator}
use Rattle.steps.specs.declared.Lift.{Lift}
use Rattle.steps.specs.declared.StepIterator.{StepIterator}
use Rattle.steps.specs.declared.unchecked.Pace.TheVariants.{Distance}
use Rattle.steps.proofs.OnePass.{paced_finite}
use Rattle.steps.proofs.Uncapped.{made_in_time}
use Rattle.steps.specs.How.{pace_finite, pace_permitted, finite_paced, permitted_paced, admission, behind}
use Rattle.steps.specs.declared.unchecked.Pace.{Pace}
use Rattle.steps.specs.declared.unchecked.Pace.TheVariants.{Timed, Even}

-- ---- what is told of what the door refuses, or of what was made behind it: `tell` tells of a refusal its number
told_behind : (tell : Result (Option Feet) Refusal → Told) → ((r : Refusal) → tell (Err r) ≡ refused (number_of r))
    → (r : Result ⊤ Refusal) (m : Option Feet) (n : ℕ) → number_or_0 r ≡ n → tell (behind r m) ≡ answer n (tell (Ok m))
told_behind tell refuses (Ok u) m n e = ap (λ (k : ℕ). answer k (tell (Ok m))) e
told_behind tell refuses (Err r) m n e = refuses r ∙ turned_back r n (tell (Ok m)) e

-- ---- the door: what is permitted is finite, so the tests in the code's order give the lowest number, and where that is 0 what was made
-- m is answered where n refuses nothing, else the refusal that n numbers
record Gated {A : Type 0} (n : ℕ) (m : A) (r : Result A Refusal) : Type 0 where
  number : number_or_0 r ≡ n
  made : n ≡ 0 → r ≡ Ok m

-- the door in the code's order of tests
abbrev door : Bool → Bool → Bool → Result ⊤ Refusal
door F P t = choose P (choose t (Ok tt) (Err OutOfTime)) (Err (choose F Outside NotFinite))

gate : {A : Type 0} (F P t : Bool) (m : A) → (P ≡ true → F ≡ true)
    → Gated (first_of (unless F 1 ∷ unless P 2 ∷ unless t 3 ∷ [])) m (behind (door F P t) m)
gate true true true m h = record { number = refl; made = λ z. refl }
gate true true false m h = record { number = refl; made = λ z. absurd (omega (arith, z)) }
gate true false t m h = record { number = refl; made = λ z. absurd (omega (arith, z)) }
gate false true t m h = absurd (true≢false (sym (h refl)))
gate false false t m h = record { number = refl; made = λ z. absurd (omega (arith, z)) }

-- so of the door alone
same_number : (r : Result ⊤ Refusal) → number_or_0 r ≡ number_or_0 (behind {A = ⊤} r tt)
same_number (Ok u) = refl
same_number (Err r) = refl

numbered : (F P t : Bool) → (P ≡ true → F ≡ true) → number_or_0 (door F P t) ≡ first_of (unless F 1 ∷ unless P 2 ∷ unless t 3 ∷ [])
numbered F P t h = same_number (door F P t) ∙ (gate {A = ⊤} F P t tt h).number

-- a test that always passes, in the middle and at the end
passed : (a b c : Bool) → (a && true && b && c) ≡ (a && b && c)
passed a b c = ap (λ (x : Bool). x && b && c) (and-true a)

-- by time: `pace` is one whose own tests always pass
module _ (start last target : Feet) (lift : Lift) (t : Bool) where
  admitted_at : (pace : Pace) → pace_finite pace ≡ true → pace_permitted pace ≡ true
      → number_or_0 (admission (course_of start last target) lift pace t) ≡ lift_refusal start last target lift t
  unfolding lift_refusal
  admitted_at pace f p =
      numbered
      (finite_paced (course_of start last target) lift pace) (permitted_paced (course_of start last target) lift pace) t
      (paced_finite (course_of start last target) lift pace)
      ∙ ap₂ (λ (F P : Bool). first_of (unless F 1 ∷ unless P 2 ∷ unless t 3 ∷ []))
      (ap (λ (b : Bool). finite_course start last target && b && finite lift.step_height && finite lift.grounded_leg_descent) f
      ∙ passed (finite_course start last target) _ _)
      (ap (λ (b : Bool).
      permitted_course start last target && b && permits direction lift.step_height && permits direction lift.grounded_leg_descent) p
      ∙ passed (permitted_course start last target) _ _)

  pub admitted_by_time : number_or_0 (admission (course_of start last target) lift (Even nought) t) ≡ lift_refusal start last target lift t
  admitted_by_time = admitted_at (Even nought) refl refl

-- by distance: its descent is 0, which is permitted
pub nought_permitted : permits direction nought ≡ true
unfolding direction nought over minus le
nought_permitted = refl

pub nought_finite : finite nought ≡ true
unfolding finite nought over
nought_finite = refl

no_third : (F P : Bool) → first_of (unless F 1 ∷ unless P 2 ∷ unless true 3 ∷ []) ≡ first_of (unless F 1 ∷ unless P 2 ∷ [])
no_third true true = refl
no_third true false = refl
no_third false P = refl

pub admitted_by_distance : (s : StepIterator)
    → number_or_0 (admission (course_of s.start s.last s.target) (step_lift s) (Distance s.max_move) true) ≡ step_refusal s
unfolding step_refusal
admitted_by_distance s =
    let c = course_of s.start s.last s.target in
    numbered
    (finite_paced c (step_lift s) (Distance s.max_move)) (permitted_paced c (step_lift s) (Distance s.max_move)) true
    (paced_finite c (step_lift s) (Distance s.max_move))
    ∙ ap₂ (λ (F P : Bool). first_of (unless F 1 ∷ unless P 2 ∷ unless true 3 ∷ []))
    (ap (λ (b : Bool). finite_step s && b) nought_finite ∙ and-true (finite_step s))
    (ap (λ (b : Bool). permitted_step s && b) nought_permitted ∙ and-true (permitted_step s))
    ∙ no_third (finite_step s) (permitted_step s)

-- ---- by time, at either pace
-- the step that is made there
even_made_lem : {pace : ℕ} (s : PacedStepIterator pace) (g : Step Points)
    → paced_of s (Ok (reached (course_of s.start s.last s.target) s.lift g)) ≡ Ok (paced_after s g)
even_made_lem s (Moved p) = refl
even_made_lem s (Arrived p) = refl

paced_made_lem : {pace : ℕ} (s : PacedStepIterator pace) (g : Step Points)
    → told_next_paced (paced_of s (Ok (reached (course_of s.start s.last s.target) s.lift g)))
    ≡ given_next given_paced_iter (paced_after s g)
paced_made_lem s g = ap told_next_paced (even_made_lem s g)

pub made_at_even_pace : {pace : ℕ} (s : PacedStepIterator pace) (elapsed : Time)
    → told_next_paced (paced_of s (even_made (course_of s.start s.last s.target) s.period s.lift elapsed)) ≡ next_even_told s elapsed
unfolding step_made next_even_told next_even even_at
made_at_even_pace s elapsed =
    let c = course_of s.start s.last s.target in
    let p = even_progress (capped elapsed) (capped s.period) in
    let t = timely elapsed s.period in
    let n = lift_refusal s.start s.last s.target s.lift t in
    told_behind (λ m. told_next_paced (paced_of s m)) (λ r. refl) (admission c s.lift (Even p) t) (on_its_way c s.lift (Some p)) n
    (admitted_at s.start s.last s.target s.lift t (Even p) refl refl)
    ∙ ap (answer n) (paced_made_lem s (shift_legs (points s.start) (points s.last) (points s.target) s.lift p))
    ∙ made_in_time s.start s.last s.target s.lift elapsed s.period (given_next given_paced_iter) (even_at s) even_progress

timed_made : {pace : ℕ} (s : PacedStepIterator pace) (over : Bool) (p : Float)
    → told_next_paced (paced_of s (Ok (on_its_way (course_of s.start s.last s.target) s.lift (choose over None (Some p)))))
    ≡ given_next given_paced_iter
    (paced_after s
    (choose over (Arrived (points s.last))
    (shift_legs (points s.start) (points s.last) (points s.target) s.lift p)))
timed_made s true p = refl
timed_made s false p = paced_made_lem s (shift_legs (points s.start) (points s.last) (points s.target) s.lift p)

pub made_by_time : {pace : ℕ} (s : PacedStepIterator pace) (elapsed : Time)
    → told_next_paced (paced_of s (paced_made false (course_of s.start s.last s.target) s.period s.lift elapsed))
    ≡ next_timed_told s elapsed
unfolding step_made next_timed_told next_timed timed_at by_time sideways
made_by_time s elapsed =
    let c = course_of s.start s.last s.target in
    let p = timed_progress (capped elapsed) (capped s.period) in
    let t = timely elapsed s.period in
    let n = lift_refusal s.start s.last s.target s.lift t in
    told_behind (λ m. told_next_paced (paced_of s m)) (λ r. refl) (admission c s.lift (Timed p) t) (on_its_way c s.lift (sideways c p)) n
    (admitted_at s.start s.last s.target s.lift t (Timed p) refl refl)
    ∙ ap (answer n) (timed_made s (timed_ended (max_horizontal_distance (points s.start) (points s.target))) p)
    ∙ made_in_time s.start s.last s.target s.lift elapsed s.period (given_next given_paced_iter) (timed_at s) timed_progress

made_at_its_pace : {pace : ℕ} (even : Bool) (s : PacedStepIterator pace) (elapsed : Time)
    → told_next_paced (paced_of s (paced_made even (course_of s.start s.last s.target) s.period s.lift elapsed))
    ≡ next_paced_told even s elapsed
made_at_its_pace true s elapsed = made_at_even_pace s elapsed
made_at_its_pace false s elapsed = made_by_time s elapsed

-- ---- by distance
step_made_lem : (s : StepIterator) (over : Bool) (p : Float)
    → told_next_step (step_of s (Ok (on_its_way (course_of s.start s.last s.target) (step_lift s) (choose over None (Some p)))))
    ≡ given_next given_step_iter
    (choose over None
    (step_after s (shift_legs (points s.start) (points s.last) (points s.target) (step_lift s) p)))
step_made_lem s true p = refl
step_made_lem s false p = by_step (shift_legs (points s.start) (points s.last) (points s.target) (step_lift s) p)
  where
    by_step : (g : Step Points)
        → told_next_step (step_of s (Ok (reached (course_of s.start s.last s.target) (step_lift s) g)))
        ≡ given_next given_step_iter (step_after s g)
    by_step (Moved q) = refl
    by_step (Arrived q) = refl

pub made_by_distance : (s : StepIterator)
    → told_next_step
    (step_of s (step_made (course_of s.start s.last s.target) (step_lift s) (Distance s.max_move) true))
    ≡ next_step_told s
unfolding step_made next_step_told next_step by_distance
made_by_distance s =
    let c = course_of s.start s.last s.target in
    let full = max_horizontal_distance (points s.start) (points s.target) in
    let m = on_its_way c (step_lift s) (by_distance c s.max_move) in
    told_behind (λ r. told_next_step (step_of s r)) (λ r. refl) (admission c (step_lift s) (Distance s.max_move) true) m (step_refusal s)
    (admitted_by_distance s)
    ∙ ap (answer (step_refusal s))
    (step_made_lem s (step_ended full)
    (step_progress (max_horizontal_distance (points s.last) (points s.start)) s.max_move full))

-- ---- what each iterator says of what was made, case by case: of a refusal, of no step, of a step
module _ (s : StepIterator) where
  abbrev pub by_distance_made : Result (Option Feet) Refusal
  by_distance_made = step_made (course_of s.start s.last s.target) (step_lift s) (Distance s.max_move) true

  pub step_turned_back : (r : Refusal) → by_distance_made ≡ Err r → refused (number_of r) ≡ next_step_told s
  step_turned_back r e = rw e at (made_by_distance s)

  pub step_none : by_distance_made ≡ Ok None → given_none ≡ next_step_told s
  step_none e = rw e at (made_by_distance s)

  pub step_some : (f : Feet) → by_distance_made ≡ Ok (Some f) → given_next given_step_iter (Some (f, step_last s f)) ≡ next_step_told s
  step_some f e = rw e at (made_by_distance s)

pub ruleset step_cases = (step_turned_back, step_none, step_some)

module _ {pace : ℕ} (even : Bool) (s : PacedStepIterator pace) (elapsed : Time) where
  abbrev pub by_time_made : Result (Option Feet) Refusal
  by_time_made = paced_made even (course_of s.start s.last s.target) s.period s.lift elapsed

  pub paced_turned_back : (r : Refusal) → by_time_made ≡ Err r → refused (number_of r) ≡ next_paced_told even s elapsed
  paced_turned_back r e = rw e at (made_at_its_pace even s elapsed)

  pub paced_none : by_time_made ≡ Ok None → given_none ≡ next_paced_told even s elapsed
  paced_none e = rw e at (made_at_its_pace even s elapsed)

  pub paced_some : (f : Feet) → by_time_made ≡ Ok (Some f)
      → given_next given_paced_iter (Some (f, paced_last s f)) ≡ next_paced_told even s elapsed
  paced_some f e = rw e at (made_at_its_pace even s elapsed)

pub ruleset paced_cases = (paced_turned_back, paced_none, paced_some)
