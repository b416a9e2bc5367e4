-- What a step does to marks. A leg of the lifted tripod that was away from its target is lifted, unless it came there, then it stands; any
-- other keeps the mark that it had last. So it is at each of the three paces, and marks have no part in where feet go. Assumes nothing.
use Rattle.std.specs.Prelude.{◌≡◌, Bool, true, false, not, ◌&&◌, Some}
use mathlib.Core.Path.{refl, sym, ap, ap₂, ◌∙◌}
use lib.Ieee.{Float}
use Rattle.numbers.specs.Told.{choose}
use Rattle.legs.specs.Legs.{Leg, point, points, foot, lifted, whole}
use Rattle.legs.specs.declared.Point.{Point}
use Rattle.legs.specs.Legs.{Points}
use Rattle.legs.specs.Legs.{Feet}
use Rattle.legs.proofs.Laws.{lifted_of_marked}
use Rattle.moves.specs.Distance.{same}
use Rattle.moves.specs.Moving.{points_of}
use Rattle.commands.specs.Tripods.{has}
use Rattle.commands.specs.declared.Time.{Time}
use Rattle.commands.specs.declared.Tripod.{Tripod}
use Rattle.steps.specs.Marks.{mark_after, step_mark, stepped}
use Rattle.steps.specs.Shift.{shift_legs}
use Rattle.steps.specs.Next.{TimedStepIterator, EvenStepIterator, next_step, next_timed, next_even}
use Rattle.steps.specs.declared.Lift.{Lift}
use Rattle.steps.specs.declared.StepIterator.{StepIterator}
use Rattle.steps.proofs.FootByFoot.{one_foot_alone}
use Rattle.steps.proofs.Taken.{step_taken, timed_step_taken, even_step_taken}

-- ---- the rule, leg by leg
module _ (tripod : Tripod) (last : Feet) (target new : Points) where
  pub points_of_step : points (stepped tripod last target new) ≡ new
  unfolding stepped
  points_of_step = refl

  pub marks_of_step : (l : Leg) → lifted (stepped tripod last target new) l ≡ step_mark tripod last target new l
  unfolding stepped
  marks_of_step = lifted_of_marked (step_mark tripod last target new) new

  -- its cases: the leg is of the lifted tripod and was away from its target, and came there or not
  module _ (l : Leg) (of_tripod : has tripod l ≡ true) (away : same (foot last l) (point target l) ≡ false) where
    pub lifted_on_its_way : same (point new l) (point target l) ≡ false → lifted (stepped tripod last target new) l ≡ true
    unfolding mark_after
    lifted_on_its_way h = marks_of_step l ∙ simp (of_tripod, away, h)

    pub stands_at_its_target : same (point new l) (point target l) ≡ true → lifted (stepped tripod last target new) l ≡ false
    unfolding mark_after
    stands_at_its_target h = marks_of_step l ∙ simp (of_tripod, away, h)

  -- it was at its target, or is of the other tripod
  pub kept_at_its_target : (l : Leg) → same (foot last l) (point target l) ≡ true
      → lifted (stepped tripod last target new) l ≡ lifted last l
  unfolding mark_after
  kept_at_its_target l h =
      marks_of_step l
      ∙ by_tests (has tripod l) (same (foot last l) (point target l)) (not (same (point new l) (point target l))) (lifted last l) h
    where
      by_tests : (i b n had : Bool) → b ≡ true → choose (i && not b) n had ≡ had
      by_tests true true n had h = refl
      by_tests false true n had h = refl
      by_tests i false n had h = cc

  pub kept_by_the_others : (l : Leg) → has tripod l ≡ false → lifted (stepped tripod last target new) l ≡ lifted last l
  unfolding mark_after
  kept_by_the_others l h = marks_of_step l ∙ simp h

-- ---- at each pace
after : (t : Tripod) (last : Feet) (target p : Points) (f : Feet) → f ≡ stepped t last target p
    → (l : Leg) → lifted f l ≡ step_mark t last target (points f) l
after t last target p f e l =
    ap (λ (g : Feet). lifted g l) e
    ∙ marks_of_step t last target p l
    ∙ ap (λ (q : Points). step_mark t last target q l) (sym (points_of_step t last target p) ∙ sym (ap points e))

pub marks_by_distance : (s s' : StepIterator) (f : Feet) → next_step s ≡ Some (f, s')
    → (l : Leg) → lifted f l ≡ step_mark s.tripod s.last (points s.target) (points f) l
marks_by_distance s s' f e = after s.tripod s.last (points s.target) _ f (step_taken s s' f e).0

pub marks_by_time : (s s' : TimedStepIterator) (elapsed : Time) (f : Feet) → next_timed s elapsed ≡ Some (f, s')
    → (l : Leg) → lifted f l ≡ step_mark s.lift.tripod s.last (points s.target) (points f) l
marks_by_time s s' elapsed f e = after s.lift.tripod s.last (points s.target) _ f (timed_step_taken s s' elapsed f e).0

pub marks_at_even_pace : (s s' : EvenStepIterator) (elapsed : Time) (f : Feet) → next_even s elapsed ≡ Some (f, s')
    → (l : Leg) → lifted f l ≡ step_mark s.lift.tripod s.last (points s.target) (points f) l
marks_at_even_pace s s' elapsed f e = after s.lift.tripod s.last (points s.target) _ f (even_step_taken s s' elapsed f e).0

-- ---- foot by foot: two steps that agree on one foot's start, last and target points, on its last mark, on progress, lifted tripod,
-- heights and mode give that foot the same point and the same mark, whatever the other five do and whatever start's and target's marks are
abbrev pub feet_at : Feet → Feet → Feet → Lift → Float → Feet
feet_at start last target lift progress =
    stepped lift.tripod last (points target) (points_of (shift_legs (points start) (points last) (points target) lift progress))

pub one_foot_and_its_mark : (s s' l l' t t' : Feet) (lift : Lift) (progress : Float) (k : Leg)
    → foot s k ≡ foot s' k → foot l k ≡ foot l' k → foot t k ≡ foot t' k → lifted l k ≡ lifted l' k
    → whole (feet_at s l t lift progress) k ≡ whole (feet_at s' l' t' lift progress) k
unfolding stepped
one_foot_and_its_mark s s' l l' t t' lift progress k es el et had =
    let of_tripod = has lift.tripod k in
    let new = points_of (shift_legs (points s) (points l) (points t) lift progress) in
    let new' = points_of (shift_legs (points s') (points l') (points t') lift progress) in
    let alone : point new k ≡ point new' k =
    one_foot_alone (points s) (points s') (points l) (points l') (points t) (points t') lift progress k es el et in
    ap₂ (λ (p : Point) (b : Bool). record { point = p; lifted = b }) alone
    (marks_of_step lift.tripod l (points t) new k
    ∙ ap (λ (b : Bool). mark_after of_tripod b (foot l k) (foot t k) (point new k)) had
    ∙ ap₂ (λ (p q : Point). mark_after of_tripod (lifted l' k) p q (point new k)) el et
    ∙ ap (λ (p : Point). mark_after of_tripod (lifted l' k) (foot l' k) (foot t' k) p) alone
    ∙ sym (marks_of_step lift.tripod l' (points t') new' k))
