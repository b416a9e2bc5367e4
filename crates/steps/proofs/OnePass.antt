-- What the rows of a step permit is finite, so that one pass lets it through. Assumes nothing.
use Rattle.std.specs.Prelude.{◌≡◌, Bool, true, false, Err}
use mathlib.Core.Path.{refl, ap}
use lib.Ieee.{Float}
use Rattle.numbers.specs.Door.{finite, permits}
use Rattle.numbers.specs.Limits.{foot_limit, max_move}
use Rattle.numbers.specs.Told.{choose}
use Rattle.numbers.specs.Refusals.{number_of}
use Rattle.numbers.specs.declared.refusal.Refusal.{Refusal}
use Rattle.numbers.specs.declared.refusal.Refusal.TheVariants.{NotFinite, Outside}
use Rattle.numbers.proofs.OneAnswer.{number_of_loses_nothing}
use Rattle.numbers.proofs.OnePass.{in_row, both}
use Rattle.legs.specs.Legs.{Points, point, finite_point, permitted_point, finite_points, permitted_points}
use Rattle.legs.proofs.OnePass.{all_six, in_foot_row, in_feet_row}
use Rattle.commands.proofs.OnePass.{length_finite}
use Rattle.steps.specs.How.{finite_along, permitted_along, pace_finite, pace_permitted, finite_paced, permitted_paced, admission}
use Rattle.steps.specs.declared.Lift.{Lift}
use Rattle.steps.specs.declared.unchecked.Course.{Course}
use Rattle.steps.specs.declared.unchecked.Pace.{Pace}
use Rattle.steps.specs.declared.unchecked.Pace.TheVariants.{Distance, Timed, Even}

points : (p : Points) → permitted_points foot_limit p ≡ true → finite_points p ≡ true
points p = all_six (λ k. permitted_point foot_limit (point p k)) (λ k. finite_point (point p k)) (λ k. in_foot_row (point p k))

along : (c : Course) → permitted_along c ≡ true → finite_along c ≡ true
along c = both (both (points c.start) (in_feet_row c.last)) (points c.target)

longest : (m : Float) → permits max_move m ≡ true → finite m ≡ true
unfolding max_move finite
longest = in_row max_move (refl, refl)

paced : (p : Pace) → pace_permitted p ≡ true → pace_finite p ≡ true
paced (Distance m) e = longest m e
paced (Timed p) e = refl
paced (Even p) e = refl

pub paced_finite : (c : Course) (lift : Lift) (p : Pace) → permitted_paced c lift p ≡ true → finite_paced c lift p ≡ true
paced_finite c lift p =
    both
    (both (both (along c) (paced p)) (length_finite lift.step_height))
    (length_finite lift.grounded_leg_descent)

-- and what is not permitted is refused by the number that tells finite from not
pub turned_away : (r : Refusal) (c : Course) (lift : Lift) (p : Pace) (timely : Bool) → number_of r ≡ choose (finite_paced c lift p) 2 1
    → permitted_paced c lift p ≡ false → Err r ≡ admission c lift p timely
turned_away r c lift p timely e f = simp f (ap Err (by_number (finite_paced c lift p) e))
  where
    by_number : (finite : Bool) → number_of r ≡ choose finite 2 1 → r ≡ choose finite Outside NotFinite
    by_number true e = number_of_loses_nothing r Outside e
    by_number false e = number_of_loses_nothing r NotFinite e
