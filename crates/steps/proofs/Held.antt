-- The format holds a step's feet where it holds their targets: each is its target's point, or is computed. Assumes nothing.
use Rattle.std.specs.Prelude.{◌≡◌, Bool, true, false, Some}
use mathlib.Core.Path.{sym, subst}
use lib.Ieee.{binary32, le}
use lib.Ieee.Fits.{add-fits}
use Rattle.numbers.specs.Told.{choose}
use Rattle.legs.specs.Legs.{Leg, foot}
use Rattle.legs.specs.declared.Point.{Point}
use Rattle.legs.specs.Legs.{Feet}
use Rattle.bounds.specs.Between.{HeldPoint}
use Rattle.commands.specs.Constants.{one}
use Rattle.commands.specs.declared.Time.{Time}
use Rattle.moves.specs.Distance.{same}
use Rattle.moves.specs.Moving.{place_of, point_of}
use Rattle.moves.specs.declared.Step.TheVariants.{Moved, Arrived}
use Rattle.steps.specs.Leg.{step_lifted_leg}
use Rattle.steps.specs.Progress.{even_progress}
use Rattle.steps.specs.Next.{EvenStepIterator, next_even}
use Rattle.steps.proofs.Straight.{its_step}

by_tests : (t p : Point) → HeldPoint t → HeldPoint p → (b c : Bool)
    → HeldPoint (point_of (choose b (Arrived t) (choose c (Moved t) (Moved p))))
unfolding place_of
by_tests t p T P true c = T
by_tests t p T P false true = T
by_tests t p T P false false = P

pub even_held : (s s' : EvenStepIterator) (elapsed : Time) (f : Feet) → next_even s elapsed ≡ Some (f, s')
    → (l : Leg) → HeldPoint (foot s.target l) → HeldPoint (foot f l)
unfolding step_lifted_leg
even_held s s' elapsed f e l held =
    subst HeldPoint (sym (its_step s s' elapsed f e l))
    (by_tests (foot s.target l) _ held (record { x = add-fits binary32 _ _; y = add-fits binary32 _ _; z = add-fits binary32 _ _ })
    (same (foot s.last l) (foot s.target l)) (le one (even_progress elapsed s.period)))
