-- The door of a walk in one pass: what its rows permit is finite. Assumes nothing.
use Rattle.std.specs.Prelude.{◌≡◌, true, ◌&&◌}
use mathlib.Core.Path.{refl}
use lib.Ieee.{Float}
use Rattle.numbers.specs.Door.{finite, permits}
use Rattle.numbers.specs.Limits.{walk_foot, walk_move}
use Rattle.numbers.proofs.OnePass.{FiniteEnds, in_row}
use Rattle.legs.specs.Legs.{finite_point, permitted_point, finite_feet, permitted_feet}
use Rattle.legs.specs.declared.Point.{Point}
use Rattle.legs.specs.Legs.{Feet}
use Rattle.legs.proofs.OnePass.{point_finite, feet_finite}
use Rattle.moves.proofs.OnePass.{taken}
use Rattle.walks.specs.Answers.{walk_refusal, walk_feet_refusal}

pub walk_foot_ends : FiniteEnds walk_foot
unfolding walk_foot finite
walk_foot_ends = (refl, refl)

pub walk_move_ends : FiniteEnds walk_move
unfolding walk_move finite
walk_move_ends = (refl, refl)

pub walk_taken : (m : Float) (s t : Point)
    → (permitted_point walk_foot s && permitted_point walk_foot t && permits walk_move m) ≡ true → 0 ≡ walk_refusal m s t
unfolding walk_refusal
walk_taken m s t =
    taken finite_point (permitted_point walk_foot) walk_move s t m (point_finite walk_foot walk_foot_ends)
    (in_row walk_move walk_move_ends)

pub walk_feet_taken : (m : Float) (s t : Feet)
    → (permitted_feet walk_foot s && permitted_feet walk_foot t && permits walk_move m) ≡ true → 0 ≡ walk_feet_refusal m s t
unfolding walk_feet_refusal
walk_feet_taken m s t =
    taken finite_feet (permitted_feet walk_foot) walk_move s t m (feet_finite walk_foot walk_foot_ends)
    (in_row walk_move walk_move_ends)
