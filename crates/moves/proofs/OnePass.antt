-- The door of a move in one pass: what its rows permit is finite, so that one look lets good numbers through. Over points, over six feet,
-- and for the rooms above, whose rows are others. Assumes nothing.
use Rattle.std.specs.Prelude.{◌≡◌, Bool, true, false, ◌&&◌}
use mathlib.Core.Path.{refl}
use lib.Ieee.{Float}
use Rattle.numbers.specs.Told.{choose}
use Rattle.numbers.specs.Door.{finite, permits}
use Rattle.numbers.specs.Limits.{foot_limit, max_move}
use Rattle.numbers.specs.declared.door.Limit.{Limit}
use Rattle.numbers.proofs.OnePass.{FiniteEnds, let_through, kept_out, in_row, both}
use Rattle.legs.specs.Legs.{finite_point, permitted_point, finite_feet, permitted_feet}
use Rattle.legs.specs.declared.Point.{Point}
use Rattle.legs.specs.Legs.{Feet}
use Rattle.legs.proofs.OnePass as legs
use Rattle.moves.specs.Refusals.{refusal_by, move_refusal, longest_refusal}

-- what a place's row and the third row permit is finite
module _ {Place : Type 0} (are_finite are_permitted : Place → Bool) (row : Limit) (l t : Place) (m : Float) where
  pub taken : ((p : Place) → are_permitted p ≡ true → are_finite p ≡ true) → ((x : Float) → permits row x ≡ true → finite x ≡ true)
      → (are_permitted l && are_permitted t && permits row m) ≡ true → 0 ≡ refusal_by are_finite are_permitted row l t m
  taken places numbers p = let_through (both (both (places l) (places t)) (numbers m) p) p

  pub turned_away : (are_permitted l && are_permitted t && permits row m) ≡ false
      → choose (are_finite l && are_finite t && finite m) 2 1 ≡ refusal_by are_finite are_permitted row l t m
  turned_away p =
      kept_out (are_finite l && are_finite t && finite m) (are_permitted l && are_permitted t && permits row m) p

-- ---- the rows of a move
pub foot_ends : FiniteEnds foot_limit
unfolding foot_limit finite
foot_ends = (refl, refl)

pub max_move_ends : FiniteEnds max_move
unfolding max_move finite
max_move_ends = (refl, refl)

pub move_taken : (l t : Point) (m : Float)
    → (permitted_point foot_limit l && permitted_point foot_limit t && permits max_move m) ≡ true → 0 ≡ move_refusal l t m
unfolding move_refusal
move_taken l t m = taken finite_point (permitted_point foot_limit) max_move l t m legs.in_foot_row (in_row max_move max_move_ends)

-- ---- of a longest distance
module _ (a b : Feet) where
  pub longest_taken : (permitted_feet foot_limit a && permitted_feet foot_limit b) ≡ true → 0 ≡ longest_refusal a b
  unfolding longest_refusal
  longest_taken p = let_through (legs.two_feet a b p) p

  pub longest_turned_away : (permitted_feet foot_limit a && permitted_feet foot_limit b) ≡ false
      → choose (finite_feet a && finite_feet b) 2 1 ≡ longest_refusal a b
  unfolding longest_refusal
  longest_turned_away p = kept_out (finite_feet a && finite_feet b) (permitted_feet foot_limit a && permitted_feet foot_limit b) p
