-- Feet that move keep the marks that they had last, and no mark has a part in where they go. Assumes nothing.
use Rattle.std.specs.Prelude.{◌≡◌, Bool}
use mathlib.Core.Path.{refl, ap, ◌∙◌}
use lib.Ieee.{Float}
use Rattle.legs.specs.Legs.{Leg, points, lifted, marked}
use Rattle.legs.proofs.Laws.{lifted_of_marked}
use Rattle.legs.specs.Legs.{Feet}
use Rattle.moves.specs.Moving.{PointsStep, place_of, move_points_towards, points_of, keeping, move_feet_towards, feet_of}
use Rattle.moves.specs.declared.Step.TheVariants.{Moved, Arrived}

-- a step of points, with marks put on
feet_kept : (b : Leg → Bool) (s : PointsStep) → feet_of (keeping b s) ≡ marked b (points_of s)
unfolding place_of
feet_kept b (Moved p) = refl
feet_kept b (Arrived p) = refl

module _ (last target : Feet) (m : Float) where
  -- the feet of a move: the points' step, with last's marks
  pub moved_feet : feet_of (move_feet_towards last target m)
      ≡ marked (lifted last) (points_of (move_points_towards (points last) (points target) m))
  unfolding move_feet_towards
  moved_feet = feet_kept (lifted last) (move_points_towards (points last) (points target) m)

  pub marks_of_move : (l : Leg) → lifted (feet_of (move_feet_towards last target m)) l ≡ lifted last l
  marks_of_move l =
      ap (λ (f : Feet). lifted f l) moved_feet
      ∙ lifted_of_marked (lifted last) (points_of (move_points_towards (points last) (points target) m)) l

  pub points_of_move : points (feet_of (move_feet_towards last target m)) ≡ points_of (move_points_towards (points last) (points target) m)
  points_of_move = ap points moved_feet
