-- A foot keeps its start's mark on the whole way of a walk and at its end, whatever the marks of the target; and marks have no part in
-- where the feet are. Assumes nothing.
use Rattle.std.specs.Prelude.{◌≡◌, ℕ, zero, suc}
use mathlib.Core.Path.{refl, ap, ◌∙◌}
use lib.Ieee.{Float}
use Rattle.legs.specs.Legs.{Leg, point, points, foot, lifted}
use Rattle.legs.specs.Legs.{Points}
use Rattle.legs.specs.Legs.{Feet}
use Rattle.moves.specs.Moving.{move_points_towards, points_of}
use Rattle.moves.proofs.Marks.{marks_of_move, points_of_move}
use Rattle.walks.specs.Walk.{point_after, points_after, feet_after}
use Rattle.walks.proofs.Feet.{each_foot_after}

module _ (m : Float) (s t : Feet) where
  pub marks_after : (k : ℕ) (l : Leg) → lifted (feet_after m s t k) l ≡ lifted s l
  unfolding feet_after
  marks_after zero l = refl
  marks_after (suc k) l = marks_of_move (feet_after m s t k) t m l ∙ marks_after k l

  pub points_after_lem : (k : ℕ) → points (feet_after m s t k) ≡ points_after m (points s) (points t) k
  unfolding feet_after points_after
  points_after_lem zero = refl
  points_after_lem (suc k) =
      points_of_move (feet_after m s t k) t m ∙ ap (λ (p : Points). points_of (move_points_towards p (points t) m)) (points_after_lem k)

  -- so each foot goes the way of its point alone
  pub foot_after : (k : ℕ) (l : Leg) → foot (feet_after m s t k) l ≡ point_after m (foot s l) (foot t l) k
  foot_after k l = ap (λ (p : Points). point p l) (points_after_lem k) ∙ each_foot_after m (points s) (points t) k l
