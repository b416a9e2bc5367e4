-- A step, by its two tests: at the target it stands; within max move of it, it goes there; else it goes along.
use Rattle.std.specs.Prelude.{◌≡◌, Bool, true, false, not}
use mathlib.Core.Path.{refl}
use lib.Ieee.{Float, le}
use Rattle.numbers.specs.Told.{choose}
use Rattle.legs.specs.declared.Point.{Point}
use Rattle.moves.specs.Distance.{same, distance}
use Rattle.moves.specs.Moving.{along, nearer, step_at, move_towards, place_of, point_of, has_moved}
use Rattle.moves.specs.declared.Step.TheVariants.{Moved, Arrived}

module _ (l t : Point) (m : Float) where
  pub stands : same l t ≡ true → move_towards l t m ≡ Arrived t
  unfolding move_towards step_at
  stands e = rw e

  pub moves : same l t ≡ false → move_towards l t m ≡ Moved (nearer (distance l t) l t m)
  unfolding move_towards step_at
  moves e = rw e

  -- whether it moved is whether it was elsewhere
  pub moved_is_elsewhere : has_moved (move_towards l t m) ≡ not (same l t)
  unfolding move_towards step_at has_moved
  moved_is_elsewhere = by_test (same l t)
    where
      by_test : (b : Bool) → has_moved (choose b (Arrived t) (Moved (nearer (distance l t) l t m))) ≡ not b
      by_test true = refl
      by_test false = refl

  -- a step that did not move has the target for its point
  pub arrived_at_target : (p : Point) → move_towards l t m ≡ Arrived p → p ≡ t
  unfolding move_towards step_at
  arrived_at_target p = by_test (same l t)
    where
      by_test : (b : Bool) → choose b (Arrived t) (Moved (nearer (distance l t) l t m)) ≡ Arrived p → p ≡ t
      by_test true e = cc
      by_test false e = cc

  -- and so by its answer
  pub was_elsewhere : (p : Point) → move_towards l t m ≡ Moved p → same l t ≡ false
  unfolding move_towards step_at
  was_elsewhere p = by_test (same l t)
    where
      by_test : (b : Bool) → choose b (Arrived t) (Moved (nearer (distance l t) l t m)) ≡ Moved p → b ≡ false
      by_test true e = cc
      by_test false e = refl

  pub was_there : (p : Point) → move_towards l t m ≡ Arrived p → same l t ≡ true
  unfolding move_towards step_at
  was_there p = by_test (same l t)
    where
      by_test : (b : Bool) → choose b (Arrived t) (Moved (nearer (distance l t) l t m)) ≡ Arrived p → b ≡ true
      by_test true e = refl
      by_test false e = cc

  -- what holds of the target, and of the point along the way where a step goes along, holds of the point after the step
  pub after_step : (P : Point → Type 0) → P t → (le (distance l t) m ≡ false → P (along (distance l t) m l t))
      → P (point_of (move_towards l t m))
  unfolding move_towards step_at nearer place_of
  after_step P there on = by_place (same l t)
    where
      by_distance : (b : Bool) → le (distance l t) m ≡ b → P (choose b t (along (distance l t) m l t))
      by_distance true e = there
      by_distance false e = on e

      by_place : (b : Bool) → P (point_of (choose b (Arrived t) (Moved (choose (le (distance l t) m) t (along (distance l t) m l t)))))
      by_place true = there
      by_place false = by_distance (le (distance l t) m) refl

pub goes_there : (d : Float) (l t : Point) (m : Float) → le d m ≡ true → nearer d l t m ≡ t
unfolding nearer
goes_there d l t m e = rw e

pub goes_along : (d : Float) (l t : Point) (m : Float) → le d m ≡ false → nearer d l t m ≡ along d m l t
unfolding nearer
goes_along d l t m e = rw e
