-- Request K13: "x, y and z lie within 2 units of the f32 step on the same numbers." For every start, target, height and progress within the
-- ranges, and every last that is not at the target: more exactly, the f32 step is at most 1.1 units above the whole step and at most 0.1
-- below it. And none of its floats is outside document 01's table. Assumes nothing.
use Prim.Native.Nat.{ℕ, ◌+◌, ◌*◌, ◌^◌, ◌≤◌, ◌<◌}
use mathlib.Core.Path.{◌≡◌, refl, sym, subst, subst₂}
use mathlib.Core.Bool.{Bool, true, false}
use mathlib.Core.Logic.{◌⊎◌, inl, inr}
use native.Mathlib.Nat.{le_of_lt, le_antisymm, mul-lt-mul_of_pos_right}
use native.Mathlib.Omega.{arith}
use lib.Dec.{T}
use lib.IntN.{ℤ, pos}
use lib.Pow.{pow_pos}
use lib.Ieee.{Float, binary32, round, add, le}
use Rattle.numbers.specs.Limits.{over}
use Rattle.numbers.proofs.Flags.{lt_or_le}
use Rattle.units.specs.Units.{unity, Part}
use Rattle.units.proofs.Values.{plus_part}
use Rattle.units.proofs.Order.{le_part}
use Rattle.series.specs.Fractions.{Within, value}
use Rattle.legs.specs.declared.Point.{Point}
use Rattle.moves.specs.Distance.{same}
use Rattle.moves.specs.Moving.{place_of}
use Rattle.commands.specs.Constants.{one}
use Rattle.steps.specs.Leg.{part_way, above, step_lifted_leg}
use Rattle.wholes.specs.Wholes.{is_coordinate, is_place, whole_step}
use Rattle.wholes.specs.declared.WholePoint.{WholePoint}
use Rattle.wholes.proofs.Door.{x_good, y_good, z_good}
use Rattle.wholes.proofs.Laws.{under_way, under_way_lem}
use Rattle.wholes_near.specs.Metres.{metres, in_metres, progress_of, float_step, length, near_enough}
use Rattle.wholes_near.proofs.Rounding.{progress_value}
use Rattle.wholes_near.proofs.Near.{Near, near_enough_lem}
use Rattle.wholes_near.proofs.Sideways.{sideways_near}
use Rattle.wholes_near.proofs.Upwards.{upwards_near}
use Rattle.wholes_near.proofs.Ends.{target_near}

-- ---- which case of the f32 step a progress is
one_part : Part binary32 one unity 0
unfolding one over round
one_part = (refl, refl)

not_done : (p : ℕ) → p < 2048 → le one (progress_of p) ≡ false
not_done p h = by_flag (le one (progress_of p)) refl
  where
    part : Part binary32 (progress_of p) (p * 2 ^ 138) 0
    part = plus_part binary32 (progress_of p) (p * 2 ^ 138) (progress_value p (le_of_lt h))

    less : {a b : ℕ} → a + 0 ≤ 0 + b → b < a → ⊥
    less {a} {b} h k = omega (arith, h, k)

    by_flag : (b : Bool) → le one (progress_of p) ≡ b → b ≡ false
    by_flag false e = refl
    by_flag true e =
        absurd
        (less ((le_part binary32 one (progress_of p) unity 0 (p * 2 ^ 138) 0 one_part part).0 (subst T (sym e) tt))
        (mul-lt-mul_of_pos_right h (pow_pos 138)))

done : le one (progress_of 2048) ≡ true
unfolding one over progress_of round le
done = refl

-- ---- the f32 step's point: under way, and done
abbrev float_under_way : WholePoint → WholePoint → ℕ → ℕ → Point
float_under_way start target h p =
    record {
      x = part_way (progress_of p) (metres start.x) (metres target.x);
      y = part_way (progress_of p) (metres start.y) (metres target.y);
      z = add binary32 (above (metres (pos h)) (progress_of p) false) (metres start.z);
    }

module _ (start target : WholePoint) (h : ℕ) (last : Point) (away : same last (in_metres target) ≡ false) where
  float_under_way_lem : (p : ℕ) → p < 2048 → float_step start target h p last ≡ float_under_way start target h p
  unfolding float_step step_lifted_leg place_of
  float_under_way_lem p l = rw (away, not_done p l) refl

  float_done : float_step start target h 2048 last ≡ in_metres target
  unfolding float_step step_lifted_leg place_of
  float_done = rw (away, done) refl

-- ---- the theorem: each coordinate from 0.1 unit below to 1.1 above
module _ (start target : WholePoint) (h p : ℕ) (last : Point) (S : is_place start ≡ true) (D : is_place target ≡ true) (H : h ≤ 1000)
    (P : p ≤ 2048) (away : same last (in_metres target) ≡ false) where
  -- what holds of the target, and of a step under way, holds of the step
  either_way : (f : Point → Float) (g : WholePoint → ℤ) → Near (f (in_metres target)) (g target)
      → (p < 2048 → Near (f (float_under_way start target h p)) (g (under_way start target h p)))
      → Near (f (float_step start target h p last)) (g (whole_step start target h p))
  either_way f g end way = elim (lt_or_le p 2048) [ inl l ↦ before l | inr l ↦ after (le_antisymm l P) ]
    where
      before : p < 2048 → Near (f (float_step start target h p last)) (g (whole_step start target h p))
      before l =
          subst₂ (λ (q : Point) (w : WholePoint). Near (f q) (g w)) (sym (float_under_way_lem start target h last away p l))
          (sym (under_way_lem start target h p l)) (way l)

      after : 2048 ≡ p → Near (f (float_step start target h p last)) (g (whole_step start target h p))
      after e =
          subst (λ (k : ℕ). Near (f (float_step start target h k last)) (g (whole_step start target h k))) e
          (subst (λ (w : Point). Near (f w) (g target)) (sym (float_done start target h last away)) end)

  pub near_x : Near (float_step start target h p last).x (whole_step start target h p).x
  near_x =
      either_way (λ q. q.x) (λ q. q.x) (target_near target.x (x_good target D))
      (λ l. sideways_near start.x target.x p (x_good start S) (x_good target D) P)

  pub near_y : Near (float_step start target h p last).y (whole_step start target h p).y
  near_y =
      either_way (λ q. q.y) (λ q. q.y) (target_near target.y (y_good target D))
      (λ l. sideways_near start.y target.y p (y_good start S) (y_good target D) P)

  pub near_z : Near (float_step start target h p last).z (whole_step start target h p).z
  near_z =
      either_way (λ q. q.z) (λ q. q.z) (target_near target.z (z_good target D))
      (λ l. upwards_near start.z h p (z_good start S) H l)

  -- so each is within 2 units
  pub x_within_2 : Within near_enough (value (float_step start target h p last).x) (length (whole_step start target h p).x)
  x_within_2 = near_enough_lem (float_step start target h p last).x (whole_step start target h p).x near_x

  pub y_within_2 : Within near_enough (value (float_step start target h p last).y) (length (whole_step start target h p).y)
  y_within_2 = near_enough_lem (float_step start target h p last).y (whole_step start target h p).y near_y

  pub z_within_2 : Within near_enough (value (float_step start target h p last).z) (length (whole_step start target h p).z)
  z_within_2 = near_enough_lem (float_step start target h p last).z (whole_step start target h p).z near_z
