-- A leg's step as ours computes it is document 01's: where the sine is not asked for, the height does not need it.
use Rattle.commands.specs.Constants.{nought, one}
use Rattle.std.specs.Prelude.{◌≡◌, Bool, true, false, ◌&&◌, ◌||◌}
use mathlib.Core.Path.{refl}
use lib.Ieee.{Float, binary32, add, mul, lt, le}
use Rattle.numbers.specs.Told.{choose}
use Rattle.legs.specs.declared.Point.{Point}
use Rattle.sines.specs.How.{sine}
use Rattle.moves.specs.Distance.{same}
use Rattle.moves.specs.declared.Step.{Step}
use Rattle.moves.specs.declared.Step.TheVariants.{Moved, Arrived}
use Rattle.steps.specs.Leg.{half, half_turn, part_way, step_lifted_leg}
use Rattle.steps.specs.How.{at_once, swing, raised, leg_at}

module _ (start last target : Point) (height progress sine' : Float) where
  at_height : Bool → Float → Step Point
  at_height done up =
      choose (same last target)
      (Arrived target)
      (choose done
      (Moved target)
      (Moved
      (record {
        x = part_way progress start.x target.x;
        y = part_way progress start.y target.y;
        z = add binary32 up start.z;
      })))

  unasked : (now done : Bool)
      → at_height done (choose now height (mul binary32 (choose (now || done) nought sine') height))
      ≡ at_height done (choose now height (mul binary32 sine' height))
  unfolding at_height
  unasked true true = refl
  unasked true false = refl
  unasked false true = refl
  unasked false false = refl

pub leg_is : (start last target : Point) (height progress : Float) (aggressive : Bool)
    → leg_at start last target progress
    (raised (at_once aggressive progress) (swing (at_once aggressive progress) progress) height)
    ≡ step_lifted_leg start last target height progress aggressive
unfolding at_height leg_at raised at_once swing step_lifted_leg
leg_is s l t h p a = unasked s l t h p (sine (mul binary32 p half_turn)) (a && lt p half) (le one p)
