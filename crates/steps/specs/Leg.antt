-- Document 01, "Steps": one leg. "last equals target, target, not moved; progress >= 1, target, moved. Else x, y are
-- start + (target - start) * progress, and z is sine(progress * P) * height + start z, or height + start z in aggressive
-- mode while progress < 0.5."
use Rattle.commands.specs.Constants.{one}
use Rattle.std.specs.Prelude.{◌^◌, Bool, ◌&&◌}
use Rattle.std.specs.Prelude.{Float}
use Rattle.std.specs.Float.{binary32}
use Rattle.std.specs.Float.Ieee.{add, sub, mul, lt, le}
use Rattle.numbers.specs.Told.{choose}
use Rattle.numbers.specs.Limits.{over}
use Rattle.legs.specs.declared.Point.{Point}
use Rattle.sines.specs.How.{sine}
use Rattle.moves.specs.Distance.{same}
use Rattle.moves.specs.declared.Step.{Step}
use Rattle.moves.specs.declared.Step.TheVariants.{Moved, Arrived}

unfoldable pub half : Float
half = over 1 2

-- P is exactly 13176795 / 2^22
unfoldable pub half_turn : Float
half_turn = over 13176795 (2 ^ 22)

abbrev pub part_way : Float → Float → Float → Float
part_way progress start target = add binary32 start (mul binary32 (sub binary32 target start) progress)

-- the height above the start
abbrev pub above : Float → Float → Bool → Float
above height progress aggressive =
    choose (aggressive && lt progress half)
    height
    (mul binary32 (sine (mul binary32 progress half_turn)) height)

unfoldable pub step_lifted_leg : Point → Point → Point → Float → Float → Bool → Step Point
step_lifted_leg start last target height progress aggressive =
    choose (same last target)
    (Arrived target)
    (choose (le one progress)
    (Moved target)
    (Moved
    (record {
      x = part_way progress start.x target.x;
      y = part_way progress start.y target.y;
      z = add binary32 (above height progress aggressive) start.z;
    })))
