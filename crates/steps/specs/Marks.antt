-- Request K12: "a step sets it on each moved leg of the lifted tripod, unless the new point equals the target, which clears it. Every other
-- foot .. keeps the mark it had". A leg moved where its last point is not its target's; both equalities are of points, as numbers. The mark
-- that a foot had is last's: those of start and target mean nothing, so that of the target its points are taken.
use Rattle.std.specs.Prelude.{Bool, not, ◌&&◌}
use Rattle.numbers.specs.Told.{choose}
use Rattle.legs.specs.Legs.{Leg, point, foot, lifted, marked}
use Rattle.legs.specs.declared.Point.{Point}
use Rattle.legs.specs.Legs.{Points}
use Rattle.legs.specs.Legs.{Feet}
use Rattle.moves.specs.Distance.{same}
use Rattle.commands.specs.Tripods.{has}
use Rattle.commands.specs.declared.Tripod.{Tripod}

-- one leg, by whether it is of the lifted tripod, the mark it had, and its last, target and new points
unfoldable pub mark_after : Bool → Bool → Point → Point → Point → Bool
mark_after in_tripod had last target new = choose (in_tripod && not (same last target)) (not (same new target)) had

abbrev pub step_mark : Tripod → Feet → Points → Points → Leg → Bool
step_mark tripod last target new l = mark_after (has tripod l) (lifted last l) (foot last l) (point target l) (point new l)

-- the feet of a step that brought the points there
unfoldable pub stepped : Tripod → Feet → Points → Points → Feet
stepped tripod last target new = marked (step_mark tripod last target new) new
