-- How ours walks six feet; nothing of document 01. A foot is lifted until it is known to be at its target.
use Rattle.std.specs.Prelude.{◌≡◌, Bool, true, false, T, ◌⊎◌, from_bits}
use Rattle.std.specs.Prelude.{Float}
use Rattle.std.specs.Float.{binary32}
use Rattle.std.specs.Float.Ieee.{add, mul, le}
use Rattle.numbers.specs.Told.{choose}
use Rattle.legs.specs.Legs.{Leg, point, foot, lifted, feet}
use Rattle.legs.specs.declared.Point.{Point}
use Rattle.legs.specs.Legs.{Points}
use Rattle.legs.specs.declared.Foot.{Foot}
use Rattle.legs.specs.Legs.{Feet}
use Rattle.moves.specs.Distance.{distance, longest_distance}
use Rattle.moves.specs.Moving.{nearer}

-- a foot that is put down at t
abbrev pub put_down : Point → Foot
put_down t = record { point = t; lifted = false }

-- One step of a foot at p, lifted or not: it is put down at the target where the max move takes it there, and stays down.
unfoldable pub stride : Bool → Point → Point → Float → Foot
stride up p t m =
    choose up
    (choose (le (distance p t) m) (put_down t) (record { point = nearer (distance p t) p t m; lifted = true }))
    (put_down t)

-- one step of each foot
unfoldable pub strides : Feet → Points → Float → Feet
strides f t m = feet (λ l. stride (lifted f l) (foot f l) (point t l) m)

-- Of six feet only the slow ones are walked. A foot may be left out, at its target from the start, where its distance and one max move
-- more come to at most 27/32 of the longest distance: it arrives no later than the farthest (proofs/Outlasted).
abbrev pub share : Float
share = from_bits binary32 1062731776

abbrev pub SetOut : Float → Float → Point → Point → Point → Type 0
SetOut limit m s t p = (p ≡ s) ⊎ ((p ≡ t) × T (le (add binary32 (distance s t) m) limit))

abbrev pub SlowOnes : Float → Points → Points → Points → Type 0
SlowOnes m s t p = (l : Leg) → SetOut (mul binary32 (longest_distance s t) share) m (point s l) (point t l) (point p l)
