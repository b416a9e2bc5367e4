-- What the walks behind the door ask for, so that they end: finite numbers, coordinates to 3 m either way, a max move from 1/4096 m to 1 m.
-- It is exactly what the door lets in, said in units; both ways are proved (proofs/Door).
use Rattle.std.specs.Prelude.{ℕ, ◌*◌, ◌^◌, ◌≤◌, T}
use Rattle.std.specs.Prelude.{Float}
use Rattle.numbers.specs.Door.{finite}
use Rattle.units.specs.Units.{unity, hi, mag}
use Rattle.legs.specs.Legs.{Leg, point}
use Rattle.legs.specs.declared.Point.{Point}
use Rattle.legs.specs.Legs.{Points}
use Rattle.moves.specs.Distance.{Each}

-- finite, and at most k units in magnitude
abbrev pub AtMost : ℕ → Float → Type 0
AtMost k x = T (finite x) × (mag x ≤ k)

pub record Reach (m : Float) (s t : Point) : Type 0 where
  pub start : Each (AtMost (3 * unity)) s
  pub target : Each (AtMost (3 * unity)) t
  pub move : T (finite m)
  pub from : 2 ^ 137 ≤ hi m
  pub to : hi m ≤ unity

abbrev pub ReachFeet : Float → Points → Points → Type 0
ReachFeet m s t = (l : Leg) → Reach m (point s l) (point t l)
