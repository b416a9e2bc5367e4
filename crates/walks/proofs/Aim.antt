-- What the facts about a walk stand on: its target and max move, and a point of it, in units.
use Rattle.std.specs.Prelude.{ℕ, ◌*◌, ◌^◌, ◌≤◌, false}
use lib.Ieee.{Float}
use lib.Ieee.Exact.{HasValue}
use Rattle.units.specs.Units.{unity, hi, lo, mag}
use Rattle.units.proofs.Held.{Single}
use Rattle.legs.specs.declared.Point.{Point}
use Rattle.moves.specs.Distance.{Each}
pub use Rattle.moves.proofs.Squares.{Fit}
use Rattle.walks.specs.Walk.{spread}

-- both parts are at most k units
abbrev pub Parts : ℕ → Float → Type 0
Parts k x = (hi x ≤ k) × (lo x ≤ k)

-- the target is at most 3 either way, the max move from 1/4096 to 1
pub record Aim (m : Float) (t : Point) : Type 0 where
  pub held : Each Fit t
  pub held_move : Fit m
  pub target : Each Single t
  pub near : Each (Parts (3 * unity)) t
  pub move : HasValue m false (mag m) unity
  pub from : 2 ^ 137 ≤ mag m
  pub to : mag m ≤ unity

-- a point on the way: f32s, at most 18 from the target in the sum of the three differences
pub record OnWay (l t : Point) : Type 0 where
  pub held : Each Fit l
  pub point : Each Single l
  pub near : spread l t ≤ 18 * unity
