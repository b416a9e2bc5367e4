-- Request K14: "no coordinate leaves the interval from its start to its target by more than 2^-18 m, and a coordinate that has not yet
-- reached its target never moves away from it. A coordinate that begins equal to its target stays there."
-- All of it as numbers and without rounding; a coordinate may pass its target, within the margin (proofs/Examples has one that does).
use Rattle.std.specs.Prelude.{ℕ, ◌+◌, ◌^◌, ◌≤◌, T, ◌⊎◌}
use Rattle.std.specs.Prelude.{Float}
use Rattle.std.specs.Float.Ieee.{eq}
use Rattle.units.specs.Units.{hi, lo, apart}
use Rattle.legs.specs.declared.Point.{Point}

-- 2^-18 m, in units of 2^-149 m
abbrev pub margin : ℕ
margin = 2 ^ 131

-- x is at most k units above y
abbrev pub AtMostAbove : ℕ → Float → Float → Type 0
AtMostAbove k x y = hi x + lo y ≤ lo x + hi y + k

-- p is at most k units below the lower of s and t
abbrev pub NotBelow : ℕ → Float → Float → Float → Type 0
NotBelow k s t p = AtMostAbove k s p ⊎ AtMostAbove k t p

-- p is at most k units above the higher of s and t
abbrev pub NotAbove : ℕ → Float → Float → Float → Type 0
NotAbove k s t p = AtMostAbove k p s ⊎ AtMostAbove k p t

-- a coordinate that began at s and has its target at t, in a step from l to p
pub record Tame (s t l p : Float) : Type 0 where
  pub low : NotBelow margin s t p
  pub high : NotAbove margin s t p
  pub no_farther : apart t p ≤ apart t l
  pub level : T (eq s t) → T (eq p t)

-- all three coordinates
pub record TamePoint (s t l p : Point) : Type 0 where
  pub x : Tame s.x t.x l.x p.x
  pub y : Tame s.y t.y l.y p.y
  pub z : Tame s.z t.z l.z p.z
