-- An f32 between two whole numbers, and records whose floats are f32.
use Rattle.std.specs.Prelude.{ℕ, ◌*◌, ◌≤◌, T, Float}
use Rattle.std.specs.Float.{binary32}
use Rattle.std.specs.Float.Ieee.{fits}
use Rattle.units.specs.Units.{unity, Units, hi, lo}
use Rattle.legs.specs.Legs.{Leg, foot}
use Rattle.legs.specs.declared.Point.{Point}
use Rattle.legs.specs.Legs.{Feet}

-- x is an f32 from -n to p
pub record Between (n p : ℕ) (x : Float) : Type 0 where
  pub held : T (fits binary32 x)
  pub ok : Units x
  pub low : lo x ≤ n * unity
  pub high : hi x ≤ p * unity

-- the coordinates are f32: so is every point that code holds
pub record HeldPoint (p : Point) : Type 0 where
  pub x : T (fits binary32 p.x)
  pub y : T (fits binary32 p.y)
  pub z : T (fits binary32 p.z)

abbrev pub HeldFeet : Feet → Type 0
HeldFeet f = (l : Leg) → HeldPoint (foot f l)

-- all three coordinates are from -n to n
pub record PointBounds (n : ℕ) (p : Point) : Type 0 where
  pub x : Between n n p.x
  pub y : Between n n p.y
  pub z : Between n n p.z
