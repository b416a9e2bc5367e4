-- Request K13: "x, y and z lie within 2 units of the f32 step on the same numbers (last not at the target, non-aggressive, progress p/2048,
-- lengths the f32 nearest to their metres)." The same numbers as floats, and as fractions of a metre.
use Rattle.std.specs.Prelude.{ℕ, suc, true, false, ℤ, pos, negsuc, Float}
use Rattle.std.specs.Float.{binary32}
use Rattle.std.specs.Float.Ieee.{round}
use Rattle.series.specs.Fractions.{Fraction, ◌÷◌, negative}
use Rattle.legs.specs.declared.Point.{Point}
use Rattle.moves.specs.Moving.{place_of}
use Rattle.steps.specs.Leg.{step_lifted_leg}
use Rattle.wholes.specs.declared.WholePoint.{WholePoint}

-- the f32 nearest to u / 10000
unfoldable pub metres : ℤ → Float
metres (pos n) = round binary32 false n 10000
metres (negsuc n) = round binary32 true (suc n) 10000

abbrev pub in_metres : WholePoint → Point
in_metres p = record { x = metres p.x; y = metres p.y; z = metres p.z }

-- p / 2048, which an f32 holds exactly
unfoldable pub progress_of : ℕ → Float
progress_of p = round binary32 false p 2048

-- the f32 step on the same numbers
unfoldable pub float_step : WholePoint → WholePoint → ℕ → ℕ → Point → Point
float_step start target height p last =
    place_of (step_lifted_leg (in_metres start) last (in_metres target) (metres (pos height)) (progress_of p) false)

-- u units, in metres
abbrev pub length : ℤ → Fraction
length (pos n) = n ÷ 10000
length (negsuc n) = negative (suc n ÷ 10000)

-- how far apart the two may be: 2 units
abbrev pub near_enough : Fraction
near_enough = 2 ÷ 10000
