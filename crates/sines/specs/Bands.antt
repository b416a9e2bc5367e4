-- Document 01, "Numbers with bounds": sine and cosine for |x| up to 16 are within 2 ^ -21 of the sums S and C; sine of a zero is that
-- zero, cosine of a zero is 1.
use Rattle.std.specs.Prelude.{◌≡◌, ◌^◌, Bool, false, T, pos}
use Rattle.std.specs.Prelude.{Float}
use Rattle.std.specs.Float.{fin}
use Rattle.numbers.specs.Door.{finite}
use Rattle.series.specs.Fractions.{Fraction, ◌÷◌, Within, value}
use Rattle.series.specs.Series.{S, C}

-- how far they may be off
abbrev pub band : Fraction
band = 1 ÷ 2 ^ 21

-- r is the sine of x
pub record SineOf (x r : Float) : Type 0 where
  pub is_number : T (finite r)
  pub within : Within band (value r) (S (value x))
  pub of_zero : (s : Bool) → x ≡ fin s 0 (pos 0) → r ≡ x

-- r is the cosine of x
pub record CosineOf (x r : Float) : Type 0 where
  pub is_number : T (finite r)
  pub within : Within band (value r) (C (value x))
  pub of_zero : (s : Bool) → x ≡ fin s 0 (pos 0) → r ≡ fin false 1 (pos 0)
