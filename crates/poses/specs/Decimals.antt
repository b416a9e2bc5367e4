-- Request K7: "A number has an optional minus (the sign bit, of zero too), one digit, and maybe a point with one to eight more; it is read
-- to the nearest f32, ties to even." "Writing gives eight decimals, nearest, ties to even."
-- A number of n hundred-millionths is n / 10 ^ 8; of at most nine digits, n is below 10 ^ 9.
use Rattle.std.specs.Prelude.{ℕ, suc, ◌+◌, ◌*◌, ◌/◌, ◌%◌, ◌^◌, Bool, nat_lt}
use Rattle.std.specs.Prelude.{Float}
use Rattle.std.specs.Float.{binary32}
use Rattle.std.specs.Float.Ieee.{round}
use Rattle.numbers.specs.Told.{choose}
use Rattle.units.specs.Units.{unity, mag}

abbrev pub whole_decimals : ℕ
whole_decimals = 10 ^ 8

-- read: the f32 nearest to n / 10 ^ 8, ties to even, with its sign
unfoldable pub read_as : Bool → ℕ → Float
unfolding round
read_as minus n = round binary32 minus n whole_decimals

-- the whole number nearest to a / c, ties to even
unfoldable pub nearest_whole : ℕ → ℕ → ℕ
nearest_whole a c =
    choose (nat_lt (2 * (a % c)) c) (a / c) (choose (nat_lt c (2 * (a % c))) (suc (a / c)) (a / c + a / c % 2))

-- written: the magnitude's nearest number of hundred-millionths
unfoldable pub written_as : Float → ℕ
unfolding nearest_whole mag
written_as x = nearest_whole (whole_decimals * mag x) unity
