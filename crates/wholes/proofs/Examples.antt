-- Worked examples of request K13, by computing the definitions: four entries of the table, and steps at the ends, in the middle, below 0
-- and refused.
use mathlib.Core.Path.{◌≡◌, refl}
use lib.IntN.{ℤ, pos, negsuc}
use Rattle.numbers.specs.Told.{refused}
use Rattle.series.specs.Series.{S, factorial, power, alternating}
use Rattle.wholes.specs.Wholes.{entry}
use Rattle.wholes.specs.Answers.{given_point, step_leg_told}
use Rattle.wholes.specs.declared.WholePoint.{WholePoint}

abbrev pub point : ℤ → ℤ → ℤ → WholePoint
point x y z = record { x = x; y = y; z = z }

pub entry_0 : entry 0 ≡ 0
unfolding entry S alternating power factorial
entry_0 = refl

pub entry_1 : entry 1 ≡ 25
unfolding entry S alternating power factorial
entry_1 = refl

pub entry_512 : entry 512 ≡ 11585
unfolding entry S alternating power factorial
entry_512 = refl

pub entry_1024 : entry 1024 ≡ 16384
unfolding entry S alternating power factorial
entry_1024 = refl

-- a share of -1/2048 is -1
pub one : step_leg_told (point (pos 0) (pos 0) (pos 0)) (point (pos 1) (negsuc 0) (pos 5)) (pos 1000) (pos 1)
    ≡ given_point (point (pos 0) (negsuc 0) (pos 1))
unfolding entry S alternating power factorial
one = refl

-- the middle: entry 1,024 whole
pub half : step_leg_told (point (pos 0) (pos 0) (pos 7)) (point (pos 1) (negsuc 0) (pos 5)) (pos 1000) (pos 1024)
    ≡ given_point (point (pos 0) (negsuc 0) (pos 1007))
unfolding entry S alternating power factorial
half = refl

-- entry 1 once more, one step before the end: 655 of it is below 1 and 656 is not
pub before_the_end : step_leg_told (point (pos 10) (pos 20) (pos 30)) (point (negsuc 9) (negsuc 19) (negsuc 29)) (pos 655) (pos 2047)
    ≡ given_point (point (negsuc 9) (negsuc 19) (pos 30))
unfolding entry S alternating power factorial
before_the_end = refl

pub a_little_higher : step_leg_told (point (pos 10) (pos 20) (pos 30)) (point (negsuc 9) (negsuc 19) (negsuc 29)) (pos 656) (pos 2047)
    ≡ given_point (point (negsuc 9) (negsuc 19) (pos 31))
unfolding entry S alternating power factorial
a_little_higher = refl

-- done
pub done : step_leg_told (point (pos 10) (pos 20) (pos 30)) (point (negsuc 9) (negsuc 19) (negsuc 29)) (pos 655) (pos 2048)
    ≡ given_point (point (negsuc 9) (negsuc 19) (negsuc 29))
unfolding entry S alternating power factorial
done = refl

-- from end to end of the ranges, past the middle
pub end_to_end : step_leg_told (point (negsuc 39999) (pos 40000) (pos 40000)) (point (pos 40000) (negsuc 39999) (pos 0)) (pos 1000)
    (pos 1536)
    ≡ given_point (point (pos 20000) (negsuc 19999) (pos 40707))
unfolding entry S alternating power factorial
end_to_end = refl

-- three numbers outside their ranges, one number
pub outside : step_leg_told (point (pos 0) (pos 0) (pos 0)) (point (pos 0) (pos 0) (negsuc 40000)) (pos 1001) (pos 2049) ≡ refused 2
outside = refl
