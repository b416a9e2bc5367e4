-- Numbers written and read, by computation: ties to even, the last before 1, either side of half a step above 4, and -0.
use Rattle.std.specs.Prelude.{◌≡◌, true, false, negsuc}
use mathlib.Core.Path.{refl}
use lib.Ieee.{fin, binary32, of_bits}
use Rattle.poses.specs.Decimals.{read_as, written_as}

-- 2 ^ -9 is 195312.5 parts, and 3 * 2 ^ -9 is 585937.5
tie_down : written_as (fin false 1 (negsuc 8)) ≡ 195312
unfolding written_as
tie_down = refl

tie_up : written_as (fin false 3 (negsuc 8)) ≡ 585938
unfolding written_as
tie_up = refl

-- 1 - 2 ^ -24
before_one : written_as (of_bits binary32 0x3f7f_ffff) ≡ 99999994
unfolding written_as of_bits
before_one = refl

-- 4, and the next, 2 ^ -21 more, of which half is 0.00000023841..
still_four : read_as false 400000023 ≡ of_bits binary32 0x4080_0000
unfolding read_as of_bits
still_four = refl

after_four : read_as false 400000024 ≡ of_bits binary32 0x4080_0001
unfolding read_as of_bits
after_four = refl

minus_zero : read_as true 0 ≡ of_bits binary32 0x8000_0000
unfolding read_as of_bits
minus_zero = refl
