-- How ours computes sine and cosine, in whole numbers: nothing of document 01. Outside the table of permitted numbers the cores give +0.
-- Each whole number counts a unit: the argument 2 ^ -35, an entry of the tables 2 ^ -30, what is computed of the rest 2 ^ -32, a product
-- of these two 2 ^ -62, the result 2 ^ -24.
use Rattle.std.specs.Prelude.{ℕ, ◌+◌, ◌-◌, ◌*◌, ◌/◌, ◌%◌, ◌^◌, Bool, false, cond, pos, negsuc, ◌-ℤ◌, nat_lt, to_bits}
use Rattle.std.specs.Prelude.{Float}
use Rattle.std.specs.Float.{fin, binary32}
use Rattle.std.specs.Float.Ieee.{mul, neg, of_int}
use Rattle.numbers.specs.Door.{permits}
use Rattle.numbers.specs.Limits.{sine_argument}
use Rattle.units.specs.Patterns.{sign_set, bare}
use Rattle.sines.specs.declared.unchecked.Turn.{Turn}
use Rattle.sines.specs.declared.table.Eighths.{Eighths}
use Rattle.series.specs.Working.{ev, sin_p, sin_m, cos_p, cos_m, denominator}

-- ---- the numerals
-- 16, the largest argument, and an eighth, as counts of 2 ^ -35
abbrev pub sixteen : ℕ
sixteen = 16 * 2 ^ 35

abbrev pub eighth : ℕ
eighth = 2 ^ 32

-- 1 as a count of the tables' unit, of the rest's and of the result's
abbrev pub table_one : ℕ
table_one = 2 ^ 30

abbrev pub rest_one : ℕ
rest_one = 2 ^ 32

abbrev pub result_one : ℕ
result_one = 2 ^ 24

-- so many of the products' unit, 2 ^ -62, are one of the result's, 2 ^ -24
abbrev pub result_unit : ℕ
result_unit = 2 ^ 38

-- what is added to a result so that it is not negative: 5/4, as a count of its unit
abbrev pub surplus : ℕ
surplus = 5 * 2 ^ 22

-- the bits of 2 ^ -12, below which no table is asked, and those of 16
abbrev pub tiny_bits : ℕ
tiny_bits = 115 * 2 ^ 23

abbrev pub sixteen_bits : ℕ
sixteen_bits = 131 * 2 ^ 23

-- ---- the tables: 1 + S (j / 8) and 1 + C (j / 8), to the nearest count
abbrev pub nearest : ℕ → ℕ → ℕ → ℕ
nearest plus minus over = (2 * (table_one * (over + plus - minus)) + over) / (2 * over)

unfoldable pub sine_entry : ℕ → ℕ
unfolding ev sin_p sin_m denominator
sine_entry j = nearest (ev 8 j sin_p) (ev 8 j sin_m) (denominator 8)

unfoldable pub cosine_entry : ℕ → ℕ
unfolding ev cos_p cos_m denominator
cosine_entry j = nearest (ev 8 j cos_p) (ev 8 j cos_m) (denominator 8)

-- ---- the argument, from the bits without the sign of an f32 from 2 ^ -12 to 16: whole eighths and the rest
unfoldable pub fixed : ℕ → ℕ
fixed m = (2 ^ 23 + m % 2 ^ 23) * 2 ^ (m / 2 ^ 23 - 115)

abbrev pub eighths : ℕ → ℕ
eighths x = x / eighth

abbrev pub rest : ℕ → ℕ
rest x = x % eighth

-- ---- cosine and sine of the rest: 1 - z^2/128 + z^4/98304 and z/8 - z^3/3072 + z^5/3932160, where z is 8 times the rest. So r, which
-- counts 2 ^ -35 of the rest, counts 2 ^ -32 of z, and q those of z^2. The 20 stand for the terms that are left out.
abbrev pub square_factor : ℕ
square_factor = rest_one / 128

abbrev pub fourth_factor : ℕ
fourth_factor = rest_one / 98304 - 20

abbrev pub line_factor : ℕ
line_factor = rest_one / 8

abbrev pub cube_factor : ℕ
cube_factor = rest_one / 3072

abbrev pub fifth_factor : ℕ
fifth_factor = rest_one / 3932160

abbrev pub square : ℕ → ℕ
square r = r * r / rest_one

unfoldable pub even : ℕ → ℕ
even q = rest_one - q * (square_factor - q * fourth_factor / rest_one) / rest_one

unfoldable pub odd : ℕ → ℕ → ℕ
odd r q = r * (line_factor - q * (cube_factor - q * fifth_factor / rest_one) / rest_one) / rest_one

-- ---- by the sums of two angles, as counts of the result's unit, to the nearest, and the surplus
unfoldable pub sine_sum : ℕ → ℕ → ℕ → ℕ → ℕ
sine_sum s c a b = (surplus * result_unit - table_one * (a + b) + s * a + c * b + result_unit / 2) / result_unit

unfoldable pub cosine_sum : ℕ → ℕ → ℕ → ℕ → ℕ
cosine_sum s c a b = (surplus * result_unit - table_one * a + table_one * b + c * a - s * b + result_unit / 2) / result_unit

unfoldable pub fixed_sine : ℕ → ℕ
fixed_sine x =
    sine_sum (sine_entry (eighths x)) (cosine_entry (eighths x)) (even (square (rest x))) (odd (rest x) (square (rest x)))

unfoldable pub fixed_cosine : ℕ → ℕ
fixed_cosine x =
    cosine_sum (sine_entry (eighths x)) (cosine_entry (eighths x)) (even (square (rest x))) (odd (rest x) (square (rest x)))

-- ---- to an f32: so many of the last place, less the surplus
unfoldable pub counted : Float → ℕ → Float
counted last w = mul binary32 (of_int binary32 (pos w -ℤ pos surplus)) last

-- the last place of a result: its unit, 2 ^ -24, with the sign of the argument
abbrev pub last_place : Bool → Float
last_place s = fin s 1 (negsuc 23)

abbrev pub centred : ℕ → Float
centred w = counted (last_place false) w

-- ---- the functions
unfoldable pub inside_sine : Float → Float
inside_sine x =
    let b = to_bits binary32 x in
    let y = centred (fixed_sine (fixed (bare b))) in
    cond (nat_lt (bare b) tiny_bits) x (cond (sign_set b) (neg y) y)

unfoldable pub inside_cosine : Float → Float
inside_cosine x =
    let b = to_bits binary32 x in
    cond (nat_lt (bare b) tiny_bits) (fin false 1 (pos 0)) (centred (fixed_cosine (fixed (bare b))))

-- x as it is asked of the table: a count of 2 ^ -35, 1 where it is below 2 ^ -12, and 0 outside the table of permitted numbers
unfoldable pub count : Float → ℕ
count x =
    let m = bare (to_bits binary32 x) in
    cond (permits sine_argument x) (cond (nat_lt m tiny_bits) 1 (fixed m)) 0

unfoldable pub sine : Float → Float
sine x = cond (permits sine_argument x) (inside_sine x) (fin false 0 (pos 0))

unfoldable pub cosine : Float → Float
cosine x = cond (permits sine_argument x) (inside_cosine x) (fin false 0 (pos 0))

-- ---- both at once
abbrev pub turn : Float → Turn
turn x = record { sine = sine x; cosine = cosine x }

-- what the table has at the whole eighths of a count
abbrev pub entry_at : ℕ → Eighths
entry_at n = record { 0 = sine_entry (eighths n); 1 = cosine_entry (eighths n) }
