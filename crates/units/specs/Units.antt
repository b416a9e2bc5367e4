-- A finite float as a whole number of units. The unit of a format is its smallest value above zero: 2 ^ -149 for f32.
-- Signs are told by parts: a number is p - n units, of which one is 0. So an order, a sum and an error are each linear, and no whole
-- number is negative. These are the words in which the rooms above state their laws; some of them stand in contracts.
use Rattle.std.specs.Prelude.{◌≡◌, ℕ, ◌+◌, ◌-◌, ◌*◌, ◌/◌, ◌^◌, true, false, Float}
use Rattle.std.specs.Float.{nan, inf, fin, Format, binary32}
use Rattle.std.specs.Float.Ieee.{low, up, down}
use Rattle.std.specs.Float.Ieee.Scale.{grid}

-- the number 1, in units of the format; of f32 it is 2 ^ 149
abbrev pub one : Format → ℕ
one f = 2 ^ low f

abbrev pub unity : ℕ
unity = 2 ^ 149

-- x is finite, and it is p - n units of the format f, where p is 0 for a negative x and n is 0 for the others
abbrev pub Part : Format → Float → ℕ → ℕ → Type 0
Part f nan p n = ⊥
Part f (inf s) p n = ⊥
Part f (fin false m e) p n = (m * up e * one f ≡ p * down e) × (n ≡ 0)
Part f (fin true m e) p n = (m * up e * one f ≡ n * down e) × (p ≡ 0)

-- the two parts of an f32, and its magnitude; 0 for a NaN and an infinity
unfoldable pub hi : Float → ℕ
hi nan = 0
hi (inf s) = 0
hi (fin false m e) = m * up e * unity / down e
hi (fin true m e) = 0

unfoldable pub lo : Float → ℕ
lo nan = 0
lo (inf s) = 0
lo (fin false m e) = 0
lo (fin true m e) = m * up e * unity / down e

unfoldable pub mag : Float → ℕ
mag nan = 0
mag (inf s) = 0
mag (fin s m e) = m * up e * unity / down e

-- x is finite, and a whole number of units: every finite f32 is
abbrev pub Units : Float → Type 0
Units x = Part binary32 x (hi x) (lo x)

-- a whole number of units that an f32 is
abbrev pub Exact : ℕ → Type 0
Exact a = grid binary32 a unity ≡ a

-- how far apart two whole numbers are, and two f32 in units
abbrev pub gap : ℕ → ℕ → ℕ
gap a b = a - b + (b - a)

abbrev pub apart : Float → Float → ℕ
apart x y = gap (hi x + lo y) (lo x + hi y)

-- a / c rounded to an f32, in units: the nearest, ties to even
abbrev pub rounded : ℕ → ℕ → ℕ
rounded a c = grid binary32 a c
