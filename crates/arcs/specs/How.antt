-- How ours computes arc cosine and atan2: atan2 by one division of f32 and whole numbers, arc cosine by a root before them, or, up to
-- 45/64, by whole numbers alone. Nothing of document 01. Arc cosine of what is not permitted, and atan2 of what is not finite, is +0.
-- Units: the ratio of two sides is a whole number w of 2 ^ -25, so that 2 ^ 25 is 1; an angle is one of 2 ^ -30 radians, and at the
-- end one of 2 ^ -22, of which P is 13176795.
use Rattle.std.specs.Prelude.{ℕ, ◌+◌, ◌-◌, ◌*◌, ◌/◌, ◌%◌, ◌^◌, ◌<◌, ◌≤◌, Bool, false, cond, ◌&&◌, from_bits, nat_le, nat_lt}
use Rattle.std.specs.Prelude.{Float}
use Rattle.std.specs.Float.{binary32}
use Rattle.std.specs.Float.Ieee.{units, add, sub, mul}
use Rattle.std.specs.Float.Ieee.Exact.{HasValue}
use Rattle.numbers.specs.Door.{finite, permits}
use Rattle.numbers.specs.Limits.{arc_cosine_argument}
use Rattle.numbers.specs.Told.{choose}
use Rattle.units.specs.Units.{mag, rounded, unity}
use Rattle.roots.specs.Root.{square_root}
use Rattle.arc_rows.specs.ArcTangent.{arc_tangent}
use Rattle.arc_rows.specs.ArcSine.{angle_at, slope_at, bend_at}
use Rattle.arcs.specs.Wedges.{sign_bit}

-- ---- the angle of (2 ^ 25, w), for w up to 2 ^ 25: that of (128, k), the row's, and two terms of the arc tangent's series there
-- the row k is 2 ^ 25 / 128 wide
abbrev pub table_row : ℕ → ℕ
table_row w = w / 2 ^ 18

-- how fast the angle grows at the row: 2 ^ 31 over 1 + (k / 128) ²
unfoldable pub lean : ℕ → ℕ
lean k = 2 ^ 45 / (128 * 128 + k * k)

-- the first term: what w has past the row, times how fast the angle grows; 2 ^ -25 times 2 ^ -31 is 2 ^ -30 over 2 ^ 26
abbrev pub straight : ℕ → ℕ
straight w = w % 2 ^ 18 * lean (table_row w) / 2 ^ 26

-- the second: the square of the first times k / 128; 2 ^ 37 is 2 ^ 30 times 128
abbrev pub bend : ℕ → ℕ
bend w = straight w * straight w * table_row w / 2 ^ 37

unfoldable pub slope : ℕ → ℕ
slope w = arc_tangent (table_row w) + (straight w - bend w)

-- a quarter and a half turn, in units of 2 ^ -30
abbrev pub quarter : ℕ
quarter = 1686629713

abbrev pub half : ℕ
half = 3373259426

-- the angle of (2 ^ 25, w), of (w, 2 ^ 25) where steep is true, and with its first side negative where left is true
unfoldable pub sharp : Bool → ℕ → ℕ
sharp steep w = cond steep (quarter - slope w) (slope w)

unfoldable pub wide : Bool → Bool → ℕ → ℕ
wide steep left w = cond left (half - sharp steep w) (sharp steep w)

-- from units of 2 ^ -30 to the nearest of 2 ^ -22
unfoldable pub angle : Bool → Bool → ℕ → ℕ
angle steep left w = (wide steep left w + 128) / 256

-- ---- n units of an f32, up to 1, in units of 2 ^ -25, which are 2 ^ 124 of those: with 1 before it, so that 23 digits are left
abbrev pub digits : ℕ → ℕ
digits n = (rounded (unity + n) unity - unity) / 2 ^ 124

-- u is from 0 to 1
pub record Proper (u : Float) : Type 0 where
  pub has : HasValue u false (mag u) unity
  pub most : mag u ≤ unity

-- ---- the angle of (x, y), or of (-x, y): the smaller side over the larger as an f32 has it
abbrev pub smaller : ℕ → ℕ → ℕ
smaller x y = cond (nat_lt x y) x y

abbrev pub larger : ℕ → ℕ → ℕ
larger x y = cond (nat_lt x y) y x

unfoldable pub ratio : ℕ → ℕ → ℕ
ratio u v = digits (rounded u v)

-- u and v are finite and not negative, u is at most v, and v is not zero
pub record Sorted (u v : Float) : Type 0 where
  pub first : HasValue u false (mag u) unity
  pub second : HasValue v false (mag v) unity
  pub order : mag u ≤ mag v
  pub some : 0 < mag v

abbrev pub angle_of : Bool → ℕ → ℕ → ℕ
angle_of left x y = angle (nat_lt x y) left (ratio (smaller x y) (larger x y))

-- a * 2 ^ -22 as an f32, negative where below is true: 2 ^ -22 is 2 ^ 127 units
unfoldable pub in_radians : Bool → ℕ → Float
in_radians below a = units binary32 below a 127

-- ---- atan2
unfoldable pub finite_atan2 : Float → Float → Float
finite_atan2 y x = in_radians (sign_bit y) (angle_of (sign_bit x) (mag x) (mag y))

unfoldable pub atan2 : Float → Float → Float
atan2 y x = choose (finite y && finite x) (finite_atan2 y x) (in_radians false 0)

-- ---- the angle whose cosine is w * 2 ^ -25, for w up to 45/64, or the negative of that where left is true: a quarter turn less or
-- plus the arc sine, by the polynomial of its row, the slope in units of 2 ^ -23
abbrev pub rate : ℕ → ℕ
rate w = slope_at (table_row w) + w % 2 ^ 18 * bend_at (table_row w) / 2 ^ 18

unfoldable pub arc_sine : ℕ → ℕ
arc_sine w = angle_at (table_row w) + w % 2 ^ 18 * rate w / 2 ^ 18

unfoldable pub upright : Bool → ℕ → ℕ
upright left w = (cond left (quarter + arc_sine w) (quarter - arc_sine w) + 128) / 256

-- ---- arc cosine: up to 45/64 that, else the angle of (q, root of 1 - q²), the root's number by two sums and a product
-- 45/64 in the f32's units
abbrev pub upright_most : ℕ
upright_most = 45 * 2 ^ 143

-- the f32 1, by its bits
abbrev pub float_one : Float
float_one = from_bits binary32 1065353216

unfoldable pub side : Float → Float
side q = square_root (mul binary32 (sub binary32 float_one q) (add binary32 float_one q))

unfoldable pub inside_arc_cosine : Float → Float
inside_arc_cosine q =
    choose (nat_le (mag q) upright_most) (in_radians false (upright (sign_bit q) (digits (mag q)))) (finite_atan2 (side q) q)

unfoldable pub arc_cosine : Float → Float
arc_cosine q = choose (permits arc_cosine_argument q) (inside_arc_cosine q) (in_radians false 0)
