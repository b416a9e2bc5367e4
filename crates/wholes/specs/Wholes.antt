-- Request K13: the timed leg step over whole numbers of 0.1 mm, for a leg board that has no floats at all. Words in quotes are the
-- request's. A height and a progress that are not refused are not below 0, and so are natural numbers below.
use Rattle.std.specs.Prelude.{ℕ, ◌+◌, ◌-◌, ◌*◌, ◌/◌, ◌^◌, Bool, ◌&&◌, eqb, leb, ℤ, pos, negsuc, neg_ℤ, ◌+ℤ◌, ◌-ℤ◌, ◌*ℤ◌}
use Rattle.std.specs.Int.Signed.{le_z}
use Rattle.numbers.specs.Told.{choose}
use Rattle.numbers.specs.Door.{unless}
use Rattle.series.specs.Fractions.{Fraction, ◌÷◌, whole, ◌⊗◌}
use Rattle.series.specs.Series.{S}
use Rattle.wholes.specs.declared.WholePoint.{WholePoint}

-- ---- "coordinates -40,000 to 40,000, height 0 to 1,000, progress 0 to 2,048": ends are permitted
abbrev pub in_range : ℤ → ℤ → ℤ → Bool
in_range from to n = le_z from n && le_z n to

abbrev pub is_coordinate : ℤ → Bool
is_coordinate n = in_range (neg_ℤ (pos 40000)) (pos 40000) n

abbrev pub is_place : WholePoint → Bool
is_place p = is_coordinate p.x && is_coordinate p.y && is_coordinate p.z

abbrev pub is_height : ℤ → Bool
is_height n = in_range (pos 0) (pos 1000) n

abbrev pub is_progress : ℤ → Bool
is_progress n = in_range (pos 0) (pos 2048) n

-- "Refusals: 2 for a number outside these ranges."
abbrev pub refusal : WholePoint → WholePoint → ℤ → ℤ → ℕ
refusal start target height progress =
    unless (is_place start && is_place target && is_height height && is_progress progress) 2

-- ---- "Its sine comes from a table of 1,025 entries: entry k is the whole number nearest to 16384 times S of k·P/2048."
-- the whole number nearest to a fraction that is not below 0; of two that are as near the larger
abbrev pub nearest : Fraction → ℕ
nearest a = (2 * (a.plus - a.minus) + a.over) / (2 * a.over)

-- P / 2048, P being 13176795 / 2 ^ 22
abbrev pub table_step : Fraction
table_step = 13176795 ÷ 2 ^ 33

abbrev pub table_scale : ℕ
table_scale = 16384

unfoldable pub entry : ℕ → ℕ
entry k = nearest (whole table_scale ⊗ S (whole k ⊗ table_step))

-- "Progress p uses entry p up to 1,024 and entry 2048 - p after."
abbrev pub used : ℕ → ℕ
used p = choose (leb p 1024) p (2048 - p)

-- ---- "Height and sideways shares are rounded down", towards minus infinity: n / d; and below 0, where `negsuc n` is -(n + 1), its
-- share is -(n / d + 1)
abbrev pub down : ℤ → ℕ → ℤ
down (pos n) d = pos (n / d)
down (negsuc n) d = negsuc (n / d)

-- x and y: the start, and the share of the way
abbrev pub sideways : ℤ → ℤ → ℕ → ℤ
sideways start target p = start +ℤ down ((target -ℤ start) *ℤ pos p) 2048

-- z: the start's, and the share of the height
abbrev pub upwards : ℤ → ℕ → ℕ → ℤ
upwards start height p = start +ℤ down (pos (height * entry (used p))) table_scale

-- "progress 0 to 2,048 where 2,048 is done": the target, all of it
abbrev pub whole_step : WholePoint → WholePoint → ℕ → ℕ → WholePoint
whole_step start target height p =
    choose (eqb p 2048)
    target
    (record {
      x = sideways start.x target.x p;
      y = sideways start.y target.y p;
      z = upwards start.z height p;
    })
