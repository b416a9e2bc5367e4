-- Angles by computation, as the joint solvers meet them: of what lies straight ahead, straight to the left, to the left and back, and to
-- the right and back. Straight to the left is 3fc90fda, one place under the f32 of 90 degrees.
use Rattle.std.specs.Prelude.{◌≡◌, ℕ}
use mathlib.Core.Path.{refl}
use lib.Ieee.{binary32, of_bits, units, round, le}
use Rattle.numbers.specs.Door.{finite}
use Rattle.numbers.specs.Limits.{arc_cosine_argument}
use Rattle.units.specs.Units.{mag, hi, lo}
use Rattle.arc_rows.specs.ArcTangent.{arc_tangent}
use Rattle.arc_rows.specs.ArcSine.{angle_at, slope_at, bend_at}
use Rattle.arcs.specs.Wedges.{sign_bit}
use Rattle.arcs.specs.How.{lean, slope, sharp, wide, angle, ratio, in_radians, finite_atan2, atan2}
use Rattle.arcs.specs.How.{arc_sine, upright, inside_arc_cosine, arc_cosine}

-- the angle of (x, y), all by their bits
abbrev Angle : ℕ → ℕ → ℕ → Type 0
Angle x y a = atan2 (of_bits binary32 y) (of_bits binary32 x) ≡ of_bits binary32 a

computed :
    Angle 0x3e80_0000 0 0
    × Angle 0 0x3f80_0000 0x3fc9_0fda
    × Angle 0xbe00_0000 0x3e80_0000 0x4002_3454
    × Angle 0xbe00_0000 0xbe80_0000 0xc002_3454
unfolding atan2 finite_atan2 in_radians angle wide sharp slope lean ratio arc_tangent sign_bit mag hi lo units round finite of_bits
computed = (refl, refl, refl, refl)

pub straight_ahead : Angle 0x3e80_0000 0 0
straight_ahead = computed.0

pub straight_left : Angle 0 0x3f80_0000 0x3fc9_0fda
straight_left = computed.1

pub left_and_back : Angle 0xbe00_0000 0x3e80_0000 0x4002_3454
left_and_back = computed.2

pub right_and_back : Angle 0xbe00_0000 0xbe80_0000 0xc002_3454
right_and_back = computed.3

-- straight ahead, at the ends of a leg's reach and one place past them
pub at_the_ends :
    Angle 0x3ea0_0000 0 0
    × Angle 0x3ea0_0001 0 0
    × Angle 0x3d80_0000 0 0
    × Angle 0x3e40_0000 0 0
    × Angle 0x3e3f_ffff 0 0
    × Angle 0x3f88_8000 0 0
unfolding atan2 finite_atan2 in_radians angle wide sharp slope lean ratio arc_tangent sign_bit mag hi lo units round finite of_bits
at_the_ends = (refl, refl, refl, refl, refl, refl)

-- arc cosine by its table: of 0, of a half and its negative, 60 and 120 degrees, and of 45/64 and its negative, the last ones there
abbrev Arc : ℕ → ℕ → Type 0
Arc q a = arc_cosine (of_bits binary32 q) ≡ of_bits binary32 a

by_the_table :
    Arc 0 0x3fc9_0fda
    × Arc 0x3f00_0000 0x3f86_0a92
    × Arc 0xbf00_0000 0x4006_0a92
    × Arc 0x3f34_0000 0x3f4a_7fdc
    × Arc 0xbf34_0000 0x4016_6fe4
unfolding arc_cosine inside_arc_cosine upright arc_sine angle_at slope_at bend_at in_radians sign_bit mag hi lo units round finite of_bits
    arc_cosine_argument le
by_the_table = (refl, refl, refl, refl, refl)
