-- What is written of an f32 is the number of parts nearest to its magnitude, ties to even; a foot's has at most nine digits.
use Rattle.std.specs.Prelude.{◌≡◌, ℕ, ◌+◌, ◌*◌, ◌%◌, ◌^◌, ◌<◌, ◌≤◌, T}
use native.Mathlib.Nat.{lt_of_mul-lt-mul_right}
use native.Mathlib.Omega.{arith}
use lib.Dec.{lit≤}
use lib.Pow.{pow_pos}
use lib.Ieee.{Float, binary32, fits}
use Rattle.numbers.specs.Door.{permits}
use Rattle.numbers.specs.Limits.{foot_limit}
use Rattle.units.specs.Units.{unity, mag, gap}
use Rattle.units.proofs.Door.{permitted_mag}
use Rattle.units.proofs.Table.{foot_ends}
use Rattle.poses.specs.Decimals.{whole_decimals, written_as}
use Rattle.poses.proofs.WholeNearest.{WholeNear, whole_near}

pub written_near : (x : Float) → WholeNear (written_as x) (whole_decimals * mag x) unity
unfolding written_as
written_near x = whole_near (whole_decimals * mag x) unity (pow_pos 149)

pub written_nearest : (x : Float) → (2 * gap (written_as x * unity) (whole_decimals * mag x) ≤ unity)
    × (2 * gap (written_as x * unity) (whole_decimals * mag x) ≡ unity → written_as x % 2 ≡ 0)
written_nearest x =
    let w = written_near x in (within (written_as x * unity) (whole_decimals * mag x) unity w.above w.below, w.tie)
  where
    within : (a b u : ℕ) → 2 * a ≤ 2 * b + u → 2 * b ≤ 2 * a + u → 2 * gap a b ≤ u
    within a b u x y = omega arith

-- ---- a foot's number
pub foot_mag : (x : Float) → T (fits binary32 x) → T (permits foot_limit x) → mag x ≤ 4 * unity
foot_mag = permitted_mag foot_limit 0 (4 * unity) (4 * unity) 0 foot_ends (4 * unity) (lit≤ tt) (lit≤ tt)

pub written_below : (x : Float) → T (fits binary32 x) → T (permits foot_limit x) → written_as x ≤ 4 * 10 ^ 8
written_below x F h = below (written_as x) (mag x) unity (pow_pos 149) (foot_mag x F h) (written_near x).above
  where
    below : (n m u : ℕ) → 0 < u → m ≤ 4 * u → 2 * (n * u) ≤ 2 * (100000000 * m) + u → n ≤ 400000000
    below n m u U a b =
        let c : 2 * n * u < 800000002 * u = omega arith in
        let d : 2 * n < 800000002 = lt_of_mul-lt-mul_right u c in
        omega arith
