-- None of the f32 step's floats is outside document 01's table: a point's coordinates are within 4 m, a height within 1 m, and a progress
-- is a number. So the f32 step refuses none of them. Assumes nothing.
use Prim.Native.Nat.{ℕ, suc, ◌+◌, ◌*◌, ◌^◌, ◌≤◌, ◌<◌, zero-le}
use mathlib.Core.Path.{◌≡◌, subst}
use mathlib.Core.Bool.{true, false, ◌&&◌}
use native.Mathlib.Nat.{le_trans, le_of_eq, lt_of_le_of_lt, mul-le-mul_right}
use native.Mathlib.Omega.{arith}
use lib.Dec.{T, lit<, lit≤}
use lib.IntN.{ℤ, pos, negsuc}
use lib.Ieee.{Float, binary32, round}
use lib.Ieee.Fits.{and_i}
use Rattle.numbers.specs.Door.{finite, permits}
use Rattle.numbers.specs.Limits.{foot_limit, direction}
use Rattle.units.specs.Units.{unity, Part, rounded}
use Rattle.units.proofs.Grid.{grid_mono}
use Rattle.units.proofs.Held.{grid_exact}
use Rattle.units.proofs.Values.{round_value, plus_part, minus_part}
use Rattle.units.proofs.Errors.{unity_pos}
use Rattle.units.proofs.Door.{permits_part, finite_of}
use Rattle.units.proofs.Table.{foot_ends, direction_ends}
use Rattle.legs.specs.Legs.{permitted_point}
use Rattle.legs.specs.declared.Point.{Point}
use Rattle.wholes.specs.Wholes.{is_coordinate, is_place}
use Rattle.wholes.specs.declared.WholePoint.{WholePoint}
use Rattle.wholes.proofs.Ranges.{coordinate}
use Rattle.wholes.proofs.Door.{x_good, y_good, z_good}
use Rattle.wholes_near.specs.Metres.{metres, in_metres, progress_of}
use Rattle.wholes_near.proofs.Rounding.{length_held, progress_value}

-- rounding does not pass a whole metre
not_past : (n k : ℕ) → k ≤ 4 → n ≤ k * 10000 → rounded n 10000 ≤ k * unity
not_past n k K h =
    le_trans
    (grid_mono binary32 n 10000 (k * unity) unity (lit< tt) unity_pos (le_trans (mul-le-mul_right unity h) (le_of_eq (regrouped k unity))))
    (le_of_eq (grid_exact binary32 k 149 (lt_of_le_of_lt K (lit< tt)) (lt_of_le_of_lt (mul-le-mul_right unity K) (lit< tt))))
  where
    regrouped : (k u : ℕ) → k * 10000 * u ≡ k * u * 10000
    regrouped k u = omega arith

below : (a b : ℕ) → a ≤ b → a + 0 ≤ 0 + b
below a b h = omega (arith, h)

above : (a b : ℕ) → a ≤ b → 0 + a ≤ b + 0
above a b h = omega (arith, h)

pub length_permitted : (u : ℤ) → is_coordinate u ≡ true → T (permits foot_limit (metres u))
unfolding metres
length_permitted (pos n) h =
    let l = (coordinate (pos n) h).plus_most in
    permits_part foot_limit 0 (4 * unity) (4 * unity) 0 foot_ends (round binary32 false n 10000) (rounded n 10000) 0
    (plus_part binary32 (round binary32 false n 10000) (rounded n 10000) (round_value binary32 false n 10000 (length_held n l))) zero-le
    (below (rounded n 10000) (4 * unity) (not_past n 4 (lit≤ tt) l))
length_permitted (negsuc n) h =
    let l = (coordinate (negsuc n) h).minus_most in
    permits_part foot_limit 0 (4 * unity) (4 * unity) 0 foot_ends (round binary32 true (suc n) 10000) 0 (rounded (suc n) 10000)
    (minus_part binary32 (round binary32 true (suc n) 10000) (rounded (suc n) 10000)
    (round_value binary32 true (suc n) 10000 (length_held (suc n) l)))
    (above (rounded (suc n) 10000) (4 * unity) (not_past (suc n) 4 (lit≤ tt) l)) zero-le

pub point_permitted : (p : WholePoint) → is_place p ≡ true → T (permitted_point foot_limit (in_metres p))
unfolding permitted_point
point_permitted p h =
    let x = permits foot_limit (metres p.x) in
    let y = permits foot_limit (metres p.y) in
    let z = permits foot_limit (metres p.z) in
    and_i (x && y) z (and_i x y (length_permitted p.x (x_good p h)) (length_permitted p.y (y_good p h)))
    (length_permitted p.z (z_good p h))

pub height_permitted : (h : ℕ) → h ≤ 1000 → T (permits direction (metres (pos h)))
unfolding metres
height_permitted h l =
    permits_part direction 0 unity unity 0 direction_ends (round binary32 false h 10000) (rounded h 10000) 0
    (plus_part binary32 (round binary32 false h 10000) (rounded h 10000)
    (round_value binary32 false h 10000 (length_held h (le_trans l (lit≤ tt))))) zero-le
    (below (rounded h 10000) unity
    (subst (λ (w : ℕ). rounded h 10000 ≤ w) (one_times unity) (not_past h 1 (lit≤ tt) (le_trans l (lit≤ tt)))))
  where
    one_times : (u : ℕ) → 1 * u ≡ u
    one_times u = omega arith

pub progress_finite : (p : ℕ) → p ≤ 2048 → T (finite (progress_of p))
progress_finite p h = finite_of (progress_of p) false (p * 2 ^ 138) unity (progress_value p h)
