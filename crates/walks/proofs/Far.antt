-- The distance in units: the root of the sum of three squares, each operation within one part in 1024.
use Rattle.std.specs.Prelude.{ℕ, ◌+◌, ◌-◌, ◌*◌, ◌^◌, ◌≤◌}
use native.Mathlib.Nat.{le_trans, mul-le-mul}
use native.Mathlib.Omega.{arith}
use lib.Dec.{lit≤}
use lib.Ieee.{Float}
use Rattle.units.specs.Units.{unity}
use Rattle.units.proofs.Errors.{summed, multiplied}
use Rattle.roots.proofs.Laws.{Rooted, rooted}
use Rattle.legs.specs.declared.Point.{Point}
use Rattle.moves.specs.Distance.{square_sum, distance}
use Rattle.moves.proofs.Largest.{square_sum_rootable}
use Rattle.moves.proofs.Squares.{Near, size, sq, both, all, square_sum_value}
use Rattle.walks.proofs.Arithmetic.{Dist}

pub distance_rooted : (l t : Point) → Near l t → Rooted (distance l t) (all (size t.x l.x) (size t.y l.y) (size t.z l.z))
unfolding distance
distance_rooted l t n = rooted (square_sum l t) _ (square_sum_rootable l t).held (square_sum_value l t n)

-- the root's own bounds, made crude
pub crude_low : (s q : ℕ) → (2 ^ 22 - 1) * s ≤ 2 ^ 22 * q → 1023 * s ≤ 1024 * q
crude_low s q h = omega arith

crude_up : (s q : ℕ) → 2 ^ 22 * q ≤ (2 ^ 22 + 1) * s → 1024 * q ≤ 1025 * s
crude_up s q h = omega arith

pub dist_facts : (X Y Z : ℕ) (r : Float) (w : Rooted r (all X Y Z)) → 2 ^ 137 ≤ w.q
    → Dist X Y Z (sq X) (sq Y) (sq Z) (both X Y) (all X Y Z) w.q unity
dist_facts X Y Z r w h = record {
  sx = multiplied (X * X);
  sy = multiplied (Y * Y);
  sz = multiplied (Z * Z);
  two = summed (sq X + sq Y);
  three = summed (both X Y + sq Z);
  root_up = crude_up (all X Y Z * unity) (w.q * w.q) w.up;
  root_low = crude_low (all X Y Z * unity) (w.q * w.q) w.low;
  big = le_trans {m = 2 ^ 137 * 2 ^ 137} (lit≤ tt) (mul-le-mul h h);
}
