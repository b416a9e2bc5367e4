-- How many steps a walk can have at most: S is at most 18 m and the max move at least 1/4096 m, so 2 * 18 * 4096 + 1 = 147,457.
use Rattle.std.specs.Prelude.{ℕ, ◌+◌, ◌*◌, ◌^◌, ◌<◌, ◌≤◌}
use native.Mathlib.Nat.{lt_of_lt_of_le, mul-le-mul_left, le_of_mul-le-mul_right}
use native.Mathlib.Omega.{arith}
use lib.Pow.{pow_pos}
use Rattle.units.specs.Units.{unity}

-- k * M ≤ 2 * S + M, where 2 * S is at most n times the least M
most_steps : (k M a n v : ℕ) → 0 < M → v ≤ M → 2 * a ≤ n * v → k * M ≤ 2 * a + M → k ≤ n + 1
most_steps k M a n v p h g b =
    let c : n * v ≤ n * M = mul-le-mul_left n h in
    le_of_mul-le-mul_right {m = k} {n = n + 1} {k = M} (omega arith) p

pub few_steps : (k M S : ℕ) → 2 ^ 137 ≤ M → S ≤ 18 * unity → k * M ≤ 2 * S + M → k ≤ 147457
few_steps k M S h near b = most_steps k M S 147456 (2 ^ 137) (lt_of_lt_of_le (pow_pos 137) h) h (twice S (18 * unity) near) b
  where
    twice : (a b : ℕ) → a ≤ b → 2 * a ≤ 2 * b
    twice a b h = omega arith
