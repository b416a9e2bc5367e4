-- `sines::fixed::odd_part` meets its contract. Each product stays below 2 ^ 64, and what is taken away below what it is taken from.
use Rattle.std.specs.Prelude.{ℕ, ◌-◌, ◌*◌, ◌/◌, ◌<◌, ◌≤◌}
use mathlib.Core.Path.{refl}
use native.Mathlib.Nat.{mul-le-mul, le_of_lt}
use native.Mathlib.Omega.{arith}
use Rattle.sines.specs.How.{line_factor, cube_factor, fifth_factor, rest_one, odd}
use Rattle.sines.proofs.Rest.{odd_le, part_le}
use Rattle.sines.proofs.fixed.odd_part.Goals as goal

-- at most k times 2 ^ 32
few : (q k i : ℕ) → q < rest_one → q * (k - i) ≤ rest_one * k
few q k i h = mul-le-mul {n₁ = q} {m₁ = k - i} {n₂ = rest_one} {m₂ = k} (omega arith) (omega arith)

pub overflow_mul-u : goal.overflow_mul-u
overflow_mul-u c = omega (arith, few c.args.q cube_factor (c.args.q * fifth_factor / rest_one) c.requires.1)

pub overflow_sub-u : goal.overflow_sub-u
overflow_sub-u c = omega (arith, part_le c.args.q cube_factor (c.args.q * fifth_factor / rest_one) (le_of_lt c.requires.1))

pub overflow_mul-result : goal.overflow_mul-result
overflow_mul-result c = omega (
  arith,
  few c.args.r line_factor (c.args.q * (cube_factor - c.args.q * fifth_factor / rest_one) / rest_one)
      c.requires.0,
)

pub returns : goal.returns
unfolding odd
returns c = (refl, odd_le c.args.r c.args.q (le_of_lt c.requires.0))
