-- `sines::fixed::even_part` meets its contract. Each product stays below 2 ^ 64, and what is taken away below what it is taken from.
use Rattle.std.specs.Prelude.{ℕ, ◌-◌, ◌*◌, ◌/◌, ◌^◌, ◌<◌, ◌≤◌}
use mathlib.Core.Path.{refl}
use native.Mathlib.Nat.{mul-le-mul, le_of_lt}
use native.Mathlib.Omega.{arith}
use Rattle.sines.specs.How.{square_factor, fourth_factor, rest_one, even}
use Rattle.sines.proofs.Rest.{even_le, part_le}
use Rattle.sines.proofs.fixed.even_part.Goals as goal

few : (q i : ℕ) → q < rest_one → q * (square_factor - i) ≤ 2 ^ 57
few q i h = mul-le-mul {n₁ = q} {m₁ = square_factor - i} {n₂ = rest_one} {m₂ = square_factor} (omega arith) (omega arith)

pub overflow_mul-result : goal.overflow_mul-result
overflow_mul-result c = omega (arith, few c.args.q (c.args.q * fourth_factor / rest_one) c.requires)

pub overflow_sub-result : goal.overflow_sub-result
overflow_sub-result c = omega (arith, part_le c.args.q square_factor (c.args.q * fourth_factor / rest_one) (le_of_lt c.requires))

pub returns : goal.returns
unfolding even
returns c = (refl, even_le c.args.q)
