-- `sines::fixed::square_of` meets its contract. A rest is below 2 ^ 32, so its square fits.
use Rattle.std.specs.Prelude.{ℕ, ◌*◌, ◌<◌, ◌≤◌}
use mathlib.Core.Path.{refl}
use native.Mathlib.Nat.{mul-le-mul}
use native.Mathlib.Omega.{arith}
use Rattle.sines.specs.How.{rest_one}
use Rattle.sines.proofs.fixed.square_of.Goals as goal

few : (r : ℕ) → r < rest_one → r * r ≤ 18446744065119617025
few r h = mul-le-mul {n₁ = r} {m₁ = r} {n₂ = 4294967295} {m₂ = 4294967295} (omega arith) (omega arith)

pub overflow_mul-result : goal.overflow_mul-result
overflow_mul-result c = omega (arith, few c.args.r c.requires)

pub returns : goal.returns
returns c = (refl, omega (arith, few c.args.r c.requires))
