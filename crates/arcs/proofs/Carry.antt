-- What holds of a direction with room to spare holds of one that is within 2 ^ -31 of it. Assumes nothing.
use Rattle.std.specs.Prelude.{ℕ, ◌+◌, ◌*◌, ◌≤◌}
use native.Mathlib.Nat.{mul-le-mul_left, mul-le-mul_right}
use native.Mathlib.Omega.{arith}
use Rattle.series.proofs.Grid.{D}
use Rattle.series.proofs.Reflect.{Near}
use Rattle.arcs.proofs.FirstOctant.{Past}

pub near_refl : (p m : ℕ) → Near p m p m
near_refl p m = record { above = go D; under = go D }
  where
    go : (d : ℕ) → 2147483648 * (p + m) ≤ 2147483648 * (p + m) + d
    go d = omega arith

-- p and q are apart by more than 9 * 2 ^ -25 v D
abbrev pub Apart : ℕ → ℕ → ℕ → Type 0
Apart v p q = 33554432 * p + 9 * (v * D) ≤ 33554432 * q

pub carry : {a a' b b' A A' B B' : ℕ} (u v : ℕ) → u ≤ v → Near a a' A A' → Near b b' B B' → Past u v a a' b b'
    → Apart v (u * A + v * B') (u * A' + v * B)
carry {a} {a'} {b} {b'} {A} {A'} {B} {B'} u v h na nb o = go D o na.above nb.under
  where
    go : (d : ℕ) → 33554432 * (u * a + v * b') + 10 * (v * d) ≤ 33554432 * (u * a' + v * b)
        → 2147483648 * (A + a') ≤ 2147483648 * (a + A') + d → 2147483648 * (b + B') ≤ 2147483648 * (B + b') + d
        → 33554432 * (u * A + v * B') + 9 * (v * d) ≤ 33554432 * (u * A' + v * B)
    go d o p q = omega (arith, mul-le-mul_left u p, mul-le-mul_left v q, mul-le-mul_right d h)

-- v (a - a') + u (b - b'), where the first is at least a half and the second at least -1/4
pub dot_carry : {a a' b b' A A' B B' : ℕ} (u v : ℕ) → u ≤ v → Near a a' A A' → Near b b' B B' → D + 2 * a' ≤ 2 * a → 4 * b' ≤ D + 4 * b
    → Apart v (v * A' + u * B') (v * A + u * B)
dot_carry {a} {a'} {b} {b'} {A} {A'} {B} {B'} u v h na nb c s = go D c s na.under nb.under
  where
    go : (d : ℕ) → d + 2 * a' ≤ 2 * a → 4 * b' ≤ d + 4 * b
        → 2147483648 * (a + A') ≤ 2147483648 * (A + a') + d → 2147483648 * (b + B') ≤ 2147483648 * (B + b') + d
        → 33554432 * (v * A' + u * B') + 9 * (v * d) ≤ 33554432 * (v * A + u * B)
    go d x y p q = omega (arith, mul-le-mul_left v x, mul-le-mul_left u y, mul-le-mul_left v p, mul-le-mul_left u q, mul-le-mul_right d h)
