-- Two numbers with signs that are at most e apart, each told by its parts: p - n and q - m. So an error goes through sums and products as
-- linear arithmetic. Assumes nothing.
use Prim.Native.Nat.{ℕ, ◌+◌, ◌-◌, ◌*◌, ◌≤◌, ◌<◌}
use mathlib.Core.Path.{◌≡◌, ap}
use mathlib.Core.Logic.{inl, inr}
use native.Mathlib.Nat.{mul-le-mul_left, le_of_mul-le-mul_left}
use native.Mathlib.Omega.{arith}
use Rattle.units.proofs.Whole.{total}
use Rattle.units.proofs.Errors.{Within}

pub record Apart (e p n q m : ℕ) : Type 0 where
  pub up : p + m ≤ q + n + e
  pub low : q + n ≤ p + m + e

-- times k, and divided by k
pub times : (k : ℕ) {e p n q m : ℕ} → Apart e p n q m → Apart (k * e) (k * p) (k * n) (k * q) (k * m)
times k {e} {p} {n} {q} {m} a = record {
  up = omega (arith, mul-le-mul_left k a.up);
  low = omega (arith, mul-le-mul_left k a.low);
}

pub over : (k : ℕ) {e p n q m : ℕ} → 0 < k → Apart (k * e) (k * p) (k * n) (k * q) (k * m) → Apart e p n q m
over k {e} {p} {n} {q} {m} K a = record {
  up = le_of_mul-le-mul_left {m = p + m} {n = q + n + e} {k = k} (omega (arith, a.up)) K;
  low = le_of_mul-le-mul_left {m = q + n} {n = p + m + e} {k = k} (omega (arith, a.low)) K;
}

-- what rounds i - j, part by part, to within e, and nothing to nothing
pub difference : (g : ℕ → ℕ) (e i j : ℕ) → ((n : ℕ) → n ≡ 0 → g n ≡ 0) → Within (g (i - j)) (i - j) e → Within (g (j - i)) (j - i) e
    → Apart e (g (i - j)) (g (j - i)) i j
difference g e i j none a b = elim (total i j) [ inl h ↦ below h | inr h ↦ above h ]
  where
    below : i ≤ j → Apart e (g (i - j)) (g (j - i)) i j
    below h =
        let z : g (i - j) ≡ 0 = none (i - j) (omega arith) in
        record { up = omega (arith, b.low, z, h); low = omega (arith, b.up, z, h) }

    above : j ≤ i → Apart e (g (i - j)) (g (j - i)) i j
    above h =
        let z : g (j - i) ≡ 0 = none (j - i) (omega arith) in
        record { up = omega (arith, a.up, z, h); low = omega (arith, a.low, z, h) }
