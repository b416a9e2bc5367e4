-- Of two whole numbers one is below the other or not, and twice a product is at most the sum of the squares. Assumes nothing.
use Prim.Native.Nat.{ℕ, ◌+◌, ◌*◌, ◌-◌, ◌≤◌, ◌<◌}
use mathlib.Core.Path.{◌≡◌, subst}
use mathlib.Core.Bool.{Bool, true, false, not}
use mathlib.Core.Logic.{◌⊎◌, inl, inr}
use native.Mathlib.Omega.{arith}
use lib.Dec.{T, ltb, ltb→lt, nltb→le}

pub here_or_on : (i n : ℕ) → (i < n) ⊎ (n ≤ i)
here_or_on i n = go (ltb i n) (ltb→lt i n) (nltb→le i n)
  where
    go : (b : Bool) → (T b → i < n) → (T (not b) → n ≤ i) → (i < n) ⊎ (n ≤ i)
    go true f g = inl (f tt)
    go false f g = inr (g tt)

pub squares : (a b : ℕ) → 2 * (a * b) ≤ a * a + b * b
squares a b = elim (here_or_on a b) [ inl h ↦ go a (b - a) (omega arith) | inr h ↦ go' b (a - b) (omega arith) ]
  where
    go : (x j : ℕ) → x + j ≡ b → 2 * (x * b) ≤ x * x + b * b
    go x j e = subst (λ (z : ℕ). 2 * (x * z) ≤ x * x + z * z) e (one x j)
      where
        one : (x j : ℕ) → 2 * (x * (x + j)) ≤ x * x + (x + j) * (x + j)
        one x j = omega arith

    go' : (y j : ℕ) → y + j ≡ a → 2 * (a * y) ≤ a * a + y * y
    go' y j e = subst (λ (z : ℕ). 2 * (z * y) ≤ z * z + y * y) e (one y j)
      where
        one : (y j : ℕ) → 2 * ((y + j) * y) ≤ (y + j) * (y + j) + y * y
        one y j = omega arith
