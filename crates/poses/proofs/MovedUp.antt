-- A number moved up by its leading zeros, but for d of them, starts at the place i: so do all, whatever their size.
use Rattle.std.specs.Prelude.{◌≡◌, ℕ, suc, ◌+◌, ◌-◌, ◌*◌, ◌^◌, ◌<◌, ◌≤◌}
use mathlib.Core.Path.{sym, ap, ◌∙◌}
use native.Mathlib.Nat.{le_trans, le_of_eq, lt_of_lt_of_le, lt_of_le_of_lt, lt_of_not-le, not-le_of_lt, mul-le-mul_right}
use native.Mathlib.Omega.{arith}
use lib.Count.{count_leading_zeros, leading_top}
use lib.Pow.{pow-add, pow_mono, shl_lt}

-- a of at most l + 1 digits, z zeros before it in i + 1 + d places
pub record Moved (a l i d z : ℕ) : Type 0 where
  pub least : d + (i - l) ≤ z
  pub most : z ≤ d + i
  pub low : 2 ^ i ≤ a * 2 ^ (z - d)
  pub high : a * 2 ^ (z - d) < 2 ^ suc i

pub moved_up : (a l i d : ℕ) → 0 < a → a < 2 ^ suc l → l ≤ i → Moved a l i d (count_leading_zeros (suc i + d) a)
moved_up a l i d p h g =
    let z = count_leading_zeros (suc i + d) a in
    let w = leading_top (suc i + d) a p (lt_of_lt_of_le h (pow_mono {i = suc l} {j = suc i + d} (omega arith))) in
    let j = w.0 in
    let e : z + suc j ≡ suc i + d = w.1 in
    let J : j < suc l = pow_lt_back j (suc l) (lt_of_le_of_lt w.2 h) in
    let b : j + (z - d) ≡ i = omega arith in
    record {
      least = omega arith;
      most = omega arith;
      low = le_trans (le_of_eq (ap (λ (y : ℕ). 2 ^ y) (sym b) ∙ pow-add 2 j (z - d))) (mul-le-mul_right (2 ^ (z - d)) w.2);
      high = lt_of_lt_of_le (shl_lt (suc j) (z - d) w.3) (pow_mono {i = suc j + (z - d)} {j = suc i} (omega arith));
    }
  where
    pow_lt_back : (i k : ℕ) → 2 ^ i < 2 ^ k → i < k
    pow_lt_back i k g = lt_of_not-le (λ (u : k ≤ i). not-le_of_lt g (pow_mono u))
