-- The number of parts of a pattern without a sign, as `nearest_parts` computes it: none below 2 ^ -28, and else by one product and shifts.
use Rattle.std.specs.Prelude.{◌≡◌, ℕ, suc, ◌+◌, ◌-◌, ◌*◌, ◌/◌, ◌%◌, ◌^◌, ◌<◌, ◌≤◌}
use mathlib.Core.Path.{sym, ap, ◌∙◌}
use native.Mathlib.Nat.{le_of_lt, lt_of_le_of_lt, mul-le-mul_left, mul_assoc, mul_comm, mod-eq_of_lt, one-mul, pow-succ'}
use native.Mathlib.Omega.{arith}
use lib.Dec.{lit<}
use lib.Pow.{pow-add, pow_pos, pow_mono}
use Rattle.units.specs.Patterns.{val}
use Rattle.units.proofs.PatternOrder.{val_lt, val_normal}
use Rattle.poses.specs.Decimals.{whole_decimals, nearest_whole}
use Rattle.poses.proofs.WholeNearest.{whole_none, whole_scaled, whole_shifted}

pub no_parts : (b : ℕ) → b < 830472192 → nearest_whole (whole_decimals * val b) (2 ^ 149) ≡ 0
no_parts b h =
    whole_none (whole_decimals * val b) (2 ^ 149)
    (lt_of_le_of_lt (mul-le-mul_left 2 (mul-le-mul_left whole_decimals (le_of_lt (val_lt b 830472192 h)))) (lit< tt))

-- one, moved up by as much as a half of the divisor needs
pub one_up : (j : ℕ) → j ≤ 50 → 1 * 2 ^ j % 2 ^ 64 ≡ 2 ^ j
one_up j h = ap (λ (x : ℕ). x % 2 ^ 64) (one-mul (2 ^ j)) ∙ mod-eq_of_lt (lt_of_le_of_lt (pow_mono h) (lit< tt))

pub some_parts : (b : ℕ) → 830472192 ≤ b → b ≤ 1082130432
    → let p = (8388608 + b % 8388608) * 100000000 in
    let s = 150 - b / 8388608 in
    nearest_whole (whole_decimals * val b) (2 ^ 149) ≡ (p + 2 ^ (s - 1) - 1 + p / 2 ^ s % 2) / 2 ^ s
some_parts b l h =
    let m = 8388608 + b % 8388608 in
    let p = m * 100000000 in
    let e = b / 8388608 in
    let s = 150 - e in
    let t = 2 ^ (e - 1) in
    let i : s ≡ suc (s - 1) = omega arith in
    let j : s + (e - 1) ≡ 149 = omega arith in
    let v : whole_decimals * val b ≡ p * t =
    ap (λ (x : ℕ). whole_decimals * x) (val_normal b (omega arith)) ∙ sym (mul_assoc whole_decimals m t)
    ∙ ap (λ (x : ℕ). x * t) (mul_comm whole_decimals m) in
    let u : 2 ^ 149 ≡ 2 ^ s * t = ap (λ (x : ℕ). 2 ^ x) (sym j) ∙ pow-add 2 s (e - 1) in
    let d : 2 ^ s ≡ 2 * 2 ^ (s - 1) = ap (λ (x : ℕ). 2 ^ x) i ∙ pow-succ' 2 (s - 1) in
    ap (λ (x : ℕ). nearest_whole x (2 ^ 149)) v
    ∙ ap (λ (x : ℕ). nearest_whole (p * t) x) u
    ∙ whole_scaled p (2 ^ s) t (pow_pos s) (pow_pos (e - 1))
    ∙ ap (λ (x : ℕ). nearest_whole p x) d
    ∙ whole_shifted p (2 ^ (s - 1)) (pow_pos (s - 1))
    ∙ ap (λ (x : ℕ). (p + 2 ^ (s - 1) - 1 + p / x % 2) / x) (sym d)
