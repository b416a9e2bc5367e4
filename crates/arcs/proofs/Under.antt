-- v S < u C at d before the computed angle, where the entry of the table lies between: from bounds of the first order at w before the
-- entry. Assumes nothing.
-- The numerals are powers of two: 2 ^ 30 is 1073741824, 2 ^ 31 2147483648, 2 ^ 61 2305843009213693952, 2 ^ 91
-- 2475880078570760549798248448; 2097152 is 2 ^ 21.
use Rattle.std.specs.Prelude.{◌≡◌, ℕ, ◌+◌, ◌*◌, ◌≤◌}
use mathlib.Core.Path.{ap}
use native.Mathlib.Nat.{mul_left_comm, mul-le-mul_left, mul-le-mul_right, add-mul, mul-add}
use native.Mathlib.Omega.{arith}
use Rattle.arcs.proofs.TurnedBack.{y_low, x_high}

pub under : (u v k x y z w d a b s s' c c' D : ℕ) →
    u ≤ v → y + k * v ≡ 128 * u → x ≡ 128 * v + k * u → z * x ≤ 1073741824 * y →
    z + w ≡ d → 880 ≤ d → w ≤ 4224 →
    k * a ≤ 128 * b + 256 * D → 128 * b ≤ k * a + 256 * D → 137438953472 * (v * D) ≤ x * a →
    2475880078570760549798248448 * s + 2147483648 * (w * a)
    ≤ 2305843009213693952 * b + 2475880078570760549798248448 * s' + 295147905179352825856 * D →
    2305843009213693952 * a + 2147483648 * (w * b) + 2475880078570760549798248448 * c'
    ≤ 2475880078570760549798248448 * c + 9223372036854775808 * D →
    2097152 * (u * c' + v * s) + v * D ≤ 2097152 * (u * c + v * s')
under u v k x y z w d a b s s' c c' D huv hy hx hz hw hd h_w hk hk' hn hs hc =
    let A1 : 2475880078570760549798248448 * (v * s) + 2147483648 * (w * (v * a))
    ≤ 2305843009213693952 * (v * b) + 2475880078570760549798248448 * (v * s') + 295147905179352825856 * (v * D) = sine in
    let A2 : 2305843009213693952 * (u * a) + 2147483648 * (w * (u * b)) + 2475880078570760549798248448 * (u * c')
    ≤ 2475880078570760549798248448 * (u * c) + 9223372036854775808 * (u * D) = cosine in
    let B1 : y * a + 128 * (v * b) ≤ 128 * (u * a) + 256 * (v * D) = y_low u v k y a b D hy hk' in
    let C1 : w * (x * a) ≤ w * (128 * (v * a) + 128 * (u * b) + 256 * (u * D)) = mul-le-mul_left w (x_high u v k x a b D hx hk) in
    let C2 : w * (128 * (v * a) + 128 * (u * b) + 256 * (u * D)) ≡ 128 * (w * (v * a)) + 128 * (w * (u * b)) + 256 * (w * (u * D)) =
    simp (mul-add, mul_left_comm w) in
    let C3 : w * (u * D) ≤ 4224 * (u * D) = mul-le-mul_right (u * D) h_w in
    let C4 : u * D ≤ v * D = mul-le-mul_right D huv in
    let E1 : z * (x * a) ≤ 1073741824 * (y * a) = quotient in
    let E2 : (z + w) * (x * a) ≡ d * (x * a) = ap (λ (n : ℕ). n * (x * a)) hw in
    let E3 : (z + w) * (x * a) ≡ z * (x * a) + w * (x * a) = add-mul z w (x * a) in
    let E4 : 880 * (x * a) ≤ d * (x * a) = mul-le-mul_right (x * a) hd in
    omega arith
  where
    sine : 2475880078570760549798248448 * (v * s) + 2147483648 * (w * (v * a))
        ≤ 2305843009213693952 * (v * b) + 2475880078570760549798248448 * (v * s') + 295147905179352825856 * (v * D)
    sine = omega (arith, mul-le-mul_left v hs)

    cosine : 2305843009213693952 * (u * a) + 2147483648 * (w * (u * b)) + 2475880078570760549798248448 * (u * c')
        ≤ 2475880078570760549798248448 * (u * c) + 9223372036854775808 * (u * D)
    cosine = omega (arith, mul-le-mul_left u hc)

    quotient : z * (x * a) ≤ 1073741824 * (y * a)
    quotient = omega (arith, mul-le-mul_right a hz)
