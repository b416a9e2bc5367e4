-- v S < u C at d before the computed angle, where the entry of the table lies further back: likewise. Assumes nothing.
-- The numerals are powers of two: 2 ^ 30 is 1073741824, 2 ^ 31 2147483648, 2 ^ 61 2305843009213693952, 2 ^ 91
-- 2475880078570760549798248448; 2097152 is 2 ^ 21.
use Rattle.std.specs.Prelude.{◌≡◌, ℕ, ◌+◌, ◌*◌, ◌≤◌}
use mathlib.Core.Path.{refl, ap}
use native.Mathlib.Nat.{mul_assoc, mul_left_comm, mul-le-mul, mul-le-mul_left, mul-le-mul_right, add-mul, mul-add}
use native.Mathlib.Omega.{arith}
use Rattle.arcs.proofs.TurnedBack.{part, y_low, x_low}

-- M = 2^61 - w^2 stands for 1 - w^2/2; z is the quotient of 2^30 y by x, rounded down
kernel : (x y z w M : ℕ) → z * x ≤ 1073741824 * y → z ≤ 8388608 → w ≤ z → M + w * w ≡ 2305843009213693952 →
    2305843009213693952 * (z * x) ≤ 1073741824 * (M * y) + 590295810358705651712 * x
kernel x y z w M h hz hw h_m =
    let p1 : M * (z * x) ≤ M * (1073741824 * y) = mul-le-mul_left M h in
    let p2 : M * (1073741824 * y) ≡ 1073741824 * (M * y) = mul_left_comm M 1073741824 y in
    let b : w ≤ 8388608 = omega arith in
    let p3 : w * w * z ≤ 590295810358705651712 = mul-le-mul (mul-le-mul b b) hz in
    let p4 : w * w * z * x ≤ 590295810358705651712 * x = mul-le-mul_right x p3 in
    let p5 : w * w * z * x ≡ (w * w) * (z * x) = mul_assoc (w * w) z x in
    let p6 : (M + w * w) * (z * x) ≡ M * (z * x) + (w * w) * (z * x) = add-mul M (w * w) (z * x) in
    let p7 : (M + w * w) * (z * x) ≡ 2305843009213693952 * (z * x) = ap (λ (n : ℕ). n * (z * x)) h_m in
    omega arith

sine : (v b a w s s' D M : ℕ) → M + w * w ≡ 2305843009213693952 →
    2475880078570760549798248448 * s + w * w * b
    ≤ 2305843009213693952 * b + 2147483648 * (w * a) + 2475880078570760549798248448 * s' + 4611686018427387904 * D →
    2475880078570760549798248448 * (v * s)
    ≤ M * (v * b) + 2147483648 * (w * (v * a)) + 2475880078570760549798248448 * (v * s') + 4611686018427387904 * (v * D)
sine v b a w s s' D M h_m h =
    let p : v * (2475880078570760549798248448 * s + w * w * b)
    ≤ v * (2305843009213693952 * b + 2147483648 * (w * a) + 2475880078570760549798248448 * s' + 4611686018427387904 * D) =
    mul-le-mul_left v h in
    let l : v * (2475880078570760549798248448 * s + w * w * b) ≡ 2475880078570760549798248448 * (v * s) + w * w * (v * b) =
    simp (mul-add, mul_left_comm) in
    let r : v * (2305843009213693952 * b + 2147483648 * (w * a) + 2475880078570760549798248448 * s' + 4611686018427387904 * D)
    ≡ 2305843009213693952 * (v * b) + 2147483648 * (w * (v * a)) + 2475880078570760549798248448 * (v * s')
    + 4611686018427387904 * (v * D) = simp (mul-add, mul_left_comm) in
    let m : M * (v * b) + w * w * (v * b) ≡ 2305843009213693952 * (v * b) = part M w (v * b) h_m in
    omega arith

cosine : (u b a w c c' D M : ℕ) → M + w * w ≡ 2305843009213693952 →
    2305843009213693952 * a + 2475880078570760549798248448 * c'
    ≤ 2475880078570760549798248448 * c + 2147483648 * (w * b) + w * w * a + 4611686018427387904 * D →
    M * (u * a) + 2475880078570760549798248448 * (u * c')
    ≤ 2475880078570760549798248448 * (u * c) + 2147483648 * (w * (u * b)) + 4611686018427387904 * (u * D)
cosine u b a w c c' D M h_m h =
    let p : u * (2305843009213693952 * a + 2475880078570760549798248448 * c')
    ≤ u * (2475880078570760549798248448 * c + 2147483648 * (w * b) + w * w * a + 4611686018427387904 * D) = mul-le-mul_left u h in
    let l : u * (2305843009213693952 * a + 2475880078570760549798248448 * c')
    ≡ 2305843009213693952 * (u * a) + 2475880078570760549798248448 * (u * c') = simp (mul-add, mul_left_comm) in
    let r : u * (2475880078570760549798248448 * c + 2147483648 * (w * b) + w * w * a + 4611686018427387904 * D)
    ≡ 2475880078570760549798248448 * (u * c) + 2147483648 * (w * (u * b)) + w * w * (u * a) + 4611686018427387904 * (u * D) =
    simp (mul-add, mul_left_comm) in
    let m : M * (u * a) + w * w * (u * a) ≡ 2305843009213693952 * (u * a) = part M w (u * a) h_m in
    omega arith

-- the kernel times a, over 2^30
quotient : (x y z w M a : ℕ) → z * x ≤ 1073741824 * y → z ≤ 8388608 → w ≤ z → M + w * w ≡ 2305843009213693952 →
    2147483648 * (z * (x * a)) ≤ M * (y * a) + 549755813888 * (x * a)
quotient x y z w M a h hz hw h_m =
    let p : 2305843009213693952 * (z * x) * a ≤ (1073741824 * (M * y) + 590295810358705651712 * x) * a =
    mul-le-mul_right a (kernel x y z w M h hz hw h_m) in
    let l : 2305843009213693952 * (z * x) * a ≡ 2305843009213693952 * (z * (x * a)) = simp mul_assoc in
    let r : (1073741824 * (M * y) + 590295810358705651712 * x) * a ≡ 1073741824 * (M * (y * a)) + 590295810358705651712 * (x * a) =
    simp (add-mul, mul_assoc) in
    omega arith

pub low : (u v k x y z w d M a b s s' c c' D : ℕ) →
    u ≤ v → y + k * v ≡ 128 * u → x ≡ 128 * v + k * u → z * x ≤ 1073741824 * y → z ≤ 8388608 →
    w + d ≡ z → 880 ≤ d → M + w * w ≡ 2305843009213693952 →
    128 * b ≤ k * a + 256 * D → 137438953472 * (v * D) ≤ x * a →
    2475880078570760549798248448 * s + w * w * b
    ≤ 2305843009213693952 * b + 2147483648 * (w * a) + 2475880078570760549798248448 * s' + 4611686018427387904 * D →
    2305843009213693952 * a + 2475880078570760549798248448 * c'
    ≤ 2475880078570760549798248448 * c + 2147483648 * (w * b) + w * w * a + 4611686018427387904 * D →
    2097152 * (u * c' + v * s) + v * D ≤ 2097152 * (u * c + v * s')
low u v k x y z w d M a b s s' c c' D huv hy hx hz hz' hw hd h_m hk hn hs hc =
    let A1 : 2475880078570760549798248448 * (v * s)
    ≤ M * (v * b) + 2147483648 * (w * (v * a)) + 2475880078570760549798248448 * (v * s') + 4611686018427387904 * (v * D) =
    sine v b a w s s' D M h_m hs in
    let A2 : M * (u * a) + 2475880078570760549798248448 * (u * c')
    ≤ 2475880078570760549798248448 * (u * c) + 2147483648 * (w * (u * b)) + 4611686018427387904 * (u * D) =
    cosine u b a w c c' D M h_m hc in
    let h_m' : M ≤ 2305843009213693952 = omega arith in
    let h_w : w ≤ 8388608 = omega arith in
    let B1 : M * (y * a + 128 * (v * b)) ≤ M * (128 * (u * a) + 256 * (v * D)) = mul-le-mul_left M (y_low u v k y a b D hy hk) in
    let B2 : M * (y * a + 128 * (v * b)) ≡ M * (y * a) + 128 * (M * (v * b)) =
    rw (mul-add M (y * a) (128 * (v * b)), mul_left_comm M 128 (v * b)) refl in
    let B3 : M * (128 * (u * a) + 256 * (v * D)) ≡ 128 * (M * (u * a)) + 256 * (M * (v * D)) = simp (mul-add, mul_left_comm M) in
    let B4 : M * (v * D) ≤ 2305843009213693952 * (v * D) = mul-le-mul_right (v * D) h_m' in
    let C1 : w * (128 * (v * a) + 128 * (u * b)) ≤ w * (x * a + 256 * (u * D)) = mul-le-mul_left w (x_low u v k x a b D hx hk) in
    let C2 : w * (128 * (v * a) + 128 * (u * b)) ≡ 128 * (w * (v * a)) + 128 * (w * (u * b)) = simp (mul-add, mul_left_comm w) in
    let C2' : w * (x * a + 256 * (u * D)) ≡ w * (x * a) + 256 * (w * (u * D)) =
    rw (mul-add w (x * a) (256 * (u * D)), mul_left_comm w 256 (u * D)) refl in
    let C3 : w * (u * D) ≤ 8388608 * (u * D) = mul-le-mul_right (u * D) h_w in
    let C4 : u * D ≤ v * D = mul-le-mul_right D huv in
    let E1 : 2147483648 * (z * (x * a)) ≤ M * (y * a) + 549755813888 * (x * a) = quotient x y z w M a hz hz' (omega arith) h_m in
    let E2 : (w + d) * (x * a) ≡ z * (x * a) = ap (λ (n : ℕ). n * (x * a)) hw in
    let E3 : (w + d) * (x * a) ≡ w * (x * a) + d * (x * a) = add-mul w d (x * a) in
    let E4 : 880 * (x * a) ≤ d * (x * a) = mul-le-mul_right (x * a) hd in
    omega arith
