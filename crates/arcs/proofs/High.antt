-- u C < v S at d past the computed angle: the quadratic bounds and the quotient z of 2 ^ 30 y by x give it with 2 ^ -21 to spare. Assumes
-- nothing.
-- The numerals are powers of two: 2 ^ 30 is 1073741824, 2 ^ 31 2147483648, 2 ^ 61 2305843009213693952, 2 ^ 91
-- 2475880078570760549798248448; 2097152 is 2 ^ 21.
use Rattle.std.specs.Prelude.{◌≡◌, ℕ, ◌+◌, ◌*◌, ◌≤◌}
use mathlib.Core.Path.{ap}
use native.Mathlib.Nat.{mul_assoc, mul_left_comm, mul-le-mul_left, mul-le-mul_right, add-mul, mul-add, one-mul}
use native.Mathlib.Omega.{arith}
use Rattle.arcs.proofs.TurnedBack.{part, y_high, x_high}

-- v times the bound of S, S = (s - s') / D
sine : (v b a w s s' D M : ℕ) → M + w * w ≡ 2305843009213693952 →
    2305843009213693952 * b + 2147483648 * (w * a) + 2475880078570760549798248448 * s'
    ≤ 2475880078570760549798248448 * s + w * w * b + 295147905179352825856 * D →
    M * (v * b) + 2147483648 * (w * (v * a)) + 2475880078570760549798248448 * (v * s')
    ≤ 2475880078570760549798248448 * (v * s) + 295147905179352825856 * (v * D)
sine v b a w s s' D M h_m h =
    let p : v * (2305843009213693952 * b + 2147483648 * (w * a) + 2475880078570760549798248448 * s')
    ≤ v * (2475880078570760549798248448 * s + w * w * b + 295147905179352825856 * D) = mul-le-mul_left v h in
    let l : v * (2305843009213693952 * b + 2147483648 * (w * a) + 2475880078570760549798248448 * s')
    ≡ 2305843009213693952 * (v * b) + 2147483648 * (w * (v * a)) + 2475880078570760549798248448 * (v * s') =
    simp (mul-add, mul_left_comm) in
    let r : v * (2475880078570760549798248448 * s + w * w * b + 295147905179352825856 * D)
    ≡ 2475880078570760549798248448 * (v * s) + w * w * (v * b) + 295147905179352825856 * (v * D) = simp (mul-add, mul_left_comm) in
    let m : M * (v * b) + w * w * (v * b) ≡ 2305843009213693952 * (v * b) = part M w (v * b) h_m in
    omega arith

-- u times the bound of C, C = (c - c') / D
cosine : (u b a w c c' D M : ℕ) → M + w * w ≡ 2305843009213693952 →
    2475880078570760549798248448 * c + 2147483648 * (w * b) + w * w * a
    ≤ 2305843009213693952 * a + 2475880078570760549798248448 * c' + 295147905179352825856 * D →
    2475880078570760549798248448 * (u * c) + 2147483648 * (w * (u * b))
    ≤ M * (u * a) + 2475880078570760549798248448 * (u * c') + 295147905179352825856 * (u * D)
cosine u b a w c c' D M h_m h =
    let p : u * (2475880078570760549798248448 * c + 2147483648 * (w * b) + w * w * a)
    ≤ u * (2305843009213693952 * a + 2475880078570760549798248448 * c' + 295147905179352825856 * D) = mul-le-mul_left u h in
    let l : u * (2475880078570760549798248448 * c + 2147483648 * (w * b) + w * w * a)
    ≡ 2475880078570760549798248448 * (u * c) + 2147483648 * (w * (u * b)) + w * w * (u * a) = simp (mul-add, mul_left_comm) in
    let r : u * (2305843009213693952 * a + 2475880078570760549798248448 * c' + 295147905179352825856 * D)
    ≡ 2305843009213693952 * (u * a) + 2475880078570760549798248448 * (u * c') + 295147905179352825856 * (u * D) =
    simp (mul-add, mul_left_comm) in
    let m : M * (u * a) + w * w * (u * a) ≡ 2305843009213693952 * (u * a) = part M w (u * a) h_m in
    omega arith

-- M y a <= 2^31 (z+1) x a
quotient : (x y z M a : ℕ) → 1073741824 * y ≤ (z + 1) * x → M ≤ 2305843009213693952 →
    M * (y * a) ≤ 2147483648 * (z * (x * a)) + 2147483648 * (x * a)
quotient x y z M a h h_m =
    let p : M * (y * a) ≤ 2305843009213693952 * (y * a) = mul-le-mul_right (y * a) h_m in
    let q : 1073741824 * y * a ≤ (z + 1) * x * a = mul-le-mul_right a h in
    let e : 1073741824 * y * a ≡ 1073741824 * (y * a) = mul_assoc 1073741824 y a in
    let f : (z + 1) * x * a ≡ z * (x * a) + x * a = simp (add-mul, one-mul, mul_assoc) in
    omega arith

pub high : (u v k x y z w d M a b s s' c c' D : ℕ) →
    u ≤ v → y + k * v ≡ 128 * u → x ≡ 128 * v + k * u → 1073741824 * y ≤ (z + 1) * x →
    w ≡ z + d → 780 ≤ d → w ≤ 16777216 → M + w * w ≡ 2305843009213693952 →
    k * a ≤ 128 * b + 256 * D → 137438953472 * (v * D) ≤ x * a →
    2305843009213693952 * b + 2147483648 * (w * a) + 2475880078570760549798248448 * s'
    ≤ 2475880078570760549798248448 * s + w * w * b + 295147905179352825856 * D →
    2475880078570760549798248448 * c + 2147483648 * (w * b) + w * w * a
    ≤ 2305843009213693952 * a + 2475880078570760549798248448 * c' + 295147905179352825856 * D →
    2097152 * (u * c + v * s') + v * D ≤ 2097152 * (u * c' + v * s)
high u v k x y z w d M a b s s' c c' D huv hy hx hz hw hd h_w h_m hk hn hs hc =
    let A1 : M * (v * b) + 2147483648 * (w * (v * a)) + 2475880078570760549798248448 * (v * s')
    ≤ 2475880078570760549798248448 * (v * s) + 295147905179352825856 * (v * D) = sine v b a w s s' D M h_m hs in
    let A2 : 2475880078570760549798248448 * (u * c) + 2147483648 * (w * (u * b))
    ≤ M * (u * a) + 2475880078570760549798248448 * (u * c') + 295147905179352825856 * (u * D) = cosine u b a w c c' D M h_m hc in
    let h_m' : M ≤ 2305843009213693952 = omega arith in
    let B1 : M * (128 * (u * a)) ≤ M * (y * a + 128 * (v * b) + 256 * (v * D)) = mul-le-mul_left M (y_high u v k y a b D hy hk) in
    let B2 : M * (128 * (u * a)) ≡ 128 * (M * (u * a)) = mul_left_comm M 128 (u * a) in
    let B3 : M * (y * a + 128 * (v * b) + 256 * (v * D)) ≡ M * (y * a) + 128 * (M * (v * b)) + 256 * (M * (v * D)) =
    simp (mul-add, mul_left_comm M) in
    let B4 : M * (v * D) ≤ 2305843009213693952 * (v * D) = mul-le-mul_right (v * D) h_m' in
    let C1 : w * (x * a) ≤ w * (128 * (v * a) + 128 * (u * b) + 256 * (u * D)) = mul-le-mul_left w (x_high u v k x a b D hx hk) in
    let C2 : w * (128 * (v * a) + 128 * (u * b) + 256 * (u * D)) ≡ 128 * (w * (v * a)) + 128 * (w * (u * b)) + 256 * (w * (u * D)) =
    simp (mul-add, mul_left_comm w) in
    let C3 : w * (u * D) ≤ 16777216 * (u * D) = mul-le-mul_right (u * D) h_w in
    let C4 : u * D ≤ v * D = mul-le-mul_right D huv in
    let E1 : M * (y * a) ≤ 2147483648 * (z * (x * a)) + 2147483648 * (x * a) = quotient x y z M a hz h_m' in
    let E2 : w * (x * a) ≡ (z + d) * (x * a) = ap (λ (n : ℕ). n * (x * a)) hw in
    let E3 : (z + d) * (x * a) ≡ z * (x * a) + d * (x * a) = add-mul z d (x * a) in
    let E4 : 780 * (x * a) ≤ d * (x * a) = mul-le-mul_right (x * a) hd in
    omega arith
