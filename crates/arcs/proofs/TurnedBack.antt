-- A vector (v, u) turned back by the angle of (128, k) is (x, y); a and b are 2 ^ 30 times C and S of that angle, over D. Assumes nothing.
use Rattle.std.specs.Prelude.{◌≡◌, ℕ, ◌+◌, ◌*◌, ◌≤◌}
use mathlib.Core.Path.{ap}
use native.Mathlib.Nat.{mul-le-mul_left, mul-le-mul_right, add-mul}
use native.Mathlib.Omega.{arith}

-- 2^61 n - w^2 n is M n
pub part : (M w n : ℕ) → M + w * w ≡ 2305843009213693952 → M * n + w * w * n ≡ 2305843009213693952 * n
part M w n h = rw (← add-mul M (w * w) n) (ap (λ (m : ℕ). m * n) h)

pub y_high : (u v k y a b D : ℕ) → y + k * v ≡ 128 * u → k * a ≤ 128 * b + 256 * D → 128 * (u * a) ≤ y * a + 128 * (v * b) + 256 * (v * D)
y_high u v k y a b D hy hd = omega (arith, mul-le-mul_left v hd, ap (λ (n : ℕ). n * a) hy)

pub y_low : (u v k y a b D : ℕ) → y + k * v ≡ 128 * u → 128 * b ≤ k * a + 256 * D → y * a + 128 * (v * b) ≤ 128 * (u * a) + 256 * (v * D)
y_low u v k y a b D hy hd = omega (arith, mul-le-mul_left v hd, ap (λ (n : ℕ). n * a) hy)

pub x_high : (u v k x a b D : ℕ) → x ≡ 128 * v + k * u → k * a ≤ 128 * b + 256 * D → x * a ≤ 128 * (v * a) + 128 * (u * b) + 256 * (u * D)
x_high u v k x a b D hx hd = omega (arith, mul-le-mul_left u hd, ap (λ (n : ℕ). n * a) hx)

pub x_low : (u v k x a b D : ℕ) → x ≡ 128 * v + k * u → 128 * b ≤ k * a + 256 * D → 128 * (v * a) + 128 * (u * b) ≤ x * a + 256 * (u * D)
x_low u v k x a b D hx hd = omega (arith, mul-le-mul_left u hd, ap (λ (n : ℕ). n * a) hx)

-- the length of (x, y) is that of (v, u) times that of (128, k)
pub long : (u v k x y a D : ℕ) → y + k * v ≡ 128 * u → x ≡ 128 * v + k * u → 17592186044416 * D ≤ a * (16384 + k * k)
    → 137438953472 * (v * D) ≤ x * a
long u v k x y a D hy hx hn =
    let e1 : 128 * x ≡ 16384 * v + k * (128 * u) = omega (arith, hx) in
    let e2 : k * (128 * u) ≡ k * y + k * (k * v) = omega (arith, ap (λ (n : ℕ). k * n) hy) in
    let e3 : 16384 * v + k * (k * v) ≤ 128 * x = omega arith in
    let e4 : (16384 * v + k * (k * v)) * a ≤ 128 * x * a = mul-le-mul_right a e3 in
    let e5 : v * (17592186044416 * D) ≤ v * (a * (16384 + k * k)) = mul-le-mul_left v hn in
    omega arith
