-- What is left beside the angle of (128, k): the two terms of the series that are computed lie close to the quotient of the vector turned
-- back. Assumes nothing.
-- 262144 is 2 ^ 18, 524288 2 ^ 19, 67108864 2 ^ 26, 137438953472 2 ^ 37, 35184372088832 2 ^ 45.
use Rattle.std.specs.Prelude.{◌≡◌, ℕ, ◌+◌, ◌-◌, ◌*◌, ◌/◌, ◌%◌, ◌<◌, ◌≤◌}
use mathlib.Core.Path.{refl, ap}
use mathlib.Core.Logic.{inl, inr}
use native.Mathlib.Nat.{mul-le-mul, mul-le-mul_left, mul-le-mul_right, le_of_mul-le-mul_right, lt_of_mul-lt-mul_right, div-le_of_le-mul}
use native.Mathlib.Nat.{div-mul-le_self, lt-div-mul-add}
use native.Mathlib.Omega.{arith}
use Rattle.series.proofs.Order.{here_or_on}
use Rattle.arcs.specs.How.{table_row, lean, straight, bend}

-- (v, u) turned back by the angle of (128, k) is (x, y), and z is 2 ^ 30 y / x, cut
pub record Split (u v k x y z : ℕ) : Type 0 where
  pub back_y : y + k * v ≡ 128 * u
  pub back_x : x ≡ 128 * v + k * u
  pub z_low : z * x ≤ 1073741824 * y
  pub z_high : 1073741824 * y ≤ (z + 1) * x
  pub z_le : z ≤ 8388608
  pub k_lt : k < 129

-- z is at most 1 more than z₀, and at most 105 less
pub record Close (z z₀ : ℕ) : Type 0 where
  pub high : z ≤ z₀ + 1
  pub low : z₀ ≤ z + 105
  pub least : z ≤ 8388608

pub quotient : ℕ → ℕ
quotient w = 1073741824 * (128 * (w % 262144)) / (4294967296 + table_row w * w)

pub split : (w : ℕ) → w ≤ 33554432 → Split w 33554432 (table_row w) (4294967296 + table_row w * w) (128 * (w % 262144)) (quotient w)
unfolding quotient
split w h = record {
  back_y = omega arith;
  back_x = refl;
  z_low = div-mul-le_self (1073741824 * (128 * (w % 262144))) (4294967296 + table_row w * w);
  z_high =
      next (quotient w) (4294967296 + table_row w * w) (1073741824 * (128 * (w % 262144)))
      (lt-div-mul-add {a = 1073741824 * (128 * (w % 262144))} {b = 4294967296 + table_row w * w} (pos (table_row w * w)));
  z_le = div-le_of_le-mul (4294967296 + table_row w * w) {n = 8388608} (under (w % 262144) (table_row w * w) (omega arith));
  k_lt = omega arith;
}
  where
    pos : (p : ℕ) → 0 < 4294967296 + p
    pos p = omega arith

    next : (q x t : ℕ) → t < q * x + x → t ≤ (q + 1) * x
    next q x t g = omega arith

    under : (e p : ℕ) → e ≤ 262143 → 1073741824 * (128 * e) ≤ (4294967296 + p) * 8388608
    under e p g = omega arith

-- ---- b is 2 ^ 19 e / (128 ² + k ²), cut, and c is b ² k / 2 ^ 37, cut
module _ (k e g B b c : ℕ) (hk : k ≤ 128) (he : e ≤ 262143) (hg : g ≡ 16384 + k * k)
    (B_low : B * g ≤ 35184372088832) (B_high : 35184372088832 < B * g + g)
    (b_low : b * 67108864 ≤ e * B) (b_high : e * B < b * 67108864 + 67108864)
    (c_low : c * 137438953472 ≤ b * b * k) (c_high : b * b * k < c * 137438953472 + 137438953472) where
  step_low : b * g ≤ 524288 * e
  step_low = omega (arith, mul-le-mul_right g b_low, mul-le-mul_left e B_low)

  step_high : 524288 * e ≤ b * g + 2 * g
  step_high = omega (arith, mul-le-mul_right g b_high, mul-le-mul_left e B_high, mul-le-mul_right g he)

  pub b_le : b ≤ 8388608
  b_le = le_of_mul-le-mul_right {m = b} {n = 8388608} {k = 16384} (omega (arith, step_low, mul-le-mul_left b (ground hg))) (omega arith)
    where
      ground : g ≡ 16384 + k * k → 16384 ≤ g
      ground q = omega arith

  -- b k is at most 2 ^ 29, since 256 k is at most 128 ² + k ²
  flat : b * k ≤ 536870912
  flat =
      le_of_mul-le-mul_right {m = b * k} {n = 536870912} {k = 256}
      (omega (arith, step_low, mul-le-mul_left b (mean (128 - k) (omega arith)))) (omega arith)
    where
      mean : (m : ℕ) → k + m ≡ 128 → 256 * k ≤ g
      mean m q = omega (arith, ap (λ (n : ℕ). k * n) q, ap (λ (n : ℕ). m * n) q)

  -- at k = 64 both bounds of b k meet
  curve : 5 * (b * k * (b * k)) ≤ 70368744177664 * g
  curve = elim (here_or_on k 64) [
    | inl q ↦ omega (arith, mul-le-mul (few q) (few q), mul-le-mul (low_k q) (low_k q), hg)
    | inr q ↦ omega (arith, mul-le-mul flat flat, mul-le-mul q q, hg)
  ]
    where
      few : k < 64 → b * k ≤ 8388608 * k
      few q = mul-le-mul_right k b_le

      low_k : k < 64 → k ≤ 64
      low_k q = omega arith

  -- what the second term takes away and what the quotient has beyond it, times x: p is b k, f is b g, s what f lacks of 2 ^ 19 e
  not_above : (p f s t : ℕ) → f + s ≡ 524288 * e → p ≤ 137438953472
      → 137438953472 * t + p * (262144 * f + p * e) ≤ 137438953472 * (262144 * f + p * e) → t ≤ 137438953472 * e
  not_above p f s t q l h = omega (arith, ap (λ (n : ℕ). p * n) q, mul-le-mul_right s l)

  not_below : (p f s t : ℕ) → f + s ≡ 524288 * e → s ≤ 2 * g → 5 * (p * p) ≤ 70368744177664 * g
      → 137438953472 * (262144 * f + p * e) ≤ 137438953472 * t + p * (262144 * f + p * e) → 137438953472 * e ≤ t + 27525120 * g
  not_below p f s t q l i h = omega (arith, ap (λ (n : ℕ). p * n) q, mul-le-mul_right e i, mul-le-mul_left g he)

  module _ (x : ℕ) (hx : x ≡ 262144 * g + k * e) where
    times_x : b * x ≡ 262144 * (b * g) + b * k * e
    times_x = omega (arith, ap (λ (n : ℕ). b * n) hx)

    pub close_above : (z : ℕ) → z + c + 1 ≡ b → z * x ≤ 137438953472 * e
    close_above z q =
        let l : 137438953472 * z + b * b * k ≤ 137438953472 * b = omega arith in
        let m : 137438953472 * (z * x) + b * k * (b * x) ≤ 137438953472 * (b * x) = omega (arith, mul-le-mul_right x l) in
        not_above (b * k) (b * g) (524288 * e - b * g) (z * x) (omega (arith, step_low)) (omega (arith, flat))
        (rw (times_x) at m)

    pub close_below : (z : ℕ) → z + c ≡ b → 137438953472 * e ≤ z * x + 105 * x
    close_below z q =
        let l : 137438953472 * b ≤ 137438953472 * z + b * b * k = omega arith in
        let m : 137438953472 * (b * x) ≤ 137438953472 * (z * x) + b * k * (b * x) = omega (arith, mul-le-mul_right x l) in
        let n =
        not_below (b * k) (b * g) (524288 * e - b * g) (z * x) (omega (arith, step_low)) (omega (arith, step_high)) curve
        (rw (times_x) at m) in
        last (z * x) n
      where
        last : (t : ℕ) → 137438953472 * e ≤ t + 27525120 * g → 137438953472 * e ≤ t + 105 * x
        last t n = omega (arith, hx)

    c_le : c ≤ b
    c_le = le_of_mul-le-mul_right {m = c} {n = b} {k = 137438953472} (omega (arith, mul-le-mul_left b flat, c_low)) (omega arith)

    pub close_to : (z₀ : ℕ) → 0 < x → z₀ * x ≤ 137438953472 * e → 137438953472 * e < z₀ * x + x → Close (b - c) z₀
    close_to z₀ px lo hi = record {
      high = elim (here_or_on c b) [
        | inl q ↦ omega (
          arith,
          lt_of_mul-lt-mul_right x {m = b - c - 1} {n = z₀ + 1}
              (less (b - c - 1) (close_above (b - c - 1) (omega arith))),
        )
        | inr q ↦ omega arith
      ];
      low = le_of_mul-le-mul_right {m = z₀} {n = b - c + 105} {k = x} (more (b - c) (close_below (b - c) (omega (arith, c_le)))) px;
      least = omega (arith, b_le);
    }
      where
        less : (z : ℕ) → z * x ≤ 137438953472 * e → z * x < (z₀ + 1) * x
        less z q = omega arith

        more : (z : ℕ) → 137438953472 * e ≤ z * x + 105 * x → z₀ * x ≤ (z + 105) * x
        more z q = omega arith

pub close : (w : ℕ) → w ≤ 33554432 → Close (straight w - bend w) (quotient w)
unfolding lean quotient
close w h =
    close_to (table_row w) (w % 262144) (16384 + table_row w * table_row w) (lean (table_row w)) (straight w) (bend w) (omega arith)
    (omega arith) refl
    (div-mul-le_self 35184372088832 (16384 + table_row w * table_row w))
    (lt-div-mul-add {a = 35184372088832} {b = 16384 + table_row w * table_row w} (pos 16384 (table_row w * table_row w) (omega arith)))
    (div-mul-le_self (w % 262144 * lean (table_row w)) 67108864)
    (lt-div-mul-add {a = w % 262144 * lean (table_row w)} {b = 67108864} (omega arith))
    (div-mul-le_self (straight w * straight w * table_row w) 137438953472)
    (lt-div-mul-add {a = straight w * straight w * table_row w} {b = 137438953472} (omega arith))
    (4294967296 + table_row w * w) (whole (table_row w) (w % 262144) (omega arith)) (quotient w)
    (pos 4294967296 (table_row w * w) (omega arith))
    (left (quotient w) (4294967296 + table_row w * w) (w % 262144)
    (div-mul-le_self (1073741824 * (128 * (w % 262144))) (4294967296 + table_row w * w)))
    (right (quotient w) (4294967296 + table_row w * w) (w % 262144)
    (lt-div-mul-add {a = 1073741824 * (128 * (w % 262144))} {b = 4294967296 + table_row w * w}
    (pos 4294967296 (table_row w * w) (omega arith))))
  where
    pos : (m p : ℕ) → 0 < m → 0 < m + p
    pos m p g = omega arith

    whole : (k e : ℕ) → w ≡ 262144 * k + e → 4294967296 + k * w ≡ 262144 * (16384 + k * k) + k * e
    whole k e q = omega (arith, ap (λ (n : ℕ). k * n) q)

    left : (q x e : ℕ) → q * x ≤ 1073741824 * (128 * e) → q * x ≤ 137438953472 * e
    left q x e g = omega arith

    right : (q x e : ℕ) → 1073741824 * (128 * e) < q * x + x → 137438953472 * e < q * x + x
    right q x e g = omega arith
