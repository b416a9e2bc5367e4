-- The error of z, in whole numbers: the f32 step's place R, made of the sine Y, the height H, their product A and the start S, against the
-- whole step's place r, made of the entry c and the height h. u is 1 m and e is 2 ^ -22 m. Assumes nothing.
use Prim.Native.Nat.{ℕ, ◌+◌, ◌*◌, ◌≤◌, ◌<◌}
use mathlib.Core.Path.{◌≡◌, ap}
use native.Mathlib.Nat.{mul-le-mul_left, mul-le-mul_right, le_of_mul-le-mul_left}
use native.Mathlib.Omega.{arith}
use Rattle.wholes_near.proofs.Apart.{Apart}
use Rattle.wholes_near.proofs.SidewaysParts.{Close}

-- 128 * 16384, and 10,000 times that
abbrev scale : ℕ
scale = 2097152

abbrev most : ℕ
most = scale * 10000

-- ---- the product against the entry's share of the height, one way and the other; products are named
raised_high : (ue uu u_h cue cu_h X YH YH' u_a u_a' : ℕ)
    → u_a + YH' ≤ YH + u_a' + 8 * ue
    → scale * YH ≤ 128 * cu_h + scale * YH' + 129 * u_h
    → 10000 * cu_h ≤ X + 10000 * cue
    → 10000 * u_h ≤ 1000 * uu + 10000 * ue
    → cue ≤ 16384 * ue
    → most * u_a ≤ 128 * X + most * u_a' + 188744970000 * ue + 129000 * uu
raised_high ue uu u_h cue cu_h X YH YH' u_a u_a' a b c d f = omega arith

raised_low : (ue uu u_h cue cu_h X YH YH' u_a u_a' : ℕ)
    → YH + u_a' ≤ u_a + YH' + 8 * ue
    → 128 * cu_h + scale * YH' ≤ scale * YH + 129 * u_h
    → X ≤ 10000 * cu_h + 10000 * cue
    → 10000 * u_h ≤ 1000 * uu + 10000 * ue
    → cue ≤ 16384 * ue
    → 128 * X + most * u_a' ≤ most * u_a + 188744970000 * ue + 129000 * uu
raised_low ue uu u_h cue cu_h X YH YH' u_a u_a' a b c d f = omega arith

-- ---- the place against the whole place
place_high : (e u A A' S S' R R' su su' X nu ru ru' : ℕ) → u ≡ 4194304 * e
    → R + (A' + S') ≤ A + S + R' + 4 * e
    → most * A ≤ 128 * X + most * A' + (188744970000 * e + 129000 * u)
    → 10000 * S + su' ≤ su + 10000 * S' + 10000 * e
    → X ≤ 16384 * nu + 16384 * u
    → ru + su' ≡ su + nu + ru'
    → 10 * (10000 * R + ru') ≤ 10 * (10000 * R' + ru) + 11 * u
place_high e u A A' S S' R R' su su' X nu ru ru' unit a b c d f = omega (arith, unit, a, b, c, d, f)

place_low : (e u A A' S S' R R' su su' X nu ru ru' : ℕ) → u ≡ 4194304 * e
    → A + S + R' ≤ R + (A' + S') + 4 * e
    → 128 * X + most * A' ≤ most * A + (188744970000 * e + 129000 * u)
    → su + 10000 * S' ≤ 10000 * S + su' + 10000 * e
    → 16384 * nu ≤ X
    → ru + su' ≡ su + nu + ru'
    → 10 * (10000 * R' + ru) ≤ 10 * (10000 * R + ru') + u
place_low e u A A' S S' R R' su su' X nu ru ru' unit a b c d f = omega (arith, unit, a, b, c, d, f)

module _ (e u c h H Y Y' A A' : ℕ) (U : 0 < u) (few : c ≤ 16384) (low_height : h ≤ 1000)
    (sine : Apart (129 * u) (scale * Y) (scale * Y') (128 * (c * u)) 0)
    (height_up : H * 10000 ≤ h * u + 10000 * e) (height_low : h * u ≤ H * 10000 + 10000 * e)
    (product : Apart (u * (8 * e)) (A * u) (A' * u) (Y * H) (Y' * H)) where
  small_height : 10000 * (u * H) ≤ 1000 * (u * u) + 10000 * (u * e)
  small_height = omega (arith, mul-le-mul_left u height_up, mul-le-mul_right (u * u) low_height)

  entry_most : c * (u * e) ≤ 16384 * (u * e)
  entry_most = mul-le-mul_right (u * e) few

  pub risen_high : most * A ≤ 128 * (c * h * u) + most * A' + (188744970000 * e + 129000 * u)
  risen_high =
      le_of_mul-le-mul_left {m = most * A} {n = 128 * (c * h * u) + most * A' + (188744970000 * e + 129000 * u)} {k = u}
      (gathered
      (raised_high (u * e) (u * u) (u * H) (c * (u * e)) (c * (u * H)) (c * h * u * u) (Y * H) (Y' * H) (u * A) (u * A')
      (by_product product.up) (by_sine sine.up) (by_height height_up) small_height entry_most)) U
    where
      by_product : A * u + Y' * H ≤ Y * H + A' * u + u * (8 * e) → u * A + Y' * H ≤ Y * H + u * A' + 8 * (u * e)
      by_product h = omega (arith, h)

      by_sine : scale * Y + 0 ≤ 128 * (c * u) + scale * Y' + 129 * u
          → scale * (Y * H) ≤ 128 * (c * (u * H)) + scale * (Y' * H) + 129 * (u * H)
      by_sine h = omega (arith, mul-le-mul_left H h)

      by_height : H * 10000 ≤ h * u + 10000 * e → 10000 * (c * (u * H)) ≤ c * h * u * u + 10000 * (c * (u * e))
      by_height h = omega (arith, mul-le-mul_left (c * u) h)

      gathered : most * (u * A) ≤ 128 * (c * h * u * u) + most * (u * A') + 188744970000 * (u * e) + 129000 * (u * u)
          → u * (most * A) ≤ u * (128 * (c * h * u) + most * A' + (188744970000 * e + 129000 * u))
      gathered h = omega (arith, h)

  pub risen_low : 128 * (c * h * u) + most * A' ≤ most * A + (188744970000 * e + 129000 * u)
  risen_low =
      le_of_mul-le-mul_left {m = 128 * (c * h * u) + most * A'} {n = most * A + (188744970000 * e + 129000 * u)} {k = u}
      (gathered
      (raised_low (u * e) (u * u) (u * H) (c * (u * e)) (c * (u * H)) (c * h * u * u) (Y * H) (Y' * H) (u * A) (u * A')
      (by_product product.low) (by_sine sine.low) (by_height height_low) small_height entry_most)) U
    where
      by_product : Y * H + A' * u ≤ A * u + Y' * H + u * (8 * e) → Y * H + u * A' ≤ u * A + Y' * H + 8 * (u * e)
      by_product h = omega (arith, h)

      by_sine : 128 * (c * u) + scale * Y' ≤ scale * Y + 0 + 129 * u
          → 128 * (c * (u * H)) + scale * (Y' * H) ≤ scale * (Y * H) + 129 * (u * H)
      by_sine h = omega (arith, mul-le-mul_left H h)

      by_height : h * u ≤ H * 10000 + 10000 * e → c * h * u * u ≤ 10000 * (c * (u * H)) + 10000 * (c * (u * e))
      by_height h = omega (arith, mul-le-mul_left (c * u) h)

      gathered : 128 * (c * h * u * u) + most * (u * A') ≤ most * (u * A) + 188744970000 * (u * e) + 129000 * (u * u)
          → u * (128 * (c * h * u) + most * A') ≤ u * (most * A + (188744970000 * e + 129000 * u))
      gathered h = omega (arith, h)

  module _ (s s' S S' R R' n r r' : ℕ) (unit : u ≡ 4194304 * e)
      (start : Apart (10000 * e) (S * 10000) (S' * 10000) (s * u) (s' * u))
      (place : Apart (4 * e) R R' (A + S) (A' + S'))
      (not_above : 16384 * n ≤ h * c) (below_1 : h * c ≤ 16384 * n + 16384) (whole : r + s' ≡ s + n + r') where
    pub upwards_close : Close u R R' r r'
    upwards_close = record {
      high =
          place_high e u A A' S S' R R' (s * u) (s' * u) (c * h * u) (n * u) (r * u) (r' * u) unit place.up risen_high
          (omega (arith, start.up)) (omega (arith, mul-le-mul_left u below_1)) (omega (arith, ap (λ (k : ℕ). k * u) whole));
      low =
          place_low e u A A' S S' R R' (s * u) (s' * u) (c * h * u) (n * u) (r * u) (r' * u) unit place.low risen_low
          (omega (arith, start.low)) (omega (arith, mul-le-mul_left u not_above)) (omega (arith, ap (λ (k : ℕ). k * u) whole));
    }
