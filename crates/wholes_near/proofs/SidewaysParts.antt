-- The error of x and y, in whole numbers: the f32 step's place R, made of the start S, the target T, the way D and its share M, against the
-- whole step's place r. A unit of 0.1 mm is u / 10000; u is 1 m and e is 2 ^ -22 m. Assumes nothing.
use Prim.Native.Nat.{ℕ, ◌+◌, ◌*◌, ◌≤◌, ◌<◌}
use mathlib.Core.Path.{◌≡◌}
use native.Mathlib.Nat.{mul-le-mul_left, mul-le-mul_right}
use native.Mathlib.Omega.{arith}
use Rattle.wholes_near.proofs.Apart.{Apart, times}

-- R - N, in units, is from r - 0.1 to r + 1.1
pub record Close (u R N r n : ℕ) : Type 0 where
  pub high : 10 * (10000 * R + n * u) ≤ 10 * (10000 * N + r * u) + 11 * u
  pub low : 10 * (10000 * N + r * u) ≤ 10 * (10000 * R + n * u) + u

-- one side of it: the products with p and u are named, w is how far the whole place may be below the exact one
one_side : (e pe w S S' p_s p_s' p_t p_t' p_d p_d' M M' R R' su su' ptu ptu' psu psu' ru ru' : ℕ)
    → R + (S' + M') ≤ S + M + R' + 4 * e
    → 2048 * M + p_d' ≤ p_d + 2048 * M' + 2048 * (8 * e)
    → p_d + (p_t' + p_s) ≤ p_t + p_s' + p_d' + 4 * pe
    → 10000 * p_t + ptu' ≤ ptu + 10000 * p_t' + 10000 * pe
    → psu + 10000 * p_s' ≤ 10000 * p_s + psu' + 10000 * pe
    → 10000 * S + su' ≤ su + 10000 * S' + 10000 * e
    → ptu + psu' + 2048 * (ru' + su) ≤ 2048 * (ru + su') + ptu' + psu + w
    → pe ≤ 2048 * e
    → 2048 * (10000 * R + ru') ≤ 2048 * (10000 * R' + ru) + w + 2048 * (190000 * e)
one_side e pe w S S' p_s p_s' p_t p_t' p_d p_d' M M' R R' su su' ptu ptu' psu psu' ru ru' a b c d f g h k = omega arith

-- the same with the products multiplied out
multiplied : (e u p s s' t t' S S' T T' D D' M M' R R' r r' w : ℕ)
    → p ≤ 2048
    → R + (S' + M') ≤ S + M + R' + 4 * e
    → 2048 * M + p * D' ≤ p * D + 2048 * M' + 2048 * (8 * e)
    → D + (T' + S) ≤ T + S' + D' + 4 * e
    → T * 10000 + t' * u ≤ t * u + T' * 10000 + 10000 * e
    → s * u + S' * 10000 ≤ S * 10000 + s' * u + 10000 * e
    → S * 10000 + s' * u ≤ s * u + S' * 10000 + 10000 * e
    → p * (t + s') + 2048 * (r' + s) ≤ 2048 * (r + s') + p * (t' + s) + w
    → 2048 * (10000 * R + r' * u) ≤ 2048 * (10000 * R' + r * u) + u * w + 2048 * (190000 * e)
multiplied e u p s s' t t' S S' T T' D D' M M' R R' r r' w few a b c d f g h =
    one_side e (p * e) (u * w) S S' (p * S) (p * S') (p * T) (p * T') (p * D) (p * D') M M' R R' (s * u) (s' * u) (p * (t * u))
    (p * (t' * u)) (p * (s * u)) (p * (s' * u)) (r * u) (r' * u) a b (by_way c) (by_length d) (by_length' f) (omega (arith, g)) (by_unit h)
    (mul-le-mul_right e few)
  where
    by_way : D + (T' + S) ≤ T + S' + D' + 4 * e → p * D + (p * T' + p * S) ≤ p * T + p * S' + p * D' + 4 * (p * e)
    by_way h = omega (arith, mul-le-mul_left p h)

    by_length : T * 10000 + t' * u ≤ t * u + T' * 10000 + 10000 * e
        → 10000 * (p * T) + p * (t' * u) ≤ p * (t * u) + 10000 * (p * T') + 10000 * (p * e)
    by_length h = omega (arith, mul-le-mul_left p h)

    by_length' : s * u + S' * 10000 ≤ S * 10000 + s' * u + 10000 * e
        → p * (s * u) + 10000 * (p * S') ≤ 10000 * (p * S) + p * (s' * u) + 10000 * (p * e)
    by_length' h = omega (arith, mul-le-mul_left p h)

    by_unit : p * (t + s') + 2048 * (r' + s) ≤ 2048 * (r + s') + p * (t' + s) + w
        → p * (t * u) + p * (s' * u) + 2048 * (r' * u + s * u) ≤ 2048 * (r * u + s' * u) + p * (t' * u) + p * (s * u) + u * w
    by_unit h = omega (arith, mul-le-mul_left u h)

-- divided by 2048, with u for so many e
divided : (e u R R' ru ru' : ℕ) → u ≡ 4194304 * e → 2048 * (10000 * R + ru') ≤ 2048 * (10000 * R' + ru) + u * 2048 + 2048 * (190000 * e)
    → 10 * (10000 * R + ru') ≤ 10 * (10000 * R' + ru) + 11 * u
divided e u R R' ru ru' unit h = omega (arith, unit, h)

divided' : (e u R R' ru ru' : ℕ) → u ≡ 4194304 * e → 2048 * (10000 * R + ru') ≤ 2048 * (10000 * R' + ru) + u * 0 + 2048 * (190000 * e)
    → 10 * (10000 * R + ru') ≤ 10 * (10000 * R' + ru) + u
divided' e u R R' ru ru' unit h = omega (arith, unit, h)

module _ (e u p s s' t t' S S' T T' D D' M M' R R' r r' : ℕ) (unit : u ≡ 4194304 * e) (few : p ≤ 2048)
    (start : Apart (10000 * e) (S * 10000) (S' * 10000) (s * u) (s' * u))
    (target : Apart (10000 * e) (T * 10000) (T' * 10000) (t * u) (t' * u))
    (way : Apart (4 * e) D D' (T + S') (T' + S))
    (share : Apart (2048 * (8 * e)) (2048 * M) (2048 * M') (p * D) (p * D'))
    (place : Apart (4 * e) R R' (S + M) (S' + M'))
    (at_most : 2048 * (r + s') + p * (t' + s) ≤ p * (t + s') + 2048 * (r' + s))
    (within_1 : p * (t + s') + 2048 * (r' + s) ≤ 2048 * (r + s') + p * (t' + s) + 2048) where
  pub sideways_close : Close u R R' r r'
  sideways_close = record {
    high =
        divided e u R R' (r * u) (r' * u) unit
        (multiplied e u p s s' t t' S S' T T' D D' M M' R R' r r' 2048 few place.up share.up way.up target.up start.low
        start.up within_1);
    low =
        divided' e u R' R (r' * u) (r * u) unit
        (multiplied e u p s' s t' t S' S T' T D' D M' M R' R r' r 0 few (omega (arith, place.low)) (omega (arith, share.low))
        (omega (arith, way.low)) (omega (arith, target.low)) (omega (arith, start.up)) (omega (arith, start.low))
        (omega (arith, at_most)));
  }
