-- One product of the sums of two angles: an entry s of the tables times a number a of the rest is (p - m) (p' - m') in units of 2 ^ -62,
-- nearly. Assumes nothing.
use Rattle.std.specs.Prelude.{◌≡◌, ℕ, ◌+◌, ◌-◌, ◌*◌, ◌^◌, ◌≤◌}
use mathlib.Core.Path.{sym, ap, ◌∙◌, subst}
use mathlib.Core.Logic.{inl, inr}
use native.Mathlib.Nat.{le_trans, le_of_eq, le_of_lt, mul-le-mul_left, mul-le-mul_right}
use native.Mathlib.Omega.{arith}
use Rattle.series.proofs.Order.{here_or_on}
use Rattle.sines.specs.How.{table_one, rest_one}
use Rattle.sines.proofs.Rest.{Near}
use Rattle.sines.proofs.Entries.{Entry}

-- with x - y for (p - m) (p' - m')
pub record Product (e D s a x y : ℕ) : Type 0 where
  pub low : 2 * (D * D * (s * a)) + 2 ^ 63 * y ≤ 2 * table_one * (D * D * a) + 2 ^ 63 * x + D * D * a
      + (2 * table_one + 1) * (e * (D * D))
  pub high : 2 * table_one * (D * D * a) + 2 ^ 63 * x ≤ 2 * (D * D * (s * a)) + 2 ^ 63 * y + D * D * a
      + (2 * table_one + 1) * (e * (D * D))

-- the facts of an entry and of the rest, multiplied; w is |p - m|
module _ (e D s a p' m' w : ℕ) (near : Near e rest_one D a p' m') (few : 2 * table_one * w ≤ 2 * table_one * D + D) where
  small : 2 * table_one * w * (e * D) ≤ (2 * table_one + 1) * (e * (D * D))
  small = le_trans (mul-le-mul_right (e * D) few) (le_of_eq (go (e * D) ∙ ap (λ (n : ℕ). (2 * table_one + 1) * n) (turn e D)))
    where
      go : (f : ℕ) → (2 * table_one * D + D) * f ≡ (2 * table_one + 1) * (D * f)
      go f = omega arith

      turn : (e D : ℕ) → D * (e * D) ≡ e * (D * D)
      turn e D = omega arith

  rest_low : 2 * table_one * (w * (D * a)) + 2 ^ 63 * (w * m') ≤ 2 ^ 63 * (w * p') + (2 * table_one + 1) * (e * (D * D))
  rest_low = go (D * a) (e * D) ((2 * table_one + 1) * (e * (D * D))) (mul-le-mul_left (2 * table_one * w) near.low) small
    where
      go : (b f g : ℕ) → 2 * table_one * w * (b + rest_one * m') ≤ 2 * table_one * w * (rest_one * p' + f) → 2 * table_one * w * f ≤ g
          → 2 * table_one * (w * b) + 2 ^ 63 * (w * m') ≤ 2 ^ 63 * (w * p') + g
      go b f g h i = omega arith

  rest_high : 2 ^ 63 * (w * p') ≤ 2 * table_one * (w * (D * a)) + 2 ^ 63 * (w * m') + (2 * table_one + 1) * (e * (D * D))
  rest_high = go (D * a) (e * D) ((2 * table_one + 1) * (e * (D * D))) (mul-le-mul_left (2 * table_one * w) near.high) small
    where
      go : (b f g : ℕ) → 2 * table_one * w * (rest_one * p') ≤ 2 * table_one * w * (b + rest_one * m' + f) → 2 * table_one * w * f ≤ g
          → 2 ^ 63 * (w * p') ≤ 2 * table_one * (w * b) + 2 ^ 63 * (w * m') + g
      go b f g h i = omega arith

-- the facts of an entry, multiplied with D a: where p = m + w, and where m = p + w
up_low : (D s a m w : ℕ) → 2 * (s * D + table_one * m) ≤ 2 * (table_one * (m + w) + table_one * D) + D
    → 2 * (D * D * (s * a)) ≤ 2 * table_one * (w * (D * a)) + 2 * table_one * (D * D * a) + D * D * a
up_low D s a m w h = times (mul-le-mul_right (D * a) less)
  where
    less : 2 * (s * D) ≤ 2 * table_one * w + 2 * table_one * D + D
    less = omega arith

    times : 2 * (s * D) * (D * a) ≤ (2 * table_one * w + 2 * table_one * D + D) * (D * a)
        → 2 * (D * D * (s * a)) ≤ 2 * table_one * (w * (D * a)) + 2 * table_one * (D * D * a) + D * D * a
    times g = omega arith

up_high : (D s a m w : ℕ) → 2 * (table_one * (m + w) + table_one * D) ≤ 2 * (s * D + table_one * m) + D
    → 2 * table_one * (w * (D * a)) + 2 * table_one * (D * D * a) ≤ 2 * (D * D * (s * a)) + D * D * a
up_high D s a m w h = times (mul-le-mul_right (D * a) less)
  where
    less : 2 * table_one * w + 2 * table_one * D ≤ 2 * (s * D) + D
    less = omega arith

    times : (2 * table_one * w + 2 * table_one * D) * (D * a) ≤ (2 * (s * D) + D) * (D * a)
        → 2 * table_one * (w * (D * a)) + 2 * table_one * (D * D * a) ≤ 2 * (D * D * (s * a)) + D * D * a
    times g = omega arith

down_low : (D s a p w : ℕ) → 2 * (s * D + table_one * (p + w)) ≤ 2 * (table_one * p + table_one * D) + D
    → 2 * (D * D * (s * a)) + 2 * table_one * (w * (D * a)) ≤ 2 * table_one * (D * D * a) + D * D * a
down_low D s a p w h = times (mul-le-mul_right (D * a) less)
  where
    less : 2 * (s * D) + 2 * table_one * w ≤ 2 * table_one * D + D
    less = omega arith

    times : (2 * (s * D) + 2 * table_one * w) * (D * a) ≤ (2 * table_one * D + D) * (D * a)
        → 2 * (D * D * (s * a)) + 2 * table_one * (w * (D * a)) ≤ 2 * table_one * (D * D * a) + D * D * a
    times g = omega arith

down_high : (D s a p w : ℕ) → 2 * (table_one * p + table_one * D) ≤ 2 * (s * D + table_one * (p + w)) + D
    → 2 * table_one * (D * D * a) ≤ 2 * (D * D * (s * a)) + 2 * table_one * (w * (D * a)) + D * D * a
down_high D s a p w h = times (mul-le-mul_right (D * a) less)
  where
    less : 2 * table_one * D ≤ 2 * (s * D) + 2 * table_one * w + D
    less = omega arith

    times : 2 * table_one * D * (D * a) ≤ (2 * (s * D) + 2 * table_one * w + D) * (D * a)
        → 2 * table_one * (D * D * a) ≤ 2 * (D * D * (s * a)) + 2 * table_one * (w * (D * a)) + D * D * a
    times g = omega arith

-- how large w is
up_few : (D s m w : ℕ) → s ≤ 2 * table_one → 2 * (table_one * (m + w) + table_one * D) ≤ 2 * (s * D + table_one * m) + D
    → 2 * table_one * w ≤ 2 * table_one * D + D
up_few D s m w h g = go (mul-le-mul_right D h)
  where
    go : s * D ≤ 2 * table_one * D → 2 * table_one * w ≤ 2 * table_one * D + D
    go l = omega arith

down_few : (D s p w : ℕ) → 2 * (s * D + table_one * (p + w)) ≤ 2 * (table_one * p + table_one * D) + D
    → 2 * table_one * w ≤ 2 * table_one * D + D
down_few D s p w h = omega arith

-- ---- the product
upward : (e D s a p' m' m w : ℕ) → Entry D s (m + w) m → Near e rest_one D a p' m'
    → Product e D s a ((m + w) * p' + m * m') ((m + w) * m' + m * p')
upward e D s a p' m' m w E N =
    let few = up_few D s m w E.small E.high in
    let r = sum (D * D * (s * a)) (D * D * a) (w * (D * a)) (w * p') (w * m') ((m + w) * p' + m * m') ((m + w) * m' + m * p')
    ((2 * table_one + 1) * (e * (D * D)))
    sides (up_low D s a m w E.low) (up_high D s a m w E.high) (rest_low e D s a p' m' w N few) (rest_high e D s a p' m' w N few) in
    record { low = r.0; high = r.1 }
  where
    sides : (m + w) * p' + m * m' + w * m' ≡ (m + w) * m' + m * p' + w * p'
    sides = omega arith

    sum : (sa da wa wp wm x y g : ℕ) → x + wm ≡ y + wp → 2 * sa ≤ 2 * table_one * wa + 2 * table_one * da + da
        → 2 * table_one * wa + 2 * table_one * da ≤ 2 * sa + da
        → 2 * table_one * wa + 2 ^ 63 * wm ≤ 2 ^ 63 * wp + g
        → 2 ^ 63 * wp ≤ 2 * table_one * wa + 2 ^ 63 * wm + g
        → (2 * sa + 2 ^ 63 * y ≤ 2 * table_one * da + 2 ^ 63 * x + da + g)
        × (2 * table_one * da + 2 ^ 63 * x ≤ 2 * sa + 2 ^ 63 * y + da + g)
    sum sa da wa wp wm x y g e f h i j = (omega arith, omega arith)

downward : (e D s a p' m' p w : ℕ) → Entry D s p (p + w) → Near e rest_one D a p' m'
    → Product e D s a (p * p' + (p + w) * m') (p * m' + (p + w) * p')
downward e D s a p' m' p w E N =
    let few = down_few D s p w E.low in
    let r = sum (D * D * (s * a)) (D * D * a) (w * (D * a)) (w * p') (w * m') (p * p' + (p + w) * m') (p * m' + (p + w) * p')
    ((2 * table_one + 1) * (e * (D * D)))
    sides (down_low D s a p w E.low) (down_high D s a p w E.high) (rest_low e D s a p' m' w N few)
    (rest_high e D s a p' m' w N few) in
    record { low = r.0; high = r.1 }
  where
    sides : p * p' + (p + w) * m' + w * p' ≡ p * m' + (p + w) * p' + w * m'
    sides = omega arith

    sum : (sa da wa wp wm x y g : ℕ) → x + wp ≡ y + wm → 2 * sa + 2 * table_one * wa ≤ 2 * table_one * da + da
        → 2 * table_one * da ≤ 2 * sa + 2 * table_one * wa + da
        → 2 * table_one * wa + 2 ^ 63 * wm ≤ 2 ^ 63 * wp + g
        → 2 ^ 63 * wp ≤ 2 * table_one * wa + 2 ^ 63 * wm + g
        → (2 * sa + 2 ^ 63 * y ≤ 2 * table_one * da + 2 ^ 63 * x + da + g)
        × (2 * table_one * da + 2 ^ 63 * x ≤ 2 * sa + 2 ^ 63 * y + da + g)
    sum sa da wa wp wm x y g e f h i j = (omega arith, omega arith)

pub product : (e D s a p m p' m' : ℕ) → Entry D s p m → Near e rest_one D a p' m' → Product e D s a (p * p' + m * m') (p * m' + m * p')
product e D s a p m p' m' E N =
    elim (here_or_on p m) [
      | inl h ↦ subst (λ (n : ℕ). Product e D s a (p * p' + n * m') (p * m' + n * p')) (back p m (le_of_lt h))
          (downward e D s a p' m' p (m - p) (subst (λ (n : ℕ). Entry D s p n) (sym (back p m (le_of_lt h))) E) N)
      | inr h ↦ subst (λ (n : ℕ). Product e D s a (n * p' + m * m') (n * m' + m * p')) (back m p h)
          (upward e D s a p' m' m (p - m) (subst (λ (n : ℕ). Entry D s n m) (sym (back m p h)) E) N)
    ]
  where
    back : (i j : ℕ) → i ≤ j → i + (j - i) ≡ j
    back i j h = omega arith
