-- From a direction (i, j) over d beside (X, Y), where Y is near to the root of U ^ 2 - X ^ 2, to i / d beside X / U. Assumes nothing.
use Rattle.std.specs.Prelude.{◌≡◌, ℕ, ◌+◌, ◌*◌, ◌<◌, ◌≤◌, ◌⊎◌}
use mathlib.Core.Path.{subst}
use mathlib.Core.Logic.{inl, inr}
use native.Mathlib.Nat.{le_trans, mul_assoc, mul_left_comm, mul-pos, mul-le-mul, mul-le-mul_left, mul-le-mul_right, le_of_mul-le-mul_left}
use native.Mathlib.Nat.{le_of_mul-le-mul_right}
use native.Mathlib.Omega.{arith}
use Rattle.series.proofs.Order.{here_or_on}

-- the square of Y is U ^ 2 - X ^ 2, but for 2 ^ -21 of it; and that is 0, or no less than 2 ^ -24 of U ^ 2
pub record Root (U X Y : ℕ) : Type 0 where
  pub Z : ℕ
  pub sum : X * X + Z ≡ U * U
  pub low : 2097151 * Z ≤ 2097152 * (Y * Y)
  pub high : 2097152 * (Y * Y) ≤ 2097153 * Z
  pub some : (Z ≡ 0) ⊎ (U * U ≤ 16777216 * Z)

sq : (a d : ℕ) → (a * d) * (a * d) ≡ (a * a) * (d * d)
sq a d = simp (mul_assoc, mul_left_comm)

-- all but d cancels
up_all : (x p u a b e : ℕ) → x * e ≤ a → p * e ≤ 1125899906842624 * b → 1125899906842624 * (a + b) ≤ 1125899906842625 * (u * e)
    → (1125899906842624 * x + p) * e ≤ 1125899906842625 * u * e
up_all x p u a b e f g h = omega arith

down_all : (x p u a b e : ℕ) → a ≤ x * e → 18014398509481984 * b ≤ p * e → 1125899906842623 * (u * e) ≤ 1125899906842624 * (a + b)
    → 18014398509481968 * u * e ≤ (18014398509481984 * x + p) * e
down_all x p u a b e f g h = omega arith

-- the sum of the squares of i and j, times U ^ 2
wider : (U i j : ℕ) → U * U * (i * i + j * j) ≡ (U * i) * (U * i) + (U * j) * (U * j)
wider U i j = omega arith

-- nothing is left between the two
near_up : (y z : ℕ) → 2097151 * z ≤ 2097152 * y → 16777216 * z ≤ 16777225 * y
near_up y z h = omega arith

up_some : (x y z u n m : ℕ) → 1125899906842624 * x + (1125899906842624 * y + 603979776 * n + 81 * m) ≤ 1125899906842625 * u → x + z ≡ u
    → 1125899906842624 * y + 603979776 * n + 81 * m ≤ 1125899906842624 * z + u
up_some x y z u n m a b = omega arith

up_less : (y z u n m : ℕ) → 1125899906842624 * y + 603979776 * n + 81 * m ≤ 1125899906842624 * z + u → 16777216 * z ≤ 16777225 * y
    → 603979776 * n + 81 * m ≤ 603979776 * y + u
up_less y z u n m a b = omega arith

up_none : (y u n m : ℕ) → 603979776 * n + 81 * m ≤ 603979776 * y + u → y ≤ n → u ≤ 4 * m → 0 < m → ⊥
up_none y u n m a b c e = omega arith

down_some : (x y z u : ℕ) → 18014398509481968 * u ≤ 18014398509481984 * x + 18014389114242249 * y → x + z ≡ u → 2097152 * y ≤ 2097153 * z
    → 9395239735 * y ≤ 8589934592 * z + 16 * u
down_some x y z u a b c = omega arith

down_none : (y z u : ℕ) → 9395239735 * y ≤ 8589934592 * z + 16 * u → 2097151 * z ≤ 2097152 * y → u ≤ 16777216 * z → 0 < y → ⊥
down_none y z u a b e f = omega arith

module _ (U X Y v i j d : ℕ) (R : Root U X Y) (X_le : X ≤ U) (Y_le : Y ≤ v) (v_pos : 0 < v) (U_pos : 0 < U) (d_pos : 0 < d) where
  -- ---- the upper half
  module _ (h : 33554432 * (Y * i) + 9 * (v * d) ≤ 33554432 * (X * j)) (g : X * d ≤ U * i) where
    X_some : 0 < X
    X_some = elim (here_or_on 0 X) [ inl k ↦ k | inr k ↦ absurd (no (mul-le-mul_right j k) (mul-pos v_pos d_pos)) ]
      where
        no : X * j ≤ 0 * j → 0 < v * d → ⊥
        no a b = omega arith

    P : ℕ
    P = 33554432 * Y + 9 * v

    along : P * d ≤ 33554432 * (U * j)
    unfolding P
    along = le_of_mul-le-mul_left {k = X} (go (mul-le-mul_left U h) (mul-le-mul_left Y g) (mul-le-mul_right (v * d) X_le)) X_some
      where
        go : U * (33554432 * (Y * i) + 9 * (v * d)) ≤ U * (33554432 * (X * j)) → Y * (X * d) ≤ Y * (U * i) → X * (v * d) ≤ U * (v * d)
            → X * ((33554432 * Y + 9 * v) * d) ≤ X * (33554432 * (U * j))
        go a b c = omega arith

    squared : 1125899906842624 * (i * i + j * j) ≤ 1125899906842625 * (d * d)
        → 1125899906842624 * (X * X) + P * P ≤ 1125899906842625 * (U * U)
    squared n =
        let p1 : (X * X) * (d * d) ≤ (U * i) * (U * i) = rw (sq X d) at (mul-le-mul g g) in
        let p2 : (P * P) * (d * d) ≤ 1125899906842624 * ((U * j) * (U * j)) = four (U * j) (rw (sq P d) at (mul-le-mul along along)) in
        le_of_mul-le-mul_right {k = d * d} (up_all (X * X) (P * P) (U * U) ((U * i) * (U * i)) ((U * j) * (U * j)) (d * d) p1 p2 (long n))
        (mul-pos d_pos d_pos)
      where
        four : (b : ℕ) → (P * P) * (d * d) ≤ (33554432 * b) * (33554432 * b) → (P * P) * (d * d) ≤ 1125899906842624 * (b * b)
        four b k = omega arith

        long : 1125899906842624 * (i * i + j * j) ≤ 1125899906842625 * (d * d)
            → 1125899906842624 * ((U * i) * (U * i) + (U * j) * (U * j)) ≤ 1125899906842625 * (U * U * (d * d))
        long k =
            subst (λ (z : ℕ). 1125899906842624 * z ≤ 1125899906842625 * (U * U * (d * d))) (wider U i j)
            (go (U * U) (i * i + j * j) (d * d) k)
          where
            go : (u a e : ℕ) → 1125899906842624 * a ≤ 1125899906842625 * e → 1125899906842624 * (u * a) ≤ 1125899906842625 * (u * e)
            go u a e q = omega (arith, mul-le-mul_left u q)

    pub transfer_up : 1125899906842624 * (i * i + j * j) ≤ 1125899906842625 * (d * d) → U ≤ 2 * v → ⊥
    unfolding P
    transfer_up n w =
        up_none (Y * Y) (U * U) (Y * v) (v * v)
        (up_less (Y * Y) R.Z (U * U) (Y * v) (v * v)
        (up_some (X * X) (Y * Y) R.Z (U * U) (Y * v) (v * v) (split (squared n)) R.sum) (near_up (Y * Y) R.Z R.low))
        (mul-le-mul_left Y Y_le) (twice (mul-le-mul w w)) (mul-pos v_pos v_pos)
      where
        split : 1125899906842624 * (X * X) + (33554432 * Y + 9 * v) * (33554432 * Y + 9 * v) ≤ 1125899906842625 * (U * U)
            → 1125899906842624 * (X * X) + (1125899906842624 * (Y * Y) + 603979776 * (Y * v) + 81 * (v * v)) ≤ 1125899906842625 * (U * U)
        split a = omega arith

        twice : U * U ≤ 2 * v * (2 * v) → U * U ≤ 4 * (v * v)
        twice a = omega arith

  -- ---- the lower half
  module _ (h : 134217728 * (X * j) + 35 * (v * d) ≤ 134217728 * (Y * i)) (g : U * i ≤ X * d) where
    Y_some : 0 < Y
    Y_some = elim (here_or_on 0 Y) [ inl k ↦ k | inr k ↦ absurd (no (mul-le-mul_right i k) (mul-pos v_pos d_pos)) ]
      where
        no : Y * i ≤ 0 * i → 0 < v * d → ⊥
        no a b = omega arith

    X_some' : 0 < X
    X_some' =
        elim (here_or_on 0 X) [
          | inl k ↦ k
          | inr k ↦ absurd (no (mul-le-mul_left Y (le_trans g (mul-le-mul_right d k))) (mul-le-mul_left U h)
              (mul-pos U_pos (mul-pos v_pos d_pos)))
        ]
      where
        no : Y * (U * i) ≤ Y * (0 * d) → U * (134217728 * (X * j) + 35 * (v * d)) ≤ U * (134217728 * (Y * i)) → 0 < U * (v * d) → ⊥
        no a b c = omega arith

    along' : 134217728 * (U * j) ≤ 134217693 * Y * d
    along' =
        le_of_mul-le-mul_left {k = X}
        (go (mul-le-mul_left U h) (mul-le-mul_left Y g) (mul-le-mul_right (v * d) X_le) (mul-le-mul_left X (mul-le-mul_right d Y_le)))
        X_some'
      where
        go : U * (134217728 * (X * j) + 35 * (v * d)) ≤ U * (134217728 * (Y * i)) → Y * (U * i) ≤ Y * (X * d) → X * (v * d) ≤ U * (v * d)
            → X * (Y * d) ≤ X * (v * d) → X * (134217728 * (U * j)) ≤ X * (134217693 * Y * d)
        go a b c e = omega arith

    squared' : 1125899906842623 * (d * d) ≤ 1125899906842624 * (i * i + j * j)
        → 18014398509481968 * (U * U) ≤ 18014398509481984 * (X * X) + 18014389114242249 * (Y * Y)
    squared' n =
        let p1 : (U * i) * (U * i) ≤ (X * X) * (d * d) = rw (sq X d) at (mul-le-mul g g) in
        let p2 : 18014398509481984 * ((U * j) * (U * j)) ≤ 18014389114242249 * (Y * Y) * (d * d) =
        four (U * j) (rw (sq (134217693 * Y) d) at (mul-le-mul along' along')) in
        le_of_mul-le-mul_right {k = d * d}
        (down_all (X * X) (18014389114242249 * (Y * Y)) (U * U) ((U * i) * (U * i)) ((U * j) * (U * j)) (d * d) p1 p2 (long n))
        (mul-pos d_pos d_pos)
      where
        four : (b : ℕ) → (134217728 * b) * (134217728 * b) ≤ (134217693 * Y) * (134217693 * Y) * (d * d)
            → 18014398509481984 * (b * b) ≤ 18014389114242249 * (Y * Y) * (d * d)
        four b k = omega arith

        long : 1125899906842623 * (d * d) ≤ 1125899906842624 * (i * i + j * j)
            → 1125899906842623 * (U * U * (d * d)) ≤ 1125899906842624 * ((U * i) * (U * i) + (U * j) * (U * j))
        long k =
            subst (λ (z : ℕ). 1125899906842623 * (U * U * (d * d)) ≤ 1125899906842624 * z) (wider U i j)
            (go (U * U) (i * i + j * j) (d * d) k)
          where
            go : (u a e : ℕ) → 1125899906842623 * e ≤ 1125899906842624 * a → 1125899906842623 * (u * e) ≤ 1125899906842624 * (u * a)
            go u a e q = omega (arith, mul-le-mul_left u q)

    pub transfer_down : 1125899906842623 * (d * d) ≤ 1125899906842624 * (i * i + j * j) → ⊥
    transfer_down n = go R.some
      where
        left : 9395239735 * (Y * Y) ≤ 8589934592 * R.Z + 16 * (U * U)
        left = down_some (X * X) (Y * Y) R.Z (U * U) (squared' n) R.sum R.high

        go : (R.Z ≡ 0) ⊎ (U * U ≤ 16777216 * R.Z) → ⊥
        go (inl e) = no R.Z e R.high (mul-pos Y_some Y_some)
          where
            no : (z : ℕ) → z ≡ 0 → 2097152 * (Y * Y) ≤ 2097153 * z → 0 < Y * Y → ⊥
            no z a b c = omega arith
        go (inr e) = down_none (Y * Y) R.Z (U * U) left R.low e (mul-pos Y_some Y_some)
