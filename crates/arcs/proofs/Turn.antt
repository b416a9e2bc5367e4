-- atan2 of whole numbers: the computed angle of a vector lies between the wedge's two sides, E before and E past it, in units of 2 ^ -30.
-- Assumes nothing.
use Rattle.std.specs.Prelude.{◌≡◌, ℕ, ◌+◌, ◌-◌, ◌*◌, ◌/◌, ◌<◌, ◌≤◌, Bool, true, false, ltb, ◌⊎◌}
use mathlib.Core.Path.{refl, sym, subst₂}
use mathlib.Core.Logic.{inl, inr}
use native.Mathlib.Nat.{add-zero, mul-pos, mul-le-mul_right, mul-lt-mul_of_pos_right}
use native.Mathlib.Omega.{arith}
use Rattle.series.specs.Fractions.{Fraction, ◌÷◌, whole, negative, signed, ◌⊕◌, ◌⊗◌, ◌≼◌, ◌≺◌}
use Rattle.series.proofs.Order.{here_or_on}
use Rattle.series.proofs.Parity.{difference}
use Rattle.series.proofs.Grid.{sp, sm, cp, cm, D, D_pos}
use Rattle.arcs.specs.How.{wide, angle, smaller, larger, ratio, angle_of}
use Rattle.arcs.proofs.Octants.{Less, Right, Left, right, left}
use Rattle.arcs.proofs.Carry.{Apart}
use Rattle.arcs.proofs.Places.{sine_at, cosine_at, sine_pos, sine_neg, cosine_pos, cosine_neg}

-- the three rules at the angle n
pub record Fine (E : ℕ) (y x : Fraction) (n : ℕ) : Type 0 where
  pub low : x ⊗ sine_at n E ≼ y ⊗ cosine_at n E
  pub high : y ⊗ cosine_at (n + E) 0 ≼ x ⊗ sine_at (n + E) 0
  pub ahead : whole 0 ≺ x ⊗ cosine_at n 0 ⊕ y ⊗ sine_at n 0

-- n is t to the nearest multiple of 256
pub record Rounded (t n : ℕ) : Type 0 where
  pub up : n ≤ t + 128
  pub down : t ≤ n + 128

pub rounded : (t : ℕ) → Rounded t (256 * ((t + 128) / 256))
rounded t = record { up = omega arith; down = omega arith }

-- ---- from whole numbers to fractions: x and y over u, the sums over d
le_right : (x y u p m q l d : ℕ) → x * p + y * l < y * q + x * m → x ÷ u ⊗ difference p m d ≼ y ÷ u ⊗ difference q l d
le_right x y u p m q l d h = go (u * d)
  where
    go : (k : ℕ) → (x * p + 0 * m) * k + (y * l + 0 * q) * k ≤ (y * q + 0 * l) * k + (x * m + 0 * p) * k
    go k = omega (arith, mul-le-mul_right k h)

ge_right : (x y u p m q l d : ℕ) → y * q + x * m < x * p + y * l → y ÷ u ⊗ difference q l d ≼ x ÷ u ⊗ difference p m d
ge_right x y u p m q l d h = go (u * d)
  where
    go : (k : ℕ) → (y * q + 0 * l) * k + (x * m + 0 * p) * k ≤ (x * p + 0 * m) * k + (y * l + 0 * q) * k
    go k = omega (arith, mul-le-mul_right k h)

le_left : (x y u p m q l d : ℕ) → x * m + y * l < y * q + x * p → negative (x ÷ u) ⊗ difference p m d ≼ y ÷ u ⊗ difference q l d
le_left x y u p m q l d h = go (u * d)
  where
    go : (k : ℕ) → (0 * p + x * m) * k + (y * l + 0 * q) * k ≤ (y * q + 0 * l) * k + (0 * m + x * p) * k
    go k = omega (arith, mul-le-mul_right k h)

ge_left : (x y u p m q l d : ℕ) → y * q + x * p < x * m + y * l → y ÷ u ⊗ difference q l d ≼ negative (x ÷ u) ⊗ difference p m d
ge_left x y u p m q l d h = go (u * d)
  where
    go : (k : ℕ) → (y * q + 0 * l) * k + (0 * m + x * p) * k ≤ (0 * p + x * m) * k + (y * l + 0 * q) * k
    go k = omega (arith, mul-le-mul_right k h)

ahead_right : (x y u p m q l d : ℕ) → 0 < u → 0 < d → x * m + y * l < x * p + y * q
    → whole 0 ≺ x ÷ u ⊗ difference p m d ⊕ y ÷ u ⊗ difference q l d
ahead_right x y u p m q l d i j h = go (u * d) (mul-lt-mul_of_pos_right h (mul-pos i j))
  where
    go : (k : ℕ) → (x * m + y * l) * k < (x * p + y * q) * k
        → 0 * (k * k) + ((x * m + 0 * p) * k + (y * l + 0 * q) * k) * 1 < ((x * p + 0 * m) * k + (y * q + 0 * l) * k) * 1 + 0 * (k * k)
    go k g = omega arith

ahead_left : (x y u p m q l d : ℕ) → 0 < u → 0 < d → x * p + y * l < x * m + y * q
    → whole 0 ≺ negative (x ÷ u) ⊗ difference p m d ⊕ y ÷ u ⊗ difference q l d
ahead_left x y u p m q l d i j h = go (u * d) (mul-lt-mul_of_pos_right h (mul-pos i j))
  where
    go : (k : ℕ) → (x * p + y * l) * k < (x * m + y * q) * k
        → 0 * (k * k) + ((0 * m + x * p) * k + (y * l + 0 * q) * k) * 1 < ((0 * p + x * m) * k + (y * q + 0 * l) * k) * 1 + 0 * (k * k)
    go k g = omega arith

-- by cases on which of the two is larger
below : (n m : ℕ) → ((k : ℕ) × (k + m ≡ n)) ⊎ ((k : ℕ) × (k + n ≡ m))
below n m = elim (here_or_on n m) [ inl h ↦ inr (m - n, omega arith) | inr h ↦ inl (n - m, omega arith) ]

module _ (E : ℕ) (E_low : 1024 ≤ E) (E_high : E ≤ 4096) (u : ℕ) (u_pos : 0 < u) (x y : ℕ) (v_pos : 0 < larger x y) where
  abbrev v : ℕ
  v = larger x y

  less : (p q : ℕ) → Apart v p q → p < q
  less p q h = go (v * D) (mul-pos v_pos D_pos) h
    where
      go : (m : ℕ) → 0 < m → 33554432 * p + 9 * m ≤ 33554432 * q → p < q
      go m i g = omega arith

  module _ (t n : ℕ) (R : Rounded t n) where
    right_low : Right v x y t → x ÷ u ⊗ sine_at n E ≼ y ÷ u ⊗ cosine_at n E
    right_low W = elim (below n E) [
      | inl q ↦
          let k = q.0 in
          subst₂ (λ (s c : Fraction). x ÷ u ⊗ s ≼ y ÷ u ⊗ c) (sym (sine_pos n E k q.1)) (sym (cosine_pos n E k q.1))
          (le_right x y u (sp k) (sm k) (cp k) (cm k) D
          (omega (
            arith,
            less (y * cm k + x * sp k) (y * cp k + x * sm k)
                (W.before (t - k) k (omega (arith, q.1, R.up, R.down)) (omega (arith, q.1, R.up, R.down))
                (omega (arith, q.1, R.up, R.down))),
          )))
      | inr q ↦
          let k = q.0 in
          subst₂ (λ (s c : Fraction). x ÷ u ⊗ s ≼ y ÷ u ⊗ c) (sym (sine_neg n E k q.1)) (sym (cosine_neg n E k q.1))
          (le_right x y u (sm k) (sp k) (cp k) (cm k) D
          (omega (
            arith,
            less (y * cm k + x * sm k) (y * cp k + x * sp k)
                (W.beyond (k + t) k (omega (arith, q.1, R.up, R.down)) (omega (arith, q.1, R.up, R.down)) refl),
          )))
    ]

    right_high : Right v x y t → y ÷ u ⊗ cosine_at (n + E) 0 ≼ x ÷ u ⊗ sine_at (n + E) 0
    right_high W =
        let k = n + E in
        subst₂ (λ (s c : Fraction). y ÷ u ⊗ c ≼ x ÷ u ⊗ s) (sym (sine_pos k 0 k (add-zero k))) (sym (cosine_pos k 0 k (add-zero k)))
        (ge_right x y u (sp k) (sm k) (cp k) (cm k) D
        (omega (
          arith,
          less (y * cp k + x * sm k) (y * cm k + x * sp k)
              (W.past (k - t) k (omega (arith, R.up, R.down)) (omega (arith, R.up, R.down)) (omega (arith, R.up, R.down))),
        )))

    right_ahead : Right v x y t → whole 0 ≺ x ÷ u ⊗ cosine_at n 0 ⊕ y ÷ u ⊗ sine_at n 0
    right_ahead W =
        subst₂ (λ (s c : Fraction). whole 0 ≺ x ÷ u ⊗ c ⊕ y ÷ u ⊗ s) (sym (sine_pos n 0 n (add-zero n)))
        (sym (cosine_pos n 0 n (add-zero n)))
        (ahead_right x y u (cp n) (cm n) (sp n) (sm n) D u_pos D_pos
        (omega (
          arith,
          less (y * sm n + x * cm n) (y * sp n + x * cp n)
              (near (sm n) (sp n) (cp n) (cm n)
              (elim (here_or_on n t) [
                | inl g ↦ W.off (t - n) n (omega (arith, R.down)) (omega arith)
                | inr g ↦ W.on (n - t) n (omega (arith, R.up)) (omega arith)
              ])),
        )))
      where
        near : (s s' c c' : ℕ) → Apart v (x * c' + y * s) (x * c + y * s') → Less v y x s s' c c'
        near s s' c c' h = omega arith

    pub right_fine : Right v x y t → Fine E (y ÷ u) (x ÷ u) n
    right_fine W = record { low = right_low W; high = right_high W; ahead = right_ahead W }

    left_low : Left v x y t → negative (x ÷ u) ⊗ sine_at n E ≼ y ÷ u ⊗ cosine_at n E
    left_low W = elim (below n E) [
      | inl q ↦
          let k = q.0 in
          subst₂ (λ (s c : Fraction). negative (x ÷ u) ⊗ s ≼ y ÷ u ⊗ c) (sym (sine_pos n E k q.1)) (sym (cosine_pos n E k q.1))
          (le_left x y u (sp k) (sm k) (cp k) (cm k) D
          (omega (
            arith,
            less (y * cm k + x * sm k) (y * cp k + x * sp k)
                (W.before (t - k) k (omega (arith, q.1, R.up, R.down)) (omega (arith, q.1, R.up, R.down))
                (omega (arith, q.1, R.up, R.down))),
          )))
      | inr q ↦ absurd (no q.0 q.1 W.least R.down)
    ]
      where
        no : (k : ℕ) → k + n ≡ E → 1686629713 ≤ t → t ≤ n + 128 → ⊥
        no k a b c = omega arith

    left_high : Left v x y t → y ÷ u ⊗ cosine_at (n + E) 0 ≼ negative (x ÷ u) ⊗ sine_at (n + E) 0
    left_high W =
        let k = n + E in
        subst₂ (λ (s c : Fraction). y ÷ u ⊗ c ≼ negative (x ÷ u) ⊗ s) (sym (sine_pos k 0 k (add-zero k)))
        (sym (cosine_pos k 0 k (add-zero k)))
        (ge_left x y u (sp k) (sm k) (cp k) (cm k) D
        (omega (
          arith,
          less (y * cp k + x * sp k) (y * cm k + x * sm k)
              (W.past (k - t) k (omega (arith, R.up, R.down)) (omega (arith, R.up, R.down)) (omega (arith, R.up, R.down))),
        )))

    left_ahead : Left v x y t → whole 0 ≺ negative (x ÷ u) ⊗ cosine_at n 0 ⊕ y ÷ u ⊗ sine_at n 0
    left_ahead W =
        subst₂ (λ (s c : Fraction). whole 0 ≺ negative (x ÷ u) ⊗ c ⊕ y ÷ u ⊗ s) (sym (sine_pos n 0 n (add-zero n)))
        (sym (cosine_pos n 0 n (add-zero n)))
        (ahead_left x y u (cp n) (cm n) (sp n) (sm n) D u_pos D_pos
        (omega (
          arith,
          less (y * sm n + x * cp n) (y * sp n + x * cm n)
              (near (sm n) (sp n) (cp n) (cm n)
              (elim (here_or_on n t) [
                | inl g ↦ W.off (t - n) n (omega (arith, R.down)) (omega arith)
                | inr g ↦ W.on (n - t) n (omega (arith, R.up)) (omega arith)
              ])),
        )))
      where
        near : (s s' c c' : ℕ) → Apart v (x * c + y * s) (x * c' + y * s') → Less v y x s s' c' c
        near s s' c c' h = omega arith

    pub left_fine : Left v x y t → Fine E (y ÷ u) (negative (x ÷ u)) n
    left_fine W = record { low = left_low W; high = left_high W; ahead = left_ahead W }

  -- (x, y) with y not negative
  pub upper : (left? : Bool) → Fine E (y ÷ u) (signed left? (x ÷ u)) (256 * angle_of left? x y)
  unfolding angle
  upper false = let t = wide (ltb x y) false (ratio (smaller x y) (larger x y)) in
      right_fine t (256 * ((t + 128) / 256)) (rounded t) (right x y v_pos)
  upper true = let t = wide (ltb x y) true (ratio (smaller x y) (larger x y)) in
      left_fine t (256 * ((t + 128) / 256)) (rounded t) (left x y v_pos)

-- the angle is at most P
pub angle_le : (left? : Bool) (x y : ℕ) → 0 < larger x y → angle_of left? x y ≤ 13176795
unfolding angle
angle_le false x y p = omega (arith, (right x y p).most)
angle_le true x y p = omega (arith, (left x y p).most)
