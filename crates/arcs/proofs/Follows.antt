-- The computed arc sine: at d past it S is past the number by more than 2 ^ -31, and at d before it before it. Assumes nothing.
-- The numerals are powers of two: 2 ^ 31 is 2147483648, 2 ^ 36 68719476736, 2 ^ 60 1152921504606846976, 2 ^ 61 2305843009213693952, 2 ^ 67
-- 147573952589676412928, 2 ^ 91 2475880078570760549798248448; 61572651155456 is 896 * 2 ^ 36.
use Rattle.std.specs.Prelude.{◌≡◌, ℕ, zero, suc, ◌+◌, ◌-◌, ◌*◌, ◌/◌, ◌%◌, ◌<◌, ◌≤◌}
use mathlib.Core.Path.{sym, ap, ap₂, ◌∙◌, subst}
use native.Mathlib.Nat.{mul-zero, mul-le-mul, mul-le-mul_left, mul-le-mul_right, le_of_mul-le-mul_right, div-mul-le_self, lt-div-mul-add}
use native.Mathlib.Omega.{arith}
use Rattle.series.proofs.Grid.{sp, sm, D}
use Rattle.arc_rows.specs.ArcSine.{angle_at, slope_at, bend_at}
use Rattle.arc_rows.proofs.SineRows.{at, cosine_of, sine_of, sine_ahead, row_past, row_before, row_sized, first_row, first_cosine}
use Rattle.arc_rows.proofs.SineRows.{first_sine}
use Rattle.arc_rows.proofs.SineRows.{unit_is, unit_pos}
use Rattle.arc_rows.proofs.SineTests.{unit, early, base}
use Rattle.arcs.specs.How.{table_row, arc_sine}

-- ---- the quadratic bounds of S at w, in the units of the row's polynomial: m of them are a unit of w
module _ (m g w a b s s' d : ℕ) (e : g ≡ 1152921504606846976 * (m * m)) where
  low_scaled :
      2305843009213693952 * b + 2147483648 * (w * a) + 2475880078570760549798248448 * s'
      ≤ 2475880078570760549798248448 * s + w * w * b + 590295810358705651712 * d
      → 2 * (g * b) + 2147483648 * m * (a * (m * w)) + 2147483648 * (g * s')
      ≤ 2147483648 * (g * s) + b * (m * w * (m * w)) + 512 * (g * d)
  low_scaled h =
      omega (
        arith,
        mul-le-mul_left (m * m) h,
        ap (λ (n : ℕ). n * b) e,
        ap (λ (n : ℕ). n * s) e,
        ap (λ (n : ℕ). n * s') e,
        ap (λ (n : ℕ). n * d) e,
      )

  high_scaled :
      2475880078570760549798248448 * s + w * w * b
      ≤ 2305843009213693952 * b + 2147483648 * (w * a) + 2475880078570760549798248448 * s' + 4611686018427387904 * d
      → 2147483648 * (g * s) + b * (m * w * (m * w))
      ≤ 2 * (g * b) + 2147483648 * m * (a * (m * w)) + 2147483648 * (g * s') + 4 * (g * d)
  high_scaled h =
      omega (
        arith,
        mul-le-mul_left (m * m) h,
        ap (λ (n : ℕ). n * b) e,
        ap (λ (n : ℕ). n * s) e,
        ap (λ (n : ℕ). n * s') e,
        ap (λ (n : ℕ). n * d) e,
      )

-- ---- the row's polynomial lies between l and n, which are v but for the bounds on d
over : (g a b s s' d k x v l n : ℕ) → 0 < g → l ≤ v → v ≤ n
    → 2 * (g * b) + 147573952589676412928 * (a * v) + 2147483648 * (g * s') ≤ 2147483648 * (g * s) + b * (v * v) + 512 * (g * d)
    → b * (n * n) + ((16777216 * k + 705) * (g * d) + x * (64 * (g * d))) ≤ 2 * (g * b) + 147573952589676412928 * a * l
    → 2147483648 * s' + (16777216 * k + 64 * x + 193) * d ≤ 2147483648 * s
over g a b s s' d k x v l n p hl hn h i =
    le_of_mul-le-mul_right {m = 2147483648 * s' + (16777216 * k + 64 * x + 193) * d} {n = 2147483648 * s} {k = g}
    (omega (arith, mul-le-mul_left a hl, mul-le-mul_left b (mul-le-mul hn hn))) p

under : (g a b s s' d k x v l n : ℕ) → 0 < g → v + 61572651155456 ≤ l → b * (n * n) ≤ b * (v * v)
    → 2147483648 * (g * s) + b * (v * v) ≤ 2 * (g * b) + 147573952589676412928 * (a * v) + 2147483648 * (g * s') + 4 * (g * d)
    → 2 * (g * b) + 133 * (g * d) + 147573952589676412928 * a * l
    ≤ b * (n * n) + (16777216 * k * (g * d) + 61572651155456 * (147573952589676412928 * a) + x * (64 * (g * d)))
    → 2147483648 * s + 129 * d ≤ 2147483648 * s' + (16777216 * k + 64 * x) * d
under g a b s s' d k x v l n p hl hn h i =
    le_of_mul-le-mul_right {m = 2147483648 * s + 129 * d} {n = 2147483648 * s' + (16777216 * k + 64 * x) * d} {k = g}
    (omega (arith, mul-le-mul_left a hl)) p

-- ---- the polynomial as it is computed, with two digits' places dropped
computed : ℕ → ℕ → ℕ → ℕ
computed B C x = x * (B + x * C / 262144) / 262144

computed_low : (B C x : ℕ) → 68719476736 * computed B C x ≤ x * (262144 * B + x * C)
unfolding computed
computed_low B C x =
    go (x * C / 262144) (computed B C x) (div-mul-le_self (x * C) 262144) (div-mul-le_self (x * (B + x * C / 262144)) 262144)
  where
    go : (u z : ℕ) → u * 262144 ≤ x * C → z * 262144 ≤ x * (B + u) → 68719476736 * z ≤ x * (262144 * B + x * C)
    go u z h i = omega (arith, mul-le-mul_left x h)

computed_high : (B C x : ℕ) → x < 262144 → x * (262144 * B + x * C) ≤ 68719476736 * (computed B C x + 2)
unfolding computed
computed_high B C x l =
    go (x * C / 262144) (computed B C x) (lt-div-mul-add {a = x * C} {b = 262144} (omega arith))
    (lt-div-mul-add {a = x * (B + x * C / 262144)} {b = 262144} (omega arith))
  where
    go : (u z : ℕ) → x * C < u * 262144 + 262144 → x * (B + u) < z * 262144 + 262144
        → x * (262144 * B + x * C) ≤ 68719476736 * (z + 2)
    go u z h i = let j : x * C ≤ u * 262144 + 262144 = omega arith in omega (arith, mul-le-mul_left x j)

computed_le : (B C x : ℕ) → x < 262144 → B ≤ 11800000 → C ≤ 65535 → computed B C x ≤ 11900000
computed_le B C x l b c =
    let p : x * C ≤ 262144 * 65535 = mul-le-mul (below l) c in
    go (computed B C x) (computed_low B C x) (mul-le-mul (below l) b) (mul-le-mul (below l) p)
  where
    below : x < 262144 → x ≤ 262144
    below g = omega arith

    go : (z : ℕ) → 68719476736 * z ≤ x * (262144 * B + x * C) → x * B ≤ 262144 * 11800000 → x * (x * C) ≤ 262144 * (262144 * 65535)
        → z ≤ 11900000
    go z h i j = omega arith

early_le : (k : ℕ) → early k ≤ 4226
early_le zero = omega arith
early_le (suc k) = omega arith

-- ---- row k, at x past its start
module _ (k x : ℕ) (hk : k < 91) (hx : x < 262144) where
  abbrev B : ℕ
  B = slope_at k

  abbrev C : ℕ
  C = bend_at k

  abbrev o : ℕ
  o = early k

  abbrev z : ℕ
  z = computed B C x

  z_le : z ≤ 11900000
  z_le = computed_le B C x hx (row_sized k hk).2 (row_sized k hk).3

  row_over : (d n : ℕ) → 896 ≤ d → d ≤ 4224 → n ≡ angle_at k + z + d
      → 2147483648 * sm n + (16777216 * k + 64 * x + 193) * D ≤ 2147483648 * sp n
  row_over d n p q e =
      let w = o + z + d in
      let f : w ≤ 12000000 = omega (arith, early_le k, z_le) in
      let i : n ≡ base k + w = omega (arith, (row_sized k hk).0) in
      over unit (cosine_of k) (sine_of k) (sp n) (sm n) D k x (68719476736 * w) (at (68719476736 * (o + 894)) B C x)
      (at (68719476736 * (o + 4224)) B C x) unit_pos
      (least (o) z d (x * (262144 * B + x * C)) p (computed_high B C x hx)) (most o z d (x * (262144 * B + x * C)) q (computed_low B C x))
      (low_scaled 68719476736 unit w (cosine_of k) (sine_of k) (sp n) (sm n) D unit_is (sine_ahead k hk w n f i).low) (row_past k hk x hx)
    where
      least : (o z d y : ℕ) → 896 ≤ d → y ≤ 68719476736 * (z + 2) → 68719476736 * (o + 894) + y ≤ 68719476736 * (o + z + d)
      least o z d y p h = omega arith

      most : (o z d y : ℕ) → d ≤ 4224 → 68719476736 * z ≤ y → 68719476736 * (o + z + d) ≤ 68719476736 * (o + 4224) + y
      most o z d y p h = omega arith

  row_under : (d w n : ℕ) → 896 ≤ d → d ≤ 4224 → w + d ≡ o + z → n + d ≡ angle_at k + z
      → sine_of k * (at 0 B C x * at 0 B C x) ≤ sine_of k * (68719476736 * w * (68719476736 * w))
      → 2147483648 * sp n + 129 * D ≤ 2147483648 * sm n + (16777216 * k + 64 * x) * D
  row_under d w n p q e f g =
      let r : w ≤ 12000000 = omega (arith, early_le k, z_le) in
      let i : n ≡ base k + w = omega (arith, (row_sized k hk).0) in
      under unit (cosine_of k) (sine_of k) (sp n) (sm n) D k x (68719476736 * w) (at (68719476736 * o) B C x) (at 0 B C x) unit_pos
      (most o z d w (x * (262144 * B + x * C)) p e (computed_low B C x)) g
      (high_scaled 68719476736 unit w (cosine_of k) (sine_of k) (sp n) (sm n) D unit_is (sine_ahead k hk w n r i).high)
      (row_before k hk x hx)
    where
      most : (o z d w y : ℕ) → 896 ≤ d → w + d ≡ o + z → 68719476736 * z ≤ y → 68719476736 * w + 61572651155456 ≤ 68719476736 * o + y
      most o z d w y p e h = omega arith

-- ---- before the row's number: w is past the polynomial, or the row's sine is 0
squares_le : (k y d w z : ℕ) → d ≤ 4224 → w + d ≡ early k + z → y ≤ 68719476736 * (z + 2)
    → sine_of k * (y * y) ≤ sine_of k * (68719476736 * w * (68719476736 * w))
squares_le zero y d w z p e h = subst (λ (s : ℕ). s * (y * y) ≤ s * (68719476736 * w * (68719476736 * w))) (sym first_sine) (omega arith)
squares_le (suc k) y d w z p e h = mul-le-mul_left (sine_of (suc k)) (mul-le-mul less less)
  where
    less : y ≤ 68719476736 * w
    less = omega arith

-- there is room before it
before_room : (k d n z : ℕ) → d ≤ 4224 → n + d ≡ angle_at k + z → d ≤ early k + z
before_room zero d n z p e = omega (arith, first_row.0)
before_room (suc k) d n z p e = omega arith

-- where there is none the row is the first, which is a line, and S is a line there but for 2 ^ -22
first_under : (x d n : ℕ) → 896 ≤ d → d ≤ 4224 → n + 32 * x ≡ d → 2147483648 * sm n + 129 * D ≤ 2147483648 * sp n + 64 * x * D
first_under x d n p q e =
    let f : n ≤ 12000000 = omega arith in
    let i : n ≡ base 0 + n = omega (arith, first_row.0) in
    go (cosine_of 0) (sine_of 0) (sp n) (sm n) D first_cosine first_sine (sine_ahead 0 (omega arith) n n f i).low
  where
    go : (a b s s' h : ℕ) → a ≡ 1073741824 * h → b ≡ 0
        → 2305843009213693952 * b + 2147483648 * (n * a) + 2475880078570760549798248448 * s'
        ≤ 2475880078570760549798248448 * s + n * n * b + 590295810358705651712 * h
        → 2147483648 * s' + 129 * h ≤ 2147483648 * s + 64 * x * h
    go a b s s' h u v k =
        let l : 2 * (n * h) + 2147483648 * s' ≤ 2147483648 * s + 512 * h =
        omega (arith, ap (λ (m : ℕ). n * m) u, ap (λ (m : ℕ). n * n * m) v) in
        omega (arith, ap (λ (m : ℕ). m * h) e, mul-le-mul_right h p)

line_is : (x : ℕ) → computed (slope_at 0) (bend_at 0) x ≡ 32 * x
unfolding computed
line_is x =
    ap₂ (λ (i j : ℕ). x * (i + x * j / 262144) / 262144) first_row.1 first_row.2
    ∙ ap (λ (i : ℕ). x * (8388608 + i / 262144) / 262144) (mul-zero x) ∙ go
  where
    go : x * (8388608 + 0 / 262144) / 262144 ≡ 32 * x
    go = omega arith

row_beyond : (k x d n : ℕ) → early k ≤ angle_at k → 896 ≤ d → d ≤ 4224 → n + (angle_at k + computed (slope_at k) (bend_at k) x) ≡ d
    → 2147483648 * sm n + 129 * D ≤ 2147483648 * sp n + 64 * (262144 * k + x) * D
row_beyond zero x d n l p q e =
    whole (sp n) (sm n) D (first_under x d n p q (omega (arith, line_is x, first_row.0)))
  where
    whole : (s s' h : ℕ) → 2147483648 * s' + 129 * h ≤ 2147483648 * s + 64 * x * h
        → 2147483648 * s' + 129 * h ≤ 2147483648 * s + 64 * (262144 * 0 + x) * h
    whole s s' h i = omega arith
row_beyond (suc k) x d n l p q e = absurd (none l)
  where
    none : 4226 ≤ angle_at (suc k) → ⊥
    none g = omega arith

-- ---- t is the arc sine of w * 2 ^ -25: the place is t + d, t - d, or -n where t is below d
pub record Follows (w t : ℕ) : Type 0 where
  pub past : (d n : ℕ) → 896 ≤ d → d ≤ 4224 → n ≡ t + d → 2147483648 * sm n + (64 * w + 193) * D ≤ 2147483648 * sp n
  pub before : (d n : ℕ) → 896 ≤ d → d ≤ 4224 → n + d ≡ t → 2147483648 * sp n + 129 * D ≤ 2147483648 * sm n + 64 * w * D
  pub beyond : (d n : ℕ) → 896 ≤ d → d ≤ 4224 → n + t ≡ d → 2147483648 * sm n + 129 * D ≤ 2147483648 * sp n + 64 * w * D
  pub reach : t ≤ 850000000

row_follows : (k x : ℕ) → k < 91 → x < 262144 → Follows (262144 * k + x) (angle_at k + computed (slope_at k) (bend_at k) x)
row_follows k x hk hx = record {
  past = λ d n p q f. past_units (sp n) (sm n) D (row_over k x hk hx d n p q f);
  before = λ d n p q f.
      let z = computed (slope_at k) (bend_at k) x in
      let l = before_room k d n z q f in
      let v = early k + z - d in
      let g : v + d ≡ early k + z = omega arith in
      let y : at 0 (slope_at k) (bend_at k) x ≤ 68719476736 * (z + 2) = omega (arith, computed_high (slope_at k) (bend_at k) x hx) in
      before_units (sp n) (sm n) D (row_under k x hk hx d v n p q g f (squares_le k (at 0 (slope_at k) (bend_at k) x) d v z q g y));
  beyond = λ d n p q f. row_beyond k x d n (starts (row_sized k hk).0) p q f;
  reach = omega (arith, (row_sized k hk).1, z_le k x hk hx);
}
  where
    past_units : (s s' h : ℕ) → 2147483648 * s' + (16777216 * k + 64 * x + 193) * h ≤ 2147483648 * s
        → 2147483648 * s' + (64 * (262144 * k + x) + 193) * h ≤ 2147483648 * s
    past_units s s' h i = omega arith

    before_units : (s s' h : ℕ) → 2147483648 * s + 129 * h ≤ 2147483648 * s' + (16777216 * k + 64 * x) * h
        → 2147483648 * s + 129 * h ≤ 2147483648 * s' + 64 * (262144 * k + x) * h
    before_units s s' h i = omega arith

    starts : base k + early k ≡ angle_at k → early k ≤ angle_at k
    starts i = omega arith

pub follows : (w : ℕ) → w < 23855104 → Follows w (arc_sine w)
unfolding arc_sine computed
follows w h =
    let e : 262144 * table_row w + w % 262144 ≡ w = omega arith in
    subst (λ (n : ℕ). Follows n (arc_sine w)) e (row_follows (table_row w) (w % 262144) (omega arith) (omega arith))
