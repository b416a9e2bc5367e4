-- The first octant: at d past the computed angle of (v, u) the direction is past it by more than 10 * 2 ^ -25, and at d before it before
-- it. Assumes nothing.
use Rattle.std.specs.Prelude.{◌≡◌, ℕ, ◌+◌, ◌-◌, ◌*◌, ◌%◌, ◌<◌, ◌≤◌}
use mathlib.Core.Path.{refl, sym, ap, ◌∙◌, subst}
use mathlib.Core.Logic.{inl, inr}
use native.Mathlib.Nat.{mul-pos, mul-le-mul, mul-le-mul_left, mul-le-mul_right}
use native.Mathlib.Omega.{arith}
use Rattle.series.proofs.Order.{here_or_on, squares}
use Rattle.series.proofs.Grid.{sp, sm, cp, cm, D}
use Rattle.series.proofs.Circle.{pyth_up}
use Rattle.arc_rows.specs.ArcTangent.{arc_tangent}
use Rattle.arc_rows.proofs.Rows.{Ahead, Behind, a·, b·, row_direction, row_ahead, row_behind, row_size, first_angle, first_a, first_b}
use Rattle.arcs.specs.How.{table_row, straight, bend, slope}
use Rattle.arcs.proofs.TurnedBack.{long}
use Rattle.arcs.proofs.High.{high}
use Rattle.arcs.proofs.Low.{low}
use Rattle.arcs.proofs.Under.{under}
use Rattle.arcs.proofs.Rest.{Split, Close, quotient, split, close}

-- u (a - a') + 2 ^ -21 v D ≤ v (b - b')
abbrev Over : ℕ → ℕ → ℕ → ℕ → ℕ → ℕ → Type 0
Over u v a a' b b' = 2097152 * (u * a + v * b') + v * D ≤ 2097152 * (u * a' + v * b)

-- 2 ^ 61 - w ^ 2
square_le : (w : ℕ) → w ≤ 16777216 → 2305843009213693952 - w * w + w * w ≡ 2305843009213693952
square_le w h = let g : w * w ≤ 281474976710656 = mul-le-mul h h in omega arith

-- at the first angle, which is 0, the place before it is -w
at_first : (w : ℕ) → w ≤ 4224 → Behind (a· 0) (b· 0) w (sm w) (sp w) (cp w) (cm w)
at_first w h =
    let r : Ahead (a· 0) (b· 0) w (sp w) (sm w) (cp w) (cm w) = row_ahead 0 (omega arith) w w (omega arith) start in
    let g : w * w ≤ 17842176 = mul-le-mul h h in
    record {
      sin_high = one (a· 0) (b· 0) (sp w) (sm w) D first_b r.sin_low;
      cos_low = two (a· 0) (b· 0) (cp w) (cm w) D first_a first_b g r.cos_low;
    }
  where
    start : w ≡ arc_tangent 0 + w
    start = omega (arith, first_angle)

    one : (a b s s' d : ℕ) → b ≡ 0
        → 2305843009213693952 * b + 2147483648 * (w * a) + 2475880078570760549798248448 * s'
        ≤ 2475880078570760549798248448 * s + w * w * b + 295147905179352825856 * d
        → 2475880078570760549798248448 * s' + 2147483648 * (w * a)
        ≤ 2305843009213693952 * b + 2475880078570760549798248448 * s + 295147905179352825856 * d
    one a b s s' d e q = omega (arith, ap (λ (n : ℕ). w * w * n) e)

    two : (a b c c' d : ℕ) → a ≡ 1073741824 * d → b ≡ 0 → w * w ≤ 17842176
        → 2305843009213693952 * a + 2475880078570760549798248448 * c'
        ≤ 2475880078570760549798248448 * c + 2147483648 * (w * b) + w * w * a + 4611686018427387904 * d
        → 2305843009213693952 * a + 2147483648 * (w * b) + 2475880078570760549798248448 * c'
        ≤ 2475880078570760549798248448 * c + 9223372036854775808 * d
    two a b c c' d e f g q = omega (arith, mul-le-mul_right a g, ap (λ (n : ℕ). w * n) f)

-- ---- the octant: z₀ is the rest as a quotient, z as it is computed
module _ (u v k x y z₀ z : ℕ) (h : u ≤ v) (S : Split u v k x y z₀) (N : Close z z₀) where
  norm : 137438953472 * (v * D) ≤ x * a· k
  norm = long u v k x y (a· k) D S.back_y S.back_x (row_direction k S.k_lt).norm

  past_it : (d n : ℕ) → 896 ≤ d → d ≤ 4224 → n ≡ arc_tangent k + z + d → Over u v (cp n) (cm n) (sp n) (sm n)
  past_it d n l g e =
      let w = z + d in
      let r = row_ahead k S.k_lt w n (few N.least) (e ∙ far (arc_tangent k)) in
      high u v k x y z₀ w (z + d - z₀) (2305843009213693952 - w * w) (a· k) (b· k) (sp n) (sm n) (cp n) (cm n) D
      h S.back_y S.back_x S.z_high (omega (arith, N.low)) (omega (arith, N.low)) (more N.least)
      (square_le w (more N.least))
      (row_direction k S.k_lt).left norm r.sin_low r.cos_high
    where
      few : z ≤ 8388608 → z + d ≤ 8392832
      few q = omega arith

      more : z ≤ 8388608 → z + d ≤ 16777216
      more q = omega arith

      far : (t : ℕ) → t + z + d ≡ t + (z + d)
      far t = omega arith

  before_it : (d n : ℕ) → 896 ≤ d → d ≤ 4224 → n + d ≡ arc_tangent k + z → Over u v (cm n) (cp n) (sm n) (sp n)
  before_it d n l g e =
      elim (here_or_on z d) [
        | inl q ↦
            let w = d - z in
            let r = row_behind k S.k_lt w n (omega arith) (near (arc_tangent k) q e) in
            under u v k x y z₀ w (z₀ + (d - z)) (a· k) (b· k) (sp n) (sm n) (cp n) (cm n) D
            h S.back_y S.back_x S.z_low refl (omega (arith, N.high)) (omega arith)
            (row_direction k S.k_lt).left (row_direction k S.k_lt).right norm r.sin_high r.cos_low
        | inr q ↦
            let w = z - d in
            let r = row_ahead k S.k_lt w n (few N.least) (far (arc_tangent k) q e) in
            low u v k x y z₀ w (z₀ - (z - d)) (2305843009213693952 - w * w) (a· k) (b· k) (sp n) (sm n) (cp n) (cm n) D
            h S.back_y S.back_x S.z_low S.z_le (omega (arith, N.high)) (omega (arith, N.high)) (square_le w (more N.least))
            (row_direction k S.k_lt).right norm r.sin_high r.cos_low
      ]
    where
      near : (t : ℕ) → z < d → n + d ≡ t + z → n + (d - z) ≡ t
      near t q f = omega arith

      far : (t : ℕ) → d ≤ z → n + d ≡ t + z → n ≡ t + (z - d)
      far t q f = omega arith

      few : z ≤ 8388608 → z - d ≤ 8392832
      few q = omega arith

      more : z ≤ 8388608 → z - d ≤ 16777216
      more q = omega arith

  -- the place is -n
  beyond_it : (d n : ℕ) → 896 ≤ d → d ≤ 4224 → n + (arc_tangent k + z) ≡ d → Over u v (cm n) (cp n) (sp n) (sm n)
  beyond_it d n l g e =
      let c = row_size k S.k_lt in
      let k0 : k ≡ 0 = zero_k (arc_tangent k) c.0 e in
      let t0 : arc_tangent k ≡ 0 = zero_t (arc_tangent k) c.1 k0 in
      let r : Behind (a· k) (b· k) n (sm n) (sp n) (cp n) (cm n) =
      subst (λ (i : ℕ). Behind (a· i) (b· i) n (sm n) (sp n) (cp n) (cm n)) (sym k0) (at_first n (omega arith)) in
      under u v k x y z₀ n (z₀ + n) (a· k) (b· k) (sm n) (sp n) (cp n) (cm n) D
      h S.back_y S.back_x S.z_low refl (enough (arc_tangent k) t0 e N.high) (omega arith)
      (row_direction k S.k_lt).left (row_direction k S.k_lt).right norm r.sin_high r.cos_low
    where
      zero_k : (t : ℕ) → 6000000 * k ≤ t → n + (t + z) ≡ d → k ≡ 0
      zero_k t p q = omega arith

      zero_t : (t : ℕ) → t ≤ 9000000 * k → k ≡ 0 → t ≡ 0
      zero_t t p q = omega arith

      enough : (t : ℕ) → t ≡ 0 → n + (t + z) ≡ d → z ≤ z₀ + 1 → 880 ≤ z₀ + n
      enough t p q f = omega arith

  within : arc_tangent k + z ≤ 851703465
  within = omega (arith, row_size k S.k_lt, N.least)

-- ---- from (2 ^ 25, w) to the (v, u) whose ratio w is
-- w is 2 ^ 25 u / v, but for 5
pub record Ratio (u v w : ℕ) : Type 0 where
  pub small : w ≤ 33554432
  pub up : w * v ≤ 33554432 * u + 4 * v
  pub low : 33554432 * u ≤ w * v + 5 * v

-- C is at most 9/8 in size
short : (c c' s s' d : ℕ)
    → 1125899906842624 * (c * c + c' * c' + (s * s + s' * s'))
    ≤ 1125899906842624 * (2 * (c * c') + 2 * (s * s')) + 1125899906842625 * (d * d) → 8 * c ≤ 8 * c' + 9 * d
short c c' s s' d h =
    elim (here_or_on (8 * c' + 9 * d) (8 * c)) [
      | inl g ↦
          let i = c - c' in
          let e : c ≡ c' + i = omega arith in
          let l : 9 * d ≤ 8 * i = omega arith in
          let k : 0 < i = omega arith in
          absurd (none i (one i (subst
          (λ (z : ℕ). 1125899906842624 * (z * z + c' * c' + (s * s + s' * s'))
          ≤ 1125899906842624 * (2 * (z * c') + 2 * (s * s')) + 1125899906842625 * (d * d)) e h)) (mul-le-mul l l) (mul-pos k k))
      | inr g ↦ g
    ]
  where
    one : (i : ℕ) → 1125899906842624 * ((c' + i) * (c' + i) + c' * c' + (s * s + s' * s'))
        ≤ 1125899906842624 * (2 * ((c' + i) * c') + 2 * (s * s')) + 1125899906842625 * (d * d)
        → 1125899906842624 * (i * i) ≤ 1125899906842625 * (d * d)
    one i g = omega (arith, squares s s')

    none : (i : ℕ) → 1125899906842624 * (i * i) ≤ 1125899906842625 * (d * d) → (9 * d) * (9 * d) ≤ (8 * i) * (8 * i) → 0 < i * i → ⊥
    none i g f k = omega arith

cp_short : (n : ℕ) → n ≤ 4294967296 → 8 * cp n ≤ 8 * cm n + 9 * D
cp_short n h = short (cp n) (cm n) (sp n) (sm n) D (pyth_up n h)

cm_short : (n : ℕ) → n ≤ 4294967296 → 8 * cm n ≤ 8 * cp n + 9 * D
cm_short n h = short (cm n) (cp n) (sp n) (sm n) D (turn (cp n) (cm n) (sp n) (sm n) D (pyth_up n h))
  where
    turn : (c c' s s' d : ℕ)
        → 1125899906842624 * (c * c + c' * c' + (s * s + s' * s'))
        ≤ 1125899906842624 * (2 * (c * c') + 2 * (s * s')) + 1125899906842625 * (d * d)
        → 1125899906842624 * (c' * c' + c * c + (s * s + s' * s'))
        ≤ 1125899906842624 * (2 * (c' * c) + 2 * (s * s')) + 1125899906842625 * (d * d)
    turn c c' s s' d g = omega arith

-- u (a - a') + 10 * 2 ^ -25 v D ≤ v (b - b')
abbrev pub Past : ℕ → ℕ → ℕ → ℕ → ℕ → ℕ → Type 0
Past u v a a' b b' = 33554432 * (u * a + v * b') + 10 * (v * D) ≤ 33554432 * (u * a' + v * b)

carried : (u v w a a' b b' : ℕ) → Ratio u v w → 8 * a ≤ 8 * a' + 9 * D → 8 * a' ≤ 8 * a + 9 * D → Over w 33554432 a a' b b'
    → Past u v a a' b b'
carried u v w a a' b b' r p q o = elim (here_or_on a a') [
  | inl g ↦ less D (a' - a) a' (omega arith) (omega arith) o
  | inr g ↦ more D (a - a') a (omega arith) (omega arith) o
]
  where
    less : (d i c : ℕ) → c ≡ a + i → 8 * i ≤ 9 * d → 2097152 * (w * a + 33554432 * b') + 33554432 * d ≤ 2097152 * (w * c + 33554432 * b)
        → 33554432 * (u * a + v * b') + 10 * (v * d) ≤ 33554432 * (u * c + v * b)
    less d i c e f h =
        let h1 : w * a + 33554432 * b' + 16 * d ≤ w * c + 33554432 * b = omega arith in
        omega (
          arith,
          mul-le-mul_left v h1,
          mul-le-mul_right i r.up,
          mul-le-mul_left v f,
          ap (λ (n : ℕ). u * n) e,
          ap
              (λ (n : ℕ). v * w * n) e,
        )

    more : (d i c : ℕ) → c ≡ a' + i → 8 * i ≤ 9 * d → 2097152 * (w * c + 33554432 * b') + 33554432 * d ≤ 2097152 * (w * a' + 33554432 * b)
        → 33554432 * (u * c + v * b') + 10 * (v * d) ≤ 33554432 * (u * a' + v * b)
    more d i c e f h =
        let h1 : w * c + 33554432 * b' + 16 * d ≤ w * a' + 33554432 * b = omega arith in
        omega (
          arith,
          mul-le-mul_left v h1,
          mul-le-mul_right i r.low,
          mul-le-mul_left v f,
          ap (λ (n : ℕ). u * n) e,
          ap
              (λ (n : ℕ). v * w * n) e,
        )

pub record First (u v t : ℕ) : Type 0 where
  pub past : (d n : ℕ) → 896 ≤ d → d ≤ 4224 → n ≡ t + d → Past u v (cp n) (cm n) (sp n) (sm n)
  pub before : (d n : ℕ) → 896 ≤ d → d ≤ 4224 → n + d ≡ t → Past u v (cm n) (cp n) (sm n) (sp n)
  -- the place is -n
  pub beyond : (d n : ℕ) → 896 ≤ d → d ≤ 4224 → n + t ≡ d → Past u v (cm n) (cp n) (sp n) (sm n)
  pub reach : t ≤ 851703465

pub first : (u v w : ℕ) → Ratio u v w → First u v (slope w)
unfolding slope
first u v w r =
    let S = split w r.small in
    let N = close w r.small in
    let k = table_row w in
    let z = straight w - bend w in
    let b : arc_tangent k + z ≤ 851703465 = within w 33554432 k (4294967296 + k * w) (128 * (w % 262144)) (quotient w) z r.small S N in
    record {
      past = λ d n p q e.
          let l : n ≤ 4294967296 = omega arith in
          carried u v w (cp n) (cm n) (sp n) (sm n) r (cp_short n l) (cm_short n l)
          (past_it w 33554432 k (4294967296 + k * w) (128 * (w % 262144)) (quotient w) z r.small S N d n p q e);
      before = λ d n p q e.
          let l : n ≤ 4294967296 = omega arith in
          carried u v w (cm n) (cp n) (sm n) (sp n) r (cm_short n l) (cp_short n l)
          (before_it w 33554432 k (4294967296 + k * w) (128 * (w % 262144)) (quotient w) z r.small S N d n p q e);
      beyond = λ d n p q e.
          let l : n ≤ 4294967296 = omega arith in
          carried u v w (cm n) (cp n) (sp n) (sm n) r (cm_short n l) (cp_short n l)
          (beyond_it w 33554432 k (4294967296 + k * w) (128 * (w % 262144)) (quotient w) z r.small S N d n p q e);
      reach = b;
    }
