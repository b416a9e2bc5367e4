-- The four octants: the angle of (X, Y) and of (-X, Y) by the ratio of the smaller to the larger, less or plus d from 896 to 4224 units
-- of 2 ^ -30, lies on the right side of it. Assumes nothing.
use Rattle.std.specs.Prelude.{◌≡◌, ℕ, ◌+◌, ◌-◌, ◌*◌, ◌<◌, ◌≤◌, Bool, true, false, cond, not, T, ltb}
use mathlib.Core.Path.{refl}
use mathlib.Core.Logic.{inl, inr}
use native.Mathlib.Omega.{arith}
use lib.Dec.{ltb→lt, nltb→le}
use Rattle.arcs.specs.How.{quarter, half, slope, sharp, wide, smaller, larger, ratio}
use Rattle.series.proofs.Grid.{sp, sm, cp, cm, D}
use Rattle.series.proofs.Reflect.{near_flip, quarter_back_sin, quarter_back_cos, quarter_on_sin, quarter_on_cos, half_back_sin}
use Rattle.series.proofs.Reflect.{half_back_cos, half_on_sin, half_on_cos}
use Rattle.series.proofs.Octant.{cos_half, sin_pos, sin_small}
use Rattle.series.proofs.Order.{here_or_on}
use Rattle.arcs.proofs.FirstOctant.{First, first}
use Rattle.arcs.proofs.Ratios.{ratio_near}
use Rattle.arcs.proofs.Carry.{Apart, near_refl, carry, dot_carry}

-- y (a - a') is less than x (b - b'); v is the larger of x and y
abbrev pub Less : ℕ → ℕ → ℕ → ℕ → ℕ → ℕ → ℕ → Type 0
Less v y x a a' b b' = Apart v (y * a + x * b') (y * a' + x * b)

-- t is the angle of (X, Y): the place is t + d, t - d, or -n where t is below d
pub record Right (v X Y t : ℕ) : Type 0 where
  pub past : (d n : ℕ) → 896 ≤ d → d ≤ 4224 → n ≡ t + d → Less v Y X (cp n) (cm n) (sp n) (sm n)
  pub before : (d n : ℕ) → 896 ≤ d → d ≤ 4224 → n + d ≡ t → Less v Y X (cm n) (cp n) (sm n) (sp n)
  pub beyond : (d n : ℕ) → 896 ≤ d → d ≤ 4224 → n + t ≡ d → Less v Y X (cm n) (cp n) (sp n) (sm n)
  pub on : (d n : ℕ) → d ≤ 128 → n ≡ t + d → Apart v (X * cm n + Y * sm n) (X * cp n + Y * sp n)
  pub off : (d n : ℕ) → d ≤ 128 → n + d ≡ t → Apart v (X * cm n + Y * sm n) (X * cp n + Y * sp n)
  pub under : (d n : ℕ) → d ≤ 128 → n + t ≡ d → Apart v (X * cm n + Y * sp n) (X * cp n + Y * sm n)
  pub most : t ≤ 1686629713

-- t is the angle of (-X, Y)
pub record Left (v X Y t : ℕ) : Type 0 where
  pub past : (d n : ℕ) → 896 ≤ d → d ≤ 4224 → n ≡ t + d → Less v Y X (cp n) (cm n) (sm n) (sp n)
  pub before : (d n : ℕ) → 896 ≤ d → d ≤ 4224 → n + d ≡ t → Less v Y X (cm n) (cp n) (sp n) (sm n)
  pub on : (d n : ℕ) → d ≤ 128 → n ≡ t + d → Apart v (X * cp n + Y * sm n) (X * cm n + Y * sp n)
  pub off : (d n : ℕ) → d ≤ 128 → n + d ≡ t → Apart v (X * cp n + Y * sm n) (X * cm n + Y * sp n)
  pub least : 1686629713 ≤ t
  pub most : t ≤ 3373259426

-- what is known of S and C at w in the first octant
low_sin : (w : ℕ) → w ≤ 851707689 → 4 * sm w ≤ D + 4 * sp w
low_sin w h = go D (sin_pos w h)
  where
    go : (d : ℕ) → sm w ≤ sp w → 4 * sm w ≤ d + 4 * sp w
    go d g = omega arith

module _ (u v t : ℕ) (h : u ≤ v) (F : First u v t) where
  -- ---- the first octant: (v, u) at t
  one : Right v v u t
  one = record {
    past = λ d n p q e. carry u v h (near_refl (cp n) (cm n)) (near_refl (sp n) (sm n)) (F.past d n p q e);
    before = λ d n p q e. carry u v h (near_refl (cm n) (cp n)) (near_refl (sm n) (sp n)) (F.before d n p q e);
    beyond = λ d n p q e. carry u v h (near_refl (cm n) (cp n)) (near_refl (sp n) (sm n)) (F.beyond d n p q e);
    on =
        λ d n p e. dot_carry u v h (near_refl (cp n) (cm n)) (near_refl (sp n) (sm n)) (cos_half n (far d n p e)) (low_sin n (far d n p e));
    off = λ d n p e. dot_carry u v h (near_refl (cp n) (cm n)) (near_refl (sp n) (sm n)) (cos_half n (near d n e)) (low_sin n (near d n e));
    under =
        λ d n p e. dot_carry u v h (near_refl (cp n) (cm n)) (near_refl (sm n) (sp n)) (cos_half n (omega arith))
        (sin_small n (omega arith));
    most = omega (arith, F.reach);
  }
    where
      far : (d n : ℕ) → d ≤ 128 → n ≡ t + d → n ≤ 851707689
      far d n p e = omega (arith, F.reach)

      near : (d n : ℕ) → n + d ≡ t → n ≤ 851707689
      near d n e = omega (arith, F.reach)

  -- ---- the second octant: (u, v) at a quarter less t
  two_past : (d n : ℕ) → 896 ≤ d → d ≤ 4224 → n ≡ quarter - t + d → Less v v u (cp n) (cm n) (sp n) (sm n)
  two_past d n p q e =
      elim (here_or_on t d) [
        | inl g ↦
            let w = d - t in
            let r : n ≡ quarter + w = omega (arith, F.reach) in
            let b : w ≤ 851707689 = omega arith in
            omega (
              arith,
              carry u v h (near_flip (quarter_on_sin n w r b)) (near_flip (quarter_on_cos n w r b))
                  (F.beyond d w p q (omega arith)),
            )
        | inr g ↦
            let w = t - d in
            let r : n + w ≡ quarter = omega (arith, F.reach) in
            let b : w ≤ 851707689 = omega (arith, F.reach) in
            omega (
              arith,
              carry u v h (near_flip (quarter_back_sin n w r b)) (near_flip (quarter_back_cos n w r b))
                  (F.before d w p q (omega arith)),
            )
      ]

  two_before : (d n : ℕ) → 896 ≤ d → d ≤ 4224 → n + d ≡ quarter - t → Less v v u (cm n) (cp n) (sm n) (sp n)
  two_before d n p q e =
      let w = t + d in
      let r : n + w ≡ quarter = omega (arith, F.reach) in
      let b : w ≤ 851707689 = omega (arith, F.reach) in
      omega (arith, carry u v h (quarter_back_sin n w r b) (quarter_back_cos n w r b) (F.past d w p q refl))

  two_on : (d n : ℕ) → d ≤ 128 → n ≡ quarter - t + d → Apart v (u * cm n + v * sm n) (u * cp n + v * sp n)
  two_on d n p e =
      elim (here_or_on t d) [
        | inl g ↦
            let w = d - t in
            let r : n ≡ quarter + w = omega (arith, F.reach) in
            let b : w ≤ 851707689 = omega arith in
            omega (arith, dot_carry u v h (quarter_on_sin n w r b) (quarter_on_cos n w r b) (cos_half w b) (sin_small w (omega arith)))
        | inr g ↦
            let w = t - d in
            let r : n + w ≡ quarter = omega (arith, F.reach) in
            let b : w ≤ 851707689 = omega (arith, F.reach) in
            omega (arith, dot_carry u v h (quarter_back_sin n w r b) (quarter_back_cos n w r b) (cos_half w b) (low_sin w b))
      ]

  two_off : (d n : ℕ) → d ≤ 128 → n + d ≡ quarter - t → Apart v (u * cm n + v * sm n) (u * cp n + v * sp n)
  two_off d n p e =
      let w = t + d in
      let r : n + w ≡ quarter = omega (arith, F.reach) in
      let b : w ≤ 851707689 = omega (arith, F.reach) in
      omega (arith, dot_carry u v h (quarter_back_sin n w r b) (quarter_back_cos n w r b) (cos_half w b) (low_sin w b))

  two : Right v u v (quarter - t)
  two = record {
    past = two_past;
    before = two_before;
    on = two_on;
    off = two_off;
    beyond = λ d n p q e. absurd (no d n q e);
    under = λ d n p e. absurd (no d n (omega arith) e);
    most = omega (arith, F.reach);
  }
    where
      no : (d n : ℕ) → d ≤ 4224 → n + (quarter - t) ≡ d → ⊥
      no d n p e = omega (arith, F.reach)

  -- ---- the third octant: (-u, v) at a quarter and t
  three_past : (d n : ℕ) → 896 ≤ d → d ≤ 4224 → n ≡ half - (quarter - t) + d → Less v v u (cp n) (cm n) (sm n) (sp n)
  three_past d n p q e =
      let w = t + d in
      let r : n ≡ quarter + w = omega (arith, F.reach) in
      let b : w ≤ 851707689 = omega (arith, F.reach) in
      omega (arith, carry u v h (quarter_on_sin n w r b) (near_flip (quarter_on_cos n w r b)) (F.past d w p q refl))

  three_before : (d n : ℕ) → 896 ≤ d → d ≤ 4224 → n + d ≡ half - (quarter - t) → Less v v u (cm n) (cp n) (sp n) (sm n)
  three_before d n p q e =
      elim (here_or_on t d) [
        | inl g ↦
            let w = d - t in
            let r : n + w ≡ quarter = omega (arith, F.reach) in
            let b : w ≤ 851707689 = omega arith in
            omega (arith, carry u v h (near_flip (quarter_back_sin n w r b)) (quarter_back_cos n w r b) (F.beyond d w p q (omega arith)))
        | inr g ↦
            let w = t - d in
            let r : n ≡ quarter + w = omega (arith, F.reach) in
            let b : w ≤ 851707689 = omega (arith, F.reach) in
            omega (arith, carry u v h (near_flip (quarter_on_sin n w r b)) (quarter_on_cos n w r b) (F.before d w p q (omega arith)))
      ]

  three_on : (d n : ℕ) → d ≤ 128 → n ≡ half - (quarter - t) + d → Apart v (u * cp n + v * sm n) (u * cm n + v * sp n)
  three_on d n p e =
      let w = t + d in
      let r : n ≡ quarter + w = omega (arith, F.reach) in
      let b : w ≤ 851707689 = omega (arith, F.reach) in
      omega (arith, dot_carry u v h (quarter_on_sin n w r b) (near_flip (quarter_on_cos n w r b)) (cos_half w b) (low_sin w b))

  three_off : (d n : ℕ) → d ≤ 128 → n + d ≡ half - (quarter - t) → Apart v (u * cp n + v * sm n) (u * cm n + v * sp n)
  three_off d n p e =
      elim (here_or_on t d) [
        | inl g ↦
            let w = d - t in
            let r : n + w ≡ quarter = omega (arith, F.reach) in
            let b : w ≤ 851707689 = omega arith in
            omega (
              arith,
              dot_carry u v h (quarter_back_sin n w r b) (near_flip (quarter_back_cos n w r b)) (cos_half w b)
                  (sin_small w (omega arith)),
            )
        | inr g ↦
            let w = t - d in
            let r : n ≡ quarter + w = omega (arith, F.reach) in
            let b : w ≤ 851707689 = omega (arith, F.reach) in
            omega (arith, dot_carry u v h (quarter_on_sin n w r b) (near_flip (quarter_on_cos n w r b)) (cos_half w b) (low_sin w b))
      ]

  three : Left v u v (half - (quarter - t))
  three = record {
    past = three_past;
    before = three_before;
    on = three_on;
    off = three_off;
    least = omega (arith, F.reach);
    most = omega (arith, F.reach);
  }

  -- ---- the fourth octant: (-v, u) at a half turn less t
  four_past : (d n : ℕ) → 896 ≤ d → d ≤ 4224 → n ≡ half - t + d → Less v u v (cp n) (cm n) (sm n) (sp n)
  four_past d n p q e =
      elim (here_or_on t d) [
        | inl g ↦
            let w = d - t in
            let r : n ≡ half + w = omega (arith, F.reach) in
            let b : w ≤ 851707689 = omega arith in
            omega (arith, carry u v h (half_on_cos n w r b) (near_flip (half_on_sin n w r b)) (F.beyond d w p q (omega arith)))
        | inr g ↦
            let w = t - d in
            let r : n + w ≡ half = omega (arith, F.reach) in
            let b : w ≤ 851707689 = omega (arith, F.reach) in
            omega (arith, carry u v h (half_back_cos n w r b) (near_flip (half_back_sin n w r b)) (F.before d w p q (omega arith)))
      ]

  four_before : (d n : ℕ) → 896 ≤ d → d ≤ 4224 → n + d ≡ half - t → Less v u v (cm n) (cp n) (sp n) (sm n)
  four_before d n p q e =
      let w = t + d in
      let r : n + w ≡ half = omega (arith, F.reach) in
      let b : w ≤ 851707689 = omega (arith, F.reach) in
      omega (arith, carry u v h (near_flip (half_back_cos n w r b)) (half_back_sin n w r b) (F.past d w p q refl))

  four_on : (d n : ℕ) → d ≤ 128 → n ≡ half - t + d → Apart v (v * cp n + u * sm n) (v * cm n + u * sp n)
  four_on d n p e =
      elim (here_or_on t d) [
        | inl g ↦
            let w = d - t in
            let r : n ≡ half + w = omega (arith, F.reach) in
            let b : w ≤ 851707689 = omega arith in
            omega (
              arith,
              dot_carry u v h (near_flip (half_on_cos n w r b)) (half_on_sin n w r b) (cos_half w b)
                  (sin_small w (omega arith)),
            )
        | inr g ↦
            let w = t - d in
            let r : n + w ≡ half = omega (arith, F.reach) in
            let b : w ≤ 851707689 = omega (arith, F.reach) in
            omega (arith, dot_carry u v h (near_flip (half_back_cos n w r b)) (half_back_sin n w r b) (cos_half w b) (low_sin w b))
      ]

  four_off : (d n : ℕ) → d ≤ 128 → n + d ≡ half - t → Apart v (v * cp n + u * sm n) (v * cm n + u * sp n)
  four_off d n p e =
      let w = t + d in
      let r : n + w ≡ half = omega (arith, F.reach) in
      let b : w ≤ 851707689 = omega (arith, F.reach) in
      omega (arith, dot_carry u v h (near_flip (half_back_cos n w r b)) (half_back_sin n w r b) (cos_half w b) (low_sin w b))

  four : Left v v u (half - t)
  four = record {
    past = four_past;
    before = four_before;
    on = four_on;
    off = four_off;
    least = omega (arith, F.reach);
    most = omega (arith, F.reach);
  }

-- ---- all of them
under : (x y : ℕ) → x < y → x ≤ y
under x y h = omega arith

pub right : (x y : ℕ) → 0 < larger x y → Right (larger x y) x y (wide (ltb x y) false (ratio (smaller x y) (larger x y)))
unfolding wide sharp
right x y p = go (ltb x y) (ltb→lt x y) (nltb→le x y) p
  where
    go : (b : Bool) → (T b → x < y) → (T (not b) → y ≤ x) → 0 < cond b y x
        → Right (cond b y x) x y (cond b (quarter - slope (ratio (cond b x y) (cond b y x))) (slope (ratio (cond b x y) (cond b y x))))
    go true f g p = let h = under x y (f tt) in two x y (slope (ratio x y)) h (first x y (ratio x y) (ratio_near x y h p))
    go false f g p = let h = g tt in one y x (slope (ratio y x)) h (first y x (ratio y x) (ratio_near y x h p))

pub left : (x y : ℕ) → 0 < larger x y → Left (larger x y) x y (wide (ltb x y) true (ratio (smaller x y) (larger x y)))
unfolding wide sharp
left x y p = go (ltb x y) (ltb→lt x y) (nltb→le x y) p
  where
    go : (b : Bool) → (T b → x < y) → (T (not b) → y ≤ x) → 0 < cond b y x
        → Left (cond b y x) x y (half - cond b (quarter - slope (ratio (cond b x y) (cond b y x)))
        (slope (ratio (cond b x y) (cond b y x))))
    go true f g p = let h = under x y (f tt) in three x y (slope (ratio x y)) h (first x y (ratio x y) (ratio_near x y h p))
    go false f g p = let h = g tt in four y x (slope (ratio y x)) h (first y x (ratio y x) (ratio_near y x h p))
