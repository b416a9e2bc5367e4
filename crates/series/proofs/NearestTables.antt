-- A table holds the whole numbers nearest to scale times S (or C) at each step: one computed test, for any scale, offset, step and table.
-- Assumes nothing.
use mathlib.Core.Path.{◌≡◌, refl}
use mathlib.Core.Bool.{Bool}
use mathlib.Core.List.{List}
use Prim.Native.Nat.{ℕ, ◌+◌, ◌*◌, ◌≤◌, ◌<◌}
use native.Mathlib.Nat.{mul-pos}
use native.Mathlib.Omega.{arith}
use lib.Dec.{T, leb, leb→le, lit<}
use lib.ListN.{length, get_or}
use Rattle.series.specs.Fractions.{Fraction, ◌÷◌, whole, ◌⊖◌, ◌⊗◌, ◌≋◌, Within}
use Rattle.series.specs.Series.{S, C}
use Rattle.series.specs.Working.{pw, ev, sin_p, sin_m, cos_p, cos_m, denominator}
use Rattle.series.proofs.Polynomials.{eval, spread, ev_spread}
use Rattle.series.proofs.Tables.{both, both_l, both_r, every, at}
use Rattle.series.proofs.Fractions.{same_sym, same_trans, product_same, within_same}
use Rattle.series.proofs.Parity.{difference, S_same, C_same, S_over, C_over}
use Rattle.series.proofs.Literal.{S_is, C_is, denominator_pos}

-- ---- the rule: each entry, less the offset, is the whole number nearest to scale times a sum at its place times the step
abbrev pub Nearest : (Fraction → Fraction) → ℕ → ℕ → Fraction → ℕ → ℕ → Type 0
Nearest f scale offset step k entry = Within (1 ÷ 2) (whole entry ⊖ whole offset) (whole scale ⊗ f (whole k ⊗ step))

unfoldable pub NearestTable : (Fraction → Fraction) → ℕ → ℕ → Fraction → List ℕ → Type 0
NearestTable f scale offset step table = (k : ℕ) → k < length table → Nearest f scale offset step k (get_or table k 0)

-- the test of one entry: p and m are the coefficients of the positive and of the negative part, with the powers of the denominator in them,
-- d is the denominator of both
abbrev low : List ℕ → List ℕ → ℕ → ℕ → ℕ → ℕ → ℕ → ℕ → Bool
low p m d scale offset a k e = leb (2 * (e * d + scale * eval m (k * a))) (2 * (scale * eval p (k * a) + offset * d) + d)

abbrev high : List ℕ → List ℕ → ℕ → ℕ → ℕ → ℕ → ℕ → ℕ → Bool
high p m d scale offset a k e = leb (2 * (scale * eval p (k * a) + offset * d)) (2 * (e * d + scale * eval m (k * a)) + d)

abbrev pub nearest : List ℕ → List ℕ → ℕ → ℕ → ℕ → ℕ → ℕ → ℕ → Bool
nearest p m d scale offset a k e = both (low p m d scale offset a k e) (high p m d scale offset a k e)

-- the test of a table of S at steps of a / b, and of one of C
unfoldable pub sine_table : ℕ → ℕ → ℕ → ℕ → List ℕ → Bool
unfolding sin_p sin_m pw denominator
sine_table scale offset a b table = every (nearest (spread b sin_p) (spread b sin_m) (denominator b) scale offset a) 0 table

unfoldable pub cosine_table : ℕ → ℕ → ℕ → ℕ → List ℕ → Bool
unfolding cos_p cos_m pw denominator
cosine_table scale offset a b table = every (nearest (spread b cos_p) (spread b cos_m) (denominator b) scale offset a) 0 table

-- ---- what the test says
pub nearest_le : (p m : List ℕ) (d scale offset a k e : ℕ) → T (nearest p m d scale offset a k e)
    → (2 * (e * d + scale * eval m (k * a)) ≤ 2 * (scale * eval p (k * a) + offset * d) + d)
    × (2 * (scale * eval p (k * a) + offset * d) ≤ 2 * (e * d + scale * eval m (k * a)) + d)
nearest_le p m d scale offset a k e t = (
  leb→le _ _ (both_l (low p m d scale offset a k e) (high p m d scale offset a k e) t),
  leb→le _ _ (both_r (low p m d scale offset a k e) (high p m d scale offset a k e) t),
)

halves : (e o d p m : ℕ) → 2 * (e * d + m) ≤ 2 * (p + o * d) + d → 2 * (p + o * d) ≤ 2 * (e * d + m) + d
    → Within (1 ÷ 2) (whole e ⊖ whole o) (difference p m d)
halves e o d p m h k = (omega arith, omega arith)

module _ (f : Fraction → Fraction) (p m : List ℕ) (a b : ℕ) (pos : 0 < b)
    (is : (x : ℕ) → f (x ÷ b) ≋ difference (ev b x p) (ev b x m) (denominator b)) (same : (x y : Fraction) → x ≋ y → f x ≋ f y)
    (over : (x : Fraction) → 0 < x.over → 0 < (f x).over) where
  step_is : (k : ℕ) → (k * a) ÷ b ≋ whole k ⊗ (a ÷ b)
  step_is k = omega arith

  -- scale times the sum at a place, over the common denominator
  pub scaled : (scale k : ℕ) → difference (scale * ev b (k * a) p) (scale * ev b (k * a) m) (denominator b) ≋ whole scale ⊗ f
      (whole k ⊗ (a ÷ b))
  scaled scale k =
      let x = k * a in
      let one : difference (scale * ev b x p) (scale * ev b x m) (denominator b) ≋ whole scale ⊗ difference (ev b x p) (ev b x m)
      (denominator b) = go scale (ev b x p) (ev b x m) (denominator b) in
      same_trans (difference (scale * ev b x p) (scale * ev b x m) (denominator b))
      (whole scale ⊗ difference (ev b x p) (ev b x m) (denominator b)) (whole scale ⊗ f (whole k ⊗ (a ÷ b)))
      (mul-pos (lit< {m = 0} {n = 1} tt) (denominator_pos b pos)) one
      (product_same (whole scale) (whole scale) (difference (ev b x p) (ev b x m) (denominator b)) (f (whole k ⊗ (a ÷ b))) refl
      (same_trans (difference (ev b x p) (ev b x m) (denominator b)) (f (x ÷ b)) (f (whole k ⊗ (a ÷ b))) (over (x ÷ b) pos)
      (same_sym (f (x ÷ b)) (difference (ev b x p) (ev b x m) (denominator b)) (is x)) (same (x ÷ b) (whole k ⊗ (a ÷ b)) (step_is k))))
    where
      go : (s p m d : ℕ) → s * p * (1 * d) + (s * m + 0 * p) * d ≡ (s * p + 0 * m) * d + s * m * (1 * d)
      go s p m d = omega arith

  entry_nearest : (scale offset k e : ℕ) → T (nearest (spread b p) (spread b m) (denominator b) scale offset a k e)
      → Nearest f scale offset (a ÷ b) k e
  entry_nearest scale offset k e t =
      let d = denominator b in
      let P = spread b p in
      let M = spread b m in
      let l = nearest_le P M d scale offset a k e t in
      within_same (1 ÷ 2) (1 ÷ 2) (whole e ⊖ whole offset) (whole e ⊖ whole offset)
      (difference (scale * ev b (k * a) p) (scale * ev b (k * a) m) d) (whole scale ⊗ f (whole k ⊗ (a ÷ b)))
      (lit< {m = 0} {n = 2} tt) (lit< {m = 0} {n = 1} tt) (denominator_pos b pos) refl refl (scaled scale k)
      (halves e offset d (scale * ev b (k * a) p) (scale * ev b (k * a) m) (rw (ev_spread b p (k * a), ev_spread b m (k * a)) at l.0)
      (rw (ev_spread b p (k * a), ev_spread b m (k * a)) at l.1))

pub sine_nearest : (scale offset a b : ℕ) (table : List ℕ) → 0 < b → T (sine_table scale offset a b table)
    → NearestTable S scale offset (a ÷ b) table
unfolding sine_table NearestTable
sine_nearest scale offset a b table pos t k h =
    entry_nearest S sin_p sin_m a b pos (λ x. S_is x b pos) S_same S_over scale offset k (get_or table k 0)
    (at (nearest (spread b sin_p) (spread b sin_m) (denominator b) scale offset a) table t k h)

pub cosine_nearest : (scale offset a b : ℕ) (table : List ℕ) → 0 < b → T (cosine_table scale offset a b table)
    → NearestTable C scale offset (a ÷ b) table
unfolding cosine_table NearestTable
cosine_nearest scale offset a b table pos t k h =
    entry_nearest C cos_p cos_m a b pos (λ x. C_is x b pos) C_same C_over scale offset k (get_or table k 0)
    (at (nearest (spread b cos_p) (spread b cos_m) (denominator b) scale offset a) table t k h)
