-- The angle beside a quarter turn, by an arc sine: it meets document 01's rule for Q / U and for -Q / U, at any e of F * 2 ^ -22 with F
-- from 4 to 16. Assumes nothing.
use Rattle.std.specs.Prelude.{◌≡◌, ℕ, ◌+◌, ◌-◌, ◌*◌, ◌/◌, ◌<◌, ◌≤◌, Bool, true, false}
use mathlib.Core.Logic.{inl, inr}
use native.Mathlib.Nat.{mul-le-mul_left, mul-le-mul_right}
use native.Mathlib.Omega.{arith}
use Rattle.series.specs.Fractions.{◌÷◌, negative, signed, ◌≼◌}
use Rattle.series.proofs.Order.{here_or_on}
use Rattle.series.proofs.Parity.{difference}
use Rattle.series.proofs.Grid.{sp, sm, cp, cm, D}
use Rattle.series.proofs.Reflect.{Near, near_flip, quarter_back_cos, quarter_on_cos}
use Rattle.arcs.specs.How.{quarter, arc_sine, upright}
use Rattle.arcs.proofs.Turn.{Rounded, rounded}
use Rattle.arcs.proofs.ArcRule.{Sides, above, under, above', under'}
use Rattle.arcs.proofs.Follows.{Follows, follows}

-- w is 2 ^ 25 Q / U, but for 3
pub record Digit (Q U w : ℕ) : Type 0 where
  pub up : 64 * w * U ≤ 2147483648 * Q + 128 * U
  pub low : 2147483648 * Q ≤ 64 * w * U + 192 * U

-- Q / U is below (p - m) / D by 2 ^ -31, and above it
abbrev Over : ℕ → ℕ → ℕ → ℕ → Type 0
Over U Q p m = 2147483648 * (U * m + Q * D) + U * D ≤ 2147483648 * (U * p)

abbrev Under : ℕ → ℕ → ℕ → ℕ → Type 0
Under U Q p m = 2147483648 * (U * p) + U * D ≤ 2147483648 * (U * m + Q * D)

module _ (Q U w : ℕ) (N : Digit Q U w) where
  over : (p m : ℕ) → 2147483648 * m + (64 * w + 193) * D ≤ 2147483648 * p → Over U Q p m
  over p m h = go D h
    where
      go : (d : ℕ) → 2147483648 * m + (64 * w + 193) * d ≤ 2147483648 * p → 2147483648 * (U * m + Q * d) + U * d ≤ 2147483648 * (U * p)
      go d i = omega (arith, mul-le-mul_left U i, mul-le-mul_right d N.low)

  below : (p m : ℕ) → 2147483648 * p + 129 * D ≤ 2147483648 * m + 64 * w * D → Under U Q p m
  below p m h = go D h
    where
      go : (d : ℕ) → 2147483648 * p + 129 * d ≤ 2147483648 * m + 64 * w * d → 2147483648 * (U * p) + U * d ≤ 2147483648 * (U * m + Q * d)
      go d i = omega (arith, mul-le-mul_left U i, mul-le-mul_right d N.up)

-- what is within 2 ^ -31 of it is on the same side
from_over : {p m c c' : ℕ} (U Q : ℕ) → Near p m c c' → Over U Q p m → c' * U + Q * D ≤ c * U
from_over {p} {m} {c} {c'} U Q n h = go D n.under h
  where
    go : (d : ℕ) → 2147483648 * (p + c') ≤ 2147483648 * (c + m) + d → 2147483648 * (U * m + Q * d) + U * d ≤ 2147483648 * (U * p)
        → c' * U + Q * d ≤ c * U
    go d i j = omega (arith, mul-le-mul_left U i)

from_under : {p m c c' : ℕ} (U Q : ℕ) → Near p m c c' → Under U Q p m → c * U ≤ c' * U + Q * D
from_under {p} {m} {c} {c'} U Q n h = go D n.above h
  where
    go : (d : ℕ) → 2147483648 * (c + m) ≤ 2147483648 * (p + c') + d → 2147483648 * (U * p) + U * d ≤ 2147483648 * (U * m + Q * d)
        → c * U ≤ c' * U + Q * d
    go d i j = omega (arith, mul-le-mul_left U i)

module _ (F : ℕ) (F_low : 4 ≤ F) (F_high : F ≤ 16) (U Q w t : ℕ) (N : Digit Q U w) (S : Follows w t) where
  abbrev E : ℕ
  E = 256 * F

  -- ---- Q / U, at a quarter less t
  module _ (A : ℕ) (R : Rounded (quarter - t) (256 * A)) where
    right_low : (k : ℕ) → k + E ≡ 256 * A → Q ÷ U ≼ difference (cp k) (cm k) D
    right_low k e =
        let v = quarter - k in
        let d = v - t in
        let r : k + v ≡ quarter = omega (arith, S.reach, R.up) in
        let b : v ≤ 851707689 = omega (arith, S.reach, R.down) in
        above Q U (cp k) (cm k) D
        (from_over U Q (quarter_back_cos k v r b)
        (over Q U w N (sp v) (sm v)
        (S.past d v (omega (arith, S.reach, R.up)) (omega (arith, S.reach, R.down)) (omega (arith, S.reach, R.up)))))

    right_high : difference (cp (256 * A + E)) (cm (256 * A + E)) D ≼ Q ÷ U
    right_high =
        let k = 256 * A + E in
        elim (here_or_on quarter k) [
          | inl g ↦
              let v = k - quarter in
              let b : v ≤ 851707689 = omega (arith, R.up) in
              under Q U (cp k) (cm k) D
              (from_under U Q (quarter_on_cos k v (omega arith) b)
              (below Q U w N (sm v) (sp v)
              (S.beyond (v + t) v (omega (arith, S.reach, R.down)) (omega (arith, S.reach, R.up)) (omega arith))))
          | inr g ↦
              let v = quarter - k in
              let b : v ≤ 851707689 = omega (arith, S.reach, R.down) in
              under Q U (cp k) (cm k) D
              (from_under U Q (quarter_back_cos k v (omega arith) b)
              (below Q U w N (sp v) (sm v)
              (S.before (t - v) v (omega (arith, S.reach, R.down)) (omega (arith, S.reach, R.up))
              (omega (arith, S.reach, R.down)))))
        ]

  -- ---- -Q / U, at a quarter and t
  module _ (A : ℕ) (R : Rounded (quarter + t) (256 * A)) where
    left_low : (k : ℕ) → k + E ≡ 256 * A → negative (Q ÷ U) ≼ difference (cp k) (cm k) D
    left_low k e = elim (here_or_on k quarter) [
      | inl g ↦
          let v = quarter - k in
          let b : v ≤ 851707689 = omega (arith, R.down) in
          above' Q U (cp k) (cm k) D
          (from_under U Q (near_flip (quarter_back_cos k v (omega arith) b))
          (below Q U w N (sm v) (sp v) (S.beyond (v + t) v (omega (arith, R.up)) (omega (arith, R.down)) (omega arith))))
      | inr g ↦
          let v = k - quarter in
          let b : v ≤ 851707689 = omega (arith, S.reach, R.up) in
          above' Q U (cp k) (cm k) D
          (from_under U Q (near_flip (quarter_on_cos k v (omega arith) b))
          (below Q U w N (sp v) (sm v) (S.before (t - v) v (omega (arith, R.up)) (omega (arith, R.down)) (omega (arith, R.up)))))
    ]

    left_high : difference (cp (256 * A + E)) (cm (256 * A + E)) D ≼ negative (Q ÷ U)
    left_high =
        let k = 256 * A + E in
        let v = k - quarter in
        let b : v ≤ 851707689 = omega (arith, S.reach, R.up) in
        under' Q U (cp k) (cm k) D
        (from_over U Q (near_flip (quarter_on_cos k v (omega (arith, R.down)) b))
        (over Q U w N (sp v) (sm v) (S.past (v - t) v (omega (arith, R.down)) (omega (arith, R.up)) (omega (arith, R.down)))))

pub upright_sides : (F : ℕ) → 4 ≤ F → F ≤ 16 → (U Q w : ℕ) → Digit Q U w → w < 23855104 → (left? : Bool)
    → Sides (256 * F) (signed left? (Q ÷ U)) (256 * upright left? w)
unfolding upright
upright_sides F i j U Q w N h false =
    let t = arc_sine w in
    let r = rounded (quarter - t) in
    let A = (quarter - t + 128) / 256 in
    record {
      low = λ g k e. right_low F i j U Q w t N (follows w h) A r k e;
      high = λ g. right_high F i j U Q w t N (follows w h) A r;
    }
upright_sides F i j U Q w N h true =
    let t = arc_sine w in
    let r = rounded (quarter + t) in
    let A = (quarter + t + 128) / 256 in
    record {
      low = λ g k e. left_low F i j U Q w t N (follows w h) A r k e;
      high = λ g. left_high F i j U Q w t N (follows w h) A r;
    }

-- the angle is at most P
pub upright_le : (left? : Bool) (w : ℕ) → w < 23855104 → upright left? w ≤ 13176795
unfolding upright
upright_le false w h = omega (arith, (follows w h).reach)
upright_le true w h = omega (arith, (follows w h).reach)
