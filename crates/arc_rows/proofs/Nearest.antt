-- Each angle of the table is the whole number nearest to the angle of (128, k): one computed test of 129 angles. Assumes nothing.
use Prim.Native.Nat.{ℕ, ◌+◌, ◌-◌, ◌*◌, ◌^◌, ◌≤◌, ◌<◌}
use mathlib.Core.Path.{refl}
use mathlib.Core.Bool.{Bool}
use mathlib.Core.List.{List}
use native.Mathlib.Nat.{mul-pos, mul-le-mul_right}
use native.Mathlib.Omega.{arith}
use lib.Dec.{T, leb, leb→le, lit<}
use Rattle.series.specs.Fractions.{Fraction, ◌÷◌, whole, ◌⊗◌, ◌≋◌, ◌≼◌}
use Rattle.series.specs.Series.{S, C}
use Rattle.series.specs.Working.{pw, ev, sin_p, sin_m, cos_p, cos_m, denominator}
use Rattle.series.proofs.Polynomials.{eval, spread, ev_spread}
use Rattle.series.proofs.Fractions.{same_sym, product_same, le_same}
use Rattle.series.proofs.Parity.{difference}
use Rattle.series.proofs.Literal.{S_is, C_is, denominator_pos}
use Rattle.arc_rows.specs.ArcTangent.{arc_tangent}
use Rattle.arc_rows.proofs.Each.{each, each_of}

-- the rule: t is the whole number nearest to the angle. At t - 1/2 the direction (C, S) is not past (128, k), and at t + 1/2 it is not
-- before it
pub record NearestAngle (k t : ℕ) : Type 0 where
  pub low : whole 128 ⊗ S ((2 * t - 1) ÷ 2 ^ 31) ≼ whole k ⊗ C ((2 * t - 1) ÷ 2 ^ 31)
  pub high : whole k ⊗ C ((2 * t + 1) ÷ 2 ^ 31) ≼ whole 128 ⊗ S ((2 * t + 1) ÷ 2 ^ 31)

-- a half unit is 2 ^ -31
N : ℕ
N = 2 ^ 31

-- x S ≤ y C at n, and the other way round, with the powers of N in the coefficients
abbrev before : List ℕ → List ℕ → List ℕ → List ℕ → ℕ → ℕ → ℕ → Bool
before p m q l x y n = leb (x * eval p n + y * eval l n) (y * eval q n + x * eval m n)

s_p : List ℕ
unfolding pw sin_p N
s_p = spread N sin_p

s_m : List ℕ
unfolding pw sin_m N
s_m = spread N sin_m

c_p : List ℕ
unfolding pw cos_p N
c_p = spread N cos_p

c_m : List ℕ
unfolding pw cos_m N
c_m = spread N cos_m

low : ℕ → Bool
unfolding s_p s_m c_p c_m arc_tangent
low k = let t = arc_tangent k in before s_p s_m c_p c_m 128 k (2 * t - 1)

high : ℕ → Bool
unfolding s_p s_m c_p c_m arc_tangent
high k = let t = arc_tangent k in before c_p c_m s_p s_m k 128 (2 * t + 1)

all_low : T (each low 0 129)
unfolding low
all_low = tt

all_high : T (each high 0 129)
unfolding high
all_high = tt

-- from the sums over one denominator to document 01's
over_one : (x y p m q l d : ℕ) → x * p + y * l ≤ y * q + x * m → whole x ⊗ difference p m d ≼ whole y ⊗ difference q l d
over_one x y p m q l d h = go (1 * d) h
  where
    go : (e : ℕ) → x * p + y * l ≤ y * q + x * m → (x * p + 0 * m) * e + (y * l + 0 * q) * e ≤ (y * q + 0 * l) * e + (x * m + 0 * p) * e
    go e g = omega (arith, mul-le-mul_right e g)

N_pos : 0 < N
unfolding N
N_pos = lit< {m = 0} {n = 2 ^ 31} tt

-- the test at n for f ≋ p - m against g ≋ q - l
module _ (f g : Fraction → Fraction) (p m q l : List ℕ) (x y n : ℕ)
    (is : f (n ÷ N) ≋ difference (ev N n p) (ev N n m) (denominator N))
    (is' : g (n ÷ N) ≋ difference (ev N n q) (ev N n l) (denominator N)) where
  told : T (before (spread N p) (spread N m) (spread N q) (spread N l) x y n) → whole x ⊗ f (n ÷ N) ≼ whole y ⊗ g (n ÷ N)
  told t =
      let a = difference (ev N n p) (ev N n m) (denominator N) in
      let b = difference (ev N n q) (ev N n l) (denominator N) in
      let h : x * eval (spread N p) n + y * eval (spread N l) n ≤ y * eval (spread N q) n + x * eval (spread N m) n = leb→le _ _ t in
      le_same (whole x ⊗ a) (whole x ⊗ f (n ÷ N)) (whole y ⊗ b) (whole y ⊗ g (n ÷ N))
      (mul-pos (lit< {m = 0} {n = 1} tt) (denominator_pos N N_pos)) (mul-pos (lit< {m = 0} {n = 1} tt) (denominator_pos N N_pos))
      (product_same (whole x) (whole x) a (f (n ÷ N)) refl (same_sym (f (n ÷ N)) a is))
      (product_same (whole y) (whole y) b (g (n ÷ N)) refl (same_sym (g (n ÷ N)) b is'))
      (over_one x y (ev N n p) (ev N n m) (ev N n q) (ev N n l) (denominator N)
      (rw (ev_spread N p n, ev_spread N l n, ev_spread N q n, ev_spread N m n) at h))

pub nearest_angle : (k : ℕ) → k < 129 → NearestAngle k (arc_tangent k)
nearest_angle k h = record {
  low = unfold N in told S C sin_p sin_m cos_p cos_m 128 k (2 * t - 1) (S_is (2 * t - 1) N N_pos) (C_is (2 * t - 1) N N_pos)
      (unfold low s_p s_m c_p c_m in each_of low 129 all_low k h);
  high = unfold N in told C S cos_p cos_m sin_p sin_m k 128 (2 * t + 1) (C_is (2 * t + 1) N N_pos) (S_is (2 * t + 1) N N_pos)
      (unfold high s_p s_m c_p c_m in each_of high 129 all_high k h);
}
  where
    t : ℕ
    t = arc_tangent k
