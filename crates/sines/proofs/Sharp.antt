-- Ours are within 5 / 2 ^ 27 of document 01's sums, 0.625 of 2 ^ -24, at every permitted f32, and lie from -1 to 1; and what the
-- definitions give in each case. Assumes nothing.
use Rattle.std.specs.Prelude.{◌≡◌, ℕ, ◌+◌, ◌-◌, ◌*◌, ◌^◌, ◌<◌, ◌≤◌, Bool, true, false, cond, T, pos}
use Prim.Native.Nat.{zero-le}
use mathlib.Core.Path.{refl, sym, ap, subst}
use mathlib.Core.Logic.{inl, inr}
use native.Mathlib.Nat.{le_trans}
use native.Mathlib.Omega.{arith}
use borrow.Author.Tests.{lt-ltb, le-ltb}
use lib.Dec.{lit<, lit≤}
use lib.Pow.{pow_pos}
use lib.Ieee.{Float, fin, binary32, fits, neg, to_bits}
use lib.Ieee.Bits.{is_true}
use Rattle.numbers.specs.Door.{finite, permits}
use Rattle.numbers.specs.Limits.{sine_argument}
use Rattle.units.specs.Units.{unity}
use Rattle.units.specs.Patterns.{val, sign_set, bare}
use Rattle.units.proofs.Door.{finite_of}
use Rattle.series.specs.Fractions.{Fraction, ◌÷◌, whole, signed, value, negative, ◌≋◌, ◌≼◌, Within}
use Rattle.series.specs.Series.{S, C}
use Rattle.series.specs.Working.{denominator}
use Rattle.series.proofs.Fractions.{same_sym, same_trans, le_same, within_same, within_negative}
use Rattle.series.proofs.Values.{value_is, signed_over, signed_same}
use Rattle.series.proofs.Literal.{S_is, C_is, denominator_pos}
use Rattle.series.proofs.Parity.{difference, S_odd, C_even, S_same, C_same, S_over, C_over}
use Rattle.series.proofs.Order.{here_or_on}
use Rattle.series.proofs.Addition.{fsp, fsm, fcp, fcm, FD}
use Rattle.sines.specs.How.{sixteen, result_one, surplus, tiny_bits, fixed, fixed_sine, fixed_cosine, centred}
use Rattle.sines.specs.How.{inside_sine, inside_cosine, sine, cosine}
use Rattle.sines.proofs.Values.{tiny_units, fixed_units, fixed_le, argument_value, most_bits}
use Rattle.sines.proofs.Centred.{centred_exactly, turned_exactly}
use Rattle.sines.proofs.Small.{sine_small, cosine_small}
use Rattle.sines.proofs.Whole.{Result, sine_result, cosine_result}

abbrev pub sharp : Fraction
sharp = 5 ÷ 2 ^ 27

-- the number that is counted by w, and by n
abbrev result : ℕ → Fraction
result w = difference w surplus result_one

abbrev argument : ℕ → Fraction
argument n = n ÷ 2 ^ 35

-- ---- a result of whole numbers, in fractions
result_within : (D w p m : ℕ) → Result D w p m → Within sharp (result w) (difference p m D)
result_within D w p m r = (first r.low, second r.high)
  where
    first : 8 * (w * D) + 134217728 * m ≤ 167772160 * D + 134217728 * p + 5 * D
        → w * (D * 134217728) + (m * 134217728 + 0 * D) * 16777216 ≤ (p * 134217728 + 5 * D) * 16777216 + 20971520 * (D * 134217728)
    first h = omega arith

    second : 167772160 * D + 134217728 * p ≤ 8 * (w * D) + 134217728 * m + 5 * D
        → p * (16777216 * 134217728) + (20971520 * 134217728 + 0 * 16777216) * D
        ≤ (w * 134217728 + 5 * 16777216) * D + m * (16777216 * 134217728)
    second h = omega arith

FD_is : FD ≡ denominator (2 ^ 35)
unfolding FD
FD_is = refl

-- for S and for C
fixed_within : (f : Fraction → Fraction) (n w p m : ℕ) → f (argument n) ≋ difference p m (denominator (2 ^ 35)) → Result FD w p m
    → Within sharp (result w) (f (argument n))
fixed_within f n w p m is r =
    within_same sharp sharp (result w) (result w) (difference p m (denominator (2 ^ 35))) (f (argument n))
    (lit< tt) (lit< tt) (denominator_pos (2 ^ 35) (lit< tt)) refl refl
    (same_sym (f (argument n)) (difference p m (denominator (2 ^ 35))) is)
    (subst (λ (d : ℕ). Within sharp (result w) (difference p m d)) FD_is (result_within FD w p m r))

-- ---- signs
sine_signed : (s : Bool) (a y : Fraction) → Within sharp a (S y) → Within sharp (signed s a) (S (signed s y))
sine_signed true a y w = subst (λ (f : Fraction). Within sharp (negative a) f) (sym (S_odd y)) (within_negative sharp a (S y) w)
sine_signed false a y w = w

cosine_signed : (s : Bool) (a y : Fraction) → Within sharp a (C y) → Within sharp a (C (signed s y))
cosine_signed true a y w = subst (λ (f : Fraction). Within sharp a f) (sym (C_even y)) w
cosine_signed false a y w = w

-- ---- from the fractions to the f32s
module _ (s : Bool) (x r : Float) (a y : Fraction) (pa : 0 < a.over) (py : 0 < y.over) (hx : value x ≋ signed s y) where
  sine_from : value r ≋ signed s a → Within sharp a (S y) → Within sharp (value r) (S (value x))
  sine_from hr w =
      within_same sharp sharp (signed s a) (value r) (S (signed s y)) (S (value x))
      (lit< tt) (signed_over s a pa) (S_over (signed s y) (signed_over s y py)) refl (same_sym (value r) (signed s a) hr)
      (S_same (signed s y) (value x) (same_sym (value x) (signed s y) hx)) (sine_signed s a y w)

  cosine_from : value r ≋ a → Within sharp a (C y) → Within sharp (value r) (C (value x))
  cosine_from hr w =
      within_same sharp sharp a (value r) (C (signed s y)) (C (value x))
      (lit< tt) pa (C_over (signed s y) (signed_over s y py)) refl (same_sym (value r) a hr)
      (C_same (signed s y) (value x) (same_sym (value x) (signed s y) hx)) (cosine_signed s a y w)

-- ---- from -1 to 1
pub record FromMinusOneToOne (r : Float) : Type 0 where
  pub low : negative (whole 1) ≼ value r
  pub high : value r ≼ whole 1

bounded : (s : Bool) (p m d : ℕ) (r : Float) → 0 < d → p ≤ d + m → m ≤ d + p → value r ≋ signed s (difference p m d)
    → FromMinusOneToOne r
bounded s p m d r gt h k e = record {
  low =
      le_same (negative (whole 1)) (negative (whole 1)) (signed s (difference p m d)) (value r) (lit< tt)
      (signed_over s (difference p m d) gt)
      refl (same_sym (value r) (signed s (difference p m d)) e) (low s);
  high =
      le_same (signed s (difference p m d)) (value r) (whole 1) (whole 1) (signed_over s (difference p m d) gt) (lit< tt)
      (same_sym (value r) (signed s (difference p m d)) e) refl (high s);
}
  where
    low : (s : Bool) → negative (whole 1) ≼ signed s (difference p m d)
    low true = omega arith
    low false = omega arith

    high : (s : Bool) → signed s (difference p m d) ≼ whole 1
    high true = omega arith
    high false = omega arith

-- ---- the definitions, case by case
module _ (x : Float) where
  abbrev bits : ℕ
  bits = to_bits binary32 x

  pub sine_tiny : bare bits < tiny_bits → x ≡ inside_sine x
  unfolding inside_sine
  sine_tiny h = simp (lt-ltb (bare bits) tiny_bits h)

  pub sine_else : tiny_bits ≤ bare bits
      → cond (sign_set bits) (neg (centred (fixed_sine (fixed (bare bits))))) (centred (fixed_sine (fixed (bare bits)))) ≡ inside_sine x
  unfolding inside_sine
  sine_else h = simp (le-ltb (bare bits) tiny_bits h)

  pub cosine_tiny : bare bits < tiny_bits → fin false 1 (pos 0) ≡ inside_cosine x
  unfolding inside_cosine
  cosine_tiny h = simp (lt-ltb (bare bits) tiny_bits h)

  pub cosine_else : tiny_bits ≤ bare bits → centred (fixed_cosine (fixed (bare bits))) ≡ inside_cosine x
  unfolding inside_cosine
  cosine_else h = simp (le-ltb (bare bits) tiny_bits h)

-- ---- what is shown of a result
record Good (f : Fraction → Fraction) (x r : Float) : Type 0 where
  is_number : T (finite r)
  within : Within sharp (value r) (f (value x))
  to_one : FromMinusOneToOne r

module _ (x : Float) (f : T (fits binary32 x)) (p : T (permits sine_argument x)) where
  abbrev s : Bool
  s = sign_set (to_bits binary32 x)

  abbrev m : ℕ
  m = bare (to_bits binary32 x)

  -- the argument in units of 2 ^ -149, and from 2 ^ -12 on as a count of 2 ^ -35
  in_units : value x ≋ signed s (val m ÷ unity)
  in_units = value_is x s (val m) unity (argument_value x f p)

  in_fixed : tiny_bits ≤ m → value x ≋ signed s (argument (fixed m))
  in_fixed h =
      same_trans (value x) (signed s (val m ÷ unity)) (signed s (argument (fixed m))) (signed_over s (val m ÷ unity) (pow_pos 149)) in_units
      (signed_same s (val m ÷ unity) (argument (fixed m)) (go (val m) (fixed m) (2 ^ 114) unity (fixed_units m h) refl))
    where
      go : (v n k u : ℕ) → v ≡ n * k → k * 34359738368 ≡ u → v * 34359738368 + 0 * u ≡ n * u + 0 * 34359738368
      go v n k u e d = rw (e, ← d) (omega arith)

  n_le : tiny_bits ≤ m → fixed m ≤ sixteen
  n_le h = fixed_le m h (most_bits x f p)

  few : (w : ℕ) → surplus - result_one ≤ w → w ≤ surplus + result_one → (w ≤ result_one + surplus) × (surplus ≤ result_one + w)
  few w l h = (omega arith, omega arith)

  inside_sine_lem : Good S x (inside_sine x)
  inside_sine_lem =
      elim (here_or_on m tiny_bits) [
        | inl h ↦
            let v = tiny_units m h in
            let e = in_units in
            subst (Good S x) (sine_tiny x h) (record {
              is_number = finite_of x s (val m) unity (argument_value x f p);
              within = sine_from s x x (val m ÷ unity) (val m ÷ unity) (pow_pos 149) (pow_pos 149) e e (sine_small (val m) v);
              to_one = bounded s (val m) 0 unity x (pow_pos 149) (le_trans v (lit≤ {m = 2 ^ 137} {n = 2 ^ 149} tt)) zero-le e;
            })
        | inr h ↦
            let n = fixed m in
            let w = fixed_sine n in
            let r = sine_result n (n_le h) in
            let c = turned_exactly s (centred w) (result w) (centred_exactly w r.least r.most) in
            let y = cond s (neg (centred w)) (centred w) in
            let b = few w r.least r.most in
            subst (Good S x) (sine_else x h) (record {
              is_number = c.0;
              within =
                  sine_from s x y (result w) (argument n) (lit< tt) (lit< tt) (in_fixed h) c.1
                  (fixed_within S n w (fsp n) (fsm n) (S_is n (2 ^ 35) (lit< tt)) r);
              to_one = bounded s w surplus result_one y (lit< tt) b.0 b.1 c.1;
            })
      ]

  inside_cosine_lem : Good C x (inside_cosine x)
  unfolding finite
  inside_cosine_lem =
      elim (here_or_on m tiny_bits) [
        | inl h ↦
            let one = fin false 1 (pos 0) in
            subst (Good C x) (cosine_tiny x h) (record {
              is_number = tt;
              within = cosine_from s x one (whole 1) (val m ÷ unity) (lit< tt) (pow_pos 149) in_units refl
                  (cosine_small (val m) (tiny_units m h));
              to_one = bounded false 1 0 1 one (lit< tt) (omega arith) (omega arith) refl;
            })
        | inr h ↦
            let n = fixed m in
            let w = fixed_cosine n in
            let r = cosine_result n (n_le h) in
            let c = centred_exactly w r.least r.most in
            let b = few w r.least r.most in
            subst (Good C x) (cosine_else x h) (record {
              is_number = c.0;
              within =
                  cosine_from s x (centred w) (result w) (argument n) (lit< tt) (lit< tt) (in_fixed h) c.1
                  (fixed_within C n w (fcp n) (fcm n) (C_is n (2 ^ 35) (lit< tt)) r);
              to_one = bounded false w surplus result_one (centred w) (lit< tt) b.0 b.1 c.1;
            })
      ]

  -- what the cores give where the argument is permitted
  pub sine_is : inside_sine x ≡ sine x
  unfolding sine
  sine_is = ap (λ (b : Bool). cond b (inside_sine x) (fin false 0 (pos 0))) (sym (is_true (permits sine_argument x) p))

  pub cosine_is : inside_cosine x ≡ cosine x
  unfolding cosine
  cosine_is = ap (λ (b : Bool). cond b (inside_cosine x) (fin false 0 (pos 0))) (sym (is_true (permits sine_argument x) p))

  sine_good : Good S x (sine x)
  sine_good = subst (Good S x) sine_is inside_sine_lem

  cosine_good : Good C x (cosine x)
  cosine_good = subst (Good C x) cosine_is inside_cosine_lem

  pub sine_finite : T (finite (sine x))
  sine_finite = sine_good.is_number

  pub cosine_finite : T (finite (cosine x))
  cosine_finite = cosine_good.is_number

  pub sine_sharp : Within sharp (value (sine x)) (S (value x))
  sine_sharp = sine_good.within

  pub cosine_sharp : Within sharp (value (cosine x)) (C (value x))
  cosine_sharp = cosine_good.within

  -- |sine x| and |cosine x| are at most 1
  pub sine_one : FromMinusOneToOne (sine x)
  sine_one = sine_good.to_one

  pub cosine_one : FromMinusOneToOne (cosine x)
  cosine_one = cosine_good.to_one

-- ---- outside the table
pub sine_outside : (x : Float) → permits sine_argument x ≡ false → sine x ≡ fin false 0 (pos 0)
unfolding sine
sine_outside x h = ap (λ (b : Bool). cond b (inside_sine x) (fin false 0 (pos 0))) h

pub cosine_outside : (x : Float) → permits sine_argument x ≡ false → cosine x ≡ fin false 0 (pos 0)
unfolding cosine
cosine_outside x h = ap (λ (b : Bool). cond b (inside_cosine x) (fin false 0 (pos 0))) h
