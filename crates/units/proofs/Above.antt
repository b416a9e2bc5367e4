-- A finite f32 above zero: its pattern lies above 0 and below the infinity's, and its units are those of the pattern.
use mathlib.Core.Path.{◌≡◌, refl, sym, ap, ◌∙◌, subst}
use Prim.Native.Nat.{ℕ, zero, suc, ◌*◌, ◌^◌, ◌<◌}
use native.Mathlib.Nat.{zero-lt-suc, mul-pos, zero-mul, lt_irrefl, mod-eq_of_lt}
use native.Mathlib.Omega.{arith}
use mathlib.Core.Bool.{Bool, true, false, not, true≢false}
use lib.IntN.{ℤ, pos}
use lib.Dec.{T, ltb, ltb→lt, lt→ltb, nleb→lt, not_T, lit<}
use lib.Ieee.{Float, nan, inf, fin, binary32, up, down, of_bits, to_bits, nan_bits, fits, is_nan, lt}
use lib.Ieee.Bits.{is_true, of_bits-to_bits, nan_bits_is}
use lib.Ieee.Exact.{HasValue}
use lib.Ieee.Fits.{up_pos}
use lib.Ieee.Positive.{positive, positive-finite, value_pos}
use Rattle.numbers.specs.Door.{finite}
use Rattle.units.specs.Units.{unity, mag}
use Rattle.units.specs.Patterns.{val, sign_set, bare}
use Rattle.units.proofs.Door.{finite_is, finite_of, finite_no_nan}
use Rattle.units.proofs.Patterns.{bits_val}
use Rattle.units.proofs.Bits.{has_value, bare_lt, mag_bare}

-- ---- the test `0.0 < x`, and then of the pattern
pub zero_pattern : of_bits binary32 0 ≡ fin false 0 (pos 0)
unfolding of_bits
zero_pattern = refl

infinity_bits : to_bits binary32 (inf false) < 2139095040 → ⊥
unfolding to_bits
infinity_bits h = lt_irrefl 2139095040 h

something : (m : ℕ) (e : ℤ) → ltb (0 * 1 * down e) (m * up e * 1) ≡ true → T (ltb 0 m)
something zero e h = absurd (none (subst T (sym h) tt))
  where
    none : T (ltb (0 * 1 * down e) (0 * up e * 1)) → ⊥
    none t = let l = ltb→lt (0 * 1 * down e) (0 * up e * 1) t in let z : 0 * up e ≡ 0 = zero-mul (up e) in omega arith
something (suc m) e h = lt→ltb 0 (suc m) (zero-lt-suc m)

above : (x : Float) → lt (fin false 0 (pos 0)) x ≡ true → to_bits binary32 x < 2139095040 → T (positive x)
unfolding lt
above nan h b = absurd (true≢false (sym h))
above (inf true) h b = absurd (true≢false (sym h))
above (inf false) h b = infinity_bits b
above (fin true m e) h b = absurd (true≢false (sym h))
above (fin false m e) h b = something m e h

pub above_zero : (x : Float) → lt (of_bits binary32 0) x ≡ true → to_bits binary32 x < 2139095040 → T (positive x)
above_zero x h = above x (subst (λ (z : Float). lt z x ≡ true) zero_pattern h)

no_nan : (x : Float) → lt (fin false 0 (pos 0)) x ≡ true → T (not (is_nan x))
unfolding lt is_nan
no_nan nan h = absurd (true≢false (sym h))
no_nan (inf s) h = tt
no_nan (fin s m e) h = tt

pub above_no_nan : (x : Float) → lt (of_bits binary32 0) x ≡ true → T (not (is_nan x))
above_no_nan x h = no_nan x (subst (λ (z : Float). lt z x ≡ true) zero_pattern h)

-- and what passes it not
passes : (x : Float) → T (positive x) → lt (fin false 0 (pos 0)) x ≡ true
unfolding lt
passes nan p = absurd p
passes (inf s) p = absurd p
passes (fin true m e) p = absurd p
passes (fin false m e) p =
    is_true (ltb (0 * 1 * down e) (m * up e * 1)) (lt→ltb (0 * 1 * down e) (m * up e * 1) (more m e (mul-pos (ltb→lt 0 m p) (up_pos e))))
  where
    more : (m : ℕ) (e : ℤ) → 0 < m * up e → 0 * 1 * down e < m * up e * 1
    more m e h = let z : 0 * 1 * down e ≡ 0 = zero-mul (down e) in omega arith

pub not_above_zero : (x : Float) → lt (of_bits binary32 0) x ≡ false → T (positive x) → ⊥
not_above_zero x h p = true≢false (sym (passes x p) ∙ subst (λ (z : Float). lt z x ≡ false) zero_pattern h)

-- ---- the pattern of a value above zero is neither 0, nor that of an infinity, a NaN or a negative value
not_first : (i : ℕ) → T (positive (of_bits binary32 i)) → 0 < i
not_first zero p = absurd (subst (λ (w : Float). T (positive w)) zero_pattern p)
not_first (suc i) p = zero-lt-suc i

no_sign_bit : (x : Float) (s : Bool) (a c : ℕ) → T (positive x) → HasValue x s a c → T s → ⊥
no_sign_bit nan s a c p h t = p
no_sign_bit (inf i) s a c p h t = p
no_sign_bit (fin true m e) s a c p h t = p
no_sign_bit (fin false m e) s a c p h t = subst T (sym h.0) t

module _ (x : Float) (F : T (fits binary32 x)) (P : T (positive x)) where
  at_bits : T (positive (of_bits binary32 (to_bits binary32 x)))
  at_bits = subst (λ (w : Float). T (positive w)) (sym (of_bits-to_bits binary32 x F)) P

  is_finite : T (finite x)
  is_finite = subst T (sym (finite_is x)) (positive-finite x P)

  no_sign_set : to_bits binary32 x < 2147483648
  no_sign_set =
      let b = to_bits binary32 x in
      nleb→lt 2147483648 b (not_T (sign_set b) (no_sign_bit x (sign_set b) (val (bare b)) unity P (has_value x F is_finite)))

  bare_is : bare (to_bits binary32 x) ≡ to_bits binary32 x
  bare_is = mod-eq_of_lt no_sign_set

  pub pattern : (0 < to_bits binary32 x) × (to_bits binary32 x < 2139095040)
  pattern = (not_first (to_bits binary32 x) at_bits, subst (λ (b : ℕ). b < 2139095040) bare_is (bare_lt x F is_finite))

  pub mag_val : mag x ≡ val (to_bits binary32 x)
  mag_val = mag_bare x F is_finite ∙ ap val bare_is

  pub mag_pos : 0 < mag x
  mag_pos =
      let b = to_bits binary32 x in
      subst (λ (y : ℕ). 0 < y) (sym mag_val) (value_pos (of_bits binary32 b) (val b) unity at_bits (lit< tt) (bits_val b pattern.1))

  pub mag_value : HasValue x false (mag x) unity
  mag_value =
      let b = to_bits binary32 x in
      subst (λ (y : ℕ). HasValue x false y unity) (sym mag_val)
      (subst (λ (w : Float). HasValue w false (val b) unity) (of_bits-to_bits binary32 x F) (bits_val b pattern.1))

-- ---- `f32::from_bits` of a pattern below the infinity's is defined
pub pattern_no_nan : (b : ℕ) → b < 2139095040 → T (not (nan_bits binary32 b))
pattern_no_nan b h =
    subst (λ (z : Bool). T (not z)) (sym (nan_bits_is binary32 b))
    (finite_no_nan (of_bits binary32 b) (finite_of (of_bits binary32 b) false (val b) (2 ^ 149) (bits_val b h)))
