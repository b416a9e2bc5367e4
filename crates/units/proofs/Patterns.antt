-- Bit patterns: the units that each stands for, and that a sign and a number of units stand for one f32.
use mathlib.Core.Path.{◌≡◌, refl, sym, ap, ◌∙◌, subst, subst₂}
use mathlib.Core.Logic.{inl, inr}
use Prim.Native.Nat.{ℕ, zero, suc, ◌+◌, ◌-◌, ◌*◌, ◌/◌, ◌%◌, ◌^◌, ◌≤◌, ◌<◌}
use native.Mathlib.Nat.{lt_of_le_of_lt, not-le_of_lt, eq-or-lt_of_le, mod-eq_of_lt, mul-one, mul_assoc, mul-le-mul, pow-succ'}
use native.Mathlib.Omega.{arith}
use mathlib.Core.Bool.{Bool, true, false, cond}
use lib.IntN.{ℤ}
use lib.Dec.{T, ltb, eqb, leb→le, eqb→eq, ltb→lt, not_T, lit<}
use lib.Pow.{pow_mono}
use lib.Ieee.{Float, nan, inf, fin, binary32, size, odd, units, of_fields, of_bits, to_bits, fits}
use lib.Ieee.Bits.{is_false, cond_no, of_bits-to_bits, of_bits-fits}
use lib.Ieee.Exact.{HasValue, odd_sign, units_val}
use lib.Ieee.Fits.{odd-fits}
use Rattle.units.specs.Units.{mag}
use Rattle.units.specs.Patterns.{val_of, val, sign_set, bare}
use Rattle.units.proofs.Values.{mag_is}

-- ---- the pattern's fields
pub of_bits_is : (b : ℕ) → of_bits binary32 b ≡ of_fields binary32 (sign_set b) (bare b / 8388608) (b % 8388608)
unfolding of_bits
of_bits_is b = refl

fields_value : (s : Bool) (x t : ℕ) → x < 255 → HasValue (of_fields binary32 s x t) s (val_of x t) (2 ^ 149)
unfolding of_fields
fields_value s zero t h =
    subst (λ (y : ℕ). HasValue (odd 24 s t 0 149) s y (2 ^ 149)) (mul-one t) (odd_sign 24 s t 0 149)
fields_value s (suc x) t h =
    subst (λ (v : Float). HasValue v s ((8388608 + t) * 2 ^ x) (2 ^ 149))
    (sym (cond_no (eqb (suc x) 255) (cond (eqb t 0) (inf s) nan) (odd 24 s (8388608 + t) x 149)
    (not_T (eqb (suc x) 255) (λ (u : T (eqb (suc x) 255)). differ x h (eqb→eq (suc x) 255 u)))))
    (odd_sign 24 s (8388608 + t) x 149)
  where
    differ : (y : ℕ) → suc y < 255 → suc y ≡ 255 → ⊥
    differ y g e = omega arith

-- ---- the value of a pattern: of either sign, and without one
pub bits_value : (b : ℕ) → bare b < 2139095040 → HasValue (of_bits binary32 b) (sign_set b) (val (bare b)) (2 ^ 149)
bits_value b h =
    subst₂ (λ (v : Float) (t : ℕ). HasValue v (sign_set b) (val_of (bare b / 8388608) t) (2 ^ 149))
    (sym (of_bits_is b)) digits (fields_value (sign_set b) (bare b / 8388608) (b % 8388608) (field_lt (bare b) h))
  where
    digits : b % 8388608 ≡ b % 2147483648 % 8388608
    digits = omega arith

    field_lt : (b : ℕ) → b < 2139095040 → b / 8388608 < 255
    field_lt b h = omega arith

pub no_sign : (b : ℕ) → b < 2147483648 → sign_set b ≡ false
no_sign b h = is_false (sign_set b) (not_T (sign_set b) (λ (t : T (sign_set b)). not-le_of_lt h (leb→le 2147483648 b t)))

pub bits_val : (b : ℕ) → b < 2139095040 → HasValue (of_bits binary32 b) false (val b) (2 ^ 149)
bits_val b h =
    let e : bare b ≡ b = mod-eq_of_lt small in
    subst₂ (λ (s : Bool) (m : ℕ). HasValue (of_bits binary32 b) s (val m) (2 ^ 149)) (no_sign b small) e
    (bits_value b (subst (λ (m : ℕ). m < 2139095040) (sym e) h))
  where
    small : b < 2147483648
    small = omega arith

-- ---- a sign and a number are one f32: its bits are made of the two alone
written : Bool → ℕ → ℕ
written s n = cond s 2147483648 0 + (size n - 24) * 8388608 + n / 2 ^ (size n - 24)

to_bits_is : (s : Bool) (m : ℕ) (e : ℤ) → to_bits binary32 (fin s m e) ≡ written s (mag (fin s m e))
unfolding to_bits written mag
to_bits_is s m e = refl

to_bits_same : (x y : Float) (s : Bool) (a : ℕ) → HasValue x s a (2 ^ 149) → HasValue y s a (2 ^ 149) →
    to_bits binary32 x ≡ to_bits binary32 y
to_bits_same nan y s a h k = absurd h
to_bits_same (inf i) y s a h k = absurd h
to_bits_same (fin i m e) nan s a h k = absurd k
to_bits_same (fin i m e) (inf t) s a h k = absurd k
to_bits_same (fin i m e) (fin t n d) s a h k =
    to_bits_is i m e
    ∙ ap (λ (z : ℕ). written i z) (mag_is (fin i m e) s a h ∙ sym (mag_is (fin t n d) s a k))
    ∙ ap (λ (b : Bool). written b (mag (fin t n d))) (h.0 ∙ sym k.0)
    ∙ sym (to_bits_is t n d)

pub one_value : (x y : Float) (s : Bool) (a : ℕ) → T (fits binary32 x) → T (fits binary32 y) → HasValue x s a (2 ^ 149)
    → HasValue y s a (2 ^ 149) → x ≡ y
one_value x y s a p q h k =
    sym (of_bits-to_bits binary32 x p) ∙ ap (of_bits binary32) (to_bits_same x y s a h k) ∙ of_bits-to_bits binary32 y q

-- ---- q * 2 ^ k units of either sign, and by its bits
pub signed_units_fits : (s : Bool) (q k : ℕ) → q ≤ 2 ^ 24 → T (fits binary32 (units binary32 s q k))
unfolding units
signed_units_fits s q k a = go (ltb (q * 2 ^ k) (2 ^ (149 + 128))) (ltb→lt (q * 2 ^ k) (2 ^ (149 + 128)))
  where
    go : (b : Bool) → (T b → q * 2 ^ k < 2 ^ (149 + 128)) → T (fits binary32 (cond b (odd 25 s q k 149) (inf s)))
    go true h = odd-fits binary32 25 s q k (lt_of_le_of_lt a (lit< tt)) a (h tt)
    go false h = unfold fits in tt

pub units_fits : (q k : ℕ) → q ≤ 2 ^ 24 → T (fits binary32 (units binary32 false q k))
units_fits q k a = signed_units_fits false q k a

val_join : (q k : ℕ) → 2 ^ 23 ≤ q → q ≤ 2 ^ 24 → val (k * 8388608 + q) ≡ q * 2 ^ k
val_join q k l h =
    elim (eq-or-lt_of_le h) [
      | inl e ↦
          let x : (k * 8388608 + q) / 8388608 ≡ suc (suc k) = omega arith in
          let t : (k * 8388608 + q) % 8388608 ≡ 0 = omega arith in
          ap (λ (y : ℕ). val_of y ((k * 8388608 + q) % 8388608)) x ∙ ap (λ (y : ℕ). val_of (suc (suc k)) y) t ∙ last k
          ∙ ap (λ (y : ℕ). y * 2 ^ k) (sym e)
      | inr g ↦
          let x : (k * 8388608 + q) / 8388608 ≡ suc k = omega arith in
          let t : 8388608 + (k * 8388608 + q) % 8388608 ≡ q = omega arith in
          ap (λ (y : ℕ). val_of y ((k * 8388608 + q) % 8388608)) x ∙ ap (λ (y : ℕ). y * 2 ^ k) t
    ]
  where
    last : (j : ℕ) → (8388608 + 0) * 2 ^ suc j ≡ 16777216 * 2 ^ j
    last j = ap (λ (y : ℕ). 8388608 * y) (pow-succ' 2 j) ∙ sym (mul_assoc 8388608 2 (2 ^ j))

pub joined_bits : (q k : ℕ) → 2 ^ 23 ≤ q → q ≤ 2 ^ 24 → k ≤ 200 → of_bits binary32 (k * 8388608 + q) ≡ units binary32 false q k
joined_bits q k l h g =
    let u : k * 8388608 + q < 2139095040 = omega arith in
    let o : q * 2 ^ k < 2 ^ (149 + 128) = lt_of_le_of_lt (mul-le-mul h (pow_mono g)) (lit< tt) in
    one_value (of_bits binary32 (k * 8388608 + q)) (units binary32 false q k) false (q * 2 ^ k)
    (of_bits-fits binary32 (k * 8388608 + q)) (units_fits q k h)
    (subst (λ (y : ℕ). HasValue (of_bits binary32 (k * 8388608 + q)) false y (2 ^ 149)) (val_join q k l h) (bits_val (k * 8388608 + q) u))
    (units_val binary32 false q k o)
