-- Every f32 is a number of 24 digits times a power of two, in units; so from 2 ^ 23 * 2 ^ k units on it is a multiple of 2 ^ k.
use mathlib.Core.Path.{◌≡◌, refl, sym, ap, ◌∙◌}
use Prim.Native.Nat.{ℕ, zero, suc, ◌+◌, ◌-◌, ◌*◌, ◌/◌, ◌%◌, ◌^◌, ◌≤◌, ◌<◌}
use native.Mathlib.Nat.{le_of_eq, lt_of_lt_of_le, lt_of_le_of_lt, lt_of_not-le, not-le_of_lt, mul_assoc, mul-one, mul-div_cancel, div-one}
use native.Mathlib.Nat.{zero-mul, zero-div, mul-lt-mul_of_pos_right, pow-succ'}
use native.Mathlib.Omega.{arith}
use mathlib.Core.Bool.{Bool, true, ◌&&◌}
use lib.IntN.{ℤ, pos, negsuc}
use lib.Dec.{T, leb, ltb, eqb, leb→le, ltb→lt, lit<}
use lib.Pow.{pow-add, pow_pos, pow_mono, pow-lt}
use lib.Ieee.{Float, nan, inf, fin, binary32, up, down, fits}
use lib.Ieee.Fits.{and_l, and_r}
use Rattle.units.specs.Units.{unity, mag}

abbrev pub Digits : ℕ → Type 0
Digits w = (m : ℕ) × (j : ℕ) × (w ≡ m * 2 ^ j) × (m < 2 ^ 24)

within : (m : ℕ) (e : ℤ) → T (fits binary32 (fin true (suc m) e)) → (suc m < 2 ^ 24) × (down e ≤ unity)
unfolding fits
within m e t =
    let A = eqb (suc m % 2) 1 in
    let B = ltb (suc m) (2 ^ 24) in
    let C = leb (down e) (unity) in
    let D = ltb (suc m * up e) (2 ^ 128 * down e) in
    let abc = and_l (A && B && C) D t in
    (ltb→lt (suc m) (2 ^ 24) (and_r A B (and_l (A && B) C abc)), leb→le (down e) (unity) (and_r (A && B) C abc))

sign_free : (s : Bool) (m : ℕ) (e : ℤ) → T (fits binary32 (fin s (suc m) e)) → T (fits binary32 (fin true (suc m) e))
unfolding fits
sign_free s m e t = t

by_exponent : (s : Bool) (m : ℕ) (e : ℤ) → suc m < 2 ^ 24 → down e ≤ unity → Digits (mag (fin s (suc m) e))
unfolding mag
by_exponent s m (pos t) h k = (
  suc m,
  t + 149,
  div-one (suc m * 2 ^ t * unity) ∙ mul_assoc (suc m) (2 ^ t) (unity)
      ∙ ap (λ (y : ℕ). suc m * y) (sym (pow-add 2 t 149)),
  h,
)
by_exponent s m (negsuc t) h k =
    let l : suc t ≤ 149 = pow_le_back (suc t) k in
    let e : 149 - suc t + suc t ≡ 149 = omega arith in (
      suc m,
      149 - suc t,
      ap (λ (y : ℕ). y * unity / 2 ^ suc t) (mul-one (suc m))
          ∙ ap (λ (y : ℕ). suc m * y / 2 ^ suc t) (ap (λ (y : ℕ). 2 ^ y) (sym e) ∙ pow-add 2 (149 - suc t) (suc t))
          ∙ ap (λ (y : ℕ). y / 2 ^ suc t) (sym (mul_assoc (suc m) (2 ^ (149 - suc t)) (2 ^ suc t)))
          ∙ mul-div_cancel (suc m * 2 ^ (149 - suc t)) (pow_pos (suc t)),
      h,
    )
  where
    pow_le_back : (i : ℕ) → 2 ^ i ≤ unity → i ≤ 149
    pow_le_back i g = le_of_lt_suc (lt_of_not-le (λ (u : 150 ≤ i). not-le_of_lt (pow-lt u) g))
      where
        le_of_lt_suc : {a b : ℕ} → a < suc b → a ≤ b
        le_of_lt_suc {a} {b} x = omega arith

pub digits_of : (z : Float) → T (fits binary32 z) → Digits (mag z)
unfolding mag
digits_of nan t = (0, 0, refl, lit< tt)
digits_of (inf s) t = (0, 0, refl, lit< tt)
digits_of (fin s zero e) t = (0, 0, ap (λ (y : ℕ). y * unity / down e) (zero-mul (up e)) ∙ zero-div (down e), lit< tt)
digits_of (fin s (suc m) e) t = let w = within m e (sign_free s m e t) in by_exponent s m e w.0 w.1

pub up_one : (k k' : ℕ) → k' < k → 2 ^ 24 * 2 ^ k' ≤ 2 ^ 23 * 2 ^ k
up_one k k' l = let e : 2 ^ suc k' ≤ 2 ^ k = pow_mono l in let f : 2 ^ suc k' ≡ 2 * 2 ^ k' = pow-succ' 2 k' in omega arith

pub multiple : (w k : ℕ) → Digits w → 2 ^ 23 * 2 ^ k ≤ w → (u : ℕ) × (w ≡ u * 2 ^ k)
multiple w k d h =
    let m = d.0 in
    let j = d.1 in
    let less : w < 2 ^ 24 * 2 ^ j = lt_of_le_of_lt (le_of_eq d.2) (mul-lt-mul_of_pos_right d.3 (pow_pos j)) in
    let l : k ≤ j = le_of_lt_suc (lt_of_not-le (λ (g : suc j ≤ k). not-le_of_lt (lt_of_lt_of_le less (up_one k j g)) h)) in
    let e : j - k + k ≡ j = omega arith in (
      m * 2 ^ (j - k),
      d.2 ∙ ap (λ (y : ℕ). m * 2 ^ y) (sym e) ∙ ap (λ (y : ℕ). m * y) (pow-add 2 (j - k) k)
          ∙ sym (mul_assoc m (2 ^ (j - k)) (2 ^ k)),
    )
  where
    le_of_lt_suc : {a b : ℕ} → a < suc b → a ≤ b
    le_of_lt_suc {a} {b} x = omega arith
