-- Products and quotients in parts: the result of `mul` and `div` is `grid` of the exact product or quotient, part by part, at either sign.
use mathlib.Core.Path.{◌≡◌, refl, sym, ap, ◌∙◌, subst}
use Prim.Native.Nat.{ℕ, zero, suc, ◌+◌, ◌*◌, ◌<◌}
use native.Mathlib.Nat.{lt_irrefl, mul_comm, mul_assoc, mul_left_comm, mul-pos, eq_of_mul-eq-mul_right, zero-mul, zero-lt-suc}
use native.Mathlib.Omega.{arith}
use mathlib.Core.Bool.{Bool, true, false, cond, true≢false}
use lib.IntN.{ℤ}
use lib.Dec.{eqb, eqb-suc-zero}
use lib.Pow.{pow_pos}
use lib.Ieee.{Float, nan, inf, fin, Format, low, up, down, unlike, round, mul, div}
use lib.Ieee.Fits.{up_pos, down_pos}
use lib.Ieee.Exact.{HasValue}
use lib.Ieee.Scale.{grid, overflow}
use Rattle.units.specs.Units.{one, Part}
use Rattle.units.proofs.Values.{sized_plus, sized_minus, round_at}

-- which of two parts comes first where the factor is negative, and they change places
abbrev pub swapped : Bool → ℕ → ℕ → ℕ
swapped false p n = p
swapped true p n = n

-- ---- mul
mul_cross : (M u p w K q z : ℕ) → M * u ≡ p * w → K * u ≡ q * z → M * K * (u * u) ≡ p * q * (w * z)
mul_cross M u p w K q z a b =
    simp (mul_assoc, mul_comm, mul_left_comm)
    (simp (mul_assoc, mul_comm, mul_left_comm) at (ap (λ (x : ℕ). x * (K * u)) a ∙ ap (λ (x : ℕ). p * w * x) b))

times_zero : (p q : ℕ) → p ≡ 0 → p * q ≡ 0
times_zero p q e = ap (λ (x : ℕ). x * q) e ∙ zero-mul q

squared_pos : (f : Format) → 0 < one f * one f
squared_pos f = mul-pos (pow_pos (low f)) (pow_pos (low f))

both_pos : (e d : ℤ) → 0 < down e * down d
both_pos e d = mul-pos (down_pos e) (down_pos d)

-- y is ±q units
pub mul_part : (f : Format) (x y : Float) (t : Bool) (p n q : ℕ) → Part f x p n → HasValue y t q (one f)
    → grid f (swapped t p n * q) (one f * one f) < overflow f → grid f (swapped t n p * q) (one f * one f) < overflow f
    → Part f (mul f x y) (grid f (swapped t p n * q) (one f * one f)) (grid f (swapped t n p * q) (one f * one f))
unfolding mul
mul_part f nan y t p n q a b h g = absurd a
mul_part f (inf s) y t p n q a b h g = absurd a
mul_part f (fin s m e) nan t p n q a b h g = absurd b
mul_part f (fin s m e) (inf i) t p n q a b h g = absurd b
mul_part f (fin s m e) (fin true k d) false p n q a b h g = absurd (true≢false b.0)
mul_part f (fin s m e) (fin false k d) true p n q a b h g = absurd (true≢false (sym b.0))
mul_part f (fin false m e) (fin false k d) false p n q a b h g =
    sized_plus f (m * up e * (k * up d)) (down e * down d) (p * q) (one f * one f) (n * q) (both_pos e d) (squared_pos f)
    (mul_cross (m * up e) (one f) p (down e) (k * up d) q (down d) a.0 b.1) (times_zero n q a.1) h
mul_part f (fin false m e) (fin true k d) true p n q a b h g =
    sized_minus f (m * up e * (k * up d)) (down e * down d) (n * q) (one f * one f) (p * q) (both_pos e d) (squared_pos f)
    (mul_cross (m * up e) (one f) p (down e) (k * up d) q (down d) a.0 b.1) (times_zero n q a.1) g
mul_part f (fin true m e) (fin false k d) false p n q a b h g =
    sized_minus f (m * up e * (k * up d)) (down e * down d) (p * q) (one f * one f) (n * q) (both_pos e d) (squared_pos f)
    (mul_cross (m * up e) (one f) n (down e) (k * up d) q (down d) a.0 b.1) (times_zero p q a.1) g
mul_part f (fin true m e) (fin true k d) true p n q a b h g =
    sized_plus f (m * up e * (k * up d)) (down e * down d) (n * q) (one f * one f) (p * q) (both_pos e d) (squared_pos f)
    (mul_cross (m * up e) (one f) n (down e) (k * up d) q (down d) a.0 b.1) (times_zero p q a.1) h

-- a square is not negative
sq_at : (f : Format) (s : Bool) (m : ℕ) (e : ℤ) (w : ℕ) → m * up e * one f ≡ w * down e → grid f (w * w) (one f * one f) < overflow f
    → HasValue (mul f (fin s m e) (fin s m e)) false (grid f (w * w) (one f * one f)) (one f)
unfolding mul
sq_at f false m e w a h =
    round_at f (m * up e * (m * up e)) (down e * down e) (w * w) (one f * one f) (both_pos e e) (squared_pos f)
    (mul_cross (m * up e) (one f) w (down e) (m * up e) w (down e) a a) h
sq_at f true m e w a h =
    round_at f (m * up e * (m * up e)) (down e * down e) (w * w) (one f * one f) (both_pos e e) (squared_pos f)
    (mul_cross (m * up e) (one f) w (down e) (m * up e) w (down e) a a) h

no_right : (p n : ℕ) → n ≡ 0 → p ≡ p + n
no_right p n e = omega arith

no_left : (p n : ℕ) → p ≡ 0 → n ≡ p + n
no_left p n e = omega arith

pub sq_value : (f : Format) (x : Float) (p n : ℕ) → Part f x p n → grid f ((p + n) * (p + n)) (one f * one f) < overflow f
    → HasValue (mul f x x) false (grid f ((p + n) * (p + n)) (one f * one f)) (one f)
sq_value f nan p n a h = absurd a
sq_value f (inf s) p n a h = absurd a
sq_value f (fin false m e) p n a h =
    sq_at f false m e (p + n) (subst (λ (w : ℕ). m * up e * one f ≡ w * down e) (no_right p n a.1) a.0) h
sq_value f (fin true m e) p n a h =
    sq_at f true m e (p + n) (subst (λ (w : ℕ). m * up e * one f ≡ w * down e) (no_left p n a.1) a.0) h

-- ---- div
div_cross : (M u p w K q z : ℕ) → 0 < u → M * u ≡ p * w → K * u ≡ q * z → M * z * q ≡ p * (K * w)
div_cross M u p w K q z U a b =
    eq_of_mul-eq-mul_right u U (M * z * q) (p * (K * w))
    (simp (mul_assoc, mul_comm, mul_left_comm)
    (simp (mul_assoc, mul_comm, mul_left_comm) at (ap (λ (x : ℕ). x * (q * z)) a ∙ ap (λ (x : ℕ). p * w * x) (sym b))))

second : (b : Bool) (x y : Float) → b ≡ false → cond b x y ≡ y
second true x y e = absurd (true≢false e)
second false x y e = refl

div_is : (f : Format) (s : Bool) (m : ℕ) (e : ℤ) (t : Bool) (k : ℕ) (d : ℤ)
    → div f (fin s m e) (fin t (suc k) d) ≡ round f (unlike s t) (m * up e * down d) (suc k * up d * down e)
unfolding div
div_is f s m e t k d =
    second (eqb (suc k) 0) (cond (eqb m 0) nan (inf (unlike s t))) (round f (unlike s t) (m * up e * down d) (suc k * up d * down e))
    (eqb-suc-zero k)

bottom_pos : (k : ℕ) (d e : ℤ) → 0 < suc k * up d * down e
bottom_pos k d e = mul-pos (mul-pos (zero-lt-suc k) (up_pos d)) (down_pos e)

not_zero : (f : Format) (d : ℤ) (q : ℕ) → 0 < q → 0 * up d * one f ≡ q * down d → ⊥
not_zero f d q Q e =
    lt_irrefl 0 (subst (λ (w : ℕ). 0 < w) (sym e ∙ ap (λ (w : ℕ). w * one f) (zero-mul (up d)) ∙ zero-mul (one f)) (mul-pos Q (down_pos d)))

-- y is ±q units, and not zero
pub div_part : (f : Format) (x y : Float) (t : Bool) (p n q : ℕ) → Part f x p n → HasValue y t q (one f) → 0 < q
    → grid f (swapped t p n) q < overflow f → grid f (swapped t n p) q < overflow f
    → Part f (div f x y) (grid f (swapped t p n) q) (grid f (swapped t n p) q)
div_part f nan y t p n q a b Q h g = absurd a
div_part f (inf s) y t p n q a b Q h g = absurd a
div_part f (fin s m e) nan t p n q a b Q h g = absurd b
div_part f (fin s m e) (inf i) t p n q a b Q h g = absurd b
div_part f (fin s m e) (fin true k d) false p n q a b Q h g = absurd (true≢false b.0)
div_part f (fin s m e) (fin false k d) true p n q a b Q h g = absurd (true≢false (sym b.0))
div_part f (fin s m e) (fin true zero d) true p n q a b Q h g = absurd (not_zero f d q Q b.1)
div_part f (fin s m e) (fin false zero d) false p n q a b Q h g = absurd (not_zero f d q Q b.1)
div_part f (fin false m e) (fin false (suc k) d) false p n q a b Q h g =
    subst (λ (z : Float). Part f z (grid f p q) (grid f n q)) (sym (div_is f false m e false k d))
    (sized_plus f (m * up e * down d) (suc k * up d * down e) p q n (bottom_pos k d e) Q
    (div_cross (m * up e) (one f) p (down e) (suc k * up d) q (down d) (pow_pos (low f)) a.0 b.1) a.1 h)
div_part f (fin false m e) (fin true (suc k) d) true p n q a b Q h g =
    subst (λ (z : Float). Part f z (grid f n q) (grid f p q)) (sym (div_is f false m e true k d))
    (sized_minus f (m * up e * down d) (suc k * up d * down e) n q p (bottom_pos k d e) Q
    (div_cross (m * up e) (one f) p (down e) (suc k * up d) q (down d) (pow_pos (low f)) a.0 b.1) a.1 g)
div_part f (fin true m e) (fin false (suc k) d) false p n q a b Q h g =
    subst (λ (z : Float). Part f z (grid f p q) (grid f n q)) (sym (div_is f true m e false k d))
    (sized_minus f (m * up e * down d) (suc k * up d * down e) p q n (bottom_pos k d e) Q
    (div_cross (m * up e) (one f) n (down e) (suc k * up d) q (down d) (pow_pos (low f)) a.0 b.1) a.1 g)
div_part f (fin true m e) (fin true (suc k) d) true p n q a b Q h g =
    subst (λ (z : Float). Part f z (grid f n q) (grid f p q)) (sym (div_is f true m e true k d))
    (sized_plus f (m * up e * down d) (suc k * up d * down e) n q p (bottom_pos k d e) Q
    (div_cross (m * up e) (one f) n (down e) (suc k * up d) q (down d) (pow_pos (low f)) a.0 b.1) a.1 h)

-- of two that are not negative
pub div_value : (f : Format) (x y : Float) (p q : ℕ) → HasValue x false p (one f) → HasValue y false q (one f) → 0 < q
    → grid f p q < overflow f → HasValue (div f x y) false (grid f p q) (one f)
div_value f nan y p q a b Q h = absurd a
div_value f (inf s) y p q a b Q h = absurd a
div_value f (fin s m e) nan p q a b Q h = absurd b
div_value f (fin s m e) (inf i) p q a b Q h = absurd b
div_value f (fin true m e) (fin t k d) p q a b Q h = absurd (true≢false a.0)
div_value f (fin false m e) (fin true k d) p q a b Q h = absurd (true≢false b.0)
div_value f (fin false m e) (fin false zero d) p q a b Q h = absurd (not_zero f d q Q b.1)
div_value f (fin false m e) (fin false (suc k) d) p q a b Q h =
    subst (λ (z : Float). HasValue z false (grid f p q) (one f)) (sym (div_is f false m e false k d))
    (round_at f (m * up e * down d) (suc k * up d * down e) p q (bottom_pos k d e) Q
    (div_cross (m * up e) (one f) p (down e) (suc k * up d) q (down d) (pow_pos (low f)) a.1 b.1) h)
