-- What the bits of a permitted argument say of its value: sign and units of 2 ^ -149, and from 2 ^ -12 on counts of 2 ^ -35. Assumes
-- nothing.
use Rattle.std.specs.Prelude.{◌≡◌, ℕ, ◌+◌, ◌-◌, ◌*◌, ◌/◌, ◌%◌, ◌^◌, ◌<◌, ◌≤◌, not, T}
use mathlib.Core.Path.{sym, ap, ◌∙◌}
use native.Mathlib.Nat.{le_trans, le_of_eq, le_of_lt, mul_assoc, le_of_mul-le-mul_right}
use native.Mathlib.Omega.{arith}
use lib.Dec.{lit≤}
use lib.Pow.{pow-add, pow_pos}
use lib.Ieee.{Float, binary32, to_bits, fits, is_nan}
use lib.Ieee.Exact.{HasValue}
use Rattle.numbers.specs.Door.{finite, permits}
use Rattle.numbers.specs.Limits.{sine_argument}
use Rattle.units.specs.Units.{unity}
use Rattle.units.specs.Patterns.{val, sign_set, bare}
use Rattle.units.proofs.Bits.{has_value, mag_bare}
use Rattle.units.proofs.Door.{finite_no_nan, permitted_finite, permitted_mag}
use Rattle.units.proofs.PatternOrder.{val_normal, val_le, val_le_back}
use Rattle.units.proofs.Table.{sine_argument_ends}
use Rattle.sines.specs.How.{sixteen, tiny_bits, sixteen_bits, fixed}

-- ---- bits without a sign: up to those of 2 ^ -12, and on
pub tiny_units : (m : ℕ) → m < tiny_bits → val m ≤ 2 ^ 137
tiny_units m h = le_trans (val_le m tiny_bits (le_of_lt h)) (lit≤ tt)

pub fixed_units : (m : ℕ) → tiny_bits ≤ m → val m ≡ fixed m * 2 ^ 114
unfolding fixed
fixed_units m h =
    let more : m / 8388608 - 1 ≡ m / 8388608 - 115 + 114 = omega arith in
    let digits = 8388608 + m % 8388608 in
    val_normal m (le_trans (lit≤ tt) h)
    ∙ ap (λ (e : ℕ). digits * 2 ^ e) more
    ∙ ap (λ (w : ℕ). digits * w) (pow-add 2 (m / 8388608 - 115) 114)
    ∙ sym (mul_assoc digits (2 ^ (m / 8388608 - 115)) (2 ^ 114))

pub fixed_le : (m : ℕ) → tiny_bits ≤ m → m ≤ sixteen_bits → fixed m ≤ sixteen
fixed_le m l h =
    le_of_mul-le-mul_right {m = fixed m} {n = sixteen} {k = 2 ^ 114}
    (le_trans (le_of_eq (sym (fixed_units m l))) (le_trans (val_le m sixteen_bits h) (lit≤ tt))) (pow_pos 114)

-- ---- a permitted argument
pub argument_finite : (x : Float) → T (permits sine_argument x) → T (finite x)
argument_finite x p = permitted_finite sine_argument 0 (16 * unity) (16 * unity) 0 sine_argument_ends x p

pub no_nan : (x : Float) → T (permits sine_argument x) → T (not (is_nan x))
no_nan x p = finite_no_nan x (argument_finite x p)

module _ (x : Float) (f : T (fits binary32 x)) (p : T (permits sine_argument x)) where
  pub argument_value : HasValue x (sign_set (to_bits binary32 x)) (val (bare (to_bits binary32 x))) unity
  argument_value = has_value x f (argument_finite x p)

  pub most_bits : bare (to_bits binary32 x) ≤ sixteen_bits
  most_bits =
      val_le_back (bare (to_bits binary32 x)) sixteen_bits
      (le_trans (le_of_eq (sym (mag_bare x f (argument_finite x p))))
      (permitted_mag sine_argument 0 (16 * unity) (16 * unity) 0 sine_argument_ends (16 * unity) (lit≤ tt) (lit≤ tt) x f p))
