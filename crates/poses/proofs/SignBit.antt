-- A pattern that stands for what is read without a sign stands, with the sign's bit, for what is read with it; neither is a NaN's.
use Rattle.std.specs.Prelude.{◌≡◌, ℕ, ◌+◌, ◌^◌, ◌<◌, Bool, true, false, not, T}
use mathlib.Core.Path.{sym, ap, ◌∙◌, subst, subst₂}
use native.Mathlib.Omega.{arith}
use lib.Dec.{le→leb}
use lib.Ieee.{Float, binary32, of_bits, nan_bits, is_nan}
use lib.Ieee.Bits.{is_true, nan_bits_is, of_bits-fits}
use lib.Ieee.Exact.{HasValue}
use Rattle.units.specs.Units.{unity, rounded}
use Rattle.units.specs.Patterns.{val, bare, sign_set}
use Rattle.units.proofs.Bits.{finite_bits}
use Rattle.units.proofs.Door.{finite_of, finite_no_nan}
use Rattle.units.proofs.Patterns.{bits_value, bits_val, one_value}
use Rattle.units.proofs.Values.{mag_is}
use Rattle.poses.specs.Decimals.{whole_decimals, read_as}
use Rattle.poses.proofs.Reading.{read_value, read_fits}

-- what is read is a number
pub read_no_nan : (minus : Bool) (n b : ℕ) → n < 10 ^ 9 → of_bits binary32 b ≡ read_as minus n → T (not (nan_bits binary32 b))
read_no_nan minus n b h e =
    subst (λ (z : Bool). T (not z)) (sym (nan_bits_is binary32 b ∙ ap is_nan e))
    (finite_no_nan (read_as minus n) (finite_of (read_as minus n) minus (rounded n whole_decimals) unity (read_value minus n h)))

pub read_minus : (n b : ℕ) → n < 10 ^ 9 → b < 2 ^ 31 → of_bits binary32 b ≡ read_as false n →
    of_bits binary32 (b + 2147483648) ≡ read_as true n
read_minus n b h l e =
    let G = rounded n whole_decimals in
    let v : HasValue (of_bits binary32 b) false G unity =
    subst (λ (x : Float). HasValue x false G unity) (sym e) (read_value false n h) in
    let i : bare b ≡ b = omega arith in
    let j : bare (b + 2147483648) ≡ b = omega arith in
    let f : b < 2139095040 = subst (λ (x : ℕ). x < 2139095040) i (finite_bits b (finite_of (of_bits binary32 b) false G unity v)) in
    let g : val b ≡ G =
    sym (mag_is (of_bits binary32 b) false (val b) (bits_val b f)) ∙ mag_is (of_bits binary32 b) false G v in
    let s : sign_set (b + 2147483648) ≡ true =
    is_true (sign_set (b + 2147483648)) (le→leb 2147483648 (b + 2147483648) (omega arith)) in
    one_value (of_bits binary32 (b + 2147483648)) (read_as true n) true G (of_bits-fits binary32 (b + 2147483648)) (read_fits true n h)
    (subst₂ (λ (z : Bool) (x : ℕ). HasValue (of_bits binary32 (b + 2147483648)) z x unity) s (ap val j ∙ g)
    (bits_value (b + 2147483648) (subst (λ (x : ℕ). x < 2139095040) (sym j) f)))
    (read_value true n h)
