-- The sign bit of a finite f32: it is the bit in its pattern, and the sign of its value. Assumes nothing.
use Rattle.std.specs.Prelude.{◌≡◌, ℕ, Bool, T}
use mathlib.Core.Path.{sym, subst₂}
use lib.Ieee.{Float, nan, inf, fin, binary32, to_bits, fits}
use lib.Ieee.Exact.{HasValue}
use Rattle.numbers.specs.Door.{finite}
use Rattle.units.specs.Units.{unity, mag}
use Rattle.units.specs.Patterns.{val, sign_set, bare}
use Rattle.units.proofs.Bits.{has_value, mag_bare}
use Rattle.arcs.specs.Wedges.{sign_bit}

pub sign_is : (x : Float) (s : Bool) (a c : ℕ) → HasValue x s a c → sign_bit x ≡ s
unfolding sign_bit
sign_is nan s a c h = absurd h
sign_is (inf t) s a c h = absurd h
sign_is (fin t m d) s a c h = h.0

module _ (x : Float) (f : T (fits binary32 x)) (h : T (finite x)) where
  pub sign_bits : sign_bit x ≡ sign_set (to_bits binary32 x)
  sign_bits = let b = to_bits binary32 x in sign_is x (sign_set b) (val (bare b)) unity (has_value x f h)

  pub in_units : HasValue x (sign_bit x) (mag x) unity
  in_units = subst₂ (λ (s : Bool) (n : ℕ). HasValue x s n unity) (sym sign_bits) (sym (mag_bare x f h)) (has_value x f h)
