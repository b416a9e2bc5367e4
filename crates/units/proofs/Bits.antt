-- The bits of a finite f32 of either sign: the sign bit is its sign, and the rest lies below the infinity's pattern and is its magnitude.
use mathlib.Core.Path.{◌≡◌, sym, subst, subst₂}
use Prim.Native.Nat.{ℕ, ◌/◌, ◌%◌, ◌<◌}
use native.Mathlib.Omega.{arith}
use mathlib.Core.Bool.{Bool, true, false, cond}
use lib.Dec.{T, eqb}
use lib.Ieee.{Float, nan, inf, binary32, of_fields, of_bits, to_bits, fits}
use lib.Ieee.Bits.{of_bits-to_bits}
use lib.Ieee.Exact.{HasValue}
use Rattle.numbers.specs.Door.{finite}
use Rattle.units.specs.Units.{unity, mag}
use Rattle.units.specs.Patterns.{val, sign_set, bare}
use Rattle.units.proofs.Values.{mag_is}
use Rattle.units.proofs.Patterns.{of_bits_is, bits_value}

-- an exponent's field of ones is no number's
ones : (s : Bool) (t : ℕ) → T (finite (of_fields binary32 s 255 t)) → ⊥
unfolding of_fields finite
ones s t h = go (eqb t 0) h
  where
    go : (b : Bool) → T (finite (cond b (inf s) nan)) → ⊥
    go true q = q
    go false q = q

pub finite_bits : (b : ℕ) → T (finite (of_bits binary32 b)) → bare b < 2139095040
finite_bits b h = under (λ (e : bare b / 8388608 ≡ 255). ones (sign_set b) (b % 8388608) (at e))
  where
    at : bare b / 8388608 ≡ 255 → T (finite (of_fields binary32 (sign_set b) 255 (b % 8388608)))
    at e =
        subst₂ (λ (v : Float) (x : ℕ). T (finite v) → T (finite (of_fields binary32 (sign_set b) x (b % 8388608)))) (sym (of_bits_is b)) e
        (λ (g : T (finite (of_fields binary32 (sign_set b) (bare b / 8388608) (b % 8388608)))). g) h

    under : (b % 2147483648 / 8388608 ≡ 255 → ⊥) → b % 2147483648 < 2139095040
    under e = omega (arith, e)

module _ (x : Float) (F : T (fits binary32 x)) (h : T (finite x)) where
  same : of_bits binary32 (to_bits binary32 x) ≡ x
  same = of_bits-to_bits binary32 x F

  pub bare_lt : bare (to_bits binary32 x) < 2139095040
  bare_lt = finite_bits (to_bits binary32 x) (subst (λ (v : Float). T (finite v)) (sym same) h)

  pub has_value : HasValue x (sign_set (to_bits binary32 x)) (val (bare (to_bits binary32 x))) unity
  has_value =
      let b = to_bits binary32 x in
      subst (λ (v : Float). HasValue v (sign_set b) (val (bare b)) unity) same (bits_value b bare_lt)

  pub mag_bare : mag x ≡ val (bare (to_bits binary32 x))
  mag_bare = let b = to_bits binary32 x in mag_is x (sign_set b) (val (bare b)) has_value
