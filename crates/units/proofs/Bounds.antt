-- Bounds that rounding keeps: what is at most a in magnitude has a rounded product with what is at most b, and a rounded quotient by q,
-- of at most the c that the format holds and that is no less than a b or a / q. And neither overflows.
use mathlib.Core.Path.{◌≡◌, ap, ◌∙◌}
use mathlib.Core.Logic.{◌⊎◌, inl, inr}
use Prim.Native.Nat.{ℕ, ◌+◌, ◌-◌, ◌*◌, ◌≤◌, ◌<◌}
use native.Mathlib.Nat.{le_trans, le_of_eq, lt_of_le_of_lt, mul_assoc, mul-le-mul, mul-le-mul_right, mul-pos, zero-mul, add_comm}
use native.Mathlib.Omega.{arith}
use mathlib.Core.Bool.{Bool, true, false}
use lib.Pow.{pow_pos}
use lib.Ieee.{Float, Format, low, mul, div}
use lib.Ieee.Exact.{HasValue}
use lib.Ieee.Scale.{grid, overflow}
use Rattle.units.specs.Units.{one, Part}
use Rattle.units.proofs.Grid.{grid_mono, grid_zero}
use Rattle.units.proofs.Values.{one_side}
use Rattle.units.proofs.Multiply.{swapped, mul_part, div_part}

-- the result is p - n units, and at most a of them
pub record Result (f : Format) (x : Float) (a : ℕ) : Type 0 where
  pub p : ℕ
  pub n : ℕ
  pub part : Part f x p n
  pub most : p + n ≤ a

one_pos : (f : Format) → 0 < one f
one_pos f = pow_pos (low f)

-- ---- a product: c units that the format holds, with a b ≤ c in numbers; a quotient: with a / q ≤ c
swapped_le : (t : Bool) (p n a : ℕ) → p + n ≤ a → swapped t p n ≤ a
swapped_le false p n a h = omega arith
swapped_le true p n a h = omega arith

swapped_none : (t : Bool) (p n : ℕ) → (p ≡ 0) ⊎ (n ≡ 0) → (swapped t p n ≡ 0) ⊎ (swapped t n p ≡ 0)
swapped_none false p n h = h
swapped_none true p n (inl e) = inr e
swapped_none true p n (inr e) = inl e

-- what is at most c / one in a fraction i / v rounds to c at most
fraction : (f : Format) (i v c : ℕ) → 0 < v → grid f c (one f) ≡ c → i * one f ≤ c * v → grid f i v ≤ c
fraction f i v c P e h = le_trans (grid_mono f i v c (one f) P (one_pos f) h) (le_of_eq e)

both : (f : Format) (i j v c : ℕ) → 0 < v → (i ≡ 0) ⊎ (j ≡ 0) → grid f i v ≤ c → grid f j v ≤ c → grid f i v + grid f j v ≤ c
both f i j v c P (inl e) a b = let z : grid f i v ≡ 0 = ap (λ (w : ℕ). grid f w v) e ∙ grid_zero f v P in omega arith
both f i j v c P (inr e) a b = let z : grid f j v ≡ 0 = ap (λ (w : ℕ). grid f w v) e ∙ grid_zero f v P in omega arith

times_none : (i j q : ℕ) → (i ≡ 0) ⊎ (j ≡ 0) → (i * q ≡ 0) ⊎ (j * q ≡ 0)
times_none i j q (inl e) = inl (ap (λ (w : ℕ). w * q) e ∙ zero-mul q)
times_none i j q (inr e) = inr (ap (λ (w : ℕ). w * q) e ∙ zero-mul q)

module _ (f : Format) (x y : Float) (t : Bool) (p n q a b c : ℕ) (px : Part f x p n) (vy : HasValue y t q (one f)) (hx : p + n ≤ a)
    (hy : q ≤ b)
    (held : grid f c (one f) ≡ c) (fine : c < overflow f) (le : a * b ≤ c * one f) where
  product : (i : ℕ) → i ≤ a → grid f (i * q) (one f * one f) ≤ c
  product i h = fraction f (i * q) (one f * one f) c (mul-pos (one_pos f) (one_pos f)) held
      (le_trans (mul-le-mul_right (one f) (le_trans (mul-le-mul h hy) le)) (le_of_eq (mul_assoc c (one f) (one f))))

  pub mul_most : Result f (mul f x y) c
  mul_most =
      let i = swapped t p n in
      let j = swapped t n p in
      let I : i ≤ a = swapped_le t p n a hx in
      let J : j ≤ a = swapped_le t n p a (le_trans (le_of_eq (add_comm n p)) hx) in
      record {
        p = grid f (i * q) (one f * one f);
        n = grid f (j * q) (one f * one f);
        part = mul_part f x y t p n q px vy (lt_of_le_of_lt (product i I) fine) (lt_of_le_of_lt (product j J) fine);
        most =
            both f (i * q) (j * q) (one f * one f) c (mul-pos (one_pos f) (one_pos f))
            (times_none i j q (swapped_none t p n (one_side f x p n px))) (product i I) (product j J);
      }

module _ (f : Format) (x y : Float) (t : Bool) (p n q a c : ℕ) (px : Part f x p n) (vy : HasValue y t q (one f)) (Q : 0 < q)
    (hx : p + n ≤ a)
    (held : grid f c (one f) ≡ c) (fine : c < overflow f) (le : a * one f ≤ c * q) where
  quotient : (i : ℕ) → i ≤ a → grid f i q ≤ c
  quotient i h = fraction f i q c Q held (le_trans (mul-le-mul_right (one f) h) le)

  pub div_most : Result f (div f x y) c
  div_most =
      let i = swapped t p n in
      let j = swapped t n p in
      let I : i ≤ a = swapped_le t p n a hx in
      let J : j ≤ a = swapped_le t n p a (le_trans (le_of_eq (add_comm n p)) hx) in
      record {
        p = grid f i q;
        n = grid f j q;
        part = div_part f x y t p n q px vy Q (lt_of_le_of_lt (quotient i I) fine) (lt_of_le_of_lt (quotient j J) fine);
        most = both f i j q c Q (swapped_none t p n (one_side f x p n px)) (quotient i I) (quotient j J);
      }
