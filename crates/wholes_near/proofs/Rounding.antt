-- How far off the f32 step's operations are, at lengths below 16 m: 2 ^ -22 m for a length that is given in units, 2 ^ -19 for a product,
-- 2 ^ -20 for a sum or a difference. Assumes nothing.
use Prim.Native.Nat.{ℕ, suc, ◌+◌, ◌-◌, ◌*◌, ◌^◌, ◌≤◌, ◌<◌, zero-le}
use mathlib.Core.Path.{◌≡◌, refl, sym, ap, ◌∙◌, subst}
use mathlib.Core.Bool.{Bool, true, false}
use mathlib.Core.Logic.{◌⊎◌, inl, inr}
use native.Mathlib.Nat.{le_trans, lt_of_le_of_lt, lt_of_lt_of_le, le_of_eq, zero-mul, mul-pos, mul-lt-mul_of_pos_right, mul-le-mul_right}
use native.Mathlib.Nat.{le_of_mul-le-mul_right}
use native.Mathlib.Omega.{arith}
use lib.Dec.{lit<, lit≤}
use lib.Pow.{pow_pos}
use lib.IntN.{ℤ, pos, negsuc}
use lib.Ieee.{Float, binary32, round, add, sub, mul}
use lib.Ieee.Exact.{HasValue}
use lib.Ieee.Scale.{grid, overflow}
use Rattle.units.specs.Units.{unity, Part, rounded}
use Rattle.units.proofs.Grid.{grid_abs, grid_le, grid_zero, grid_same}
use Rattle.units.proofs.Held.{grid_exact}
use Rattle.units.proofs.Values.{round_value, plus_part, minus_part, one_side}
use Rattle.units.proofs.Add.{add_part, sub_part}
use Rattle.units.proofs.Multiply.{mul_part}
use Rattle.units.proofs.Errors.{Within, unity_pos, rounded_zero, sum_abs, sum_le}
use Rattle.wholes.specs.Wholes.{is_coordinate}
use Rattle.wholes.proofs.Parts.{plus, minus}
use Rattle.wholes.proofs.Ranges.{coordinate}
use Rattle.wholes_near.specs.Metres.{metres, progress_of}
use Rattle.wholes_near.proofs.Apart.{Apart, difference}

-- 2 ^ -22 m in units; 1 m is 4,194,304 of it
abbrev pub small : ℕ
small = 2 ^ 127

pub unity_is : unity ≡ 4194304 * small
unity_is = refl

-- ---- sums and differences below 32 m
held : (n : ℕ) → n < 2 ^ 154 → rounded n unity < overflow binary32
held n h = lt_of_le_of_lt (sum_le n h) (lit< tt)

less : (i j k : ℕ) → i < k → i - j < k
less i j k h = omega arith

fewer : (i j e : ℕ) → i - j + e ≤ i + e
fewer i j e = omega arith

module _ (i j : ℕ) (I : i < 2 ^ 154) (J : j < 2 ^ 154) where
  close_parts : Apart (4 * small) (rounded (i - j) unity) (rounded (j - i) unity) i j
  close_parts =
      difference (λ n. rounded n unity) (4 * small) i j rounded_zero (sum_abs (i - j) (less i j (2 ^ 154) I))
      (sum_abs (j - i) (less j i (2 ^ 154) J))

  plus_few : rounded (i - j) unity ≤ i + 4 * small
  plus_few = le_trans (sum_abs (i - j) (less i j (2 ^ 154) I)).up (fewer i j (4 * small))

  minus_few : rounded (j - i) unity ≤ j + 4 * small
  minus_few = le_trans (sum_abs (j - i) (less j i (2 ^ 154) J)).up (fewer j i (4 * small))

  plus_held : rounded (i - j) unity < overflow binary32
  plus_held = held (i - j) (less i j (2 ^ 154) I)

  minus_held : rounded (j - i) unity < overflow binary32
  minus_held = held (j - i) (less j i (2 ^ 154) J)

pub record Result (x : Float) (i j : ℕ) : Type 0 where
  pub plus : ℕ
  pub minus : ℕ
  pub part : Part binary32 x plus minus
  pub close : Apart (4 * small) plus minus i j
  pub plus_most : plus ≤ i + 4 * small
  pub minus_most : minus ≤ j + 4 * small

module _ (x y : Float) (p n q r : ℕ) (a : Part binary32 x p n) (b : Part binary32 y q r) where
  pub sum : p + q < 2 ^ 154 → n + r < 2 ^ 154 → Result (add binary32 x y) (p + q) (n + r)
  sum I J = record {
    plus = rounded (p + q - (n + r)) unity;
    minus = rounded (n + r - (p + q)) unity;
    part = add_part binary32 x y p n q r a b (plus_held (p + q) (n + r) I J) (minus_held (p + q) (n + r) I J);
    close = close_parts (p + q) (n + r) I J;
    plus_most = plus_few (p + q) (n + r) I J;
    minus_most = minus_few (p + q) (n + r) I J;
  }

  pub less_by : p + r < 2 ^ 154 → n + q < 2 ^ 154 → Result (sub binary32 x y) (p + r) (n + q)
  less_by I J = record {
    plus = rounded (p + r - (n + q)) unity;
    minus = rounded (n + q - (p + r)) unity;
    part = sub_part binary32 x y p n q r a b (plus_held (p + r) (n + q) I J) (minus_held (p + r) (n + q) I J);
    close = close_parts (p + r) (n + q) I J;
    plus_most = plus_few (p + r) (n + q) I J;
    minus_most = minus_few (p + r) (n + q) I J;
  }

-- ---- a fraction a / c below 2 ^ (24 + j) units, as a multiple of c; 2 ^ j is 2 * e
grid_close : (a c j e : ℕ) → 0 < c → 2 ^ j ≡ 2 * e → a * unity < 2 ^ (24 + j) * c → Within (rounded a c * c) (a * unity) (c * e)
grid_close a c j e C is h =
    let g = grid_abs binary32 a c j C h in
    halved (rounded a c * c) (a * unity) (subst (λ (w : ℕ). 2 * (rounded a c * c) ≤ 2 * (a * unity) + c * w) is g.0)
    (subst (λ (w : ℕ). 2 * (a * unity) ≤ 2 * (rounded a c * c) + c * w) is g.1)
  where
    halved : (g n : ℕ) → 2 * g ≤ 2 * n + c * (2 * e) → 2 * n ≤ 2 * g + c * (2 * e) → Within g n (c * e)
    halved g n up low = record { up = omega arith; low = omega arith }

above_zero : {g h i j e : ℕ} → (h ≡ 0) × (j ≡ 0) → Within g i e → Apart e g h i j
above_zero {g} {h} {i} {j} {e} z w =
    let a = z.0 in let b = z.1 in record { up = omega (arith, w.up, a, b); low = omega (arith, w.low, a, b) }

below_zero : {g h i j e : ℕ} → (g ≡ 0) × (i ≡ 0) → Within h j e → Apart e g h i j
below_zero {g} {h} {i} {j} {e} z w =
    let a = z.0 in let b = z.1 in record { up = omega (arith, w.low, a, b); low = omega (arith, w.up, a, b) }

-- ---- a product of x by q units: below 64 square metres
module _ (w : ℕ) (h : w < 64 * (unity * unity)) where
  square : 0 < unity * unity
  square = mul-pos unity_pos unity_pos

  room : w * unity < 2 ^ (24 + 131) * (unity * unity)
  room = lt_of_lt_of_le (mul-lt-mul_of_pos_right h unity_pos) (le_of_eq (regrouped unity (2 ^ (24 + 131)) refl))
    where
      regrouped : (u v : ℕ) → 64 * u ≡ v → 64 * (u * u) * u ≡ v * (u * u)
      regrouped u v e = omega (arith, ap (λ (z : ℕ). z * (u * u)) e)

  pub product_held : rounded w (unity * unity) < overflow binary32
  product_held = lt_of_le_of_lt (grid_le binary32 w (unity * unity) 131 square room) (lit< tt)

  product_close : Within (rounded w (unity * unity) * unity) w (unity * (8 * small))
  product_close =
      let g = grid_close w (unity * unity) 131 (8 * small) square refl room in
      divided (rounded w (unity * unity)) unity (8 * small) unity_pos g.up g.low
    where
      divided : (g u e : ℕ) → 0 < u → g * (u * u) ≤ w * u + u * u * e → w * u ≤ g * (u * u) + u * u * e → Within (g * u) w (u * e)
      divided g u e U a b = record {
        up = le_of_mul-le-mul_right {m = g * u} {n = w + u * e} {k = u} (omega arith) U;
        low = le_of_mul-le-mul_right {m = w} {n = g * u + u * e} {k = u} (omega arith) U;
      }

pub record Product (x : Float) (i j : ℕ) : Type 0 where
  pub plus : ℕ
  pub minus : ℕ
  pub part : Part binary32 x plus minus
  pub close : Apart (unity * (8 * small)) (plus * unity) (minus * unity) i j
  pub plus_most : plus * unity ≤ i + unity * (8 * small)
  pub minus_most : minus * unity ≤ j + unity * (8 * small)

module _ (x y : Float) (p n q : ℕ) (a : Part binary32 x p n) (b : HasValue y false q unity) where
  pub product : p * q < 64 * (unity * unity) → n * q < 64 * (unity * unity) → Product (mul binary32 x y) (p * q) (n * q)
  product I J = record {
    plus = rounded (p * q) (unity * unity);
    minus = rounded (n * q) (unity * unity);
    part = mul_part binary32 x y false p n q a b (product_held (p * q) I) (product_held (n * q) J);
    close =
        elim (one_side binary32 x p n a) [
          | inl z ↦ below_zero (none p z) (product_close (n * q) J)
          | inr z ↦ above_zero (none n z) (product_close (p * q) I)
        ];
    plus_most = (product_close (p * q) I).up;
    minus_most = (product_close (n * q) J).up;
  }
    where
      none : (k : ℕ) → k ≡ 0 → (rounded (k * q) (unity * unity) * unity ≡ 0) × (k * q ≡ 0)
      none k z =
          let e : k * q ≡ 0 = ap (λ (w : ℕ). w * q) z ∙ zero-mul q in (
            ap (λ (w : ℕ). rounded w (unity * unity) * unity) e
                ∙ ap (λ (w : ℕ). w * unity) (grid_zero binary32 (unity * unity) (mul-pos unity_pos unity_pos)) ∙ zero-mul unity,
            e,
          )

-- ---- a length that is given in units of 0.1 mm, from -4 m to 4 m
module _ (n : ℕ) (h : n ≤ 40000) where
  below_8 : n * unity < 2 ^ (24 + 128) * 10000
  below_8 = lt_of_le_of_lt (mul-le-mul_right unity h) (lit< tt)

  pub length_held : rounded n 10000 < overflow binary32
  length_held = lt_of_le_of_lt (grid_le binary32 n 10000 128 (lit< tt) below_8) (lit< tt)

  pub length_most : rounded n 10000 ≤ 2 ^ 152
  length_most = grid_le binary32 n 10000 128 (lit< tt) below_8

  pub length_close : Within (rounded n 10000 * 10000) (n * unity) (10000 * small)
  length_close = grid_close n 10000 128 small (lit< tt) refl below_8

pub record Length (x : Float) (p n : ℕ) : Type 0 where
  pub plus : ℕ
  pub minus : ℕ
  pub part : Part binary32 x plus minus
  pub close : Apart (10000 * small) (plus * 10000) (minus * 10000) (p * unity) (n * unity)
  pub plus_most : plus ≤ 2 ^ 152
  pub minus_most : minus ≤ 2 ^ 152

pub length_of : (u : ℤ) → is_coordinate u ≡ true → Length (metres u) (plus u) (minus u)
unfolding metres
length_of (pos n) h =
    let l = (coordinate (pos n) h).plus_most in
    record {
      plus = rounded n 10000;
      minus = 0;
      part = plus_part binary32 (round binary32 false n 10000) (rounded n 10000) (round_value binary32 false n 10000 (length_held n l));
      close = above_zero (refl, refl) (length_close n l);
      plus_most = length_most n l;
      minus_most = zero-le;
    }
length_of (negsuc n) h =
    let l = (coordinate (negsuc n) h).minus_most in
    record {
      plus = 0;
      minus = rounded (suc n) 10000;
      part = minus_part binary32 (round binary32 true (suc n) 10000) (rounded (suc n) 10000)
          (round_value binary32 true (suc n) 10000 (length_held (suc n) l));
      close = below_zero (refl, refl) (length_close (suc n) l);
      plus_most = zero-le;
      minus_most = length_most (suc n) l;
    }

-- ---- a progress is exactly p / 2048
pub progress_value : (p : ℕ) → p ≤ 2048 → HasValue (progress_of p) false (p * 2 ^ 138) unity
unfolding progress_of
progress_value p h =
    subst (λ (w : ℕ). HasValue (round binary32 false p 2048) false w unity) exact
    (round_value binary32 false p 2048 (subst (λ (w : ℕ). w < overflow binary32) (sym exact) room_for))
  where
    room_for : p * 2 ^ 138 < overflow binary32
    room_for = lt_of_le_of_lt (mul-le-mul_right (2 ^ 138) h) (lit< tt)

    regrouped : (p k : ℕ) → p * (2048 * k) ≡ p * k * 2048
    regrouped p k = omega arith

    exact : rounded p 2048 ≡ p * 2 ^ 138
    exact =
        grid_same binary32 p 2048 (p * 2 ^ 138) unity (lit< tt) unity_pos (regrouped p (2 ^ 138))
        ∙ grid_exact binary32 p 138 (lt_of_le_of_lt h (lit< tt)) room_for
