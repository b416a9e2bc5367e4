-- How far each operation rounds, for either format, where nothing overflows. Where the exact result is the fraction i / v of units, the
-- error is at most that result over 2 ^ prec and half a unit; where it is below 2 ^ (prec + j) units, the error is at most half of
-- 2 ^ j units.
use mathlib.Core.Path.{◌≡◌, sym, subst}
use mathlib.Core.Logic.{inl, inr}
use Prim.Native.Nat.{ℕ, ◌+◌, ◌-◌, ◌*◌, ◌^◌, ◌≤◌, ◌<◌}
use native.Mathlib.Nat.{mul-sub, mul-pos}
use native.Mathlib.Omega.{arith}
use mathlib.Core.Bool.{Bool}
use lib.Pow.{pow_pos}
use lib.Ieee.{Float, Format, prec, low, hid, add, sub, mul, div}
use lib.Ieee.Exact.{HasValue}
use lib.Ieee.Scale.{grid, overflow}
use Rattle.units.specs.Units.{one, Part, gap}
use Rattle.units.proofs.Whole.{total}
use Rattle.units.proofs.Grid.{grid_abs, grid_rel}
use Rattle.units.proofs.Add.{add_part, sub_part}
use Rattle.units.proofs.Multiply.{swapped, mul_part, div_part}

-- g units are near to the fraction a / v, in numbers: a * one f / v units; hid f is 2 ^ (prec - 1), and both sides are times 2 ^ prec
-- and v
abbrev pub Near : Format → ℕ → ℕ → ℕ → Type 0
Near f g a v = 2 * hid f * gap (g * v) (a * one f) ≤ a * one f + hid f * v

-- ---- of a rounded fraction
either_way : (h G n b : ℕ) → 2 * h * G ≤ (2 * h + 1) * n + b → 2 * h * n ≤ 2 * h * G + n + b → 2 * h * gap G n ≤ n + b
either_way h G n b above below = elim (total n G) [ inl l ↦ higher l | inr l ↦ lower l ]
  where
    higher : n ≤ G → 2 * h * gap G n ≤ n + b
    higher l =
        let e : gap G n ≡ G - n = omega arith in
        let m : 2 * h * (G - n) ≡ 2 * h * G - 2 * h * n = mul-sub (2 * h) G n in
        subst (λ (w : ℕ). 2 * h * w ≤ n + b) (sym e) (subst (λ (w : ℕ). w ≤ n + b) (sym m) (omega arith))

    lower : G ≤ n → 2 * h * gap G n ≤ n + b
    lower l =
        let e : gap G n ≡ n - G = omega arith in
        let m : 2 * h * (n - G) ≡ 2 * h * n - 2 * h * G = mul-sub (2 * h) n G in
        subst (λ (w : ℕ). 2 * h * w ≤ n + b) (sym e) (subst (λ (w : ℕ). w ≤ n + b) (sym m) (omega arith))

pub grid_near : (f : Format) (a v : ℕ) → 0 < v → Near f (grid f a v) a v
grid_near f a v P = let r = grid_rel f a v P in either_way (hid f) (grid f a v * v) (a * one f) (hid f * v) r.0 r.1

pub grid_within : (f : Format) (a v j : ℕ) → 0 < v → a * one f < 2 ^ (prec f + j) * v → 2 * gap (grid f a v * v) (a * one f) ≤ v * 2 ^ j
grid_within f a v j P h = let r = grid_abs f a v j P h in both (grid f a v * v) (a * one f) (v * 2 ^ j) r.0 r.1
  where
    both : (G n b : ℕ) → 2 * G ≤ 2 * n + b → 2 * n ≤ 2 * G + b → 2 * gap G n ≤ b
    both G n b x y = omega arith

-- ---- of an operation's result: x is (i - j) / v in numbers, rounded part by part
pub record Rounding (f : Format) (x : Float) (i j v : ℕ) : Type 0 where
  pub part : Part f x (grid f i v) (grid f j v)
  pub plus_near : Near f (grid f i v) i v
  pub minus_near : Near f (grid f j v) j v

rounding : (f : Format) (x : Float) (i j v : ℕ) → 0 < v → Part f x (grid f i v) (grid f j v) → Rounding f x i j v
rounding f x i j v P h = record { part = h; plus_near = grid_near f i v P; minus_near = grid_near f j v P }

module _ (f : Format) (x y : Float) (p n q r : ℕ) (a : Part f x p n) (b : Part f y q r) where
  pub add_near : grid f (p + q - (n + r)) (one f) < overflow f → grid f (n + r - (p + q)) (one f) < overflow f
      → Rounding f (add f x y) (p + q - (n + r)) (n + r - (p + q)) (one f)
  add_near h g = rounding f (add f x y) (p + q - (n + r)) (n + r - (p + q)) (one f) (pow_pos (low f)) (add_part f x y p n q r a b h g)

  pub sub_near : grid f (p + r - (n + q)) (one f) < overflow f → grid f (n + q - (p + r)) (one f) < overflow f
      → Rounding f (sub f x y) (p + r - (n + q)) (n + q - (p + r)) (one f)
  sub_near h g = rounding f (sub f x y) (p + r - (n + q)) (n + q - (p + r)) (one f) (pow_pos (low f)) (sub_part f x y p n q r a b h g)

-- y is ±q units
module _ (f : Format) (x y : Float) (t : Bool) (p n q : ℕ) (a : Part f x p n) (b : HasValue y t q (one f)) where
  pub mul_near : grid f (swapped t p n * q) (one f * one f) < overflow f → grid f (swapped t n p * q) (one f * one f) < overflow f
      → Rounding f (mul f x y) (swapped t p n * q) (swapped t n p * q) (one f * one f)
  mul_near h g =
      rounding f (mul f x y) (swapped t p n * q) (swapped t n p * q) (one f * one f) (mul-pos (pow_pos (low f)) (pow_pos (low f)))
      (mul_part f x y t p n q a b h g)

  pub div_near : 0 < q → grid f (swapped t p n) q < overflow f → grid f (swapped t n p) q < overflow f
      → Rounding f (div f x y) (swapped t p n) (swapped t n p) q
  div_near Q h g = rounding f (div f x y) (swapped t p n) (swapped t n p) q Q (div_part f x y t p n q a b Q h g)
