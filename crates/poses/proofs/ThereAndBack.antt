-- What is written of a foot's number and read back: the same number from an eighth on, and below it one within 10 ^ -8, of the same sign;
-- it is permitted again.
use Rattle.std.specs.Prelude.{◌≡◌, ℕ, ◌+◌, ◌*◌, ◌^◌, ◌<◌, ◌≤◌, Bool, T}
use mathlib.Core.Path.{refl, sym, ap, ◌∙◌, subst}
use mathlib.Core.Logic.{inl, inr}
use native.Mathlib.Nat.{le_trans, lt_of_le_of_lt, not-le_of_lt, mul-le-mul_right, mul-lt-mul_of_pos_right, lt_of_mul-lt-mul_right}
use native.Mathlib.Omega.{arith}
use lib.Dec.{lit<, lit≤}
use lib.Pow.{pow_pos}
use lib.Ieee.{Float, binary32, fits, to_bits}
use lib.Ieee.Exact.{HasValue}
use Rattle.numbers.specs.Door.{permits}
use Rattle.numbers.specs.Limits.{foot_limit}
use Rattle.units.specs.Units.{unity, mag, gap}
use Rattle.units.specs.Patterns.{sign_set}
use Rattle.units.proofs.Bits.{has_value, mag_bare}
use Rattle.units.proofs.Digits.{digits_of, multiple}
use Rattle.units.proofs.Door.{finite_of, finite_single, permitted_finite, permits_mag}
use Rattle.units.proofs.Patterns.{one_value}
use Rattle.units.proofs.Table.{foot_ends}
use Rattle.units.proofs.Whole.{le_or_lt}
use Rattle.poses.specs.Decimals.{whole_decimals, read_as, written_as}
use Rattle.poses.proofs.OneNearest.{under}
use Rattle.poses.proofs.Reading.{ReadNearest, read_nearest}
use Rattle.poses.proofs.Writing.{written_near, written_below}

-- x's sign is its bit
pub foot_sign : (x : Float) → T (fits binary32 x) → T (permits foot_limit x) → HasValue x (sign_set (to_bits binary32 x)) (mag x) unity
foot_sign x F h =
    let f = permitted_finite foot_limit 0 (4 * unity) (4 * unity) 0 foot_ends x h in
    subst (λ (a : ℕ). HasValue x (sign_set (to_bits binary32 x)) a unity) (sym (mag_bare x F f)) (has_value x F f)

-- ---- in whole numbers, with u for the units of 1
-- what is as near to n parts as m is, is within a part of m, where m is within half a part of n
both_near : (m y n u : ℕ) → 2 * (n * u) ≤ 2 * (100000000 * m) + u → 2 * (100000000 * m) ≤ 2 * (n * u) + u
    → gap (y * 100000000) (n * u) ≤ gap (m * 100000000) (n * u)
    → (m * 100000000 ≤ y * 100000000 + u) × (y * 100000000 ≤ m * 100000000 + u)
both_near m y n u a b h = (omega arith, omega arith)

-- an eighth is 12500000 parts, so that what is written of more is no less
at_eighth : (n m e u : ℕ) → 0 < e → u ≡ 8 * e → e ≤ m → 2 * (100000000 * m) ≤ 2 * (n * u) + u → e * 100000000 ≤ n * u
at_eighth n m e u p q l h =
    let a : 2 * (n * u) ≡ 16 * n * e = ap (λ (x : ℕ). 2 * (n * x)) q ∙ eight n e in
    let b : 199999992 * e < (16 * n + 1) * e = omega arith in
    let c : 199999992 < 16 * n + 1 = lt_of_mul-lt-mul_right e b in
    let d : 200000000 * e ≤ 16 * n * e = mul-le-mul_right e (sixteen n c) in
    omega arith
  where
    eight : (n e : ℕ) → 2 * (n * (8 * e)) ≡ 16 * n * e
    eight n e = omega arith

    sixteen : (n : ℕ) → 199999992 < 16 * n + 1 → 200000000 ≤ 16 * n
    sixteen n h = omega arith

-- two multiples of t, and 2 ^ 26 of t are 1: within a part of each other they are the same
same_multiple : (a b t : ℕ) → 0 < t → a * t * 100000000 ≤ b * t * 100000000 + 67108864 * t
    → b * t * 100000000 ≤ a * t * 100000000 + 67108864 * t → a ≡ b
same_multiple a b t T h k =
    let l : a * 100000000 * t < (b * 100000000 + 100000000) * t = omega arith in
    let r : b * 100000000 * t < (a * 100000000 + 100000000) * t = omega arith in
    let c : a * 100000000 < b * 100000000 + 100000000 = lt_of_mul-lt-mul_right t l in
    let d : b * 100000000 < a * 100000000 + 100000000 = lt_of_mul-lt-mul_right t r in
    omega arith

gap_part : (m y u : ℕ) → m * 100000000 ≤ y * 100000000 + u → y * 100000000 ≤ m * 100000000 + u → 100000000 * gap m y ≤ u
gap_part m y u a b = omega arith

beyond : (G a W : ℕ) → a ≤ G → G < W → gap G a < gap W a
beyond G a W x y = omega arith

-- ---- read back from a permitted x
module _ (x : Float) (s : Bool) (F : T (fits binary32 x)) (h : T (permits foot_limit x)) where
  near : ReadNearest s (written_as x)
  near = read_nearest s (written_as x) (lt_of_le_of_lt (written_below x F h) (lit< tt))

  close : (mag x * whole_decimals ≤ mag (read_as s (written_as x)) * whole_decimals + unity)
      × (mag (read_as s (written_as x)) * whole_decimals ≤ mag x * whole_decimals + unity)
  close =
      let w = written_near x in
      both_near (mag x) (mag (read_as s (written_as x))) (written_as x) unity w.above w.below (near.nearest (mag x) (digits_of x F))

  pub near_below_an_eighth : HasValue (read_as s (written_as x)) s (mag (read_as s (written_as x))) unity
      × (10 ^ 8 * gap (mag x) (mag (read_as s (written_as x))) ≤ unity)
  near_below_an_eighth = (near.value, gap_part (mag x) (mag (read_as s (written_as x))) unity close.0 close.1)

  pub read_permitted : T (permits foot_limit (read_as s (written_as x)))
  read_permitted =
      let y = read_as s (written_as x) in
      permits_mag foot_limit (4 * unity) foot_ends y (finite_single y (finite_of y s (mag y) unity near.value) near.held) most
    where
      most : mag (read_as s (written_as x)) ≤ 4 * unity
      most =
          let y = mag (read_as s (written_as x)) in
          elim (le_or_lt y (4 * unity)) [
            | inl l ↦ l
            | inr g ↦
                absurd (not-le_of_lt
                (beyond (4 * unity * whole_decimals) (written_as x * unity) (y * whole_decimals)
                (le_trans (mul-le-mul_right unity (written_below x F h)) (lit≤ tt)) (mul-lt-mul_of_pos_right g (lit< tt)))
                (near.nearest (4 * unity) (1, 151, refl, lit< tt)))
          ]

  -- from an eighth on two f32 are 2 ^ -26 apart or more
  eighth_back : 2 ^ 146 ≤ mag x → 2 ^ 146 ≤ mag (read_as s (written_as x))
  eighth_back l =
      let y = mag (read_as s (written_as x)) in
      elim (le_or_lt (2 ^ 146) y) [
        | inl g ↦ g
        | inr g ↦
            absurd (not-le_of_lt
            (under (2 ^ 146 * whole_decimals) (written_as x * unity) (y * whole_decimals)
            (at_eighth (written_as x) (mag x) (2 ^ 146) unity (pow_pos 146) refl l (written_near x).below)
            (mul-lt-mul_of_pos_right g (lit< tt)))
            (near.nearest (2 ^ 146) (1, 146, refl, lit< tt)))
      ]

  mag_same : 2 ^ 146 ≤ mag x → mag (read_as s (written_as x)) ≡ mag x
  mag_same l =
      let y = read_as s (written_as x) in
      let a = multiple (mag x) 123 (digits_of x F) l in
      let b = multiple (mag y) 123 (digits_of y near.held) (eighth_back l) in
      b.1 ∙ ap (λ (z : ℕ). z * 2 ^ 123)
      (sym (same_multiple a.0 b.0 (2 ^ 123) (pow_pos 123)
      (rw (← a.1, ← b.1) close.0) (rw (← a.1, ← b.1) close.1))) ∙ sym a.1

  pub same_from_an_eighth : HasValue x s (mag x) unity → 2 ^ 146 ≤ mag x → read_as s (written_as x) ≡ x
  same_from_an_eighth v l =
      let y = read_as s (written_as x) in
      one_value y x s (mag x) near.held F (subst (λ (z : ℕ). HasValue y s z unity) (mag_same l) near.value) v
