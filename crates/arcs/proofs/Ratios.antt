-- The digits of a number up to 1, and the ratio of two sides: how near they are, and that an f32 sum and a division give them. Assumes
-- nothing.
use Rattle.std.specs.Prelude.{◌≡◌, ℕ, ◌+◌, ◌-◌, ◌*◌, ◌/◌, ◌%◌, ◌^◌, ◌<◌, ◌≤◌, Bool, true, false, cond, not, T, ltb, ◌⊎◌}
use mathlib.Core.Path.{refl, sym, ap, ◌∙◌, subst}
use mathlib.Core.Logic.{inl, inr}
use native.Mathlib.Nat.{le_refl, le_trans, le_of_eq, le_of_lt, le_antisymm, lt_of_le_of_lt, lt_of_lt_of_le, mul-le-mul_right}
use native.Mathlib.Nat.{mul-lt-mul_of_pos_right, le_of_mul-le-mul_right, div-mul-le_self, lt-div-mul-add, div-le_of_le-mul}
use native.Mathlib.Omega.{arith}
use lib.Dec.{ltb→lt, nltb→le, nleb→lt, lit<, lit≤}
use lib.Pow.{pow_pos}
use lib.Ieee.{Float, binary32, size, of_bits, to_bits, add, div, is_nan}
use lib.Ieee.Exact.{HasValue}
use lib.Ieee.Fits.{add-fits}
use Rattle.numbers.specs.Door.{finite}
use Rattle.units.specs.Units.{mag, rounded, unity}
use Rattle.units.specs.Patterns.{val, bare}
use Rattle.units.proofs.Grid.{cell_abs, grid_mono}
use Rattle.units.proofs.Held.{grid_exact}
use Rattle.units.proofs.Errors.{Within, unity_pos, rounded_mono, div_abs}
use Rattle.units.proofs.Add.{add_value}
use Rattle.units.proofs.Multiply.{div_value}
use Rattle.units.proofs.Patterns.{bits_val}
use Rattle.units.proofs.PatternOrder.{val_le_back}
use Rattle.units.proofs.Bits.{mag_bare}
use Rattle.units.proofs.Door.{finite_of, finite_no_nan}
use Rattle.series.proofs.Order.{here_or_on}
use Rattle.units.proofs.Values.{mag_is}
use Rattle.arcs.specs.How.{Sorted, Proper, digits, ratio, smaller, larger}
use Rattle.arcs.proofs.FirstOctant.{Ratio}
use Rattle.arcs.proofs.PastOne.{past_one}
use Rattle.arcs.proofs.SignBits.{sign_is, sign_bits}

pub at_most_one : (u v : ℕ) → u ≤ v → 0 < v → rounded u v ≤ unity
at_most_one u v h p =
    le_trans (grid_mono binary32 u v (1 * 2 ^ 149) (2 ^ 149) p (pow_pos 149)
    (le_trans (mul-le-mul_right (2 ^ 149) h) (le_of_eq (turn v (2 ^ 149))))) (le_of_eq (grid_exact binary32 1 149 (lit< tt) (lit< tt)))
  where
    turn : (v p : ℕ) → v * p ≡ 1 * p * v
    turn v p = omega arith

-- ---- with 1 before it
two : rounded (unity + unity) unity ≡ 2 ^ 150
unfolding size
two = refl

sum_low : (n : ℕ) → unity ≤ rounded (unity + n) unity
sum_low n = le_trans (le_of_eq (sym (grid_exact binary32 1 149 (lit< tt) (lit< tt)))) (rounded_mono (1 * 2 ^ 149) (unity + n) (more unity))
  where
    more : (u : ℕ) → 1 * u ≤ u + n
    more u = omega arith

sum_high : (n : ℕ) → n ≤ unity → rounded (unity + n) unity ≤ 2 ^ 150
sum_high n h = le_trans (rounded_mono (unity + n) (unity + unity) (more unity h)) (le_of_eq two)
  where
    more : (u : ℕ) → n ≤ u → u + n ≤ u + u
    more u g = omega arith

-- it is off by 2 ^ -24 at most
sum_near : (n : ℕ) → n ≤ unity → Within (rounded (unity + n) unity) (unity + n) (2 ^ 125)
sum_near n h = elim (here_or_on n unity) [
  | inl g ↦
      let k = cell_abs 24 ((unity + n) * unity) unity 126 unity_pos (mul-lt-mul_of_pos_right (less unity g) unity_pos) in
      within (rounded (unity + n) unity) (unity + n) unity (2 ^ 125) unity_pos k.0 k.1
  | inr g ↦ let e = le_antisymm h g in subst (λ (k : ℕ). Within (rounded (unity + k) unity) (unity + k) (2 ^ 125)) (sym e) (record {
    up = le_trans (le_of_eq two) (lit≤ tt);
    low = le_trans (lit≤ {m = unity + unity} {n = 2 ^ 150 + 2 ^ 125} tt) (le_of_eq (ap (λ (k : ℕ). k + 2 ^ 125) (sym two)));
  })
]
  where
    less : (u : ℕ) → n < u → u + n < 2 * u
    less u k = omega arith

    within : (g x u e : ℕ) → 0 < u → 2 * (g * u) ≤ 2 * (x * u) + u * (2 * e) → 2 * (x * u) ≤ 2 * (g * u) + u * (2 * e) → Within g x e
    within g x u e p i j = record {
      up = le_of_mul-le-mul_right {m = g} {n = x + e} {k = u} (omega arith) p;
      low = le_of_mul-le-mul_right {m = x} {n = g + e} {k = u} (omega arith) p;
    }

-- w is n in units of 2 ^ 124, but for 3
pub record Digits (n w : ℕ) : Type 0 where
  pub small : w ≤ 33554432
  pub up : w * 2 ^ 124 ≤ n + 2 * 2 ^ 124
  pub low : n ≤ w * 2 ^ 124 + 3 * 2 ^ 124

pub digits_near : (n : ℕ) → n ≤ unity → Digits n (digits n)
digits_near n h =
    let z = rounded (unity + n) unity in
    let s = sum_near n h in
    record {
      small =
          div-le_of_le-mul (2 ^ 124) {n = 33554432}
          (le_trans (rest z unity (le_trans (sum_high n h) (lit≤ {m = 2 ^ 150} {n = unity + unity} tt)))
          (lit≤ {m = 2 ^ 149} {n = 2 ^ 124 * 33554432} tt));
      up = above (digits n) z (2 ^ 124) (sum_low n) (div-mul-le_self (z - unity) (2 ^ 124)) s.up;
      low = below (digits n) z (2 ^ 124) (sum_low n) (le_of_lt (lt-div-mul-add {a = z - unity} (pow_pos 124))) s.low;
    }
  where
    rest : (z k : ℕ) → z ≤ k + k → z - k ≤ k
    rest z k i = omega arith

    above : (w z m : ℕ) → 33554432 * m ≤ z → w * m ≤ z - 33554432 * m → z ≤ 33554432 * m + n + 2 * m → w * m ≤ n + 2 * m
    above w z m a j s = omega arith

    below : (w z m : ℕ) → 33554432 * m ≤ z → z - 33554432 * m ≤ w * m + m → 33554432 * m + n ≤ z + 2 * m → n ≤ w * m + 3 * m
    below w z m a j s = omega arith

pub ratio_near : (u v : ℕ) → u ≤ v → 0 < v → Ratio u v (ratio u v)
unfolding ratio
ratio_near u v h p =
    let n = rounded u v in
    let d = div_abs u v p (twice p h) in
    let s = digits_near n (at_most_one u v h p) in
    record {
      small = s.small;
      up = above (digits n) n (2 ^ 124) (pow_pos 124) s.up d.up;
      low = below (digits n) n (2 ^ 124) (pow_pos 124) s.low d.low;
    }
  where
    twice : 0 < v → u ≤ v → u < 2 * v
    twice i j = omega arith

    above : (w n m : ℕ) → 0 < m → w * m ≤ n + 2 * m → n * v ≤ u * (33554432 * m) + v * (2 * m) → w * v ≤ 33554432 * u + 4 * v
    above w n m i q k = le_of_mul-le-mul_right {m = w * v} {n = 33554432 * u + 4 * v} {k = m} (omega (arith, mul-le-mul_right v q)) i

    below : (w n m : ℕ) → 0 < m → n ≤ w * m + 3 * m → u * (33554432 * m) ≤ n * v + v * (2 * m) → 33554432 * u ≤ w * v + 5 * v
    below w n m i q k = le_of_mul-le-mul_right {m = 33554432 * u} {n = w * v + 5 * v} {k = m} (omega (arith, mul-le-mul_right v q)) i

-- ---- the smaller and the larger
pub smaller_le : (x y : ℕ) → smaller x y ≤ larger x y
smaller_le x y = go (ltb x y) (ltb→lt x y) (nltb→le x y)
  where
    go : (b : Bool) → (T b → x < y) → (T (not b) → y ≤ x) → cond b x y ≤ cond b y x
    go true f g = le_of_lt (f tt)
    go false f g = g tt

pub larger_x : (x y : ℕ) → x ≤ larger x y
larger_x x y = go (ltb x y) (ltb→lt x y)
  where
    go : (b : Bool) → (T b → x < y) → x ≤ cond b y x
    go true f = le_of_lt (f tt)
    go false f = le_refl x

pub larger_y : (x y : ℕ) → y ≤ larger x y
larger_y x y = go (ltb x y) (nltb→le x y)
  where
    go : (b : Bool) → (T (not b) → y ≤ x) → y ≤ cond b y x
    go true f = le_refl y
    go false f = f tt

pub larger_pos : (x y : ℕ) → (0 < x) ⊎ (0 < y) → 0 < larger x y
larger_pos x y (inl p) = lt_of_lt_of_le p (larger_x x y)
larger_pos x y (inr p) = lt_of_lt_of_le p (larger_y x y)

-- ---- an f32 from 0 to 1, with 1 before it
module _ (r : Float) (p : Proper r) where
  abbrev z : Float
  z = add binary32 (of_bits binary32 1065353216) r

  abbrev k : ℕ
  k = rounded (unity + mag r) unity

  z_value : HasValue z false k unity
  z_value =
      add_value binary32 (of_bits binary32 1065353216) r unity (mag r) (bits_val 1065353216 (lit< tt)) p.has
      (lt_of_le_of_lt (sum_high (mag r) p.most) (lit< tt))

  z_finite : T (finite z)
  z_finite = finite_of z false k unity z_value

  pub sum_no_nan : T (not (is_nan z))
  sum_no_nan = finite_no_nan z z_finite

  abbrev b : ℕ
  b = to_bits binary32 z

  bare_is : bare b ≡ b
  bare_is =
      clear (nleb→lt 2147483648 b
      (subst (λ (t : Bool). T (not t))
      (sym (sym (sign_bits z (add-fits binary32 (of_bits binary32 1065353216) r) z_finite) ∙ sign_is z false k unity z_value)) tt))
    where
      clear : b < 2147483648 → b % 2147483648 ≡ b
      clear h = omega arith

  sum_val : val b ≡ k
  sum_val = ap val (sym bare_is) ∙ sym (mag_bare z (add-fits binary32 (of_bits binary32 1065353216) r) z_finite) ∙ mag_is z false k z_value

  pub sum_least : 1065353216 ≤ b
  sum_least = val_le_back 1065353216 b (le_trans (sum_low (mag r)) (le_of_eq (sym sum_val)))

  pub sum_most : b ≤ 1073741824
  sum_most = val_le_back b 1073741824 (le_trans (le_of_eq sum_val) (sum_high (mag r) p.most))

  pub digits_is : (4 * (b - 1065353216) ≡ digits (mag r)) × (4 * (b - 1065353216) ≤ 33554432)
  digits_is = (past_one b sum_least sum_most ∙ ap (λ (n : ℕ). (n - unity) / 2 ^ 124) sum_val, omega (arith, sum_most))

-- ---- the division of two f32
module _ (u v : Float) (s : Sorted u v) where
  abbrev r : Float
  r = div binary32 u v

  r_value : HasValue r false (rounded (mag u) (mag v)) unity
  r_value =
      div_value binary32 u v (mag u) (mag v) s.first s.second s.some
      (lt_of_le_of_lt (at_most_one (mag u) (mag v) s.order s.some) (lit< tt))

  r_mag : mag r ≡ rounded (mag u) (mag v)
  r_mag = mag_is r false (rounded (mag u) (mag v)) r_value

  pub quotient_proper : Proper r
  quotient_proper = record {
    has = subst (λ (n : ℕ). HasValue r false n unity) (sym r_mag) r_value;
    most = subst (λ (n : ℕ). n ≤ unity) (sym r_mag) (at_most_one (mag u) (mag v) s.order s.some);
  }

  pub ratio_is : (w : ℕ) → w ≡ digits (mag r) → w ≡ ratio (mag u) (mag v)
  unfolding ratio
  ratio_is w e = e ∙ ap digits r_mag
