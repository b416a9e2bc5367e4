-- The root of (1 - q) (1 + q), each step rounded: its square is 1 - q ^ 2, but for 2 ^ -21 of it. Assumes nothing.
use Rattle.std.specs.Prelude.{◌≡◌, ℕ, ◌+◌, ◌-◌, ◌*◌, ◌^◌, ◌<◌, ◌≤◌, Bool, true, false, T, pos}
use mathlib.Core.Path.{refl, sym, ap, ◌∙◌, subst}
use mathlib.Core.Logic.{inl, inr}
use native.Mathlib.Nat.{le_trans, le_of_eq, le_antisymm, lt_of_le_of_lt, mul_comm, mul-pos, mul-le-mul, mul-le-mul_right}
use native.Mathlib.Nat.{le_of_mul-le-mul_right, lt_of_mul-lt-mul_right, zero-mul}
use native.Mathlib.Omega.{arith}
use lib.Dec.{lit<, lit≤}
use lib.Ieee.{Float, fin, binary32, fits, of_bits, add, sub, mul}
use lib.Ieee.Exact.{HasValue}
use lib.Ieee.Fits.{mul-fits}
use Rattle.numbers.specs.Door.{finite}
use Rattle.units.specs.Units.{Part, mag, rounded, unity}
use Rattle.units.proofs.Grid.{grid_rel, grid_zero}
use Rattle.units.proofs.Errors.{unity_pos, sum_le, mul_le}
use Rattle.units.proofs.Digits.{digits_of, multiple}
use Rattle.units.proofs.Values.{plus_part, minus_part, positive_value, mag_is}
use Rattle.units.proofs.Add.{add_part, sub_part}
use Rattle.units.proofs.Multiply.{mul_part}
use Rattle.units.proofs.Patterns.{one_value}
use Rattle.roots.specs.Root.{square_root}
use Rattle.roots.proofs.Laws.{rooted}
use Rattle.series.proofs.Order.{here_or_on}
use Rattle.arcs.specs.How.{float_one, side}
use Rattle.arcs.specs.Wedges.{sign_bit}
use Rattle.arcs.proofs.Transfer.{Root}
use Rattle.arcs.proofs.SignBits.{in_units}

-- ---- g is x, but for 9 parts in 2 ^ 27
record Close (g x : ℕ) : Type 0 where
  up : 134217728 * g ≤ 134217737 * x
  low : 134217719 * x ≤ 134217728 * g

close_of : (g x h : ℕ) → 16777216 * g ≤ 16777217 * x + 8388608 * h → 16777216 * x ≤ 16777216 * g + x + 8388608 * h → 67108864 * h ≤ x
    → Close g x
close_of g x h a b c = record { up = omega arith; low = omega arith }

-- a sum of x units
close_sum : (x : ℕ) → 67108864 ≤ x → Close (rounded x unity) x
close_sum x h = let r = grid_rel binary32 x unity unity_pos in
    close_of (rounded x unity) x 1 (up (rounded x unity) unity unity_pos r.0) (low (rounded x unity) unity unity_pos r.1) h
  where
    up : (g u : ℕ) → 0 < u → 16777216 * (g * u) ≤ 16777217 * (x * u) + 8388608 * u → 16777216 * g ≤ 16777217 * x + 8388608 * 1
    up g u p k = le_of_mul-le-mul_right {m = 16777216 * g} {n = 16777217 * x + 8388608 * 1} {k = u} (omega arith) p

    low : (g u : ℕ) → 0 < u → 16777216 * (x * u) ≤ 16777216 * (g * u) + x * u + 8388608 * u → 16777216 * x ≤ 16777216 * g + x + 8388608 * 1
    low g u p k = le_of_mul-le-mul_right {m = 16777216 * x} {n = 16777216 * g + x + 8388608 * 1} {k = u} (omega arith) p

-- a product of w
close_product : (w : ℕ) → 67108864 * unity ≤ w → Close (rounded w (unity * unity) * unity) w
close_product w h = let r = grid_rel binary32 w (unity * unity) (mul-pos unity_pos unity_pos) in
    close_of (rounded w (unity * unity) * unity) w unity (up (rounded w (unity * unity)) unity unity_pos r.0)
    (low (rounded w (unity * unity)) unity unity_pos r.1) h
  where
    up : (g u : ℕ) → 0 < u → 16777216 * (g * (u * u)) ≤ 16777217 * (w * u) + 8388608 * (u * u)
        → 16777216 * (g * u) ≤ 16777217 * w + 8388608 * u
    up g u p k = le_of_mul-le-mul_right {m = 16777216 * (g * u)} {n = 16777217 * w + 8388608 * u} {k = u} (omega arith) p

    low : (g u : ℕ) → 0 < u → 16777216 * (w * u) ≤ 16777216 * (g * (u * u)) + w * u + 8388608 * (u * u)
        → 16777216 * w ≤ 16777216 * (g * u) + w + 8388608 * u
    low g u p k = le_of_mul-le-mul_right {m = 16777216 * w} {n = 16777216 * (g * u) + w + 8388608 * u} {k = u} (omega arith) p

close_pos : (g x : ℕ) → Close g x → 0 < x → 0 < g
close_pos g x c p = omega (arith, c.low)

-- ---- of two such sums, n, of their product, r, and of the root's square, s
sums_up : (n m : ℕ) → 18014398509481984 * n ≤ 18014400925401169 * m → 134217728 * n ≤ 134217747 * m
sums_up n m h = omega arith

sums_low : (n m : ℕ) → 18014396093562961 * m ≤ 18014398509481984 * n → 134217710 * m ≤ 134217728 * n
sums_low n m h = omega arith

product_up : (n m r : ℕ) → 134217728 * n ≤ 134217747 * m → 134217728 * r ≤ 134217737 * n → 134217728 * r ≤ 134217757 * m
product_up n m r h k = omega arith

product_low : (n m r : ℕ) → 134217710 * m ≤ 134217728 * n → 134217719 * n ≤ 134217728 * r → 134217701 * m ≤ 134217728 * r
product_low n m r h k = omega arith

root_up : (m r s : ℕ) → 134217728 * r ≤ 134217757 * m → 4194304 * s ≤ 4194305 * r → 2097152 * s ≤ 2097153 * m
root_up m r s h k = omega arith

root_low : (m r s : ℕ) → 134217701 * m ≤ 134217728 * r → 4194303 * r ≤ 4194304 * s → 2097151 * m ≤ 2097152 * s
root_low m r s h k = omega arith

module _ (x y a b : ℕ) (A : Close a x) (B : Close b y) where
  both_up : 134217728 * (a * b) ≤ 134217747 * (x * y)
  both_up = sums_up (a * b) (x * y) (go (mul-le-mul A.up B.up))
    where
      go : (134217728 * a) * (134217728 * b) ≤ (134217737 * x) * (134217737 * y) → 18014398509481984 * (a * b) ≤ 18014400925401169 * (x * y)
      go h = omega arith

  both_low : 134217710 * (x * y) ≤ 134217728 * (a * b)
  both_low = sums_low (a * b) (x * y) (go (mul-le-mul A.low B.low))
    where
      go : (134217719 * x) * (134217719 * y) ≤ (134217728 * a) * (134217728 * b) → 18014396093562961 * (x * y) ≤ 18014398509481984 * (a * b)
      go h = omega arith

-- ---- u and v are sums of x and y units, rounded; their exact product is at most 1
pub record Near (s : Float) (m : ℕ) : Type 0 where
  pub value : HasValue s false (mag s) unity
  pub low : 2097151 * m ≤ 2097152 * (mag s * mag s)
  pub high : 2097152 * (mag s * mag s) ≤ 2097153 * m

module _ (u v : Float) (x y : ℕ) (hu : HasValue u false (rounded x unity) unity) (hv : HasValue v false (rounded y unity) unity)
    (lx : 67108864 ≤ x) (ly : 67108864 ≤ y) (least : 134217728 * unity ≤ x * y) (most : x * y ≤ unity * unity) where
  abbrev a : ℕ
  a = rounded x unity

  abbrev b : ℕ
  b = rounded y unity

  abbrev r : ℕ
  r = rounded (a * b) (unity * unity)

  n_up : 134217728 * (a * b) ≤ 134217747 * (x * y)
  n_up = both_up x y a b (close_sum x lx) (close_sum y ly)

  n_low : 134217710 * (x * y) ≤ 134217728 * (a * b)
  n_low = both_low x y a b (close_sum x lx) (close_sum y ly)

  n_least : 67108864 * unity ≤ a * b
  n_least = go (a * b) (x * y) unity n_low least
    where
      go : (n m k : ℕ) → 134217710 * m ≤ 134217728 * n → 134217728 * k ≤ m → 67108864 * k ≤ n
      go n m k h g = omega arith

  n_most : a * b < 4 * (unity * unity)
  n_most = go (a * b) (x * y) (unity * unity) n_up most (mul-pos unity_pos unity_pos)
    where
      go : (n m k : ℕ) → 134217728 * n ≤ 134217747 * m → m ≤ k → 0 < k → n < 4 * k
      go n m k h g p = omega arith

  close : Close (r * unity) (a * b)
  close = close_product (a * b) n_least

  r_pos : 0 < r
  r_pos = elim (here_or_on 0 r) [ inl k ↦ k | inr k ↦ absurd (no (a * b) unity close.low (mul-le-mul_right unity k) unity_pos n_least) ]
    where
      no : (n k : ℕ) → 134217719 * n ≤ 134217728 * (r * k) → r * k ≤ 0 * k → 0 < k → 67108864 * k ≤ n → ⊥
      no n k h g p i = omega arith

  product_value : HasValue (mul binary32 u v) false r unity
  product_value =
      positive_value binary32 (mul binary32 u v) r (rounded (0 * b) (unity * unity))
      (mul_part binary32 u v false a 0 b (plus_part binary32 u a hu) hv (lt_of_le_of_lt (mul_le (a * b) n_most) (lit< tt))
      (lt_of_le_of_lt (le_of_eq none) (lit< tt))) r_pos
    where
      none : rounded (0 * b) (unity * unity) ≡ 0
      none = ap (λ (k : ℕ). rounded k (unity * unity)) (zero-mul b) ∙ grid_zero binary32 (unity * unity) (mul-pos unity_pos unity_pos)

  root_near : Near (square_root (mul binary32 u v)) (x * y)
  root_near =
      let s = square_root (mul binary32 u v) in
      let R = rooted (mul binary32 u v) r (mul-fits binary32 u v) product_value in
      let e : mag s ≡ R.q = mag_is s false R.q R.value in
      record {
        value = subst (λ (k : ℕ). HasValue s false k unity) (sym e) R.value;
        low =
            subst (λ (k : ℕ). 2097151 * (x * y) ≤ 2097152 * (k * k)) (sym e)
            (root_low (x * y) (r * unity) (R.q * R.q) (product_low (a * b) (x * y) (r * unity) n_low close.low) R.low);
        high =
            subst (λ (k : ℕ). 2097152 * (k * k) ≤ 2097153 * (x * y)) (sym e)
            (root_up (x * y) (r * unity) (R.q * R.q) (product_up (a * b) (x * y) (r * unity) n_up close.up) R.up);
      }

-- ---- q below 1 is below it by 2 ^ -24 or more: 2 ^ 125 units
apart : (M : ℕ) → (2 ^ 23 * 2 ^ 125 ≤ M → (k : ℕ) × (M ≡ k * 2 ^ 125)) → M < unity → M + 2 ^ 125 ≤ unity
apart M f h = elim (here_or_on M (2 ^ 23 * 2 ^ 125)) [
  | inl g ↦ short (2 ^ 125) g
  | inr g ↦
      let m = f g in
      let l : m.0 < 16777216 = lt_of_mul-lt-mul_right (2 ^ 125) (subst (λ (k : ℕ). k < unity) m.1 h) in
      long m.0 (2 ^ 125) m.1 l
]
  where
    short : (p : ℕ) → M < 8388608 * p → M + p ≤ 16777216 * p
    short p g = omega arith

    long : (k p : ℕ) → M ≡ k * p → k < 16777216 → M + p ≤ 16777216 * p
    long k p e g = omega (arith, mul-le-mul_right p g)

-- the values of a sum: i units, none left on the other side
plus_of : (z : Float) (i j x : ℕ) → Part binary32 z (rounded i unity) (rounded j unity) → i ≡ x → 67108864 ≤ x
    → HasValue z false (rounded x unity) unity
plus_of z i j x h e l =
    subst (λ (k : ℕ). HasValue z false (rounded k unity) unity) e
    (positive_value binary32 z (rounded i unity) (rounded j unity) h
    (subst (λ (k : ℕ). 0 < rounded k unity) (sym e) (close_pos (rounded x unity) x (close_sum x l) (more l))))
  where
    more : 67108864 ≤ x → 0 < x
    more g = omega arith

-- 1 - q ^ 2 in two ways
factors : (M U : ℕ) → M ≤ U → M * M + (U - M) * (U + M) ≡ U * U
factors M U h = subst (λ (k : ℕ). M * M + (U - M) * (k + M) ≡ k * k) back (go (U - M))
  where
    back : M + (U - M) ≡ U
    back = omega arith

    go : (k : ℕ) → M * M + k * (M + k + M) ≡ (M + k) * (M + k)
    go k = omega arith

-- at 1 and -1 nothing is left
at_one : (s : Bool) → side (fin s 1 (pos 0)) ≡ fin false 0 (pos 0)
unfolding side of_bits square_root add sub mul
at_one true = refl
at_one false = refl

one_value_is : (s : Bool) → HasValue (fin s 1 (pos 0)) s unity unity
one_value_is s = (refl, refl)

one_fits : (s : Bool) → T (fits binary32 (fin s 1 (pos 0)))
unfolding fits
one_fits s = tt

float_one_part : Part binary32 float_one unity 0
unfolding of_bits
float_one_part = (refl, refl)

under : (x : ℕ) → x ≤ 2 * unity → rounded x unity < 2 ^ 277
under x h = lt_of_le_of_lt (sum_le x (lt_of_le_of_lt h (lit< tt))) (lit< tt)

module _ (q : Float) (f : T (fits binary32 q)) (h : T (finite q)) (h' : mag q ≤ unity) where
  abbrev M : ℕ
  M = mag q

  abbrev x : ℕ
  x = unity - M

  abbrev y : ℕ
  y = unity + M

  sub_of : (i j : ℕ) → Part binary32 q i j → i ≤ unity → j ≤ unity → (k : ℕ) → unity + j - i ≡ k → 67108864 ≤ k
      → HasValue (sub binary32 float_one q) false (rounded k unity) unity
  sub_of i j p l m k e g =
      plus_of (sub binary32 float_one q) (unity + j - (0 + i)) (0 + i - (unity + j)) k
      (sub_part binary32 float_one q unity 0 i j float_one_part p (under (unity + j - (0 + i)) (most unity m))
      (under (0 + i - (unity + j)) (other unity l))) (plain unity e) g
    where
      most : (u : ℕ) → j ≤ u → u + j - (0 + i) ≤ 2 * u
      most u n = omega arith

      other : (u : ℕ) → i ≤ u → 0 + i - (u + j) ≤ 2 * u
      other u n = omega arith

      plain : (u : ℕ) → u + j - i ≡ k → u + j - (0 + i) ≡ k
      plain u n = omega arith

  add_of : (i j : ℕ) → Part binary32 q i j → i ≤ unity → j ≤ unity → (k : ℕ) → unity + i - j ≡ k → 67108864 ≤ k
      → HasValue (add binary32 float_one q) false (rounded k unity) unity
  add_of i j p l m k e g =
      plus_of (add binary32 float_one q) (unity + i - (0 + j)) (0 + j - (unity + i)) k
      (add_part binary32 float_one q unity 0 i j float_one_part p (under (unity + i - (0 + j)) (most unity l))
      (under (0 + j - (unity + i)) (other unity m))) (plain unity e) g
    where
      most : (u : ℕ) → i ≤ u → u + i - (0 + j) ≤ 2 * u
      most u n = omega arith

      other : (u : ℕ) → j ≤ u → 0 + j - (u + i) ≤ 2 * u
      other u n = omega arith

      plain : (u : ℕ) → u + i - j ≡ k → u + i - (0 + j) ≡ k
      plain u n = omega arith

  all : M * M + x * y ≡ unity * unity
  all = factors M unity h'

  -- ---- below 1
  module _ (g : M < unity) where
    far : 2 ^ 125 ≤ x
    far = go (2 ^ 125) unity (apart M (multiple M 125 (digits_of q f)) g)
      where
        go : (p u : ℕ) → M + p ≤ u → p ≤ u - M
        go p u k = omega arith

    high : unity ≤ y
    high = go unity
      where
        go : (u : ℕ) → u ≤ u + M
        go u = omega arith

    near_x : 134217728 ≤ x
    near_x = le_trans (lit≤ {m = 134217728} {n = 2 ^ 125} tt) far

    x_least : 67108864 ≤ x
    x_least = le_trans (lit≤ {m = 67108864} {n = 2 ^ 125} tt) far

    y_least : 67108864 ≤ y
    y_least = le_trans (lit≤ {m = 67108864} {n = unity} tt) high

    least : 134217728 * unity ≤ x * y
    least = mul-le-mul near_x high

    most : x * y ≤ unity * unity
    most = go (M * M) (x * y) (unity * unity) all
      where
        go : (a b c : ℕ) → a + b ≡ c → b ≤ c
        go a b c e = omega arith

    none : 0 ≤ unity
    none = lit≤ {m = 0} {n = unity} tt

    keep : (u : ℕ) → u + M - 0 ≡ u + M
    keep u = omega arith

    less : (u : ℕ) → u + 0 - M ≡ u - M
    less u = omega arith

    near : Near (side q) (x * y)
    unfolding side
    near = go (sign_bit q) (in_units q f h)
      where
        go : (s : Bool) → HasValue q s M unity
            → Near (square_root (mul binary32 (sub binary32 float_one q) (add binary32 float_one q))) (x * y)
        go false v =
            let p = plus_part binary32 q M v in
            root_near (sub binary32 float_one q) (add binary32 float_one q) x y (sub_of M 0 p h' none x (less unity) x_least)
            (add_of M 0 p h' none y (keep unity) y_least) x_least y_least least most
        go true v =
            let p = minus_part binary32 q M v in
            let e : y * x ≡ x * y = mul_comm y x in
            subst (λ (k : ℕ). Near (square_root (mul binary32 (sub binary32 float_one q) (add binary32 float_one q))) k) e
            (root_near (sub binary32 float_one q) (add binary32 float_one q) y x (sub_of 0 M p none h' y (keep unity) y_least)
            (add_of 0 M p none h' x (less unity) x_least) y_least x_least (le_trans least (le_of_eq (sym e)))
            (le_trans (le_of_eq e) most))

    root_below : Root unity M (mag (side q))
    root_below = record {
      Z = x * y;
      sum = all;
      low = near.low;
      high = near.high;
      some = inr (go (2 ^ 125) unity (x * y) refl (mul-le-mul far high));
    }
      where
        go : (p u z : ℕ) → u ≡ 16777216 * p → p * u ≤ z → u * u ≤ 16777216 * z
        go p u z e k = omega (arith, ap (λ (w : ℕ). w * u) e)

  -- ---- at 1 and -1
  module _ (g : unity ≤ M) where
    whole : M ≡ unity
    whole = le_antisymm h' g

    side_zero : side q ≡ fin false 0 (pos 0)
    side_zero =
        ap side (one_value q (fin (sign_bit q) 1 (pos 0)) (sign_bit q) unity f (one_fits (sign_bit q))
        (subst (λ (k : ℕ). HasValue q (sign_bit q) k unity) whole (in_units q f h)) (one_value_is (sign_bit q))) ∙ at_one (sign_bit q)

    zero_value : HasValue (side q) false (mag (side q)) unity
    unfolding mag
    zero_value = subst (λ (z : Float). HasValue z false (mag z) unity) (sym side_zero) (refl, refl)

    pub side_none : mag (side q) ≡ 0
    unfolding mag
    side_none = ap mag side_zero

    root_at : Root unity M (mag (side q))
    root_at = subst (λ (k : ℕ). Root unity M k) (sym side_none) (record {
      Z = 0;
      sum = all_of (M * M) ∙ ap (λ (k : ℕ). k * k) whole;
      low = lit≤ tt;
      high = lit≤ tt;
      some = inl refl;
    })
      where
        all_of : (n : ℕ) → n + 0 ≡ n
        all_of n = omega arith

  pub side_value : HasValue (side q) false (mag (side q)) unity
  side_value = elim (here_or_on M unity) [ inl g ↦ (near g).value | inr g ↦ zero_value g ]

  pub side_root : Root unity M (mag (side q))
  side_root = elim (here_or_on M unity) [ inl g ↦ root_below g | inr g ↦ root_at g ]
