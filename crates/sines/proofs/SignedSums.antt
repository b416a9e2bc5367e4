-- The two sums of products in signed numbers: no step passes 63 bits, and with the surplus each comes to the natural number that
-- `sine_sum` and `cosine_sum` name. Assumes nothing.
use Rattle.std.specs.Prelude.{◌≡◌, ℕ, ◌+◌, ◌-◌, ◌*◌, ◌/◌, ◌^◌, ◌≤◌, T, ℤ, pos, ◌+ℤ◌, ◌-ℤ◌, ◌*ℤ◌, nat_abs}
use mathlib.Core.Path.{sym, ap, ◌∙◌, subst}
use native.Mathlib.Nat.{mul-le-mul, add-le-add, lt_of_le_of_lt}
use native.Mathlib.Omega.{arith}
use lib.Dec.{lit<, lit≤}
use lib.Signed.{shr_z, mag_shr, non_neg}
use mir.Syntax.{w64}
use mir.Val.{Fits, SFits, to_z}
use mir.Facts.{to_z-of_z}
use Rattle.sines.specs.How.{table_one, rest_one, line_factor, result_unit, surplus, sine_sum, cosine_sum}
use Rattle.sines.proofs.Differences.{Is, moved, sum_is, difference_is, product_is, fits, read, read_is, whole, share_is}

-- ---- an entry less 1, and its product with a part of the rest
abbrev up : ℕ → ℕ
up s = s - table_one

abbrev down : ℕ → ℕ
down s = table_one - s

module _ (s : ℕ) (h : s ≤ 2 * table_one) where
  entry_is : Is (to_z w64 s -ℤ pos table_one) (up s) (down s)
  entry_is =
      subst (λ (w : ℤ). Is (w -ℤ pos table_one) (up s) (down s)) (sym (whole s (omega arith)))
      (moved (pos s -ℤ pos table_one) (s + 0) (0 + table_one) (up s) (down s)
      (difference_is (pos s) (pos table_one) s 0 table_one 0 (omega arith) (omega arith)) (omega arith))

  pub entry_fits : SFits w64 (to_z w64 s -ℤ pos table_one)
  entry_fits = fits (to_z w64 s -ℤ pos table_one) (up s) (down s) entry_is (omega arith) (omega arith)

  abbrev pub centred_entry : ℤ
  centred_entry = read (to_z w64 s -ℤ pos table_one)

  module _ (k a : ℕ) (small : k ≤ rest_one) (g : a ≤ k) where
    product_of : Is (centred_entry *ℤ to_z w64 a) (up s * a) (down s * a)
    product_of =
        subst (λ (w : ℤ). Is (centred_entry *ℤ w) (up s * a) (down s * a)) (sym (whole a (omega arith)))
        (product_is centred_entry (up s) (down s) a
        (read_is (to_z w64 s -ℤ pos table_one) (up s) (down s) entry_is (omega arith) (omega arith)))

    up_most : up s * a ≤ table_one * k
    up_most = mul-le-mul {n₁ = up s} {m₁ = a} {n₂ = table_one} {m₂ = k} (omega arith) g

    down_most : down s * a ≤ table_one * k
    down_most = mul-le-mul {n₁ = down s} {m₁ = a} {n₂ = table_one} {m₂ = k} (omega arith) g

    room : table_one * k ≤ 2 ^ 62
    room = omega arith

    pub product_fits : SFits w64 (centred_entry *ℤ to_z w64 a)
    product_fits =
        fits (centred_entry *ℤ to_z w64 a) (up s * a) (down s * a) product_of (omega (arith, up_most, room))
        (omega (arith, down_most, room))

    product_read : Is (read (centred_entry *ℤ to_z w64 a)) (up s * a) (down s * a)
    product_read =
        read_is (centred_entry *ℤ to_z w64 a) (up s * a) (down s * a) product_of (omega (arith, up_most, room))
        (omega (arith, down_most, room))

-- ---- from the sum of two products on: half a unit, the shift, and the surplus
abbrev half : ℕ
half = 137438953472

abbrev unit : ℕ
unit = 274877906944

abbrev pub shifted : ℤ → ℤ
shifted w = read (shr_z (read (read w +ℤ pos half)) unit)

-- no step passes 63 bits, and the last is a natural number
pub record Held (w : ℤ) : Type 0 where
  pub sum : SFits w64 w
  pub rounded : SFits w64 (read w +ℤ pos half)
  pub total : SFits w64 (shifted w +ℤ pos surplus)
  pub natural : T (non_neg (read (shifted w +ℤ pos surplus))) × Fits w64 (nat_abs (read (shifted w +ℤ pos surplus)))

module _ (w : ℤ) (x y : ℕ) (i : Is w x y) (hx : x ≤ 2 ^ 62 + 2 ^ 59) (hy : y ≤ 2 ^ 62 + 2 ^ 59) where
  rounded_is : Is (read w +ℤ pos half) (x + half) (y + 0)
  rounded_is = sum_is (read w) (pos half) x y half 0 (read_is w x y i (omega arith) (omega arith)) (omega arith)

  abbrev rounded : ℤ
  rounded = read (read w +ℤ pos half)

  rounded_read : Is rounded (x + half) (y + 0)
  rounded_read = read_is (read w +ℤ pos half) (x + half) (y + 0) rounded_is (omega arith) (omega arith)

  abbrev counts : ℕ
  counts = (surplus * unit - (y + 0) + (x + half)) / unit

  shift_fits : SFits w64 (shr_z rounded unit)
  shift_fits =
      record {
        sfits =
            lt_of_le_of_lt (mag_shr rounded unit)
            (fits rounded (x + half) (y + 0) rounded_read (omega arith) (omega arith)).sfits;
      }

  total_is : shifted w +ℤ pos surplus ≡ pos counts
  total_is =
      ap (λ (z : ℤ). z +ℤ pos surplus) (to_z-of_z shift_fits)
      ∙ share_is rounded (x + half) (y + 0) unit surplus (lit< tt) rounded_read (omega arith)

  natural_fits : SFits w64 (pos counts)
  natural_fits = record { sfits = omega arith }

  total_read : read (shifted w +ℤ pos surplus) ≡ pos counts
  total_read = ap read total_is ∙ to_z-of_z natural_fits

  held : Held w
  held =
      record {
        sum = fits w x y i (omega arith) (omega arith);
        rounded = fits (read w +ℤ pos half) (x + half) (y + 0) rounded_is (omega arith) (omega arith);
        total = subst (λ (z : ℤ). SFits w64 z) (sym total_is) natural_fits;
        natural =
            subst (λ (z : ℤ). T (non_neg z) × Fits w64 (nat_abs z)) (sym total_read) (tt, record { fits = omega arith });
      }

  total_counts : nat_abs (read (shifted w +ℤ pos surplus)) ≡ counts
  total_counts = ap nat_abs total_read

-- ---- what is divided is the same natural number
level : (s a : ℕ) → up s * a + table_one * a ≡ s * a + down s * a
level s a = let e : up s + table_one ≡ s + down s = omega arith in go (up s) (down s) e
  where
    go : (p m : ℕ) → p + table_one ≡ s + m → p * a + table_one * a ≡ s * a + m * a
    go p m e = omega (arith, ap (λ (k : ℕ). k * a) e)

sine_dividend :
    (A M S Q N C a b : ℕ)
    → A + table_one * a ≡ S + M
    → Q + table_one * b ≡ C + N
    → M ≤ 2 ^ 62
    → N ≤ 2 ^ 59
    → a ≤ rest_one
    → b ≤ line_factor
    → surplus * result_unit - (M + N + 0) + (A + Q + half)
    ≡ surplus * result_unit - table_one * (a + b) + S + C + half
sine_dividend A M S Q N C a b e f g h i j = omega arith

cosine_dividend :
    (A M S Q N C a b : ℕ)
    → Q + table_one * a ≡ C + N
    → A + table_one * b ≡ S + M
    → N ≤ 2 ^ 62
    → A ≤ 2 ^ 59
    → a ≤ rest_one
    → b ≤ line_factor
    → surplus * result_unit - (N + A + 0) + (Q + M + half)
    ≡ surplus * result_unit - table_one * a + table_one * b + C - S + half
cosine_dividend A M S Q N C a b e f g h i j = omega arith

-- ---- the two sums
module _
    (s c a b : ℕ)
    (hs : s ≤ 2 * table_one)
    (hc : c ≤ 2 * table_one)
    (ha : a ≤ rest_one)
    (hb : b ≤ line_factor) where
  abbrev small : line_factor ≤ rest_one
  small = lit≤ tt

  abbrev same : rest_one ≤ rest_one
  same = lit≤ tt

  abbrev pub sine_products : ℤ
  sine_products = read (centred_entry s hs *ℤ to_z w64 a) +ℤ read (centred_entry c hc *ℤ to_z w64 b)

  sine_products_lem : Is sine_products (up s * a + up c * b) (down s * a + down c * b)
  sine_products_lem =
      sum_is (read (centred_entry s hs *ℤ to_z w64 a)) (read (centred_entry c hc *ℤ to_z w64 b)) (up s * a) (down s * a) (up c * b)
      (down c * b) (product_read s hs rest_one a same ha) (product_read c hc line_factor b small hb)

  sine_plus : up s * a + up c * b ≤ 2 ^ 62 + 2 ^ 59
  sine_plus = add-le-add (up_most s hs rest_one a same ha) (up_most c hc line_factor b small hb)

  sine_minus : down s * a + down c * b ≤ 2 ^ 62 + 2 ^ 59
  sine_minus = add-le-add (down_most s hs rest_one a same ha) (down_most c hc line_factor b small hb)

  pub sine_held : Held sine_products
  sine_held = held sine_products (up s * a + up c * b) (down s * a + down c * b) sine_products_lem sine_plus sine_minus

  pub sine_counts : nat_abs (read (shifted sine_products +ℤ pos surplus)) ≡ sine_sum s c a b
  unfolding sine_sum
  sine_counts =
      total_counts sine_products (up s * a + up c * b) (down s * a + down c * b) sine_products_lem sine_plus sine_minus
      ∙ ap (λ (n : ℕ). n / result_unit)
      (sine_dividend (up s * a) (down s * a) (s * a) (up c * b) (down c * b) (c * b) a b (level s a) (level c b)
      (down_most s hs rest_one a same ha) (down_most c hc line_factor b small hb) ha hb)

  abbrev pub cosine_products : ℤ
  cosine_products = read (centred_entry c hc *ℤ to_z w64 a) -ℤ read (centred_entry s hs *ℤ to_z w64 b)

  cosine_products_lem : Is cosine_products (up c * a + down s * b) (down c * a + up s * b)
  cosine_products_lem =
      difference_is (read (centred_entry c hc *ℤ to_z w64 a)) (read (centred_entry s hs *ℤ to_z w64 b)) (up c * a) (down c * a) (up s * b)
      (down s * b) (product_read c hc rest_one a same ha) (product_read s hs line_factor b small hb)

  cosine_plus : up c * a + down s * b ≤ 2 ^ 62 + 2 ^ 59
  cosine_plus = add-le-add (up_most c hc rest_one a same ha) (down_most s hs line_factor b small hb)

  cosine_minus : down c * a + up s * b ≤ 2 ^ 62 + 2 ^ 59
  cosine_minus = add-le-add (down_most c hc rest_one a same ha) (up_most s hs line_factor b small hb)

  pub cosine_held : Held cosine_products
  cosine_held = held cosine_products (up c * a + down s * b) (down c * a + up s * b) cosine_products_lem cosine_plus cosine_minus

  pub cosine_counts :
      nat_abs (read (shifted cosine_products +ℤ pos surplus)) ≡ cosine_sum s c a b
  unfolding cosine_sum
  cosine_counts =
      total_counts cosine_products (up c * a + down s * b) (down c * a + up s * b) cosine_products_lem cosine_plus cosine_minus
      ∙ ap (λ (n : ℕ). n / result_unit)
      (cosine_dividend (up s * b) (down s * b) (s * b) (up c * a) (down c * a) (c * a) a b (level c a) (level s b)
      (down_most c hc rest_one a same ha) (up_most s hs line_factor b small hb) ha hb)
