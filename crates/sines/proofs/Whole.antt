-- The whole-number sine and cosine are within 5 / 2 ^ 27 of the sums S and C at every multiple of 2 ^ -35 up to 16, and lie from -1 to 1.
-- Assumes nothing.
use Rattle.std.specs.Prelude.{◌≡◌, ℕ, ◌+◌, ◌-◌, ◌*◌, ◌/◌, ◌^◌, ◌<◌, ◌≤◌}
use mathlib.Core.Path.{sym, subst}
use native.Mathlib.Nat.{le_trans, le_of_eq, mul_comm}
use native.Mathlib.Nat.{mul-le-mul, mul-le-mul_left, mul-le-mul_right, le_of_mul-le-mul_left}
use native.Mathlib.Omega.{arith}
use mathlib.Core.Logic.{inl, inr}
use Rattle.series.proofs.Order.{here_or_on}
use Rattle.series.proofs.Addition.{fsp, fsm, fcp, fcm, FD, FD_pos, sine_sum_lem, cosine_sum_lem}
use Rattle.series.proofs.AtMostOne.{S_at_most_one, C_at_most_one}
use Rattle.sines.specs.How.{line_factor, sixteen, eighth, table_one, rest_one, result_one, result_unit, surplus}
use Rattle.sines.specs.How.{sine_entry, cosine_entry, eighths, rest, square, even, odd, sine_sum, cosine_sum, fixed_sine, fixed_cosine}
use Rattle.sines.proofs.Rest.{even_near, odd_near, even_le, odd_le}
use Rattle.sines.proofs.Entries.{sine_entry_lem, cosine_entry_lem, sine_small}
use Rattle.sines.proofs.Turn.{Product, product}

-- ---- g - h in units of 2 ^ -62 is within 2 ^ -27 of (p - m) / D
pub record Close (D g h p m : ℕ) : Type 0 where
  pub low : 2 * (g * D) + 2 ^ 63 * m ≤ 2 * (h * D) + 2 ^ 63 * p + 2 ^ 36 * D
  pub high : 2 * (h * D) + 2 ^ 63 * p ≤ 2 * (g * D) + 2 ^ 63 * m + 2 ^ 36 * D

-- the two products and the sum of the angles; Q = D D
total : (Q sa cb a b x y x' y' P M : ℕ) → a ≤ rest_one * Q → b ≤ line_factor * Q
    → 2 * sa + 2 ^ 63 * y ≤ 2 * table_one * a + 2 ^ 63 * x + a + (2 * table_one + 1) * (25 * Q)
    → 2 * cb + 2 ^ 63 * y' ≤ 2 * table_one * b + 2 ^ 63 * x' + b + (2 * table_one + 1) * (4 * Q)
    → 2 ^ 40 * (x + x' + M) ≤ 2 ^ 40 * (y + y' + P) + 2 * Q
    → 2 * (sa + cb) + 2 ^ 63 * M ≤ 2 * table_one * (a + b) + 2 ^ 63 * P + 2 ^ 36 * Q
total Q sa cb a b x y x' y' P M ha hb h k l = omega arith

total' : (Q sa cb a b x y x' y' P M : ℕ) → a ≤ rest_one * Q → b ≤ line_factor * Q
    → 2 * table_one * a + 2 ^ 63 * x ≤ 2 * sa + 2 ^ 63 * y + a + (2 * table_one + 1) * (25 * Q)
    → 2 * table_one * b + 2 ^ 63 * x' ≤ 2 * cb + 2 ^ 63 * y' + b + (2 * table_one + 1) * (4 * Q)
    → 2 ^ 40 * (y + y' + P) ≤ 2 ^ 40 * (x + x' + M) + 2 * Q
    → 2 * table_one * (a + b) + 2 ^ 63 * P ≤ 2 * (sa + cb) + 2 ^ 63 * M + 2 ^ 36 * Q
total' Q sa cb a b x y x' y' P M ha hb h k l = omega arith

-- from D D to D
tidy : (D s c a b p m : ℕ)
    → 2 * (D * D * (s * a) + D * D * (c * b)) + 2 ^ 63 * (D * m)
    ≤ 2 * table_one * (D * D * a + D * D * b) + 2 ^ 63 * (D * p) + 2 ^ 36 * (D * D)
    → D * (2 * ((s * a + c * b) * D) + 2 ^ 63 * m)
    ≤ D * (2 * (table_one * (a + b) * D) + 2 ^ 63 * p + 2 ^ 36 * D)
tidy D s c a b p m h = omega arith

tidy' : (D s c a b p m : ℕ)
    → 2 * table_one * (D * D * a + D * D * b) + 2 ^ 63 * (D * p)
    ≤ 2 * (D * D * (s * a) + D * D * (c * b)) + 2 ^ 63 * (D * m) + 2 ^ 36 * (D * D)
    → D * (2 * (table_one * (a + b) * D) + 2 ^ 63 * p)
    ≤ D * (2 * ((s * a + c * b) * D) + 2 ^ 63 * m + 2 ^ 36 * D)
tidy' D s c a b p m h = omega arith

fits : (D a k : ℕ) → a ≤ k → D * D * a ≤ k * (D * D)
fits D a k h = le_trans (mul-le-mul_left (D * D) h) (le_of_eq (mul_comm (D * D) k))

module _ (D s c a b x y x' y' p m : ℕ) (pos : 0 < D) (ha : a ≤ rest_one) (hb : b ≤ line_factor) (A : Product 25 D s a x y)
    (B : Product 4 D c b x' y') where
  pub plus_close : 2 ^ 40 * (x + x' + D * m) ≤ 2 ^ 40 * (y + y' + D * p) + 2 * (D * D)
      → 2 ^ 40 * (y + y' + D * p) ≤ 2 ^ 40 * (x + x' + D * m) + 2 * (D * D)
      → Close D (s * a + c * b) (table_one * (a + b)) p m
  plus_close h k = record {
    low = le_of_mul-le-mul_left
        (tidy D s c a b p m (total (D * D) (D * D * (s * a)) (D * D * (c * b)) (D * D * a) (D * D * b) x y x' y' (D * p) (D * m)
        (fits D a rest_one ha) (fits D b line_factor hb) A.low B.low h)) pos;
    high = le_of_mul-le-mul_left
        (tidy' D s c a b p m (total' (D * D) (D * D * (s * a)) (D * D * (c * b)) (D * D * a) (D * D * b) x y x' y' (D * p) (D * m)
        (fits D a rest_one ha) (fits D b line_factor hb) A.high B.high k)) pos;
  }

minus_total : (Q ca sb a b x y x' y' P M : ℕ) → a ≤ rest_one * Q → b ≤ line_factor * Q
    → 2 * ca + 2 ^ 63 * y ≤ 2 * table_one * a + 2 ^ 63 * x + a + (2 * table_one + 1) * (25 * Q)
    → 2 * table_one * b + 2 ^ 63 * x' ≤ 2 * sb + 2 ^ 63 * y' + b + (2 * table_one + 1) * (4 * Q)
    → 2 ^ 40 * (x + y' + M) ≤ 2 ^ 40 * (y + x' + P) + 2 * Q
    → 2 * ca + 2 * table_one * b + 2 ^ 63 * M ≤ 2 * table_one * a + 2 * sb + 2 ^ 63 * P + 2 ^ 36 * Q
minus_total Q ca sb a b x y x' y' P M ha hb h k l = omega arith

minus_total' : (Q ca sb a b x y x' y' P M : ℕ) → a ≤ rest_one * Q → b ≤ line_factor * Q
    → 2 * table_one * a + 2 ^ 63 * x ≤ 2 * ca + 2 ^ 63 * y + a + (2 * table_one + 1) * (25 * Q)
    → 2 * sb + 2 ^ 63 * y' ≤ 2 * table_one * b + 2 ^ 63 * x' + b + (2 * table_one + 1) * (4 * Q)
    → 2 ^ 40 * (y + x' + P) ≤ 2 ^ 40 * (x + y' + M) + 2 * Q
    → 2 * table_one * a + 2 * sb + 2 ^ 63 * P ≤ 2 * ca + 2 * table_one * b + 2 ^ 63 * M + 2 ^ 36 * Q
minus_total' Q ca sb a b x y x' y' P M ha hb h k l = omega arith

minus_tidy : (D s c a b p m : ℕ)
    → 2 * (D * D * (c * a)) + 2 * table_one * (D * D * b) + 2 ^ 63 * (D * m)
    ≤ 2 * table_one * (D * D * a) + 2 * (D * D * (s * b)) + 2 ^ 63 * (D * p) + 2 ^ 36 * (D * D)
    → D * (2 * ((c * a + table_one * b) * D) + 2 ^ 63 * m)
    ≤ D * (2 * ((table_one * a + s * b) * D) + 2 ^ 63 * p + 2 ^ 36 * D)
minus_tidy D s c a b p m h = omega arith

minus_tidy' : (D s c a b p m : ℕ)
    → 2 * table_one * (D * D * a) + 2 * (D * D * (s * b)) + 2 ^ 63 * (D * p)
    ≤ 2 * (D * D * (c * a)) + 2 * table_one * (D * D * b) + 2 ^ 63 * (D * m) + 2 ^ 36 * (D * D)
    → D * (2 * ((table_one * a + s * b) * D) + 2 ^ 63 * p)
    ≤ D * (2 * ((c * a + table_one * b) * D) + 2 ^ 63 * m + 2 ^ 36 * D)
minus_tidy' D s c a b p m h = omega arith

module _ (D s c a b x y x' y' p m : ℕ) (pos : 0 < D) (ha : a ≤ rest_one) (hb : b ≤ line_factor) (A : Product 25 D c a x y)
    (B : Product 4 D s b x' y') where
  pub minus_close : 2 ^ 40 * (x + y' + D * m) ≤ 2 ^ 40 * (y + x' + D * p) + 2 * (D * D)
      → 2 ^ 40 * (y + x' + D * p) ≤ 2 ^ 40 * (x + y' + D * m) + 2 * (D * D)
      → Close D (c * a + table_one * b) (table_one * a + s * b) p m
  minus_close h k = record {
    low = le_of_mul-le-mul_left
        (minus_tidy D s c a b p m
        (minus_total (D * D) (D * D * (c * a)) (D * D * (s * b)) (D * D * a) (D * D * b) x y x' y' (D * p) (D * m) (fits D a rest_one ha)
        (fits D b line_factor hb) A.low B.high h)) pos;
    high = le_of_mul-le-mul_left
        (minus_tidy' D s c a b p m
        (minus_total' (D * D) (D * D * (c * a)) (D * D * (s * b)) (D * D * a) (D * D * b) x y x' y' (D * p) (D * m) (fits D a rest_one ha)
        (fits D b line_factor hb) A.high B.low k)) pos;
  }

-- ---- the result w, in units of 2 ^ -24 and plus 5 * 2 ^ 22
pub record Result (D w p m : ℕ) : Type 0 where
  pub low : 8 * (w * D) + 2 ^ 27 * m ≤ 8 * surplus * D + 2 ^ 27 * p + 5 * D
  pub high : 8 * surplus * D + 2 ^ 27 * p ≤ 8 * (w * D) + 2 ^ 27 * m + 5 * D
  pub least : surplus - result_one ≤ w
  pub most : w ≤ surplus + result_one

-- w is (5 * 2 ^ 60 + g - h + 2 ^ 37) / 2 ^ 38
result : (D g h p m w : ℕ) → 0 < D → result_unit * w + h ≤ surplus * result_unit + g + result_unit / 2
    → surplus * result_unit + g + result_unit / 2 ≤ result_unit * w + h + result_unit
    → Close D g h p m → 2 ^ 35 * p ≤ 2 ^ 35 * m + (2 ^ 35 + 1) * D → 2 ^ 35 * m ≤ 2 ^ 35 * p + (2 ^ 35 + 1) * D
    → Result D w p m
result D g h p m w pos lo hi c u v =
    let l = low' (w * D) (g * D) (h * D) (mul-le-mul_right D lo) c.low in
    let k = high' (w * D) (g * D) (h * D) (mul-le-mul_right D hi) c.high in
    record { low = l; high = k; least = least' (mul_le w) k; most = most' (mul_ge w) l }
  where
    low' : (W G H : ℕ) → (result_unit * w + h) * D ≤ (surplus * result_unit + g + result_unit / 2) * D
        → 2 * (g * D) + 2 ^ 63 * m ≤ 2 * (h * D) + 2 ^ 63 * p + 2 ^ 36 * D
        → 8 * (w * D) + 2 ^ 27 * m ≤ 8 * surplus * D + 2 ^ 27 * p + 5 * D
    low' W G H e f = omega arith

    high' : (W G H : ℕ) → (surplus * result_unit + g + result_unit / 2) * D ≤ (result_unit * w + h + result_unit) * D
        → 2 * (h * D) + 2 ^ 63 * p ≤ 2 * (g * D) + 2 ^ 63 * m + 2 ^ 36 * D
        → 8 * surplus * D + 2 ^ 27 * p ≤ 8 * (w * D) + 2 ^ 27 * m + 5 * D
    high' W G H e f = omega arith

    mul_le : (w : ℕ) → w ≤ 4194303 → w * D ≤ 4194303 * D
    mul_le w e = mul-le-mul_right D e

    mul_ge : (w : ℕ) → 37748737 ≤ w → 37748737 * D ≤ w * D
    mul_ge w e = mul-le-mul_right D e

    least' : (w ≤ 4194303 → w * D ≤ 4194303 * D) → 8 * surplus * D + 2 ^ 27 * p ≤ 8 * (w * D) + 2 ^ 27 * m + 5 * D →
        surplus - result_one ≤ w
    least' f e = elim (here_or_on w (surplus - result_one)) [ inl l ↦ absurd (no (f (less w l))) | inr l ↦ l ]
      where
        less : (w : ℕ) → w < surplus - result_one → w ≤ 4194303
        less w l = omega arith

        no : w * D ≤ 4194303 * D → ⊥
        no g = omega arith

    most' : (37748737 ≤ w → 37748737 * D ≤ w * D) → 8 * (w * D) + 2 ^ 27 * m ≤ 8 * surplus * D + 2 ^ 27 * p + 5 * D
        → w ≤ surplus + result_one
    most' f e = elim (here_or_on w 37748737) [ inl l ↦ less w l | inr l ↦ absurd (no (f l)) ]
      where
        less : (w : ℕ) → w < 37748737 → w ≤ surplus + result_one
        less w l = omega arith

        no : 37748737 * D ≤ w * D → ⊥
        no g = omega arith

-- ---- the two sums of the code, and their last division
plus_floor : (a b sa cb : ℕ) → a ≤ rest_one → b ≤ line_factor
    → (result_unit * ((surplus * result_unit - table_one * (a + b) + sa + cb + result_unit / 2) / result_unit) + table_one * (a + b)
    ≤ surplus * result_unit + (sa + cb) + result_unit / 2)
    × (surplus * result_unit + (sa + cb) + result_unit / 2
    ≤ result_unit * ((surplus * result_unit - table_one * (a + b) + sa + cb + result_unit / 2) / result_unit) + table_one * (a + b)
    + result_unit)
plus_floor a b sa cb h k = (omega arith, omega arith)

minus_floor : (a b ca sb : ℕ) → a ≤ rest_one → sb ≤ 2 ^ 60
    → (result_unit * ((surplus * result_unit - table_one * a + table_one * b + ca - sb + result_unit / 2) / result_unit)
    + (table_one * a + sb) ≤ surplus * result_unit + (ca + table_one * b) + result_unit / 2)
    × (surplus * result_unit + (ca + table_one * b) + result_unit / 2
    ≤ result_unit * ((surplus * result_unit - table_one * a + table_one * b + ca - sb + result_unit / 2) / result_unit)
    + (table_one * a + sb) + result_unit)
minus_floor a b ca sb h k = (omega arith, omega arith)

module _ (x : ℕ) (h : x ≤ sixteen) where
  abbrev j : ℕ
  j = eighths x

  abbrev r : ℕ
  r = rest x

  abbrev t : ℕ
  t = eighth * j

  abbrev a : ℕ
  a = even (square r)

  abbrev b : ℕ
  b = odd r (square r)

  whole : t + r ≡ x
  whole = omega arith

  pub row_lt : j < 129
  row_lt = omega arith

  t_le : t ≤ sixteen
  t_le = omega arith

  pub rest_le : r ≤ eighth
  rest_le = omega arith

  sine_close : Close FD (sine_entry j * a + cosine_entry j * b) (table_one * (a + b)) (fsp (t + r)) (fsm (t + r))
  sine_close =
      let s = sine_sum_lem t r t_le rest_le in
      plus_close FD (sine_entry j) (cosine_entry j) a b (fsp t * fcp r + fsm t * fcm r) (fsp t * fcm r + fsm t * fcp r)
      (fcp t * fsp r + fcm t * fsm r) (fcp t * fsm r + fcm t * fsp r) (fsp (t + r)) (fsm (t + r))
      FD_pos (even_le (square r)) (odd_le r (square r) rest_le)
      (product 25 FD (sine_entry j) a (fsp t) (fsm t) (fcp r) (fcm r) (sine_entry_lem j row_lt) (even_near r rest_le))
      (product 4 FD (cosine_entry j) b (fcp t) (fcm t) (fsp r) (fsm r) (cosine_entry_lem j row_lt) (odd_near r rest_le))
      s.low s.high

  cosine_close : Close FD (cosine_entry j * a + table_one * b) (table_one * a + sine_entry j * b) (fcp (t + r)) (fcm (t + r))
  cosine_close =
      let s = cosine_sum_lem t r t_le rest_le in
      minus_close FD (sine_entry j) (cosine_entry j) a b (fcp t * fcp r + fcm t * fcm r) (fcp t * fcm r + fcm t * fcp r)
      (fsp t * fsp r + fsm t * fsm r) (fsp t * fsm r + fsm t * fsp r) (fcp (t + r)) (fcm (t + r))
      FD_pos (even_le (square r)) (odd_le r (square r) rest_le)
      (product 25 FD (cosine_entry j) a (fcp t) (fcm t) (fcp r) (fcm r) (cosine_entry_lem j row_lt) (even_near r rest_le))
      (product 4 FD (sine_entry j) b (fsp t) (fsm t) (fsp r) (fsm r) (sine_entry_lem j row_lt) (odd_near r rest_le))
      s.low s.high

  pub sine_result : Result FD (fixed_sine x) (fsp x) (fsm x)
  unfolding fixed_sine sine_sum
  sine_result =
      let f = plus_floor a b (sine_entry j * a) (cosine_entry j * b) (even_le (square r)) (odd_le r (square r) rest_le) in
      let o = S_at_most_one x h in
      result FD (sine_entry j * a + cosine_entry j * b) (table_one * (a + b)) (fsp x) (fsm x) _ FD_pos f.0 f.1
      (subst (λ (n : ℕ). Close FD (sine_entry j * a + cosine_entry j * b) (table_one * (a + b)) (fsp n) (fsm n)) whole sine_close) o.up
      o.down

  pub cosine_result : Result FD (fixed_cosine x) (fcp x) (fcm x)
  unfolding fixed_cosine cosine_sum
  cosine_result =
      let f = minus_floor a b (cosine_entry j * a) (sine_entry j * b) (even_le (square r))
      (mul-le-mul (sine_small j row_lt) (odd_le r (square r) rest_le)) in
      let o = C_at_most_one x h in
      result FD (cosine_entry j * a + table_one * b) (table_one * a + sine_entry j * b) (fcp x) (fcm x) _ FD_pos f.0 f.1
      (subst (λ (n : ℕ). Close FD (cosine_entry j * a + table_one * b) (table_one * a + sine_entry j * b) (fcp n) (fcm n)) whole
      cosine_close) o.up o.down

-- what `centred` takes
pub sine_fits : (x w : ℕ) → x ≤ sixteen → w ≡ fixed_sine x → (surplus - result_one ≤ w) × (w ≤ surplus + result_one)
sine_fits x w h e = (
  subst (λ (n : ℕ). surplus - result_one ≤ n) (sym e) (sine_result x h).least,
  subst (λ (n : ℕ). n ≤ surplus + result_one) (sym e) (sine_result x h).most,
)

pub cosine_fits : (x w : ℕ) → x ≤ sixteen → w ≡ fixed_cosine x → (surplus - result_one ≤ w) × (w ≤ surplus + result_one)
cosine_fits x w h e = (
  subst (λ (n : ℕ). surplus - result_one ≤ n) (sym e) (cosine_result x h).least,
  subst (λ (n : ℕ). n ≤ surplus + result_one) (sym e) (cosine_result x h).most,
)
