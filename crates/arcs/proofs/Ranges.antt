-- What the functions on whole numbers ask: that nothing overflows, and what each choice answers. Assumes nothing.
use Rattle.std.specs.Prelude.{◌≡◌, ℕ, ◌+◌, ◌-◌, ◌*◌, ◌/◌, ◌%◌, ◌<◌, ◌≤◌, Bool, true, false, cond}
use mathlib.Core.Path.{sym, ap, ap₂, ◌∙◌, subst}
use native.Mathlib.Nat.{mul-le-mul, mul-le-mul_left, div-le_of_le-mul}
use native.Mathlib.Omega.{arith}
use Rattle.arc_rows.specs.ArcTangent.{arc_tangent}
use Rattle.arc_rows.specs.ArcSine.{angle_at, slope_at, bend_at}
use Rattle.arc_rows.proofs.SineRows.{row_sized}
use Rattle.arcs.specs.How.{quarter, half, table_row, lean, straight, bend, slope, sharp, wide, angle, arc_sine, upright}
use Rattle.arcs.proofs.Rest.{close}

-- ---- `slope`: l is the table's second number
abbrev pub straight_by : ℕ → ℕ → ℕ
straight_by w l = w % 262144 * l / 67108864

abbrev pub bend_by : ℕ → ℕ → ℕ
bend_by w l = straight_by w l * straight_by w l * table_row w / 137438953472

pub record Steps (w l : ℕ) : Type 0 where
  pub product : w % 262144 * l ≤ 562949953421312
  pub straight_le : straight_by w l ≤ 8388608
  pub square : straight_by w l * straight_by w l ≤ 70368744177664
  pub cube : straight_by w l * straight_by w l * table_row w ≤ 9007199254740992
  pub bend_le : bend_by w l ≤ straight_by w l

pub steps : (w l : ℕ) → w ≤ 33554432 → l ≤ 2147483648 → Steps w l
steps w l h k =
    let p : w % 262144 * l ≤ 262144 * 2147483648 = mul-le-mul (rest_le) k in
    let s : straight_by w l ≤ 8388608 = omega arith in
    let q : straight_by w l * straight_by w l ≤ 8388608 * 8388608 = mul-le-mul s s in
    let i : table_row w ≤ 128 = omega arith in
    record {
      product = p;
      straight_le = s;
      square = q;
      cube = mul-le-mul q i;
      bend_le = div-le_of_le-mul 137438953472 {n = straight_by w l} (under (straight_by w l) (table_row w) s i);
    }
  where
    rest_le : w % 262144 ≤ 262144
    rest_le = omega arith

    under : (s k : ℕ) → s ≤ 8388608 → k ≤ 128 → s * s * k ≤ 137438953472 * s
    under s k i j = omega (arith, mul-le-mul_left s (mul-le-mul i j))

-- what the function gives, from the row's angle a and its second number l
abbrev pub Sloped : ℕ → ℕ → ℕ → Type 0
Sloped w a l = (a + (straight_by w l - bend_by w l) ≡ slope w) × (a + (straight_by w l - bend_by w l) ≤ 851703465)

pub slope_is : (w a l : ℕ) → w ≤ 33554432 → a ≡ arc_tangent (table_row w) → a ≤ 843314857 → l ≡ lean (table_row w) → Sloped w a l
unfolding slope
slope_is w a l h e k d =
    subst (λ (m : ℕ). (a + (straight_by w m - bend_by w m) ≡ arc_tangent (table_row w) + (straight w - bend w))
    × (a + (straight_by w m - bend_by w m) ≤ 851703465)) (sym d)
    (ap (λ (n : ℕ). n + (straight w - bend w)) e, omega (arith, (close w h).least))

-- ---- `sharp`
pub sharp_is : (steep : Bool) (w t r : ℕ) → t ≡ slope w → t ≤ 851703465 → r ≡ cond steep (quarter - t) t
    → (r ≡ sharp steep w) × (r ≤ quarter)
unfolding sharp
sharp_is true w t r e h k = (k ∙ ap (λ (n : ℕ). quarter - n) e, omega arith)
sharp_is false w t r e h k = (k ∙ e, omega arith)

-- ---- `angle`
pub wide_le : (left : Bool) (t : ℕ) → t ≤ quarter → cond left (half - t) t ≤ half
wide_le true t h = omega arith
wide_le false t h = omega arith

pub angle_is : (steep left : Bool) (w t n : ℕ) → t ≡ sharp steep w → t ≤ quarter → n ≡ cond left (half - t) t
    → ((n + 128) / 256 ≡ angle steep left w) × ((n + 128) / 256 ≤ 13176795)
unfolding angle wide
angle_is steep left w t n e h k = (
  ap (λ (m : ℕ). (m + 128) / 256) (k ∙ ap (λ (m : ℕ). cond left (half - m) m) e),
  last (subst (λ (m : ℕ). m ≤ half) (sym k) (wide_le left t h)),
)
  where
    last : n ≤ half → (n + 128) / 256 ≤ 13176795
    last g = omega arith

-- ---- `arc_sine`: x is what w has past the row, b and c are the table's second and third numbers
pub record Grown (x b c : ℕ) : Type 0 where
  pub bend_le : x * c ≤ 17179869184
  pub rate_le : b + x * c / 262144 ≤ 11865536
  pub product : x * (b + x * c / 262144) ≤ 3110479069184
  pub grown_le : x * (b + x * c / 262144) / 262144 ≤ 11865536

grown : (x b c : ℕ) → x ≤ 262144 → b ≤ 11800000 → c ≤ 65535 → Grown x b c
grown x b c h i j =
    let k : c ≤ 65536 = omega arith in
    let p : x * c ≤ 262144 * 65536 = mul-le-mul h k in
    let q : b + x * c / 262144 ≤ 11865536 = omega arith in
    let r : x * (b + x * c / 262144) ≤ 262144 * 11865536 = mul-le-mul h q in
    record { bend_le = p; rate_le = q; product = r; grown_le = omega arith }

-- what the function gives, from the row's three numbers
abbrev pub sine_by : ℕ → ℕ → ℕ → ℕ → ℕ
sine_by w a b c = a + w % 262144 * (b + w % 262144 * c / 262144) / 262144

module _ (w a b c : ℕ) (h : w < 23855104) (ea : a ≡ angle_at (table_row w)) (eb : b ≡ slope_at (table_row w))
    (ec : c ≡ bend_at (table_row w)) where
  abbrev row : table_row w < 91
  row = omega arith

  pub sine_steps : Grown (w % 262144) b c
  sine_steps =
      grown (w % 262144) b c (omega arith) (subst (λ (n : ℕ). n ≤ 11800000) (sym eb) (row_sized (table_row w) row).2)
      (subst (λ (n : ℕ). n ≤ 65535) (sym ec) (row_sized (table_row w) row).3)

  pub sine_is : (sine_by w a b c ≡ arc_sine w) × (sine_by w a b c ≤ 850000000)
  unfolding arc_sine
  sine_is = (
    ap₂ (λ (m n : ℕ). sine_by w m n c) ea eb ∙ ap (λ (m : ℕ). sine_by w (angle_at (table_row w)) (slope_at (table_row w)) m) ec,
    most (subst (λ (n : ℕ). n ≤ 838000000) (sym ea) (row_sized (table_row w) row).1) sine_steps.grown_le,
  )
    where
      most : a ≤ 838000000 → w % 262144 * (b + w % 262144 * c / 262144) / 262144 ≤ 11865536 → sine_by w a b c ≤ 850000000
      most i j = omega arith

-- ---- `upright`
pub beside_le : (left : Bool) (t : ℕ) → t ≤ 850000000 → cond left (quarter + t) (quarter - t) ≤ 2536629713
beside_le true t h = omega arith
beside_le false t h = omega arith

pub upright_is : (left : Bool) (w t n : ℕ) → t ≡ arc_sine w → t ≤ 850000000 → n ≡ cond left (quarter + t) (quarter - t)
    → ((n + 128) / 256 ≡ upright left w) × ((n + 128) / 256 ≤ 13176795)
unfolding upright
upright_is left w t n e h k = (
  ap (λ (m : ℕ). (m + 128) / 256) (k ∙ ap (λ (m : ℕ). cond left (quarter + m) (quarter - m)) e),
  last (subst (λ (m : ℕ). m ≤ 2536629713) (sym k) (beside_le left t h)),
)
  where
    last : n ≤ 2536629713 → (n + 128) / 256 ≤ 13176795
    last g = omega arith
