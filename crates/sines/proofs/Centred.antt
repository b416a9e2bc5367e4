-- `centred w` is exactly (w - 5 * 2 ^ 22) / 2 ^ 24: neither the conversion nor the product rounds. Assumes nothing.
use Rattle.std.specs.Prelude.{◌≡◌, ℕ, suc, ◌+◌, ◌-◌, ◌*◌, ◌^◌, ◌<◌, ◌≤◌, Bool, true, false, cond, T, ℤ, pos, negsuc, ◌-ℤ◌}
use mathlib.Core.Path.{refl, sym, ap, ◌∙◌, subst}
use mathlib.Core.Logic.{inl, inr}
use mathlib.Core.Bool.{true≢false}
use native.Mathlib.Nat.{mul_assoc, mul_comm, mul_right_comm}
use native.Mathlib.Nat.{mul-pos, eq_of_mul-eq-mul_right, lt_of_lt_of_le, eq-or-lt_of_le}
use native.Mathlib.Omega.{arith}
use borrow.Author.Tests.{lt-ltb, le-ltb}
use lib.Dec.{lit<, lit≤}
use lib.Pow.{shl_lt}
use lib.Ieee.{Float, nan, inf, fin, binary32, up, down, mul, neg, round, of_int}
use lib.Ieee.Fits.{down_pos}
use lib.Ieee.Exact.{HasValue, round_exact}
use lib.Ieee.Back.{round_whole}
use Rattle.numbers.specs.Door.{finite}
use Rattle.series.specs.Fractions.{Fraction, ◌÷◌, signed, value, negative, ◌≋◌}
use Rattle.series.proofs.Fractions.{same_trans, negative_same}
use Rattle.series.proofs.Parity.{difference}
use Rattle.series.proofs.Order.{here_or_on}
use Rattle.series.proofs.Values.{value_is, signed_over}
use Rattle.units.proofs.Values.{value_over}
use Rattle.units.proofs.OtherSign.{turned_round}
use Rattle.units.proofs.Door.{finite_of}
use Rattle.sines.specs.How.{result_one, surplus, counted, last_place, centred}

-- ---- a whole number of at most 2 ^ 24, divided by 2 ^ 24
round_small : (s : Bool) (num den y : ℕ) → 0 < den → y < result_one → num * result_one ≡ y * den
    → HasValue (round binary32 s num den) s num den
round_small s num den y dp l h =
    round_exact binary32 s num den y 125 dp l (lt_of_lt_of_le (shl_lt 24 125 l) (lit≤ {m = 2 ^ 149} {n = 2 ^ 277} tt))
    (sym (mul_assoc num result_one (2 ^ 125)) ∙ ap (λ (z : ℕ). z * 2 ^ 125) h ∙ mul_right_comm y den (2 ^ 125))

round_one : (s : Bool) (num den : ℕ) → 0 < den → num ≡ den → HasValue (round binary32 s num den) s num den
round_one s num den dp h =
    round_exact binary32 s num den 1 149 dp (lit< {m = 1} {n = result_one} tt) (lit< {m = 2 ^ 149} {n = 2 ^ 277} tt)
    (ap (λ (z : ℕ). z * 2 ^ 149) h ∙ mul_comm den (2 ^ 149))

rounded : (s : Bool) (num den y : ℕ) → 0 < den → y ≤ result_one → num * result_one ≡ y * den
    → HasValue (round binary32 s num den) s y result_one
rounded s num den y dp l h =
    value_over (round binary32 s num den) s num den y result_one dp h
    (elim (eq-or-lt_of_le l) [ inl e ↦ round_one s num den dp (whole e) | inr g ↦ round_small s num den y dp g h ])
  where
    whole : y ≡ result_one → num ≡ den
    whole e = eq_of_mul-eq-mul_right result_one (lit< tt) num den (h ∙ ap (λ (z : ℕ). z * den) e ∙ mul_comm result_one den)

divided : (v : Float) (s : Bool) (y : ℕ) → y ≤ result_one → HasValue v s y 1
    → HasValue (mul binary32 v (fin false 1 (negsuc 23))) s y result_one
unfolding mul
divided nan s y l h = absurd h
divided (inf t) s y l h = absurd h
divided (fin true m e) true y l h =
    rounded true (m * up e * 1) (down e * result_one) y (mul-pos (down_pos e) (lit< tt)) l
    (ap (λ (z : ℕ). z * result_one) h.1 ∙ mul_assoc y (down e) result_one)
divided (fin false m e) false y l h =
    rounded false (m * up e * 1) (down e * result_one) y (mul-pos (down_pos e) (lit< tt)) l
    (ap (λ (z : ℕ). z * result_one) h.1 ∙ mul_assoc y (down e) result_one)
divided (fin true m e) false y l h = absurd (true≢false h.0)
divided (fin false m e) true y l h = absurd (true≢false (sym h.0))

-- ---- w less the surplus, as an f32
pub not_less : (w : ℕ) → surplus ≤ w → pos w -ℤ pos surplus ≡ pos (w - surplus)
not_less w h = simp (le-ltb w surplus h)

pub less : (w : ℕ) → w < surplus → pos w -ℤ pos surplus ≡ negsuc (surplus - suc w)
less w h = simp (lt-ltb w surplus h)

abbrev pub converted : ℕ → Float
converted w = of_int binary32 (pos w -ℤ pos surplus)

few_up : (w : ℕ) → w ≤ surplus + result_one → w - surplus ≤ result_one
few_up w k = omega arith

few_down : (w : ℕ) → surplus - result_one ≤ w → surplus - w ≤ result_one
few_down w k = omega arith

pub converted_up : (w : ℕ) → surplus ≤ w → w ≤ surplus + result_one → HasValue (converted w) false (w - surplus) 1
unfolding of_int
converted_up w h k =
    subst (λ (z : ℤ). HasValue (of_int binary32 z) false (w - surplus) 1) (sym (not_less w h))
    (round_whole binary32 false (w - surplus) (few_up w k))

pub converted_down : (w : ℕ) → w < surplus → surplus - result_one ≤ w → HasValue (converted w) true (surplus - w) 1
unfolding of_int
converted_down w h k =
    subst (λ (z : ℤ). HasValue (of_int binary32 z) true (surplus - w) 1) (sym (less w h))
    (subst (λ (y : ℕ). HasValue (round binary32 true y 1) true (surplus - w) 1) (sym (same w h))
    (round_whole binary32 true (surplus - w) (few_down w k)))
  where
    same : (w : ℕ) → w < surplus → suc (surplus - suc w) ≡ surplus - w
    same w h = omega arith

-- ---- and times the last place
pub centred_up : (w : ℕ) → surplus ≤ w → w ≤ surplus + result_one → HasValue (centred w) false (w - surplus) result_one
unfolding counted
centred_up w h k = divided (converted w) false (w - surplus) (few_up w k) (converted_up w h k)

pub centred_down : (w : ℕ) → w < surplus → surplus - result_one ≤ w → HasValue (centred w) true (surplus - w) result_one
unfolding counted
centred_down w h k = divided (converted w) true (surplus - w) (few_down w k) (converted_down w h k)

-- ---- both as fractions: r is a number, exactly a
abbrev pub Exactly : Float → Fraction → Type 0
Exactly r a = T (finite r) × (value r ≋ a)

exactly : (r : Float) (w d : ℕ) → 0 < d → (w < surplus → HasValue r true (surplus - w) d) → (surplus ≤ w → HasValue r false (w - surplus) d)
    → Exactly r (difference w surplus d)
exactly r w d pd down up =
    elim (here_or_on w surplus) [
      | inl g ↦ has true (surplus - w) (down g) (under w (surplus - w) (omega arith))
      | inr g ↦ has false (w - surplus) (up g) (over w (w - surplus) (omega arith))
    ]
  where
    has : (s : Bool) (y : ℕ) → HasValue r s y d → signed s (y ÷ d) ≋ difference w surplus d → Exactly r (difference w surplus d)
    has s y v e = (
      finite_of r s y d v,
      same_trans (value r) (signed s (y ÷ d)) (difference w surplus d) (signed_over s (y ÷ d) pd) (value_is r s y d v) e,
    )

    under : (w y : ℕ) → w + y ≡ surplus → 0 * d + surplus * d ≡ w * d + y * d
    under w y e = subst (λ (n : ℕ). 0 * d + n * d ≡ w * d + y * d) e (omega arith)

    over : (w y : ℕ) → surplus + y ≡ w → y * d + surplus * d ≡ w * d + 0 * d
    over w y e = subst (λ (n : ℕ). y * d + surplus * d ≡ n * d + 0 * d) e (omega arith)

module _ (w : ℕ) (l : surplus - result_one ≤ w) (h : w ≤ surplus + result_one) where
  pub converted_exactly : Exactly (converted w) (difference w surplus 1)
  converted_exactly = exactly (converted w) w 1 (lit< tt) (λ g. converted_down w g l) (λ g. converted_up w g h)

  pub centred_exactly : Exactly (centred w) (difference w surplus result_one)
  centred_exactly = exactly (centred w) w result_one (lit< tt) (λ g. centred_down w g l) (λ g. centred_up w g h)

-- ---- a negative unit turns the sign
turned_mul : (v : Float) → mul binary32 v (last_place true) ≡ neg (mul binary32 v (last_place false))
unfolding mul neg
turned_mul nan = refl
turned_mul (inf true) = refl
turned_mul (inf false) = refl
turned_mul (fin true m e) = turned_round binary32 true (m * up e * 1) (down e * result_one)
turned_mul (fin false m e) = turned_round binary32 false (m * up e * 1) (down e * result_one)

pub counted_turned : (s : Bool) (w : ℕ) → counted (last_place s) w ≡ cond s (neg (centred w)) (centred w)
unfolding counted
counted_turned true w = turned_mul (of_int binary32 (pos w -ℤ pos surplus))
counted_turned false w = refl

-- ---- either sign
value_neg : (z : Float) → value (neg z) ≡ negative (value z)
unfolding neg
value_neg nan = refl
value_neg (inf s) = refl
value_neg (fin true m e) = refl
value_neg (fin false m e) = refl

finite_neg : (z : Float) → T (finite z) → T (finite (neg z))
unfolding neg finite
finite_neg nan h = h
finite_neg (inf s) h = h
finite_neg (fin s m e) h = tt

pub turned_exactly : (s : Bool) (z : Float) (a : Fraction) → Exactly z a → Exactly (cond s (neg z) z) (signed s a)
turned_exactly true z a h = (
  finite_neg z h.0,
  subst (λ (f : Fraction). f ≋ negative a) (sym (value_neg z)) (negative_same (value z) a h.1),
)
turned_exactly false z a h = h
