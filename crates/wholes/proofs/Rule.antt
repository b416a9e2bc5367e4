-- The table in the code holds the rule at every place: one computed test over all 1,025 entries says that each is the whole number nearest
-- to 16384 S(k P / 2048), and that there is no tie. Assumes nothing.
use Prim.Native.Nat.{ℕ, suc, ◌+◌, ◌-◌, ◌*◌, ◌/◌, ◌≤◌, ◌<◌}
use mathlib.Core.Path.{◌≡◌, refl, sym, ◌∙◌, subst}
use mathlib.Core.Bool.{Bool}
use mathlib.Core.List.{List, [], ◌∷◌}
use native.Mathlib.Nat.{le_antisymm, le_of_lt, le_of_suc-le-suc, mul-pos, mul-le-mul_left, le_of_mul-le-mul_left, lt_of_mul-lt-mul_left}
use native.Mathlib.Nat.{le-div_iff_mul-le, div-lt_iff_lt-mul}
use native.Mathlib.Omega.{arith}
use lib.Dec.{T, leb, ltb, leb→le, ltb→lt, le→leb, lit<}
use lib.ListN.{length, get_or}
use Rattle.series.specs.Fractions.{Fraction, ◌÷◌, whole, ◌⊖◌, ◌⊗◌, ◌≋◌, Within}
use Rattle.series.specs.Series.{S, factorial}
use Rattle.series.specs.Working.{pw, ev, sin_p, sin_m, denominator}
use Rattle.series.proofs.Polynomials.{eval, spread, ev_spread}
use Rattle.series.proofs.Tables.{both, both_l, both_r, both_i, every, at}
use Rattle.series.proofs.Parity.{difference, S_same, S_over}
use Rattle.series.proofs.Literal.{S_is, denominator_pos}
use Rattle.series.proofs.NearestTables.{Nearest, NearestTable, sine_table, sine_nearest, scaled}
use Rattle.series.proofs.Fractions.{same_sym, within_same}
use Rattle.wholes.specs.Wholes as rule
use Rattle.wholes.specs.Wholes.{table_step, table_scale, entry}
use Rattle.wholes.proofs.Listed.{table}

-- P / 2048 is steps / parts
abbrev steps : ℕ
steps = table_step.plus

abbrev parts : ℕ
parts = table_step.over

-- ---- the test: scale (p - m) / d is above e - 1/2 and below e + 1/2
abbrev low : ℕ → ℕ → ℕ → ℕ → Bool
low d p m e = ltb (2 * (e * d + table_scale * m)) (2 * (table_scale * p + 0 * d) + d)

abbrev high : ℕ → ℕ → ℕ → ℕ → Bool
high d p m e = ltb (2 * (table_scale * p + 0 * d)) (2 * (e * d + table_scale * m) + d)

abbrev inside : ℕ → ℕ → ℕ → ℕ → Bool
inside d p m e = both (low d p m e) (high d p m e)

row : ℕ → ℕ → Bool
row k e = inside (denominator parts) (eval (spread parts sin_p) (k * steps)) (eval (spread parts sin_m) (k * steps)) e

passes : T (every row 0 table)
unfolding row table sin_p sin_m pw ev denominator factorial
passes = tt

-- ---- so it passes the test of the room `series`, which is not strict
at_most : (a b : ℕ) → T (ltb a b) → T (leb a b)
at_most a b t = le→leb a b (le_of_lt (ltb→lt a b t))

not_strict : (d p m e : ℕ) → T (inside d p m e)
    → T
    (both (leb (2 * (e * d + table_scale * m)) (2 * (table_scale * p + 0 * d) + d))
    (leb (2 * (table_scale * p + 0 * d)) (2 * (e * d + table_scale * m) + d)))
not_strict d p m e t =
    let q = table_scale * p + 0 * d in
    let n = e * d + table_scale * m in
    both_i (leb (2 * n) (2 * q + d)) (leb (2 * q) (2 * n + d)) (at_most (2 * n) (2 * q + d) (both_l (low d p m e) (high d p m e) t))
    (at_most (2 * q) (2 * n + d) (both_r (low d p m e) (high d p m e) t))

weakened : (f g : ℕ → ℕ → Bool) → ((k e : ℕ) → T (f k e) → T (g k e)) → (i : ℕ) (xs : List ℕ) → T (every f i xs) → T (every g i xs)
weakened f g h i [] t = tt
weakened f g h i (x ∷ xs) t =
    both_i (g i x) (every g (suc i) xs) (h i x (both_l (f i x) (every f (suc i) xs) t))
    (weakened f g h (suc i) xs (both_r (f i x) (every f (suc i) xs) t))

tested : T (sine_table table_scale 0 steps parts table)
unfolding row sine_table
tested = weakened row _ (λ k e. not_strict (denominator parts) _ _ e) 0 table passes

pub table_nearest : NearestTable S table_scale 0 table_step table
table_nearest = sine_nearest table_scale 0 steps parts table (lit< tt) tested

-- ---- a fraction that is (p - m) / d, at least e - 1/2 and below e + 1/2, has e for its nearest
nearest_is : (a : Fraction) (e p m d : ℕ) → 0 < a.over → 0 < d → difference p m d ≋ a → 2 * (e * d + m) ≤ 2 * p + d
    → 2 * p < 2 * (e * d + m) + d → rule.nearest a ≡ e
nearest_is a e p m d O D same l h =
    divided a.plus a.minus a.over O (le_of_mul-le-mul_left (lower a.plus a.minus a.over same) D)
    (lt_of_mul-lt-mul_left d (upper a.plus a.minus a.over O same))
  where
    lower : (q n o : ℕ) → p * o + n * d ≡ q * d + m * o → d * (2 * (e * o + n)) ≤ d * (2 * q + o)
    lower q n o s = omega (arith, mul-le-mul_left o l)

    upper : (q n o : ℕ) → 0 < o → p * o + n * d ≡ q * d + m * o → d * (2 * q) < d * (2 * (e * o + n) + o)
    upper q n o O s = omega (arith, mul-le-mul_left o h)

    divided : (q n o : ℕ) → 0 < o → 2 * (e * o + n) ≤ 2 * q + o → 2 * q < 2 * (e * o + n) + o → (2 * (q - n) + o) / (2 * o) ≡ e
    divided q n o O l h =
        let w : 0 < 2 * o = omega arith in
        let below : e * (2 * o) ≤ 2 * (q - n) + o = omega arith in
        let above : 2 * (q - n) + o < suc e * (2 * o) = omega arith in
        le_antisymm (le_of_suc-le-suc ((div-lt_iff_lt-mul w).1 above)) ((le-div_iff_mul-le w).1 below)

-- ---- what the test of an entry says, of the sum's two parts p and m times the scale
record Inside (d p m e : ℕ) : Type 0 where
  not_below : 2 * (e * d + m) < 2 * p + d
  not_above : 2 * p < 2 * (e * d + m) + d

said : (d p m e : ℕ) → T (inside d p m e) → Inside d (table_scale * p) (table_scale * m) e
said d p m e t = record {
  not_below =
      no_offset (table_scale * p) (2 * (e * d + table_scale * m))
      (ltb→lt (2 * (e * d + table_scale * m)) (2 * (table_scale * p + 0 * d) + d) (both_l (low d p m e) (high d p m e) t));
  not_above =
      no_offset' (table_scale * p) (2 * (e * d + table_scale * m) + d)
      (ltb→lt (2 * (table_scale * p + 0 * d)) (2 * (e * d + table_scale * m) + d) (both_r (low d p m e) (high d p m e) t));
}
  where
    no_offset : (q w : ℕ) → w < 2 * (q + 0 * d) + d → w < 2 * q + d
    no_offset q w h = omega arith

    no_offset' : (q w : ℕ) → 2 * (q + 0 * d) < w → 2 * q < w
    no_offset' q w h = omega arith

-- ---- no second whole number n is as near
only : (n e p m d : ℕ) → 0 < d → Within (1 ÷ 2) (whole n ⊖ whole 0) (difference p m d) → Inside d p m e → n ≡ e
only n e p m d D w i =
    let l = w.0 in
    let h = w.1 in
    le_antisymm (le_of_suc-le-suc (lt_of_mul-lt-mul_left d (omega (arith, D, l, i.not_above))))
    (le_of_suc-le-suc (lt_of_mul-lt-mul_left d (omega (arith, D, h, i.not_below))))

-- ---- every entry of the table is that of the rule
module _ (k : ℕ) (h : k < length table) where
  exact : Fraction
  exact = whole table_scale ⊗ S (whole k ⊗ table_step)

  plus : ℕ
  plus = table_scale * ev parts (k * steps) sin_p

  minus : ℕ
  minus = table_scale * ev parts (k * steps) sin_m

  exact_over : 0 < exact.over
  unfolding exact
  exact_over = mul-pos (lit< {m = 0} {n = 1} tt) (S_over (whole k ⊗ table_step) (lit< tt))

  exact_is : difference plus minus (denominator parts) ≋ exact
  unfolding exact plus minus
  exact_is = scaled S sin_p sin_m steps parts (lit< tt) (λ y. S_is y parts (lit< tt)) S_same S_over table_scale k

  inside_at : Inside (denominator parts) plus minus (get_or table k 0)
  unfolding row plus minus
  inside_at =
      said (denominator parts) (ev parts (k * steps) sin_p) (ev parts (k * steps) sin_m) (get_or table k 0)
      (rw (ev_spread parts sin_p (k * steps), ev_spread parts sin_m (k * steps)) at (at row table passes k h))

  pub table_is : get_or table k 0 ≡ entry k
  unfolding exact entry
  table_is =
      sym
      (nearest_is exact (get_or table k 0) plus minus (denominator parts) exact_over (denominator_pos parts (lit< tt)) exact_is
      (le_of_lt inside_at.not_below) inside_at.not_above)

  -- there is no tie
  pub only_entry : (n : ℕ) → Nearest S table_scale 0 table_step k n → n ≡ entry k
  unfolding exact
  only_entry n w =
      only n (get_or table k 0) plus minus (denominator parts) (denominator_pos parts (lit< tt))
      (within_same (1 ÷ 2) (1 ÷ 2) (whole n ⊖ whole 0) (whole n ⊖ whole 0) exact (difference plus minus (denominator parts)) (lit< tt)
      (lit< tt) exact_over refl refl (same_sym (difference plus minus (denominator parts)) exact exact_is) w) inside_at
      ∙ table_is

-- ---- 1,025 places, none above the scale
pub table_long : length table ≡ 1025
unfolding table
table_long = refl

few : ℕ → ℕ → Bool
few k e = leb e table_scale

all_few : T (every few 0 table)
unfolding few table
all_few = tt

module _ (k : ℕ) (h : k < 1025) where
  place : k < length table
  place = subst (λ (n : ℕ). k < n) (sym table_long) h

  pub entry_at : get_or table k 0 ≡ entry k
  entry_at = table_is k place

  pub at_most_scale : get_or table k 0 ≤ table_scale
  unfolding few
  at_most_scale = leb→le (get_or table k 0) table_scale (at few table all_few k place)

  pub entry_most : entry k ≤ table_scale
  entry_most = subst (λ (e : ℕ). e ≤ table_scale) entry_at at_most_scale
