-- The f32 step's sine against the table: at each progress p / 2048 below 1 the sum S, at the f32 that the step hands to its sine, is within
-- 1 / 16384 of the entry that p uses. 2,048 rows, one computed test; so neither S's steadiness nor its symmetry is needed. Assumes nothing.
use Prim.Native.Nat.{ℕ, ◌+◌, ◌*◌, ◌/◌, ◌^◌, ◌≤◌, ◌<◌}
use mathlib.Core.Path.{◌≡◌, refl, ap₂, ◌∙◌, subst}
use mathlib.Core.Bool.{Bool, true, false}
use native.Mathlib.Nat.{add-zero, le_of_lt, lt_of_le_of_lt, mul-pos, mul-le-mul_right}
use native.Mathlib.Omega.{arith}
use lib.Dec.{T, leb, eqb, leb→le, eqb→eq, lit<}
use lib.ListN.{length, get_or, replicate}
use lib.Ieee.{Float, binary32, round, mul}
use lib.Ieee.Exact.{HasValue}
use Rattle.numbers.specs.Limits.{over}
use Rattle.units.specs.Units.{unity, Part, hi, lo, mag, rounded}
use Rattle.units.proofs.Grid.{grid_zero}
use Rattle.units.proofs.Values.{plus_part, hi_is, lo_is, mag_parts}
use Rattle.units.proofs.Multiply.{mul_part}
use Rattle.units.proofs.Errors.{unity_pos}
use Rattle.series.specs.Fractions.{Fraction, ◌÷◌, ◌≋◌, Within, value}
use Rattle.series.specs.Series.{S, factorial}
use Rattle.series.specs.Working.{pw, ev, sin_p, sin_m, denominator}
use Rattle.series.proofs.Polynomials.{eval, spread, ev_spread}
use Rattle.series.proofs.Tables.{both, both_l, both_r, every, at}
use Rattle.series.proofs.Fractions.{same_sym, same_trans, within_same}
use Rattle.series.proofs.Parity.{difference, S_same, S_over}
use Rattle.series.proofs.Literal.{S_is, denominator_pos}
use Rattle.steps.specs.Leg.{half_turn}
use Rattle.wholes.specs.Wholes.{table_scale, used, entry}
use Rattle.wholes.proofs.Listed.{table}
use Rattle.wholes.proofs.Rule.{entry_at}
use Rattle.wholes.proofs.Steps.{used_below}
use Rattle.wholes_near.specs.Metres.{progress_of}
use Rattle.wholes_near.proofs.Rounding.{small, progress_value, product_held}
use Rattle.wholes_near.proofs.Near.{fraction, part_value}

-- the argument of the f32 step's sine; it is a whole number of 2 ^ -33
abbrev pub argument : ℕ → Float
argument p = mul binary32 (progress_of p) half_turn

abbrev fine : ℕ
fine = 2 ^ 33

abbrev count : ℕ → ℕ
count p = mag (argument p) / 2 ^ 116

-- (p - m) / d is within 1 / scale of e / scale
abbrev low : ℕ → ℕ → ℕ → ℕ → Bool
low d p m e = leb (e * d + table_scale * m) (table_scale * p + d)

abbrev high : ℕ → ℕ → ℕ → ℕ → Bool
high d p m e = leb (table_scale * p) (e * d + table_scale * m + d)

abbrev near_entry : ℕ → ℕ → ℕ → ℕ → Bool
near_entry d p m e = both (low d p m e) (high d p m e)

-- at n counts, with the entry that p uses
abbrev near_used : ℕ → ℕ → Bool
near_used p n = near_entry (denominator fine) (eval (spread fine sin_p) n) (eval (spread fine sin_m) n) (get_or table (used p) 0)

abbrev at_count : ℕ → ℕ → Bool
at_count p n =
    both (eqb (n * 2 ^ 116) (mag (argument p))) (near_used p n)

row : ℕ → ℕ → Bool
row p x = at_count p (count p)

waves : T (every row 0 (replicate 2048 0))
unfolding row progress_of half_turn over mag mul round table sin_p sin_m pw ev denominator factorial
waves = tt

-- ---- the argument is a number that is not below 0
half_turn_value : HasValue half_turn false (13176795 * small) unity
unfolding half_turn over round
half_turn_value = (refl, refl)

half_way : HasValue half_turn false (13176795 * small) unity → (p : ℕ) → p ≤ 2048
    → Part binary32 (argument p) (rounded (p * 2 ^ 138 * (13176795 * small)) (unity * unity)) 0
half_way v p h =
    subst (λ (n : ℕ). Part binary32 (argument p) (rounded (p * 2 ^ 138 * (13176795 * small)) (unity * unity)) n) none
    (mul_part binary32 (progress_of p) half_turn false (p * 2 ^ 138) 0 (13176795 * small)
    (plus_part binary32 (progress_of p) (p * 2 ^ 138) (progress_value p h)) v
    (product_held (p * 2 ^ 138 * (13176795 * small))
    (lt_of_le_of_lt (mul-le-mul_right (13176795 * small) (mul-le-mul_right (2 ^ 138) h)) (lit< tt)))
    (product_held (0 * (13176795 * small)) (lit< tt)))
  where
    none : rounded (0 * (13176795 * small)) (unity * unity) ≡ 0
    none = grid_zero binary32 (unity * unity) (mul-pos unity_pos unity_pos)

abbrev argument_units : ℕ → ℕ
argument_units p = rounded (p * 2 ^ 138 * (13176795 * small)) (unity * unity)

pub argument_part : (p : ℕ) → p ≤ 2048 → Part binary32 (argument p) (argument_units p) 0
argument_part p h = half_way half_turn_value p h

magnitude : (p : ℕ) → p ≤ 2048 → mag (argument p) ≡ argument_units p
magnitude p h =
    let a = argument_part p h in
    mag_parts (argument p)
    ∙ ap₂ (λ (i j : ℕ). i + j) (hi_is (argument p) (argument_units p) 0 a) (lo_is (argument p) (argument_units p) 0 a)
    ∙ add-zero (argument_units p)

module _ (p : ℕ) (h : p < 2048) where
  passed : T (at_count p (count p))
  unfolding row
  passed = at row (replicate 2048 0) waves p h

  whole_count : count p * 2 ^ 116 ≡ argument_units p
  whole_count =
      eqb→eq (count p * 2 ^ 116) (mag (argument p))
      (both_l (eqb (count p * 2 ^ 116) (mag (argument p)))
      (near_used p (count p)) passed)
      ∙ magnitude p (le_of_lt h)

  argument_value : value (argument p) ≋ count p ÷ fine
  argument_value =
      same_trans (value (argument p)) (fraction (argument_units p) 0) (count p ÷ fine) unity_pos
      (part_value (argument p) (argument_units p) 0 (argument_part p (le_of_lt h)))
      (subst (λ (n : ℕ). fraction n 0 ≋ count p ÷ fine) whole_count (regrouped (count p) (2 ^ 116) fine))
    where
      regrouped : (n a b : ℕ) → n * a * b + 0 * (a * b) ≡ n * (a * b) + 0 * b
      regrouped n a b = omega arith

  sum_is : difference (ev fine (count p) sin_p) (ev fine (count p) sin_m) (denominator fine) ≋ S (value (argument p))
  sum_is =
      same_sym (S (value (argument p))) (difference (ev fine (count p) sin_p) (ev fine (count p) sin_m) (denominator fine))
      (same_trans (S (value (argument p))) (S (count p ÷ fine))
      (difference (ev fine (count p) sin_p) (ev fine (count p) sin_m) (denominator fine)) (S_over (count p ÷ fine) (lit< tt))
      (S_same (value (argument p)) (count p ÷ fine) argument_value) (S_is (count p) fine (lit< tt)))

  tested : T (near_entry (denominator fine) (ev fine (count p) sin_p) (ev fine (count p) sin_m) (entry (used p)))
  tested =
      subst (λ (e : ℕ). T (near_entry (denominator fine) (ev fine (count p) sin_p) (ev fine (count p) sin_m) e))
      (entry_at (used p) (used_below p (le_of_lt h)))
      (rw (ev_spread fine sin_p (count p), ev_spread fine sin_m (count p)) at
      (both_r (eqb (count p * 2 ^ 116) (mag (argument p)))
      (near_used p (count p)) passed))

  pub wave : Within (1 ÷ table_scale) (S (value (argument p))) (entry (used p) ÷ table_scale)
  wave =
      let d = denominator fine in
      let a = ev fine (count p) sin_p in
      let b = ev fine (count p) sin_m in
      let e = entry (used p) in
      within_same (1 ÷ table_scale) (1 ÷ table_scale) (difference a b d) (S (value (argument p))) (e ÷ table_scale) (e ÷ table_scale)
      (lit< tt) (denominator_pos fine (lit< tt)) (lit< tt) refl sum_is refl
      (as_fractions d a b e
      (leb→le (e * d + table_scale * b) (table_scale * a + d) (both_l (low d a b e) (high d a b e) tested))
      (leb→le (table_scale * a) (e * d + table_scale * b + d) (both_r (low d a b e) (high d a b e) tested)))
    where
      as_fractions : (d a b e : ℕ) → e * d + 16384 * b ≤ 16384 * a + d → 16384 * a ≤ e * d + 16384 * b + d
          → Within (1 ÷ 16384) (difference a b d) (e ÷ 16384)
      as_fractions d a b e l g = (omega arith, omega arith)
