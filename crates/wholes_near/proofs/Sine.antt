-- The f32 step's sine in parts: within 129 / 128 of the table's unit of the entry that the progress uses. Assumes nothing.
use Prim.Native.Nat.{ℕ, ◌+◌, ◌*◌, ◌^◌, ◌≤◌, ◌<◌, zero-le}
use mathlib.Core.Path.{◌≡◌, refl}
use mathlib.Core.Bool.{false}
use mathlib.Core.Logic.{◌⊎◌, inl, inr}
use native.Mathlib.Nat.{le_of_lt, mul-pos, mul-le-mul_left, mul-le-mul_right, le_of_mul-le-mul_left}
use native.Mathlib.Omega.{arith}
use lib.Dec.{T, lit<, lit≤}
use lib.Ieee.{Float, binary32, fits}
use lib.Ieee.Fits.{mul-fits, round-fits}
use Rattle.numbers.specs.Door.{permits}
use Rattle.numbers.specs.Limits as rows
use Rattle.units.specs.Units.{unity, Part, hi, lo}
use Rattle.units.proofs.Errors.{unity_pos}
use Rattle.units.proofs.Values.{plus_part, one_side}
use Rattle.units.proofs.Door.{finite_single}
use Rattle.bounds.specs.Between.{Between}
use Rattle.bounds.proofs.Between.{made, product_between}
use Rattle.bounds.proofs.Rows.{sine_row}
use Rattle.series.specs.Fractions.{◌÷◌, ◌≋◌, Within, value}
use Rattle.series.specs.Series.{S}
use Rattle.series.proofs.Fractions.{same_sym, within_same}
use Rattle.series.proofs.Parity.{S_over}
use Rattle.series.proofs.Values.{value_over}
use Rattle.sines.specs.How.{sine}
use Rattle.sines.specs.Bands.{band, SineOf}
use Rattle.sines.proofs.Bands.{sine_band}
use Rattle.sines.proofs.Fits.{sine_fits}
use Rattle.steps.specs.Leg.{half_turn}
use Rattle.steps.proofs.Within.{half_turn_between}
use Rattle.wholes.specs.Wholes.{table_scale, used, entry}
use Rattle.wholes.proofs.Steps.{used_most}
use Rattle.wholes_near.specs.Metres.{progress_of}
use Rattle.wholes_near.proofs.Apart.{Apart}
use Rattle.wholes_near.proofs.Rounding.{small, progress_value}
use Rattle.wholes_near.proofs.Near.{fraction, part_value}
use Rattle.wholes_near.proofs.Wave.{argument, wave}

-- ---- the argument is in document 01's row
module _ (p : ℕ) (h : p ≤ 2048) where
  progress_between : Between 1 1 (progress_of p)
  unfolding progress_of
  progress_between =
      made 1 1 (progress_of p) (p * 2 ^ 138) 0 (round-fits binary32 false p 2048)
      (plus_part binary32 (progress_of p) (p * 2 ^ 138) (progress_value p h)) zero-le (mul-le-mul_right (2 ^ 138) h)

  argument_permitted : T (permits rows.sine_argument (argument p))
  argument_permitted = sine_row (product_between progress_between half_turn_between (lit< tt)) (lit≤ tt) (lit≤ tt)

  argument_fits : T (fits binary32 (argument p))
  argument_fits = mul-fits binary32 (progress_of p) half_turn

  pub lifted : Float
  lifted = sine (argument p)

  banded : SineOf (argument p) (sine (argument p))
  banded = sine_band (argument p) argument_fits argument_permitted

  pub sine_part : Part binary32 (sine (argument p)) (hi (sine (argument p))) (lo (sine (argument p)))
  sine_part = (finite_single (sine (argument p)) banded.is_number (sine_fits (argument p) argument_fits)).ok

-- ---- two distances in a row, in parts: 1 / 2 ^ 21 to the sum (a - b) / d, and 1 / 16384 from it to c / 16384
module _ (u y y' a b d c : ℕ) (D : 0 < d) where
  pub risen : y * (d * 2097152) + (b * 2097152 + 0 * d) * u ≤ (a * 2097152 + 1 * d) * u + y' * (d * 2097152)
      → a * (16384 * 16384) + (0 * 16384 + 0 * 16384) * d ≤ (c * 16384 + 1 * 16384) * d + b * (16384 * 16384)
      → 2097152 * y + 0 ≤ 128 * (c * u) + 2097152 * y' + 129 * u
  risen g h =
      le_of_mul-le-mul_left {m = 2097152 * y + 0} {n = 128 * (c * u) + 2097152 * y' + 129 * u} {k = d}
      (omega (arith, g, mul-le-mul_left u h)) D

  pub fallen : a * (u * 2097152) + (y' * 2097152 + 0 * u) * d ≤ (y * 2097152 + 1 * u) * d + b * (u * 2097152)
      → c * (d * 16384) + (b * 16384 + 0 * d) * 16384 ≤ (a * 16384 + 1 * d) * 16384 + 0 * (d * 16384)
      → 128 * (c * u) + 2097152 * y' ≤ 2097152 * y + 0 + 129 * u
  fallen g h =
      le_of_mul-le-mul_left {m = 128 * (c * u) + 2097152 * y'} {n = 2097152 * y + 0 + 129 * u} {k = d}
      (omega (arith, g, mul-le-mul_left u h)) D

module _ (p : ℕ) (h : p < 2048) where
  few : p ≤ 2048
  few = le_of_lt h

  in_band : Within (1 ÷ 2097152) (fraction (hi (sine (argument p))) (lo (sine (argument p)))) (S (value (argument p)))
  in_band =
      within_same band (1 ÷ 2097152) (value (sine (argument p))) (fraction (hi (sine (argument p))) (lo (sine (argument p))))
      (S (value (argument p))) (S (value (argument p))) (lit< tt) (value_over (sine (argument p)))
      (S_over (value (argument p)) (value_over (argument p))) refl
      (part_value (sine (argument p)) (hi (sine (argument p))) (lo (sine (argument p))) (sine_part p few)) refl (banded p few).within

  pub sine_close : Apart (129 * unity) (2097152 * hi (sine (argument p))) (2097152 * lo (sine (argument p)))
      (128 * (entry (used p) * unity)) 0
  sine_close =
      let s = S (value (argument p)) in
      let D = S_over (value (argument p)) (value_over (argument p)) in
      record {
        up =
            risen unity (hi (sine (argument p))) (lo (sine (argument p))) s.plus s.minus s.over (entry (used p)) D in_band.0
            (wave p h).0;
        low =
            fallen unity (hi (sine (argument p))) (lo (sine (argument p))) s.plus s.minus s.over (entry (used p)) D in_band.1
            (wave p h).1;
      }

  -- it is at most 2
  both_sides : (u y y' c : ℕ) → c ≤ 16384 → Apart (129 * u) (2097152 * y) (2097152 * y') (128 * (c * u)) 0 → (y ≡ 0) ⊎ (y' ≡ 0)
      → (y ≤ 2 * u) × (y' ≤ 2 * u)
  both_sides u y y' c C a (inl z) =
      (omega (arith, z), omega (arith, a.low, z))
  both_sides u y y' c C a (inr z) =
      (omega (arith, a.up, z, mul-le-mul_right u C), omega (arith, z))

  pub sine_most : (hi (sine (argument p)) ≤ 2 * unity) × (lo (sine (argument p)) ≤ 2 * unity)
  sine_most =
      both_sides unity (hi (sine (argument p))) (lo (sine (argument p))) (entry (used p)) (used_most p few) sine_close
      (one_side binary32 (sine (argument p)) (hi (sine (argument p))) (lo (sine (argument p))) (sine_part p few))
