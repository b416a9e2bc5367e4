-- What leaves `fixed::both_at` becomes an f32 without rounding: less the surplus it is a whole number from -2 ^ 24 to 2 ^ 24, and f32 holds
-- that number and so many 2 ^ -24. The conversion and the product are all that sine and cosine compute in floats, so the whole numbers'
-- error is the whole error. Assumes nothing.
use mathlib.Core.Path.{refl, sym, subst}
use Rattle.std.specs.Prelude.{ℕ, ◌+◌, ◌-◌, ◌≤◌, Bool, false, pos, ◌-ℤ◌}
use lib.Ieee.{Float, binary32, of_int}
use Rattle.series.specs.Fractions.{signed}
use Rattle.series.proofs.Parity.{difference}
use Rattle.sines.specs.How.{sixteen, result_one, surplus, fixed_sine, fixed_cosine, counted, last_place, centred}
use Rattle.sines.proofs.Centred.{Exactly, converted_exactly, centred_exactly, turned_exactly, counted_turned}
use Rattle.sines.proofs.Whole.{sine_fits, cosine_fits}

-- w less the surplus, as an f32; then times the last place, which has the sign s
pub record Unrounded (s : Bool) (w : ℕ) : Type 0 where
  pub conversion : Exactly (of_int binary32 (pos w -ℤ pos surplus)) (difference w surplus 1)
  pub scaling : Exactly (counted (last_place s) w) (signed s (difference w surplus result_one))

unrounded : (s : Bool) (w : ℕ) → (surplus - result_one ≤ w) × (w ≤ surplus + result_one) → Unrounded s w
unrounded s w h = record {
  conversion = converted_exactly w h.0 h.1;
  scaling =
      subst (λ (r : Float). Exactly r (signed s (difference w surplus result_one))) (sym (counted_turned s w))
      (turned_exactly s (centred w) (difference w surplus result_one) (centred_exactly w h.0 h.1));
}

-- the sine has the sign of its argument, the cosine has none to take
pub sine_unrounded : (s : Bool) (x : ℕ) → x ≤ sixteen → Unrounded s (fixed_sine x)
sine_unrounded s x h = unrounded s (fixed_sine x) (sine_fits x (fixed_sine x) h refl)

pub cosine_unrounded : (x : ℕ) → x ≤ sixteen → Unrounded false (fixed_cosine x)
cosine_unrounded x h = unrounded false (fixed_cosine x) (cosine_fits x (fixed_cosine x) h refl)
