-- Document 01's promise follows from the sharper one: sine and cosine of every permitted f32 are within the band of S and C, and the zeros
-- are exact. Assumes nothing.
use Rattle.std.specs.Prelude.{◌≡◌, Bool, true, false, T, pos}
use mathlib.Core.Path.{refl, sym, ap, ◌∙◌}
use lib.Dec.{lit<, lit≤}
use lib.Ieee.{Float, fin, binary32, fits, to_bits}
use Rattle.numbers.specs.Door.{permits}
use Rattle.numbers.specs.Limits.{sine_argument}
use Rattle.series.specs.Fractions.{◌≼◌, value}
use Rattle.series.specs.Series.{S, C}
use Rattle.series.proofs.Fractions.{within_wider}
use Rattle.sines.specs.How.{inside_sine, inside_cosine, sine, cosine}
use Rattle.sines.specs.Bands.{band, SineOf, CosineOf}
use Rattle.sines.proofs.Sharp.{sharp, sine_is, cosine_is, sine_finite, cosine_finite, sine_sharp, cosine_sharp}

-- the band of the definition is at least as wide: by the two fractions alone
wide : sharp ≼ band
wide = lit≤ tt

sine_of_zero : (s : Bool) → inside_sine (fin s 0 (pos 0)) ≡ fin s 0 (pos 0)
unfolding inside_sine to_bits
sine_of_zero true = refl
sine_of_zero false = refl

cosine_of_zero : (s : Bool) → inside_cosine (fin s 0 (pos 0)) ≡ fin false 1 (pos 0)
unfolding inside_cosine to_bits
cosine_of_zero true = refl
cosine_of_zero false = refl

module _ (x : Float) (f : T (fits binary32 x)) (p : T (permits sine_argument x)) where
  pub sine_band : SineOf x (sine x)
  sine_band = record {
    is_number = sine_finite x f p;
    within = within_wider sharp band (value (sine x)) (S (value x)) (lit< tt) wide (sine_sharp x f p);
    of_zero = λ (s : Bool) (e : x ≡ fin s 0 (pos 0)). sym (sine_is x f p) ∙ ap inside_sine e ∙ sine_of_zero s ∙ sym e;
  }

  pub cosine_band : CosineOf x (cosine x)
  cosine_band = record {
    is_number = cosine_finite x f p;
    within = within_wider sharp band (value (cosine x)) (C (value x)) (lit< tt) wide (cosine_sharp x f p);
    of_zero = λ (s : Bool) (e : x ≡ fin s 0 (pos 0)). sym (cosine_is x f p) ∙ ap inside_cosine e ∙ cosine_of_zero s;
  }
