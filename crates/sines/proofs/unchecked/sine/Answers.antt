-- `sines::unchecked::sine` meets its contract: what the inner function gives where x is permitted, else +0.
use Rattle.std.specs.Prelude.{◌≡◌, false, T}
use mathlib.Core.Path.{sym, ◌∙◌, subst}
use mathlib.Core.Bool.{true≢false}
use lib.Ieee.{binary32, fits, of_bits}
use lib.Ieee.Bits.{is_true}
use Rattle.numbers.specs.Door.{permits}
use Rattle.numbers.specs.Limits.{sine_argument}
use Rattle.sines.specs.Bands.{SineOf}
use Rattle.sines.proofs.Sharp.{sine_outside}
use Rattle.sines.proofs.Bands.{sine_band}
use Rattle.sines.proofs.unchecked.sine.Goals as goal

pub inside_sine-requires : goal.inside_sine-requires
inside_sine-requires c = subst T (sym c.if-permitted.true ∙ c.permitted.ensures) tt

pub returns-then-permitted : goal.returns-then-permitted
returns-then-permitted c =
    let held : T (fits binary32 c.args.x) = subst T (sym c.well_formed.0.1) tt in
    let x = c.args.x in
    let e = c.inside_sine.ensures in
    record { exact = e; band = λ (q : T (permits sine_argument x)). subst (SineOf x) (sym e) (sine_band x held q) }

pub returns-else-permitted : goal.returns-else-permitted
unfolding of_bits
returns-else-permitted c =
    let x = c.args.x in
    let n : permits sine_argument x ≡ false = sym c.permitted.ensures ∙ c.if-permitted.false in
    record {
      exact = sym (sine_outside x n);
      band = λ (q : T (permits sine_argument x)). absurd (true≢false (sym (is_true (permits sine_argument x) q) ∙ n));
    }
