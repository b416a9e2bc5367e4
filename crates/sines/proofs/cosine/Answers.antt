-- `sines::cosine` meets its contract: what the door lets through is x, and what the core gives of it keeps the band.
use Rattle.std.specs.Prelude.{T}
use mathlib.Core.Path.{◌∙◌, sym, ap, subst}
use lib.Ieee.{binary32, fits}
use Rattle.numbers.specs.Door.{permits}
use Rattle.numbers.specs.Limits.{sine_argument}
use Rattle.sines.specs.How.{cosine}
use Rattle.sines.specs.Bands.{CosineOf}
use Rattle.sines.proofs.Bands.{cosine_band}
use Rattle.sines.proofs.cosine.Goals as goal

pub returns-clause-band : goal.returns-clause-band
returns-clause-band c =
    let x = c.args.x in
    let held : T (fits binary32 x) = subst T (sym c.well_formed.0.1) tt in
    let same = c.in_ok-admit.ensures.same in
    let let_in : T (permits sine_argument x) = simp (← c.sine_argument.ensures, ← same) c.in_ok-admit.ensures.within in
    subst (CosineOf x) (sym (c.inside_cosine.ensures ∙ ap cosine same)) (cosine_band x held let_in)
