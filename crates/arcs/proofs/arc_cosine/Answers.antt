-- `arcs::arc_cosine` meets its contract: what the door lets through is q, and what the core gives of it keeps the wedge.
use Rattle.std.specs.Prelude.{T}
use mathlib.Core.Path.{◌∙◌, sym, ap, subst}
use lib.Ieee.{binary32, fits}
use Rattle.numbers.specs.Door.{permits}
use Rattle.numbers.specs.Limits.{arc_cosine_argument}
use Rattle.arcs.specs.How.{arc_cosine}
use Rattle.arcs.specs.Wedges.{ArcCosineOf}
use Rattle.arcs.proofs.Bands.{arc_cosine_band}
use Rattle.arcs.proofs.arc_cosine.Goals as goal

pub returns-clause-band : goal.returns-clause-band
returns-clause-band c =
    let q = c.args.q in
    let held : T (fits binary32 q) = subst T (sym c.well_formed.0.1) tt in
    let same = c.in_ok-admit.ensures.same in
    let let_in : T (permits arc_cosine_argument q) = simp (← c.arc_cosine_argument.ensures, ← same) c.in_ok-admit.ensures.within in
    subst (ArcCosineOf q) (sym (c.inside_arc_cosine.ensures ∙ ap arc_cosine same)) (arc_cosine_band q held let_in)
