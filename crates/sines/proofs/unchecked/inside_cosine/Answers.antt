-- `sines::unchecked::inside_cosine` meets its contract. A permitted argument has a bit pattern of at most that of 16, and the whole-number
-- cosine stays from -1 to 1.
use mathlib.Core.Path.{sym, ap, ◌∙◌, subst}
use Rattle.std.specs.Prelude.{T}
use lib.Ieee.{binary32, fits, of_bits}
use Rattle.sines.specs.declared.table.Eighths.{Eighths}
use Rattle.sines.specs.How.{fixed_cosine, centred}
use Rattle.sines.proofs.Values.{no_nan, most_bits}
use Rattle.sines.proofs.Whole.{cosine_fits}
use Rattle.sines.proofs.Sharp.{cosine_tiny, cosine_else, cosine_is}
use Rattle.sines.proofs.unchecked.inside_cosine.Goals as goal

pub float_to_bits-m : goal.float_to_bits-m
float_to_bits-m c = no_nan c.args.x c.requires

pub returns-then-m-lt964689920 : goal.returns-then-m-lt964689920
unfolding of_bits
returns-then-m-lt964689920 c =
    let held : T (fits binary32 c.args.x) = subst T (sym c.well_formed.0.1) tt in
    cosine_tiny c.args.x c.if-m-lt964689920.true ∙ cosine_is c.args.x held c.requires

pub fixed_of-n-requires : goal.fixed_of-n-requires
fixed_of-n-requires c =
    let held : T (fits binary32 c.args.x) = subst T (sym c.well_formed.0.1) tt in
    (c.if-m-lt964689920.false, most_bits c.args.x held c.requires)

pub both_at-requires : goal.both_at-requires
both_at-requires c = (
  c.fixed_of-n.ensures.1,
  ap (λ (e : Eighths). e.0) c.entry_of-at.ensures,
  ap (λ (e : Eighths). e.1) c.entry_of-at.ensures,
)

pub counted-requires : goal.counted-requires
counted-requires c = cosine_fits c.fixed_of-n.result c.both_at.result.cosine c.fixed_of-n.ensures.1 c.both_at.ensures.1

pub returns : goal.returns
unfolding of_bits
returns c =
    let held : T (fits binary32 c.args.x) = subst T (sym c.well_formed.0.1) tt in
    c.counted.ensures ∙ ap centred (c.both_at.ensures.1 ∙ ap fixed_cosine c.fixed_of-n.ensures.0)
    ∙ cosine_else c.args.x c.if-m-lt964689920.false
    ∙ cosine_is c.args.x held c.requires
