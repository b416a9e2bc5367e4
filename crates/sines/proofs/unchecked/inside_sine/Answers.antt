-- `sines::unchecked::inside_sine` meets its contract. A permitted argument has a bit pattern of at most that of 16, and the whole-number
-- sine stays from -1 to 1.
use mathlib.Core.Path.{sym, ap, ap₂, ◌∙◌, subst}
use Rattle.std.specs.Prelude.{T}
use lib.Ieee.{binary32, to_bits, fits}
use Rattle.units.specs.Patterns.{sign_set, bare}
use Rattle.sines.specs.declared.table.Eighths.{Eighths}
use Rattle.sines.specs.How.{fixed, fixed_sine, counted}
use Rattle.sines.proofs.Values.{no_nan, most_bits}
use Rattle.sines.proofs.Centred.{counted_turned}
use Rattle.sines.proofs.Whole.{sine_fits}
use Rattle.sines.proofs.Sharp.{sine_tiny, sine_else, sine_is}
use Rattle.sines.proofs.unchecked.inside_sine.Goals as goal

pub float_to_bits-b : goal.float_to_bits-b
float_to_bits-b c = no_nan c.args.x c.requires

pub returns-then-m-lt964689920 : goal.returns-then-m-lt964689920
returns-then-m-lt964689920 c =
    let held : T (fits binary32 c.args.x) = subst T (sym c.well_formed.0.1) tt in
    sine_tiny c.args.x c.if-m-lt964689920.true ∙ sine_is c.args.x held c.requires

pub fixed_of-n-requires : goal.fixed_of-n-requires
fixed_of-n-requires c =
    let held : T (fits binary32 c.args.x) = subst T (sym c.well_formed.0.1) tt in
    (c.if-m-lt964689920.false, most_bits c.args.x held c.requires)

pub both_at-requires : goal.both_at-requires
both_at-requires c = (
  c.fixed_of-n.ensures.1,
  ap (λ (e : Eighths). e.0) c.entry_of-at.ensures,
  ap (λ (e : Eighths). e.1) c.entry_of-at.ensures,
)

pub counted-requires : goal.counted-requires
counted-requires c = sine_fits c.fixed_of-n.result c.both_at.result.sine c.fixed_of-n.ensures.1 c.both_at.ensures.0

pub returns : goal.returns
returns c =
    let held : T (fits binary32 c.args.x) = subst T (sym c.well_formed.0.1) tt in
    let x = c.args.x in
    c.counted.ensures
    ∙ ap₂ counted c.last_place_of.ensures (c.both_at.ensures.0 ∙ ap fixed_sine c.fixed_of-n.ensures.0)
    ∙ counted_turned (sign_set (to_bits binary32 x)) (fixed_sine (fixed (bare (to_bits binary32 x))))
    ∙ sine_else x c.if-m-lt964689920.false
    ∙ sine_is x held c.requires
