-- `arcs::unchecked::inside_arc_cosine` meets its contract: up to 45/64 the digits of |q| and the angle beside a quarter turn, else the
-- root and the angle of (q, root).
use mathlib.Core.Path.{sym, subst}
use Rattle.std.specs.Prelude.{T}
use lib.Ieee.{binary32, fits, to_bits}
use Rattle.units.specs.Patterns.{bare}
use Rattle.units.proofs.Above.{pattern_no_nan}
use Rattle.units.proofs.Bits.{bare_lt}
use Rattle.units.proofs.Door.{finite_no_nan}
use Rattle.arcs.specs.How.{side}
use Rattle.arcs.proofs.ArcBand.{permitted_finite}
use Rattle.arcs.proofs.Answers.{root_finite, root_is, pattern_proper, upright_lt, upright_is}
use Rattle.arcs.proofs.unchecked.inside_arc_cosine.Goals as goal

pub float_to_bits-b : goal.float_to_bits-b
float_to_bits-b c = finite_no_nan c.args.q (permitted_finite c.args.q c.requires)

pub float_from_bits-i : goal.float_from_bits-i
float_from_bits-i c =
    let held : T (fits binary32 c.args.q) = subst T (sym c.well_formed.0.1) tt in
    pattern_no_nan (bare (to_bits binary32 c.args.q)) (bare_lt c.args.q held (permitted_finite c.args.q c.requires))

pub digits-w-requires : goal.digits-w-requires
digits-w-requires c =
    let held : T (fits binary32 c.args.q) = subst T (sym c.well_formed.0.1) tt in
    pattern_proper c.args.q held c.requires

pub upright-requires : goal.upright-requires
upright-requires c =
    let held : T (fits binary32 c.args.q) = subst T (sym c.well_formed.0.1) tt in
    upright_lt c.args.q held c.requires c.digits-w.result c.if-i-le1060372480.true c.digits-w.ensures.0

pub returns-then-i-le1060372480 : goal.returns-then-i-le1060372480
returns-then-i-le1060372480 c =
    let held : T (fits binary32 c.args.q) = subst T (sym c.well_formed.0.1) tt in
    upright_is c.args.q held c.requires c.digits-w.result c.upright.result c.scaled.result c.if-i-le1060372480.true
    c.digits-w.ensures.0 c.upright.ensures.0 c.scaled.ensures

pub finite_atan2-requires : goal.finite_atan2-requires
unfolding side
finite_atan2-requires c =
    let held : T (fits binary32 c.args.q) = subst T (sym c.well_formed.0.1) tt in
    root_finite c.args.q c.square_root.result held c.requires c.square_root.ensures

pub returns : goal.returns
unfolding side
returns c =
    let held : T (fits binary32 c.args.q) = subst T (sym c.well_formed.0.1) tt in
    root_is c.args.q held c.requires c.square_root.result c.finite_atan2.result c.if-i-le1060372480.false
    c.square_root.ensures c.finite_atan2.ensures
