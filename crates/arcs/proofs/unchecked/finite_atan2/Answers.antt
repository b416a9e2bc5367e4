-- `arcs::unchecked::finite_atan2` meets its contract: each step gives what `finite_atan2` names; two zeros are told by their signs.
use mathlib.Core.Path.{sym, subst}
use Rattle.std.specs.Prelude.{ℕ, ◌<◌, ◌≤◌, T}
use lib.Dec.{lit≤}
use lib.Ieee.{binary32, fits, to_bits}
use native.Mathlib.Omega.{arith}
use lib.Ieee.Fits.{and_l, and_r}
use Rattle.numbers.specs.Door.{finite}
use Rattle.units.proofs.Above.{pattern_no_nan}
use Rattle.units.proofs.Bits.{bare_lt}
use Rattle.units.proofs.Door.{finite_no_nan}
use Rattle.units.specs.Patterns.{sign_set, bare}
use Rattle.arcs.proofs.Answers.{atan2_is, atan2_zero, either_le, patterns_lt, patterns_sorted}
use Rattle.arcs.proofs.unchecked.finite_atan2.Goals as goal

pub float_to_bits-a : goal.float_to_bits-a
float_to_bits-a c =
    let finite_x : T (finite c.args.x) = and_r (finite c.args.y) (finite c.args.x) c.requires in
    finite_no_nan c.args.x finite_x

pub float_to_bits-b : goal.float_to_bits-b
float_to_bits-b c =
    let finite_y : T (finite c.args.y) = and_l (finite c.args.y) (finite c.args.x) c.requires in
    finite_no_nan c.args.y finite_y

pub scaled-requires : goal.scaled-requires
scaled-requires c =
    let left = sign_set (to_bits binary32 c.args.x) in
    subst (λ (n : ℕ). n ≤ 13176795) (sym c.chosen.ensures) (either_le left (lit≤ tt) (lit≤ tt))

pub returns-then-larger-eq0 : goal.returns-then-larger-eq0
returns-then-larger-eq0 c =
    let held_y : T (fits binary32 c.args.y) = subst T (sym c.well_formed.0.1) tt in
    let held_x : T (fits binary32 c.args.x) = subst T (sym c.well_formed.1.0.1) tt in
    atan2_zero c.args.y c.args.x held_y held_x c.requires c.chosen-larger.result c.chosen.result c.scaled.result
    c.chosen-larger.ensures c.if-larger-eq0.true c.chosen.ensures c.scaled.ensures

pub float_from_bits-chosen : goal.float_from_bits-chosen
float_from_bits-chosen c =
    let held_y : T (fits binary32 c.args.y) = subst T (sym c.well_formed.0.1) tt in
    let held_x : T (fits binary32 c.args.x) = subst T (sym c.well_formed.1.0.1) tt in
    let finite_y : T (finite c.args.y) = and_l (finite c.args.y) (finite c.args.x) c.requires in
    let finite_x : T (finite c.args.x) = and_r (finite c.args.y) (finite c.args.x) c.requires in
    let under_x : bare (to_bits binary32 c.args.x) < 2139095040 = bare_lt c.args.x held_x finite_x in
    let under_y : bare (to_bits binary32 c.args.y) < 2139095040 = bare_lt c.args.y held_y finite_y in
    let small_lt : c.chosen-2.result < 2139095040 = subst (λ (n : ℕ). n < 2139095040) (sym c.chosen-2.ensures)
    (patterns_lt (bare (to_bits binary32 c.args.x)) (bare (to_bits binary32 c.args.y)) under_x under_y).0 in
    pattern_no_nan c.chosen-2.result small_lt

pub float_from_bits-larger : goal.float_from_bits-larger
float_from_bits-larger c =
    let held_y : T (fits binary32 c.args.y) = subst T (sym c.well_formed.0.1) tt in
    let held_x : T (fits binary32 c.args.x) = subst T (sym c.well_formed.1.0.1) tt in
    let finite_y : T (finite c.args.y) = and_l (finite c.args.y) (finite c.args.x) c.requires in
    let finite_x : T (finite c.args.x) = and_r (finite c.args.y) (finite c.args.x) c.requires in
    let under_x : bare (to_bits binary32 c.args.x) < 2139095040 = bare_lt c.args.x held_x finite_x in
    let under_y : bare (to_bits binary32 c.args.y) < 2139095040 = bare_lt c.args.y held_y finite_y in
    let large_lt : c.chosen-larger.result < 2139095040 = subst (λ (n : ℕ). n < 2139095040) (sym c.chosen-larger.ensures)
    (patterns_lt (bare (to_bits binary32 c.args.x)) (bare (to_bits binary32 c.args.y)) under_x under_y).1 in
    pattern_no_nan c.chosen-larger.result large_lt

pub ratio-w-requires : goal.ratio-w-requires
ratio-w-requires c =
    let held_y : T (fits binary32 c.args.y) = subst T (sym c.well_formed.0.1) tt in
    let held_x : T (fits binary32 c.args.x) = subst T (sym c.well_formed.1.0.1) tt in
    let finite_y : T (finite c.args.y) = and_l (finite c.args.y) (finite c.args.x) c.requires in
    let finite_x : T (finite c.args.x) = and_r (finite c.args.y) (finite c.args.x) c.requires in
    let under_x : bare (to_bits binary32 c.args.x) < 2139095040 = bare_lt c.args.x held_x finite_x in
    let under_y : bare (to_bits binary32 c.args.y) < 2139095040 = bare_lt c.args.y held_y finite_y in
    patterns_sorted (bare (to_bits binary32 c.args.x)) (bare (to_bits binary32 c.args.y)) c.chosen-2.result c.chosen-larger.result
    under_x under_y (omega (arith, c.if-larger-eq0.false)) c.chosen-2.ensures c.chosen-larger.ensures

pub returns : goal.returns
returns c =
    let held_y : T (fits binary32 c.args.y) = subst T (sym c.well_formed.0.1) tt in
    let held_x : T (fits binary32 c.args.x) = subst T (sym c.well_formed.1.0.1) tt in
    let finite_y : T (finite c.args.y) = and_l (finite c.args.y) (finite c.args.x) c.requires in
    let finite_x : T (finite c.args.x) = and_r (finite c.args.y) (finite c.args.x) c.requires in
    let under_x : bare (to_bits binary32 c.args.x) < 2139095040 = bare_lt c.args.x held_x finite_x in
    let under_y : bare (to_bits binary32 c.args.y) < 2139095040 = bare_lt c.args.y held_y finite_y in
    let large_lt : c.chosen-larger.result < 2139095040 = subst (λ (n : ℕ). n < 2139095040) (sym c.chosen-larger.ensures)
    (patterns_lt (bare (to_bits binary32 c.args.x)) (bare (to_bits binary32 c.args.y)) under_x under_y).1 in
    let small_lt : c.chosen-2.result < 2139095040 = subst (λ (n : ℕ). n < 2139095040) (sym c.chosen-2.ensures)
    (patterns_lt (bare (to_bits binary32 c.args.x)) (bare (to_bits binary32 c.args.y)) under_x under_y).0 in
    atan2_is c.args.y c.args.x held_y held_x c.requires c.chosen-2.result c.chosen-larger.result
    c.ratio-w.result c.angle.result c.scaled-2.result
    c.chosen-2.ensures c.chosen-larger.ensures small_lt large_lt c.ratio-w.ensures.0
    c.angle.ensures.0 c.scaled-2.ensures
