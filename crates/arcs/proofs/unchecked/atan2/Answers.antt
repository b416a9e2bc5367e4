-- `arcs::unchecked::atan2` meets its contract: of finite numbers it is `finite_atan2`, else +0; the band is a law of `atan2`.
use Rattle.std.specs.Prelude.{◌≡◌, Bool, ◌&&◌, T}
use mathlib.Core.Path.{ap₂}
use Rattle.numbers.specs.Door.{finite}
use mathlib.Core.Path.{sym, subst}
use lib.Ieee.{binary32, fits}
use mathlib.Core.Path.{◌∙◌}
use Rattle.arcs.proofs.Answers.{not_finite_is, atan2_both}
use Rattle.arcs.proofs.unchecked.atan2.Goals as goal

pub finite_atan2-requires : goal.finite_atan2-requires
finite_atan2-requires c =
    let test : (c.is_finite.result && c.is_finite-2.result) ≡ (finite c.args.y && finite c.args.x) =
    ap₂ (λ (a b : Bool). a && b) c.is_finite.ensures c.is_finite-2.ensures in
    let passed : T (finite c.args.y && finite c.args.x) = subst T (sym (sym test ∙ c.if-is_finite.true)) tt in
    passed

pub returns-then-is_finite : goal.returns-then-is_finite
returns-then-is_finite c =
    let test : (c.is_finite.result && c.is_finite-2.result) ≡ (finite c.args.y && finite c.args.x) =
    ap₂ (λ (a b : Bool). a && b) c.is_finite.ensures c.is_finite-2.ensures in
    let passed : T (finite c.args.y && finite c.args.x) = subst T (sym (sym test ∙ c.if-is_finite.true)) tt in
    let held_y : T (fits binary32 c.args.y) = subst T (sym c.well_formed.0.1) tt in
    let held_x : T (fits binary32 c.args.x) = subst T (sym c.well_formed.1.0.1) tt in
    let told =
    atan2_both c.args.y c.args.x c.finite_atan2.result held_y held_x c.finite_atan2.ensures in
    record { exact = told.0; band = told.1 }

pub returns-else-is_finite : goal.returns-else-is_finite
returns-else-is_finite c =
    let test : (c.is_finite.result && c.is_finite-2.result) ≡ (finite c.args.y && finite c.args.x) =
    ap₂ (λ (a b : Bool). a && b) c.is_finite.ensures c.is_finite-2.ensures in
    let held_y : T (fits binary32 c.args.y) = subst T (sym c.well_formed.0.1) tt in
    let held_x : T (fits binary32 c.args.x) = subst T (sym c.well_formed.1.0.1) tt in
    let told =
    atan2_both c.args.y c.args.x _ held_y held_x
    (not_finite_is c.args.y c.args.x (sym test ∙ c.if-is_finite.false)) in
    record { exact = told.0; band = told.1 }
