-- `arcs::unchecked::arc_cosine` meets its contract: inside the table it is `inside_arc_cosine`, outside it +0; the band is a law of
-- `arc_cosine`.
use Rattle.std.specs.Prelude.{◌≡◌, T}
use mathlib.Core.Path.{ap}
use Rattle.numbers.specs.Door.{permits}
use Rattle.numbers.specs.Limits.{arc_cosine_argument}
use Rattle.numbers.specs.declared.door.Limit.{Limit}
use mathlib.Core.Path.{sym, subst}
use lib.Ieee.{binary32, fits}
use mathlib.Core.Path.{◌∙◌}
use Rattle.arcs.proofs.Answers.{outside_is, arc_cosine_both}
use Rattle.arcs.proofs.unchecked.arc_cosine.Goals as goal

pub inside_arc_cosine-requires : goal.inside_arc_cosine-requires
inside_arc_cosine-requires c =
    let test : c.is_permitted.result ≡ permits arc_cosine_argument c.args.q =
    c.is_permitted.ensures ∙ ap (λ (l : Limit). permits l c.args.q) c.arc_cosine_argument.ensures in
    let passed : T (permits arc_cosine_argument c.args.q) = subst T (sym (sym test ∙ c.if-is_permitted.true)) tt in
    passed

pub returns-then-is_permitted : goal.returns-then-is_permitted
returns-then-is_permitted c =
    let test : c.is_permitted.result ≡ permits arc_cosine_argument c.args.q =
    c.is_permitted.ensures ∙ ap (λ (l : Limit). permits l c.args.q) c.arc_cosine_argument.ensures in
    let passed : T (permits arc_cosine_argument c.args.q) = subst T (sym (sym test ∙ c.if-is_permitted.true)) tt in
    let held : T (fits binary32 c.args.q) = subst T (sym c.well_formed.0.1) tt in
    let told =
    arc_cosine_both c.args.q c.inside_arc_cosine.result held c.inside_arc_cosine.ensures in
    record { exact = told.0; band = told.1 }

pub returns-else-is_permitted : goal.returns-else-is_permitted
returns-else-is_permitted c =
    let test : c.is_permitted.result ≡ permits arc_cosine_argument c.args.q =
    c.is_permitted.ensures ∙ ap (λ (l : Limit). permits l c.args.q) c.arc_cosine_argument.ensures in
    let held : T (fits binary32 c.args.q) = subst T (sym c.well_formed.0.1) tt in
    let told =
    arc_cosine_both c.args.q _ held
    (outside_is c.args.q (sym test ∙ c.if-is_permitted.false)) in
    record { exact = told.0; band = told.1 }
