-- `poses::names::leg_named` meets its contract. Only the likely leg's name is compared.
use mathlib.Core.Path.{sym, ap, ◌∙◌}
use Rattle.std.specs.Prelude.{Bool, Some, None}
use Rattle.numbers.specs.Told.{choose}
use Rattle.poses.proofs.Likely.{where_named, leg_by_likely}
use Rattle.poses.proofs.names.leg_named.Goals as goal

pub returns-then-is_named : goal.returns-then-is_named
returns-then-is_named c =
    let name = c.args.name.now in
    sym (
    leg_by_likely name
    ∙ ap (where_named name) (sym c.likely.ensures ∙ c.in-Some.is)
    ∙ ap (λ (b : Bool). choose b (Some c.in-Some.leg) None) (sym c.is_named.ensures ∙ c.if-is_named.true)
    )

pub returns-else-is_named : goal.returns-else-is_named
returns-else-is_named c =
    let name = c.args.name.now in
    sym (
    leg_by_likely name
    ∙ ap (where_named name) (sym c.likely.ensures ∙ c.in-Some.is)
    ∙ ap (λ (b : Bool). choose b (Some c.in-Some.leg) None) (sym c.is_named.ensures ∙ c.if-is_named.false)
    )

pub returns-in-None : goal.returns-in-None
returns-in-None c =
    let name = c.args.name.now in
    sym (leg_by_likely name ∙ ap (where_named name) (sym c.likely.ensures ∙ c.in-None.is))
