-- `joints::admit_ik` meets its contract: what the first pass lets through is finite too.
use Rattle.std.specs.Prelude.{◌&&◌}
use Rattle.numbers.specs.Limits.{foot_limit}
use Rattle.legs.specs.Legs.{finite_feet, permitted_feet}
use Rattle.joints.specs.Configured.{finite_configuration, permitted_configuration}
use Rattle.joints.specs.Inverse.{ik_refusal}
use Rattle.joints.proofs.OnePass.{feet_and_configuration}
use Rattle.numbers.proofs.OnePass.{let_through, kept_out}
use Rattle.joints.proofs.admit_ik.Goals as goal

pub returns-then-permitted : goal.returns-then-permitted
unfolding ik_refusal
returns-then-permitted c =
    let a = c.args in
    let p = simp (c.permitted.ensures, c.feet_permitted.ensures, c.foot_limit-foot.ensures) at c.if-permitted.true in
    let_through (feet_and_configuration a.feet a.config p) p

pub returns-else-permitted : goal.returns-else-permitted
unfolding ik_refusal
returns-else-permitted c =
    let a = c.args in
    let p =
    simp (c.permitted.ensures, c.feet_permitted.ensures, c.foot_limit-foot.ensures)
    at c.if-permitted.false
    in
    simp (c.outside.ensures, c.finite.ensures, c.feet_finite.ensures)
    (kept_out
    (finite_feet a.feet && finite_configuration a.config)
    (permitted_feet foot_limit a.feet && permitted_configuration a.config)
    p)
