-- `joints::admit_fk` meets its contract: what the first pass lets through is finite too.
use Rattle.std.specs.Prelude.{◌&&◌}
use Rattle.joints.specs.Configured.{finite_configuration, permitted_configuration, finite_joints, permitted_joints}
use Rattle.joints.specs.Forward.{fk_refusal}
use Rattle.joints.proofs.OnePass.{joints_and_configuration}
use Rattle.numbers.proofs.OnePass.{let_through, kept_out}
use Rattle.joints.proofs.admit_fk.Goals as goal

pub returns-then-permitted : goal.returns-then-permitted
unfolding fk_refusal
returns-then-permitted c =
    let a = c.args in
    let p = simp (c.permitted.ensures, c.joints_permitted.ensures) at c.if-permitted.true in
    let_through (joints_and_configuration a.joints a.config p) p

pub returns-else-permitted : goal.returns-else-permitted
unfolding fk_refusal
returns-else-permitted c =
    let a = c.args in
    let p = simp (c.permitted.ensures, c.joints_permitted.ensures) at c.if-permitted.false in
    simp (c.outside.ensures, c.finite.ensures, c.joints_finite.ensures)
    (kept_out
    (finite_joints a.joints && finite_configuration a.config)
    (permitted_joints a.joints && permitted_configuration a.config)
    p)
