-- `arcs::angle::angle` meets its contract: a half turn less the angle where x is negative, then rounded to units of 2 ^ -22.
use native.Mathlib.Omega.{arith}
use mathlib.Core.Path.{subst, sym}
use Rattle.std.specs.Prelude.{ℕ, ◌≤◌}
use Rattle.arcs.specs.How.{half}
use Rattle.arcs.proofs.Ranges.{wide_le, angle_is}
use Rattle.arcs.proofs.angle.angle.Goals as goal

pub overflow_add-result : goal.overflow_add-result
overflow_add-result c =
    let t = c.sharp-t.result in
    let h = wide_le c.args.left t c.sharp-t.ensures.1 in
    let k = subst (λ (n : ℕ). n ≤ half) (sym c.chosen.ensures) h in
    omega arith

pub returns : goal.returns
returns c =
    let s = c.args in
    let t = c.sharp-t in
    angle_is s.steep s.left s.w t.result c.chosen.result t.ensures.0 t.ensures.1 c.chosen.ensures
