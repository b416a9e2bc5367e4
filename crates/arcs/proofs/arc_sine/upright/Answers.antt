-- `arcs::arc_sine::upright` meets its contract: a quarter turn less or plus the arc sine, then rounded to units of 2 ^ -22.
use native.Mathlib.Omega.{arith}
use mathlib.Core.Path.{subst, sym}
use Rattle.std.specs.Prelude.{ℕ, ◌≤◌}
use Rattle.arcs.proofs.Ranges.{beside_le, upright_is}
use Rattle.arcs.proofs.arc_sine.upright.Goals as goal

pub overflow_add-result : goal.overflow_add-result
overflow_add-result c =
    let h = beside_le c.args.left c.arc_sine-t.result c.arc_sine-t.ensures.1 in
    let k = subst (λ (n : ℕ). n ≤ 2536629713) (sym c.chosen.ensures) h in
    omega arith

pub returns : goal.returns
returns c =
    let s = c.args in
    let t = c.arc_sine-t in
    upright_is s.left s.w t.result c.chosen.result t.ensures.0 t.ensures.1 c.chosen.ensures
