-- `planner::unchecked::step_with_relaxed_transformation` meets its contract: what each call gives is the part of the plan that it computes.
use Rattle.planner.specs.Plan.{between}
use Rattle.planner.proofs.Together.{together}
use Rattle.planner.proofs.Bits.{two_bits}
use Rattle.planner.proofs.unchecked.step_with_relaxed_transformation.Goals as goal

pub returns : goal.returns
unfolding between
returns c =
    let a = c.args in
    simp (
      two_bits,
      c.applied_feet.ensures,
      c.ready_feet.ensures,
      c.turn-second.ensures,
      c.chosen-2.ensures,
      c.turn-first.ensures,
      c.chosen.ensures,
      c.is_lrl-lrl.ensures,
      c.average_rotation-average.ensures,
      c.in_row-2.ensures,
      c.in_row.ensures,
      c.between-translation.ensures,
      c.center_point-relaxed_center_point.ensures,
      c.summed-2.ensures,
      c.center_point-start_center_point.ensures,
      c.summed.ensures,
    )
    (together a.start a.relaxed a.lifted_tripod a.command)
