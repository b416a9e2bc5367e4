-- `wholes::Step::sideways` meets its contract: nothing on the way passes 31 bits, and the shift rounds down.
use Rattle.wholes.proofs.Steps.{InRange, way_read_fits, part_read_fits, sideways_fits, sideways_read}
use Rattle.wholes.proofs.Step.sideways.Goals as goal

pub overflow_sub-result : goal.overflow_sub-result
overflow_sub-result c =
    let good : InRange c.args.start c.args.target c.args.self.progress =
    record { start = c.requires.0; target = c.requires.1; progress = c.args.self.at_most_done } in
    way_read_fits c.args.start c.args.target c.args.self.progress good

pub overflow_mul-result : goal.overflow_mul-result
overflow_mul-result c =
    let good : InRange c.args.start c.args.target c.args.self.progress =
    record { start = c.requires.0; target = c.requires.1; progress = c.args.self.at_most_done } in
    part_read_fits c.args.start c.args.target c.args.self.progress good

pub overflow_add-result : goal.overflow_add-result
overflow_add-result c =
    let good : InRange c.args.start c.args.target c.args.self.progress =
    record { start = c.requires.0; target = c.requires.1; progress = c.args.self.at_most_done } in
    sideways_fits c.args.start c.args.target c.args.self.progress good

pub returns : goal.returns
returns c =
    let good : InRange c.args.start c.args.target c.args.self.progress =
    record { start = c.requires.0; target = c.requires.1; progress = c.args.self.at_most_done } in
    sideways_read c.args.start c.args.target c.args.self.progress good
