-- `wholes::Step::foot` meets its contract: the target where it is done, else each coordinate by its own rule.
use lib.Dec.{eqb}
use borrow.Author.Tests.{eq-eqb}
use Rattle.numbers.proofs.Flags.{where_true}
use Rattle.wholes.proofs.Door.{x_good, y_good}
use Rattle.wholes.proofs.Steps.{still_coordinate, by_coordinates}
use Rattle.wholes.proofs.Step.foot.Goals as goal

pub returns-then-is_done : goal.returns-then-is_done
returns-then-is_done c =
    let at = c.args.self in
    where_true (eqb at.progress 2048) at.target _ (eq-eqb at.progress 2048 c.if-is_done.true)

pub sideways-requires : goal.sideways-requires
sideways-requires c = (
  still_coordinate c.args.self.start.x (x_good c.args.self.start c.args.self.from_a_place),
  still_coordinate c.args.self.target.x (x_good c.args.self.target c.args.self.to_a_place),
)

pub sideways-requires-2 : goal.sideways-requires-2
sideways-requires-2 c = (
  still_coordinate c.args.self.start.y (y_good c.args.self.start c.args.self.from_a_place),
  still_coordinate c.args.self.target.y (y_good c.args.self.target c.args.self.to_a_place),
)

pub returns : goal.returns
returns c =
    by_coordinates c.args.self.start c.args.self.target c.args.self.height c.args.self.progress c.args.self.from_a_place
    c.args.self.to_a_place
    c.args.self.at_most_10_cm c.args.self.at_most_done _ _ _ c.if-is_done.false
    c.sideways.ensures c.sideways-2.ensures c.upwards.ensures
