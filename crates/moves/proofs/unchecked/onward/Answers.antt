-- `moves::unchecked::onward` meets its contract, by its one test: the three ways are those of the distance and of the step.
use Rattle.moves.specs.Distance.{square_sum, distance}
use Rattle.moves.specs.Moving.{component, along, nearer}
use Rattle.moves.proofs.unchecked.onward.Goals as goal

pub returns-then-d-max_move : goal.returns-then-d-max_move
unfolding nearer distance square_sum
returns-then-d-max_move c = simp (← c.square_root-d.ensures, c.if-d-max_move.true)

pub returns : goal.returns
unfolding nearer along component distance square_sum
returns c = simp (← c.square_root-d.ensures, c.if-d-max_move.false)
