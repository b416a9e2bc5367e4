-- `walks::unchecked::walk_in_rounds` meets its contract: the loop keeps `Striding`, whose count of rounds is bounded. Where one foot is
-- still lifted after a round, not all had arrived before it.
use Rattle.std.specs.Prelude.{◌-◌}
use Rattle.legs.specs.Legs.{points}
use Rattle.walks.proofs.Strides.{Striding}
use Rattle.walks.proofs.unchecked.walk_in_rounds.Given as goal

abbrev pub invariant-loop-next : goal.invariant-loop-next
invariant-loop-next l = Striding l.max_move (points l.initial.last) l.target l.last l.rounds

abbrev pub decreases-loop-next : goal.decreases-loop-next
decreases-loop-next l = 147457 - l.rounds
