-- `walks::unchecked::walk` meets its contract: the loop keeps `Going`, and S falls with every step that moves. A step is `move_towards`,
-- by its first test.
use Rattle.walks.specs.Walk.{spread}
use Rattle.walks.proofs.Loop.{Going}
use Rattle.walks.proofs.unchecked.walk.Given as goal

abbrev pub invariant-loop-target : goal.invariant-loop-target
invariant-loop-target l = Going l.max_move l.initial.last l.target l.last l.count

abbrev pub decreases-loop-target : goal.decreases-loop-target
decreases-loop-target l = spread l.last l.target
