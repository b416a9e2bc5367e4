-- `walks::walk` meets its contract: refused, or the core's count, for which the door let the numbers in.
use mathlib.Core.Path.{sym}
use borrow.Author.Rules.{rules}
use Rattle.walks.proofs.Door.{let_in}
use Rattle.walks.proofs.Counted.{counted, not_counted}
use Rattle.walks.proofs.walk.Goals as goal

pub walk-requires : goal.walk-requires
walk-requires c =
    let_in _ _ _ (search rules) (search rules, search rules, search rules) (search rules, search rules, search rules)
    (sym c.in_ok-admit_walk.ensures)

pub returns-in_err-admit_walk : goal.returns-in_err-admit_walk
returns-in_err-admit_walk c = not_counted _ _ _ _ c.in_err-admit_walk.ensures (search rules)

pub returns : goal.returns
returns c = counted _ _ _ c.in_ok-admit_walk.ensures c.walk.ensures
