-- `walks::walk_feet` meets its contract: refused, or the core's count, for which the door let the numbers in.
use mathlib.Core.Path.{sym}
use borrow.Author.Rules.{rules}
use Rattle.walks.proofs.Fits.{feet_fit}
use Rattle.walks.proofs.Door.{let_feet_in}
use Rattle.walks.proofs.Counted.{counted, not_counted}
use Rattle.walks.proofs.walk_feet.Goals as goal

pub walk_feet-requires : goal.walk_feet-requires
walk_feet-requires c =
    let a = c.args in
    let owned = c.well_formed.1 in
    simp (c.points_of-to.ensures, c.points_of-from.ensures)
    (let_feet_in _ _ _ (search rules) (feet_fit a.start owned.0) (feet_fit a.target owned.1.0)
    (sym c.in_ok-admit_walk_feet.ensures))

pub returns-in_err-admit_walk_feet : goal.returns-in_err-admit_walk_feet
returns-in_err-admit_walk_feet c = not_counted _ _ _ _ c.in_err-admit_walk_feet.ensures (search rules)

pub returns : goal.returns
returns c =
    counted _ _ _ c.in_ok-admit_walk_feet.ensures
    (simp (← c.points_of-to.ensures, ← c.points_of-from.ensures) c.walk_feet.ensures)
