-- `walks::unchecked::walk_feet` meets its contract: the slow feet's count is the six feet's.
use borrow.Author.Rules.{rules}
use Rattle.walks.proofs.Given.{aimed, set_out}
use Rattle.walks.proofs.Ends.{feet_end}
use Rattle.walks.proofs.Fits.{points_fit}
use Rattle.walks.proofs.SlowOnes.{slow_reach, slow_count}
use Rattle.walks.proofs.unchecked.walk_feet.Goals as goal

pub walk_in_rounds-requires : goal.walk_in_rounds-requires
walk_in_rounds-requires c =
    slow_reach c.args.max_move c.args.start c.args.target c.slow_ones.result
    c.slow_ones.ensures c.requires

pub returns : goal.returns
returns c =
    let a = c.args in
    let owned = c.well_formed.1 in
    let fits_start = points_fit a.start owned.0 in
    let fits_target = points_fit a.target owned.1.0 in
    let e = feet_end a.max_move a.start a.target (search rules) fits_start fits_target c.requires in
    slow_count a.max_move a.start a.target c.slow_ones.result c.slow_ones.ensures
    (λ f. aimed _ _ _ (c.requires f) (search rules) (fits_start f) (fits_target f))
    (λ f. set_out _ _ _ (c.requires f) (search rules) (fits_start f) (fits_target f))
    _ e.0 c.walk_in_rounds.ensures e.1
