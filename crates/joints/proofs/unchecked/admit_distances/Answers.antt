-- `joints::unchecked::admit_distances` meets its contract: the test of each leg is that of its foot's distance.
use borrow.Author.Rules.{rules}
use Rattle.legs.specs.Legs.{at}
use Rattle.joints.specs.Strict.{distance_refusal}
use Rattle.joints.specs.How.{reach_refusals}
use Rattle.joints.proofs.unchecked.admit_distances.Goals as goal

pub returns : goal.returns
unfolding reach_refusals
returns c =
    simp (← c.farthest-far.ensures, ← c.nearest-near.ensures)
    (c.all_pass.ensures
    (λ l. distance_refusal (at c.args.six l).distances.distance c.farthest-far.result c.nearest-near.result)
    (λ l a e. search rules))
