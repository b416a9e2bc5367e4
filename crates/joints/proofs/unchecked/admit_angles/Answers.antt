-- `joints::unchecked::admit_angles` meets its contract: the test of each leg is that of its coxa's angle.
use borrow.Author.Rules.{rules}
use Rattle.legs.specs.Legs.{at}
use Rattle.joints.specs.Inverse.{past_refusal}
use Rattle.joints.specs.How.{past_refusals}
use Rattle.joints.proofs.unchecked.admit_angles.Goals as goal

pub returns : goal.returns
unfolding past_refusals
returns c = c.all_pass.ensures (λ l. past_refusal (at c.args.six l).target_angle) (λ l a e. search rules)
