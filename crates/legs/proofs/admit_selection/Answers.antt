-- `legs::admit_selection` meets its contract: what is permitted is finite too, and the mask's test comes last.
use Rattle.numbers.specs.Limits.{foot_limit}
use Rattle.numbers.proofs.OnePass.{let_through_to, kept_out_of}
use Rattle.legs.specs.Legs.{finite_feet, permitted_feet}
use Rattle.legs.specs.Select.{select_refusal}
use Rattle.legs.proofs.OnePass.{in_feet_row}
use Rattle.legs.proofs.admit_selection.Goals as goal

pub returns-then-feet_in_limits : goal.returns-then-feet_in_limits
unfolding select_refusal
returns-then-feet_in_limits c =
    let p = simp c.feet_in_limits.ensures at c.if-feet_in_limits.true in
    simp c.admit_mask.ensures (let_through_to _ (in_feet_row c.args.feet p) p)

pub returns-else-feet_in_limits : goal.returns-else-feet_in_limits
unfolding select_refusal
returns-else-feet_in_limits c =
    let f = c.args.feet in
    let p = simp c.feet_in_limits.ensures at c.if-feet_in_limits.false in
    simp (c.outside.ensures, c.feet_finite.ensures) (kept_out_of (finite_feet f) (permitted_feet foot_limit f) _ p)
