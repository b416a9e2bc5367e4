-- `legs::admit_merge` meets its contract: what is permitted is finite too, and the mask's test comes last.
use Rattle.std.specs.Prelude.{◌&&◌}
use Rattle.numbers.specs.Limits.{foot_limit}
use Rattle.numbers.proofs.OnePass.{let_through_to, kept_out_of}
use Rattle.legs.specs.Legs.{finite_feet, permitted_feet}
use Rattle.legs.specs.Merge.{merge_refusal}
use Rattle.legs.proofs.OnePass.{two_feet}
use Rattle.legs.proofs.admit_merge.Goals as goal

pub returns-then-feet_in_limits : goal.returns-then-feet_in_limits
unfolding merge_refusal
returns-then-feet_in_limits c =
    let a = c.args in
    let p =
    simp (c.feet_in_limits-2.ensures, c.feet_in_limits.ensures)
    at c.if-feet_in_limits.true in
    simp c.admit_mask.ensures (let_through_to _ (two_feet a.a a.b p) p)

pub returns-else-feet_in_limits : goal.returns-else-feet_in_limits
unfolding merge_refusal
returns-else-feet_in_limits c =
    let a = c.args in
    let p =
    simp (c.feet_in_limits-2.ensures, c.feet_in_limits.ensures)
    at c.if-feet_in_limits.false in
    simp (c.outside.ensures, c.feet_finite-else-feet_in_limits.ensures, c.feet_finite.ensures)
    (kept_out_of (finite_feet a.a && finite_feet a.b) (permitted_feet foot_limit a.a && permitted_feet foot_limit a.b) _ p)
