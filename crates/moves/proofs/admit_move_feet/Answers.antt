-- `moves::admit_move_feet` meets its contract: the table's rows have finite ends.
use Rattle.moves.specs.Refusals.{move_feet_refusal}
use Rattle.moves.proofs.OnePass.{foot_ends, max_move_ends}
use Rattle.moves.proofs.admit_move_feet.Goals as goal

pub admit-requires : goal.admit-requires
admit-requires c = record {
  place_ends = simp c.foot_limit-place.ensures foot_ends;
  longest_ends = simp c.max_move-longest.ensures max_move_ends;
}

pub returns : goal.returns
unfolding move_feet_refusal
returns c = simp (← c.foot_limit-place.ensures, ← c.max_move-longest.ensures) c.admit.ensures
