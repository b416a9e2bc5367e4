-- `moves::admit_move` meets its contract: the table's rows have finite ends.
use Rattle.moves.specs.Refusals.{move_refusal}
use Rattle.moves.proofs.OnePass.{foot_ends, max_move_ends}
use Rattle.moves.proofs.admit_move.Goals as goal

pub admit-requires : goal.admit-requires
admit-requires c = record {
  place_ends = simp c.foot_limit-place.ensures foot_ends;
  longest_ends = simp c.max_move-longest.ensures max_move_ends;
}

pub returns : goal.returns
unfolding move_refusal
returns c = simp (← c.foot_limit-place.ensures, ← c.max_move-longest.ensures) c.admit.ensures
