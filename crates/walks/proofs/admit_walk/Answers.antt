-- `walks::admit_walk` meets its contract: the table's rows have finite ends.
use Rattle.walks.specs.Answers.{walk_refusal}
use Rattle.walks.proofs.OnePass.{walk_foot_ends, walk_move_ends}
use Rattle.walks.proofs.admit_walk.Goals as goal

pub admit-requires : goal.admit-requires
admit-requires c = record {
  place_ends = simp c.walk_foot-place.ensures walk_foot_ends;
  longest_ends = simp c.walk_move-longest.ensures walk_move_ends;
}

pub returns : goal.returns
unfolding walk_refusal
returns c = simp (← c.walk_foot-place.ensures, ← c.walk_move-longest.ensures) c.admit.ensures
