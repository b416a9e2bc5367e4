-- `taught::moves::put_place` meets its contract: the pose behind the id.
use mathlib.Core.Path.{ap, ◌∙◌}
use Rattle.std.specs.Prelude.{ℕ, ◌+◌, List}
use lib.Seq.{sets}
use Rattle.numbers.proofs.Stores.{stores_append}
use Rattle.packed.specs.Packed.{pair_bytes, feet_bytes}
use Rattle.taught.proofs.moves.put_place.Goals as goal

pub returns : goal.returns
returns c =
    c.put_feet.ensures ∙ ap (λ (m : List ℕ). sets m (c.args.at + 2) (feet_bytes c.args.pose))
    c.put_pair.ensures ∙ stores_append c.args.room.now c.args.at (pair_bytes c.args.id) (feet_bytes c.args.pose)
