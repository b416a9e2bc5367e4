-- `taught::moves::move_down` meets its contract.
use mathlib.Core.Path.{◌∙◌}
use Rattle.taught.proofs.Moving.{moved_down}
use Rattle.taught.proofs.moves.move_down.Goals as goal

pub returns : goal.returns
returns c = c.copy_within.ensures.after ∙ moved_down c.args.room.now c.args.from c.args.to c.requires.0
