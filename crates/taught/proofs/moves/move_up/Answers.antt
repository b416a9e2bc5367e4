-- `taught::moves::move_up` meets its contract.
use mathlib.Core.Path.{◌∙◌}
use Rattle.taught.proofs.Moving.{moved_up}
use Rattle.taught.proofs.moves.move_up.Goals as goal

pub returns : goal.returns
returns c = c.copy_within.ensures.after ∙ moved_up c.args.room.now c.args.from c.args.to c.requires.0
