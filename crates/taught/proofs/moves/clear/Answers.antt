-- `taught::moves::clear` meets its contract.
use Rattle.taught.proofs.Moving.{set_to_0}
use Rattle.taught.proofs.moves.clear.Goals as goal

pub returns : goal.returns
returns c = set_to_0 c.args.room.now c.fill.new.self c.args.from c.args.to c.requires.0 c.requires.1 (c.fill.ensures.after (λ y e. e))
