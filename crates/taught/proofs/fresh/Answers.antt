-- `taught::fresh` meets its contract, by the room's length alone.
use borrow.Author.Rules.{rules}
use Rattle.taught.proofs.Calls.{fresh_refused, fresh_done}
use Rattle.taught.proofs.fresh.Goals as goal

pub returns-in_err-ensure : goal.returns-in_err-ensure
returns-in_err-ensure c = search (rules, fresh_refused c.args.room.now c.in_err-ensure.field-0.0 c.in_err-ensure.ensures)

pub returns : goal.returns
returns c = fresh_done c.args.room.now c.fill.new.self c.in_ok-ensure.ensures (c.fill.ensures.after (λ y e. e))
