-- `taught::list` meets its contract.
use Rattle.taught.proofs.Calls.{sees, listed_good, listed_bad}
use borrow.Author.Rules.{rules}
use Rattle.taught.proofs.list.Goals as goal

pub returns-in_err-seen : goal.returns-in_err-seen
returns-in_err-seen c = search (rules, listed_bad c.args.room.now c.in_err-seen.field-0.0 c.in_err-seen.ensures)

pub ids-requires : goal.ids-requires
ids-requires c = (sees _ _ _ c.in_ok-seen.ensures).long

pub returns : goal.returns
returns c = listed_good _ _ _ c.in_ok-seen.ensures c.ids.ensures
