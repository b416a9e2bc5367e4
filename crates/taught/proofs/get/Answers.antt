-- `taught::get` meets its contract: the pose of the place where the id stands.
use native.Mathlib.Omega.{arith}
use borrow.Author.Rules.{rules}
use Rattle.taught.proofs.Calls.{get_bad, get_away, found_in, got}
use Rattle.taught.proofs.get.Goals as goal

pub returns-in_err-seen : goal.returns-in_err-seen
returns-in_err-seen c = search (rules, get_bad c.args.room.now c.args.id c.in_err-seen.field-0.0 c.in_err-seen.ensures)

pub returns-in_err-admit_find : goal.returns-in_err-admit_find
returns-in_err-admit_find c = search (
  rules,
  get_away c.args.room.now c.args.id c.in_err-admit_find.field-0.0 c.in_ok-seen.seen c.in_ok-seen.ensures c.in_err-admit_find.ensures,
)

pub overflow_mul-seen : goal.overflow_mul-seen
overflow_mul-seen c = let at = found_in _ _ _ c.in_ok-seen.ensures c.in_ok-admit_find.ensures in omega (arith, at.below, at.few)

pub overflow_add-seen : goal.overflow_add-seen
overflow_add-seen c = let at = found_in _ _ _ c.in_ok-seen.ensures c.in_ok-admit_find.ensures in omega (arith, at.below, at.few)

pub feet_at-requires : goal.feet_at-requires
feet_at-requires c = let at = found_in _ _ _ c.in_ok-seen.ensures c.in_ok-admit_find.ensures in omega (arith, at.below, at.few, at.long)

pub returns : goal.returns
returns c = got _ _ _ c.in_ok-seen.ensures _ c.in_ok-admit_find.ensures c.feet_at.ensures
