-- `taught::drop` meets its contract: the places behind go onto it, and the last used one becomes 0.
use Rattle.std.specs.Prelude.{◌≡◌, ◌+◌, ◌-◌, ◌*◌}
use native.Mathlib.Omega.{arith}
use mathlib.Core.Path.{◌∙◌}
use Rattle.taught.proofs.Calls.{drop_bad, drop_away, found_in, find_number_lem, dropped, let_in}
use borrow.Author.Rules.{rules}
use Rattle.taught.proofs.drop.Goals as goal

pub returns-in_err-seen : goal.returns-in_err-seen
returns-in_err-seen c = search (rules, drop_bad c.args.room.now c.args.id c.in_err-seen.field-0.0 c.in_err-seen.ensures)

pub returns-in_err-admit_find : goal.returns-in_err-admit_find
returns-in_err-admit_find c = search (
  rules,
  drop_away c.args.room.now c.args.id c.in_err-admit_find.field-0.0 c.in_ok-seen.seen c.in_ok-seen.ensures c.in_err-admit_find.ensures,
)

pub overflow_mul-last : goal.overflow_mul-last
overflow_mul-last c = let at = found_in _ _ _ c.in_ok-seen.ensures c.in_ok-admit_find.ensures in omega (arith, at.below, at.few)

pub overflow_sub-last : goal.overflow_sub-last
overflow_sub-last c = let at = found_in _ _ _ c.in_ok-seen.ensures c.in_ok-admit_find.ensures in omega (arith, at.below, at.few)

pub overflow_mul-seen : goal.overflow_mul-seen
overflow_mul-seen c = let at = found_in _ _ _ c.in_ok-seen.ensures c.in_ok-admit_find.ensures in omega (arith, at.below, at.few)

pub move_down-requires : goal.move_down-requires
move_down-requires c =
    let at = found_in _ _ _ c.in_ok-seen.ensures c.in_ok-admit_find.ensures in
    (omega (arith, at.below, at.few), omega (arith, at.below, at.few, at.long))

pub overflow_add-last : goal.overflow_add-last
overflow_add-last c = let at = found_in _ _ _ c.in_ok-seen.ensures c.in_ok-admit_find.ensures in omega (arith, at.below, at.few)

pub clear-requires : goal.clear-requires
clear-requires c =
    let at = found_in _ _ _ c.in_ok-seen.ensures c.in_ok-admit_find.ensures in
    (omega arith, search (rules, at.below, at.few, at.long))

pub returns : goal.returns
returns c =
    let is = c.in_ok-seen.ensures in
    let none = c.in_ok-admit_find.ensures in
    let at = found_in _ _ _ is none in
    let s = c.in_ok-seen.seen in
    let end : 80 * s.used - 80 + 80 ≡ 80 * s.used = omega (arith, at.below) in
    let_in _ _ _ _ _ (none ∙ find_number_lem c.args.room.now c.args.id s is)
    (dropped c.args.room.now c.args.id s at.seen (80 * s.used - 80) _ _ at.there end c.move_down.ensures c.clear.ensures)
