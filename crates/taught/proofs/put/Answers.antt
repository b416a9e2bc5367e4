-- `taught::put` meets its contract: over the pose that stands under the id, or between the others.
use native.Mathlib.Omega.{arith}
use mathlib.Core.Path.{◌∙◌}
use borrow.Author.Rules.{rules}
use Rattle.taught.proofs.Calls.{may_put, there_below, put_bad, put_away, put_over, put_between, put_number_lem, let_in}
use Rattle.taught.proofs.put.Goals as goal

pub returns-in_err-seen : goal.returns-in_err-seen
returns-in_err-seen c = search (rules, put_bad c.args.room.now c.args.id c.in_err-seen.field-0.0 c.args.pose c.in_err-seen.ensures)

pub returns-in_err-admit_put : goal.returns-in_err-admit_put
returns-in_err-admit_put c = search (
  rules,
  put_away c.args.room.now c.args.id c.in_err-admit_put.field-0.0 c.in_ok-seen.seen c.in_ok-seen.ensures c.args.pose
      c.in_err-admit_put.ensures,
)

pub overflow_mul-at : goal.overflow_mul-at
overflow_mul-at c =
    let known = may_put _ _ _ c.in_ok-seen.ensures c.args.pose c.in_ok-admit_put.ensures in omega (arith, known.within, known.few)

pub put_place-requires : goal.put_place-requires
put_place-requires c =
    let known = may_put _ _ _ c.in_ok-seen.ensures c.args.pose c.in_ok-admit_put.ensures in
    let below = there_below _ _ _ known.seen c.if-seen.true in
    (omega (arith, below, known.few, known.long), known.finite)

pub returns-then-seen : goal.returns-then-seen
returns-then-seen c =
    let is = c.in_ok-seen.ensures in
    let none = c.in_ok-admit_put.ensures in
    let known = may_put _ _ _ is c.args.pose none in
    let s = c.in_ok-seen.seen in
    let_in _ _ _ _ _ (none ∙ put_number_lem c.args.room.now c.args.id s is c.args.pose)
    (put_over c.args.room.now c.args.id s known.seen c.args.pose _ c.if-seen.true c.put_place.ensures)

pub overflow_mul-seen : goal.overflow_mul-seen
overflow_mul-seen c = let known = may_put _ _ _ c.in_ok-seen.ensures c.args.pose c.in_ok-admit_put.ensures in omega (arith, known.few)

pub move_up-requires : goal.move_up-requires
move_up-requires c =
    let known = may_put _ _ _ c.in_ok-seen.ensures c.args.pose c.in_ok-admit_put.ensures in
    let few = known.not_full c.if-seen.false in
    (omega (arith, known.within), omega (arith, few, known.long))

pub put_place-requires-2 : goal.put_place-requires-2
put_place-requires-2 c =
    let known = may_put _ _ _ c.in_ok-seen.ensures c.args.pose c.in_ok-admit_put.ensures in
    let few = known.not_full c.if-seen.false in
    (search (rules, few, known.within, known.long), known.finite)

pub returns : goal.returns
returns c =
    let is = c.in_ok-seen.ensures in
    let none = c.in_ok-admit_put.ensures in
    let known = may_put _ _ _ is c.args.pose none in
    let s = c.in_ok-seen.seen in
    let_in _ _ _ _ _ (none ∙ put_number_lem c.args.room.now c.args.id s is c.args.pose)
    (put_between c.args.room.now c.args.id s known.seen c.args.pose _ _ c.if-seen.false
    (known.not_full c.if-seen.false) c.move_up.ensures c.put_place-2.ensures)
