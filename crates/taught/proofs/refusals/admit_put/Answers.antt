-- `taught::refusals::admit_put` meets its contract: the pose, then the id.
use mathlib.Core.Path.{sym, ◌∙◌}
use borrow.Author.Rules.{rules}
use borrow.Author.Tests.{not-false}
use Rattle.std.proofs.lemmas.Bool.{not_from_true}
use Rattle.taught.proofs.InOrder.{pose_taken, id_0, room_for}
use Rattle.taught.proofs.refusals.admit_put.Goals as goal

pub returns-in_err-ensure : goal.returns-in_err-ensure
returns-in_err-ensure c =
    let good = sym c.feet_in_limits.ensures ∙ not-false _ (not_from_true _ c.if-not-feet_in_limits.false) in
    search (rules, id_0 c.args.id c.in_err-ensure.field-0.0 _ c.in_err-ensure.ensures ∙ pose_taken c.args.seen c.args.id c.args.pose good)

pub returns : goal.returns
returns c =
    let good = sym c.feet_in_limits.ensures ∙ not-false _ (not_from_true _ c.if-not-feet_in_limits.false) in
    room_for c.args.seen c.args.id _ c.in_ok-ensure.ensures c.ensure-2.ensures ∙ pose_taken c.args.seen c.args.id c.args.pose good
