-- `wholes::step_leg` meets its contract: refusal 2 where one of the four tests fails, else the step behind the door.
use mathlib.Core.Path.{◌≡◌, ap, ap₂, ◌∙◌}
use mathlib.Core.Bool.{true}
use Prim.Native.Nat.{ℕ}
use lib.Dec.{lit≤}
use Rattle.wholes.specs.Wholes.{whole_step}
use Rattle.wholes.specs.Answers.{given_point}
use Rattle.wholes.proofs.Door.{all_good, turned_away, let_through}
use Rattle.wholes.proofs.Steps.{by_tests, Passed, passed, count_read, count_fits, count_most}
use Rattle.wholes.proofs.step_leg.Goals as goal

pub overflow_cast-step : goal.overflow_cast-step
overflow_cast-step c =
    let at = c.args in
    let good : all_good at.start at.target at.height at.progress ≡ true =
    by_tests at.start at.target at.height at.progress c.ranges.height c.ranges.progress c.is_place.ensures c.is_place-2.ensures
    c.is_height.ensures c.is_progress.ensures c.if-is_place-is_height.true in
    let in_range : Passed at.start at.target at.height at.progress = passed at.start at.target at.height at.progress good in
    count_fits at.height 1000 (lit≤ tt) in_range.height

pub overflow_cast-step-then-is_place-is_height : goal.overflow_cast-step-then-is_place-is_height
overflow_cast-step-then-is_place-is_height c =
    let at = c.args in
    let good : all_good at.start at.target at.height at.progress ≡ true =
    by_tests at.start at.target at.height at.progress c.ranges.height c.ranges.progress c.is_place.ensures c.is_place-2.ensures
    c.is_height.ensures c.is_progress.ensures c.if-is_place-is_height.true in
    let in_range : Passed at.start at.target at.height at.progress = passed at.start at.target at.height at.progress good in
    count_fits at.progress 2048 (lit≤ tt) in_range.progress

pub invariant_of-step-clause-from_a_place : goal.invariant_of-step-clause-from_a_place
invariant_of-step-clause-from_a_place c =
    let at = c.args in
    let good : all_good at.start at.target at.height at.progress ≡ true =
    by_tests at.start at.target at.height at.progress c.ranges.height c.ranges.progress c.is_place.ensures c.is_place-2.ensures
    c.is_height.ensures c.is_progress.ensures c.if-is_place-is_height.true in
    let in_range : Passed at.start at.target at.height at.progress = passed at.start at.target at.height at.progress good in
    in_range.from

pub invariant_of-step-clause-to_a_place : goal.invariant_of-step-clause-to_a_place
invariant_of-step-clause-to_a_place c =
    let at = c.args in
    let good : all_good at.start at.target at.height at.progress ≡ true =
    by_tests at.start at.target at.height at.progress c.ranges.height c.ranges.progress c.is_place.ensures c.is_place-2.ensures
    c.is_height.ensures c.is_progress.ensures c.if-is_place-is_height.true in
    let in_range : Passed at.start at.target at.height at.progress = passed at.start at.target at.height at.progress good in
    in_range.to

pub invariant_of-step-clause-at_most_10_cm : goal.invariant_of-step-clause-at_most_10_cm
invariant_of-step-clause-at_most_10_cm c =
    let at = c.args in
    let good : all_good at.start at.target at.height at.progress ≡ true =
    by_tests at.start at.target at.height at.progress c.ranges.height c.ranges.progress c.is_place.ensures c.is_place-2.ensures
    c.is_height.ensures c.is_progress.ensures c.if-is_place-is_height.true in
    let in_range : Passed at.start at.target at.height at.progress = passed at.start at.target at.height at.progress good in
    count_most at.height 1000 (lit≤ tt) in_range.height

pub invariant_of-step-clause-at_most_done : goal.invariant_of-step-clause-at_most_done
invariant_of-step-clause-at_most_done c =
    let at = c.args in
    let good : all_good at.start at.target at.height at.progress ≡ true =
    by_tests at.start at.target at.height at.progress c.ranges.height c.ranges.progress c.is_place.ensures c.is_place-2.ensures
    c.is_height.ensures c.is_progress.ensures c.if-is_place-is_height.true in
    let in_range : Passed at.start at.target at.height at.progress = passed at.start at.target at.height at.progress good in
    count_most at.progress 2048 (lit≤ tt) in_range.progress

pub returns-then-is_place-is_height : goal.returns-then-is_place-is_height
returns-then-is_place-is_height c =
    let at = c.args in
    let good : all_good at.start at.target at.height at.progress ≡ true =
    by_tests at.start at.target at.height at.progress c.ranges.height c.ranges.progress c.is_place.ensures c.is_place-2.ensures
    c.is_height.ensures c.is_progress.ensures c.if-is_place-is_height.true in
    let in_range : Passed at.start at.target at.height at.progress = passed at.start at.target at.height at.progress good in
    ap given_point
    (c.foot.ensures
    ∙ ap₂ (λ (h p : ℕ). whole_step at.start at.target h p) (count_read at.height 1000 (lit≤ tt) in_range.height)
    (count_read at.progress 2048 (lit≤ tt) in_range.progress))
    ∙ let_through at.start at.target at.height at.progress good

pub returns-else-is_place-is_height : goal.returns-else-is_place-is_height
returns-else-is_place-is_height c =
    let at = c.args in
    turned_away at.start at.target at.height at.progress
    (by_tests at.start at.target at.height at.progress c.ranges.height c.ranges.progress c.is_place.ensures c.is_place-2.ensures
    c.is_height.ensures c.is_progress.ensures c.if-is_place-is_height.false)
