-- `joints::unchecked::all_pass` meets its contract: a leg that passes leaves the answer to those after it, and the first that does not
-- answers.
use borrow.Author.Rules.{rules}
use Rattle.std.specs.Prelude.{◌≡◌, Err}
use Rattle.legs.specs.Legs.{left_front, right_front, left_middle, right_middle, left_rear, right_rear}
use Rattle.joints.proofs.LegsTold.{passed, stopped}
use Rattle.joints.proofs.unchecked.all_pass.Goals as goal

pub returns-in_err-of_leg : goal.returns-in_err-of_leg
returns-in_err-of_leg g c = λ n says.
    let same : c.from_residual.result ≡ Err c.in_err-of_leg.field-0.0 = search rules in
    simp (same) (stopped _ _ _ 0 _ (says left_front _ c.test.ensures) c.in_err-of_leg.ensures)

pub returns-in_err-of_leg-2 : goal.returns-in_err-of_leg-2
returns-in_err-of_leg-2 g c = λ n says.
    let same : c.from_residual-in_err-of_leg-2.result ≡ Err c.in_err-of_leg-2.field-0.0 = search rules in
    let z0 : n left_front ≡ 0 = passed _ _ 0 (says left_front _ c.test.ensures) c.in_ok-of_leg.ensures in
    simp (same, z0) (stopped _ _ _ 1 _ (says right_front _ c.test-2.ensures) c.in_err-of_leg-2.ensures)

pub returns-in_err-of_leg-3 : goal.returns-in_err-of_leg-3
returns-in_err-of_leg-3 g c = λ n says.
    let same : c.from_residual-in_err-of_leg-3.result ≡ Err c.in_err-of_leg-3.field-0.0 = search rules in
    let z0 : n left_front ≡ 0 = passed _ _ 0 (says left_front _ c.test.ensures) c.in_ok-of_leg.ensures in
    let z1 : n right_front ≡ 0 = passed _ _ 1 (says right_front _ c.test-2.ensures) c.in_ok-of_leg-2.ensures in
    simp (same, z0, z1) (stopped _ _ _ 2 _ (says left_middle _ c.test-3.ensures) c.in_err-of_leg-3.ensures)

pub returns-in_err-of_leg-4 : goal.returns-in_err-of_leg-4
returns-in_err-of_leg-4 g c = λ n says.
    let same : c.from_residual-in_err-of_leg-4.result ≡ Err c.in_err-of_leg-4.field-0.0 = search rules in
    let z0 : n left_front ≡ 0 = passed _ _ 0 (says left_front _ c.test.ensures) c.in_ok-of_leg.ensures in
    let z1 : n right_front ≡ 0 = passed _ _ 1 (says right_front _ c.test-2.ensures) c.in_ok-of_leg-2.ensures in
    let z2 : n left_middle ≡ 0 = passed _ _ 2 (says left_middle _ c.test-3.ensures) c.in_ok-of_leg-3.ensures in
    simp (same, z0, z1, z2) (stopped _ _ _ 3 _ (says right_middle _ c.test-4.ensures) c.in_err-of_leg-4.ensures)

pub returns-in_err-of_leg-5 : goal.returns-in_err-of_leg-5
returns-in_err-of_leg-5 g c = λ n says.
    let same : c.from_residual-in_err-of_leg-5.result ≡ Err c.in_err-of_leg-5.field-0.0 = search rules in
    let z0 : n left_front ≡ 0 = passed _ _ 0 (says left_front _ c.test.ensures) c.in_ok-of_leg.ensures in
    let z1 : n right_front ≡ 0 = passed _ _ 1 (says right_front _ c.test-2.ensures) c.in_ok-of_leg-2.ensures in
    let z2 : n left_middle ≡ 0 = passed _ _ 2 (says left_middle _ c.test-3.ensures) c.in_ok-of_leg-3.ensures in
    let z3 : n right_middle ≡ 0 = passed _ _ 3 (says right_middle _ c.test-4.ensures) c.in_ok-of_leg-4.ensures in
    simp (same, z0, z1, z2, z3) (stopped _ _ _ 4 _ (says left_rear _ c.test-5.ensures) c.in_err-of_leg-5.ensures)

pub returns : goal.returns
returns g c = λ n says.
    let z0 : n left_front ≡ 0 = passed _ _ 0 (says left_front _ c.test.ensures) c.in_ok-of_leg.ensures in
    let z1 : n right_front ≡ 0 = passed _ _ 1 (says right_front _ c.test-2.ensures) c.in_ok-of_leg-2.ensures in
    let z2 : n left_middle ≡ 0 = passed _ _ 2 (says left_middle _ c.test-3.ensures) c.in_ok-of_leg-3.ensures in
    let z3 : n right_middle ≡ 0 = passed _ _ 3 (says right_middle _ c.test-4.ensures) c.in_ok-of_leg-4.ensures in
    let z4 : n left_rear ≡ 0 = passed _ _ 4 (says left_rear _ c.test-5.ensures) c.in_ok-of_leg-5.ensures in
    simp (z0, z1, z2, z3, z4, c.of_leg-6.ensures, says right_rear _ c.test-6.ensures)
