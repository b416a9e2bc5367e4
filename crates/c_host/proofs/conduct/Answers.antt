-- `c_host::conduct` meets its contract: a row that is no row, a call that is refused, and each kind of call.
use Rattle.std.specs.Prelude.{◌≡◌, ℕ, true, eqb, List, length, Ok, Err, Result}
use mathlib.Core.Path.{sym, ap, ◌∙◌}
use native.Mathlib.Omega.{arith}
use borrow.Author.Rules.{rules}
use borrow.Author.Tests.{eqb-true}
use Rattle.numbers.specs.Told.{refused}
use Rattle.numbers.specs.declared.refusal.Refusal.TheVariants.{Count, NoState}
use Rattle.joints.specs.Answers.{of_the_door}
use Rattle.joints.specs.declared.refusal.SolverRefusal.{SolverRefusal}
use Rattle.conductor.specs.Answers.{told}
use Rattle.conductor.specs.Conduct.{conduct_told}
use Rattle.conductor.specs.declared.Reply.{Reply}
use Rattle.conductor.specs.declared.Reply.TheVariants.{Step, Planned, Rests}
use Rattle.state_row.specs.Layout.{is_state, state_of}
use Rattle.packed.proofs.Back.{AllBytes}
use Rattle.state_row.proofs.Back.{state_row_length}
use Rattle.state_row.proofs.Finite.{of_state}
use Rattle.c_host.proofs.Tests.{failed, passed}
use Rattle.c_host.proofs.Conducting.{no_joint_row, no_state_row, refused_call}
use Rattle.c_host.proofs.Conducting.{stored_finite, joints_finite, stored_call, last_stored, plan_stored, row_again}
use Rattle.c_host.proofs.conduct.Goals as goal

pub returns-in_err-ensure : goal.returns-in_err-ensure
unfolding told
returns-in_err-ensure c =
    let came = c.args in
    let r = c.in_err-ensure.field-0.0 in
    let same : c.from_residual.result ≡ Err (of_the_door r) = search rules in
    let f = failed (eqb (length came.joints.now) 72) 5 r c.in_err-ensure.ensures in
    let left = no_joint_row came.state.now came.joints.now came.elapsed f.0 in
    record {
      answer = ap (λ (a : Result Reply SolverRefusal). told a) same ∙ ap refused f.1 ∙ left.0;
      row = left.1;
      angles = left.2;
    }

pub returns-in_err-ensure-2 : goal.returns-in_err-ensure-2
unfolding told
returns-in_err-ensure-2 c =
    let came = c.args in
    let joint_row : eqb (length came.joints.now) 72 ≡ true = passed (eqb (length came.joints.now) 72) Count c.in_ok-ensure.ensures in
    let r = c.in_err-ensure-2.field-0.0 in
    let same : c.from_residual-in_err-ensure-2.result ≡ Err (of_the_door r) = search rules in
    let f = failed c.is_state.result 16 r c.in_err-ensure-2.ensures in
    let left = no_state_row came.state.now came.joints.now came.elapsed joint_row (sym c.is_state.ensures ∙ f.0) in
    record {
      answer = ap (λ (a : Result Reply SolverRefusal). told a) same ∙ ap refused f.1 ∙ left.0;
      row = left.1;
      angles = left.2;
    }

pub row_of-requires : goal.row_of-requires
row_of-requires c =
    let good : is_state c.args.state.now ≡ true = sym c.is_state.ensures ∙ passed c.is_state.result NoState c.in_ok-ensure-2.ensures in
    state_row_length c.args.state.now good

pub returns-in_err-reply : goal.returns-in_err-reply
returns-in_err-reply c =
    let came = c.args in
    let joint_row : eqb (length came.joints.now) 72 ≡ true = passed (eqb (length came.joints.now) 72) Count c.in_ok-ensure.ensures in
    let row : List ℕ = came.state.now in
    let good : is_state row ≡ true = sym c.is_state.ensures ∙ passed c.is_state.result NoState c.in_ok-ensure-2.ensures in
    let r = c.in_err-reply.field-0.0 in
    let same : c.from_residual-in_err-reply.result ≡ Err r = search rules in
    let left = refused_call row came.joints.now came.elapsed joint_row good r
    (c.in_err-reply.ensures ∙ ap (λ (l : List ℕ). conduct_told (state_of l) came.elapsed) c.row_of.ensures) in
    record { answer = ap (λ (a : Result Reply SolverRefusal). told a) same ∙ left.0; row = left.1; angles = left.2 }

pub put_last-requires : goal.put_last-requires
put_last-requires c =
    let came = c.args in
    let joint_row : eqb (length came.joints.now) 72 ≡ true = passed (eqb (length came.joints.now) 72) Count c.in_ok-ensure.ensures in
    let row : List ℕ = came.state.now in
    let good : is_state row ≡ true = sym c.is_state.ensures ∙ passed c.is_state.result NoState c.in_ok-ensure-2.ensures in
    let reply : Reply = Step c.in-Step.feet c.in-Step.angles in
    let says : told (Ok reply) ≡ conduct_told (state_of row) came.elapsed =
    ap (λ (r : Reply). told (Ok r)) (sym c.in-Step.is) ∙ c.in_ok-reply.ensures
    ∙ ap (λ (l : List ℕ). conduct_told (state_of l) came.elapsed) c.row_of.ensures in
    (state_row_length row good, (of_state _ (stored_finite row came.joints.now came.elapsed joint_row good reply says)).1)

pub put_joints-requires : goal.put_joints-requires
put_joints-requires c =
    let came = c.args in
    let joint_row : eqb (length came.joints.now) 72 ≡ true = passed (eqb (length came.joints.now) 72) Count c.in_ok-ensure.ensures in
    let row : List ℕ = came.state.now in
    let good : is_state row ≡ true = sym c.is_state.ensures ∙ passed c.is_state.result NoState c.in_ok-ensure-2.ensures in
    let reply : Reply = Step c.in-Step.feet c.in-Step.angles in
    let says : told (Ok reply) ≡ conduct_told (state_of row) came.elapsed =
    ap (λ (r : Reply). told (Ok r)) (sym c.in-Step.is) ∙ c.in_ok-reply.ensures
    ∙ ap (λ (l : List ℕ). conduct_told (state_of l) came.elapsed) c.row_of.ensures in (
      eqb-true
          (length came.joints.now) 72 joint_row,
      joints_finite row came.joints.now came.elapsed joint_row good reply says c.in-Step.angles,
    )

pub put_planned-requires : goal.put_planned-requires
put_planned-requires c =
    let came = c.args in
    let joint_row : eqb (length came.joints.now) 72 ≡ true = passed (eqb (length came.joints.now) 72) Count c.in_ok-ensure.ensures in
    let row : List ℕ = came.state.now in
    let good : is_state row ≡ true = sym c.is_state.ensures ∙ passed c.is_state.result NoState c.in_ok-ensure-2.ensures in
    let reply : Reply = Planned c.in-Planned.angles in
    let says : told (Ok reply) ≡ conduct_told (state_of row) came.elapsed =
    ap (λ (r : Reply). told (Ok r)) (sym c.in-Planned.is) ∙ c.in_ok-reply.ensures
    ∙ ap (λ (l : List ℕ). conduct_told (state_of l) came.elapsed) c.row_of.ensures in
    (state_row_length row good, stored_finite row came.joints.now came.elapsed joint_row good reply says)

pub put_joints-requires-in-Planned : goal.put_joints-requires-in-Planned
put_joints-requires-in-Planned c =
    let came = c.args in
    let joint_row : eqb (length came.joints.now) 72 ≡ true = passed (eqb (length came.joints.now) 72) Count c.in_ok-ensure.ensures in
    let row : List ℕ = came.state.now in
    let good : is_state row ≡ true = sym c.is_state.ensures ∙ passed c.is_state.result NoState c.in_ok-ensure-2.ensures in
    let reply : Reply = Planned c.in-Planned.angles in
    let says : told (Ok reply) ≡ conduct_told (state_of row) came.elapsed =
    ap (λ (r : Reply). told (Ok r)) (sym c.in-Planned.is) ∙ c.in_ok-reply.ensures
    ∙ ap (λ (l : List ℕ). conduct_told (state_of l) came.elapsed) c.row_of.ensures in (
      eqb-true
          (length came.joints.now) 72 joint_row,
      joints_finite row came.joints.now came.elapsed joint_row good reply says c.in-Planned.angles,
    )

pub put_joints-requires-in-Rests : goal.put_joints-requires-in-Rests
put_joints-requires-in-Rests c =
    let came = c.args in
    let joint_row : eqb (length came.joints.now) 72 ≡ true = passed (eqb (length came.joints.now) 72) Count c.in_ok-ensure.ensures in
    let row : List ℕ = came.state.now in
    let good : is_state row ≡ true = sym c.is_state.ensures ∙ passed c.is_state.result NoState c.in_ok-ensure-2.ensures in
    let reply : Reply = Rests c.in-Rests.angles in
    let says : told (Ok reply) ≡ conduct_told (state_of row) came.elapsed =
    ap (λ (r : Reply). told (Ok r)) (sym c.in-Rests.is) ∙ c.in_ok-reply.ensures
    ∙ ap (λ (l : List ℕ). conduct_told (state_of l) came.elapsed) c.row_of.ensures in (
      eqb-true
          (length came.joints.now) 72 joint_row,
      joints_finite row came.joints.now came.elapsed joint_row good reply says c.in-Rests.angles,
    )

pub returns-in-Step : goal.returns-in-Step
returns-in-Step c =
    let came = c.args in
    let joint_row : eqb (length came.joints.now) 72 ≡ true = passed (eqb (length came.joints.now) 72) Count c.in_ok-ensure.ensures in
    let row : List ℕ = came.state.now in
    let good : is_state row ≡ true = sym c.is_state.ensures ∙ passed c.is_state.result NoState c.in_ok-ensure-2.ensures in
    let reply : Reply = Step c.in-Step.feet c.in-Step.angles in
    let says : told (Ok reply) ≡ conduct_told (state_of row) came.elapsed =
    ap (λ (r : Reply). told (Ok r)) (sym c.in-Step.is) ∙ c.in_ok-reply.ensures
    ∙ ap (λ (l : List ℕ). conduct_told (state_of l) came.elapsed) c.row_of.ensures in
    let small : AllBytes row = λ i. grind arith in
    let left =
    stored_call row came.joints.now came.elapsed joint_row good reply says c.in-Step.angles _ _
    (c.put_last.ensures ∙ last_stored row came.joints.now came.elapsed joint_row good reply says small c.in-Step.feet)
    c.put_joints.ensures
    in
    record { answer = left.0; row = left.1; angles = left.2 }

pub returns-in-Planned : goal.returns-in-Planned
returns-in-Planned c =
    let came = c.args in
    let joint_row : eqb (length came.joints.now) 72 ≡ true = passed (eqb (length came.joints.now) 72) Count c.in_ok-ensure.ensures in
    let row : List ℕ = came.state.now in
    let good : is_state row ≡ true = sym c.is_state.ensures ∙ passed c.is_state.result NoState c.in_ok-ensure-2.ensures in
    let reply : Reply = Planned c.in-Planned.angles in
    let says : told (Ok reply) ≡ conduct_told (state_of row) came.elapsed =
    ap (λ (r : Reply). told (Ok r)) (sym c.in-Planned.is) ∙ c.in_ok-reply.ensures
    ∙ ap (λ (l : List ℕ). conduct_told (state_of l) came.elapsed) c.row_of.ensures in
    let small : AllBytes row = λ i. grind arith in
    let left =
    stored_call row came.joints.now came.elapsed joint_row good reply says c.in-Planned.angles _ _
    (c.put_planned.ensures ∙ plan_stored row came.joints.now came.elapsed joint_row good reply says small)
    c.put_joints-in-Planned.ensures
    in
    record { answer = left.0; row = left.1; angles = left.2 }

pub returns-in-Rests : goal.returns-in-Rests
returns-in-Rests c =
    let came = c.args in
    let joint_row : eqb (length came.joints.now) 72 ≡ true = passed (eqb (length came.joints.now) 72) Count c.in_ok-ensure.ensures in
    let row : List ℕ = came.state.now in
    let good : is_state row ≡ true = sym c.is_state.ensures ∙ passed c.is_state.result NoState c.in_ok-ensure-2.ensures in
    let reply : Reply = Rests c.in-Rests.angles in
    let says : told (Ok reply) ≡ conduct_told (state_of row) came.elapsed =
    ap (λ (r : Reply). told (Ok r)) (sym c.in-Rests.is) ∙ c.in_ok-reply.ensures
    ∙ ap (λ (l : List ℕ). conduct_told (state_of l) came.elapsed) c.row_of.ensures in
    let small : AllBytes row = λ i. grind arith in
    let left =
    stored_call row came.joints.now came.elapsed joint_row good reply says c.in-Rests.angles _ _
    (row_again row came.joints.now came.elapsed joint_row good reply says small)
    c.put_joints-in-Rests.ensures
    in
    record { answer = left.0; row = left.1; angles = left.2 }
