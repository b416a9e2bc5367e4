-- `c_host::put_command` meets its contract: by the row and the flag, then by what state and command are.
use Rattle.std.specs.Prelude.{◌≡◌, ℕ, true, leb, List, Err}
use mathlib.Core.Path.{sym, ap, ◌∙◌}
use borrow.Author.Rules.{rules}
use Rattle.numbers.specs.Refusals.{number_of, number_or_0}
use Rattle.numbers.specs.declared.refusal.Refusal.TheVariants.{NoState}
use Rattle.numbers.proofs.Numbers.{has_a_number}
use native.Mathlib.Omega.{arith}
use Rattle.conductor.specs.States.{under_command, new_command_refusal}
use Rattle.conductor.specs.declared.State.{State}
use Rattle.state_row.specs.Layout.{is_state, state_of}
use Rattle.packed.proofs.Back.{AllBytes}
use Rattle.state_row.proofs.Back.{state_row_length}
use Rattle.state_row.proofs.Finite.{of_state}
use Rattle.c_host.proofs.Tests.{failed, passed}
use Rattle.c_host.proofs.Setting.{no_state_row, no_flag, refused_command, commanded, commanded_finite}
use Rattle.c_host.proofs.put_command.Goals as goal

pub returns-in_err-ensure : goal.returns-in_err-ensure
returns-in_err-ensure c =
    let came = c.args in
    let r = c.in_err-ensure.field-0.0 in
    let same : c.from_residual.result ≡ Err r = search rules in
    let f = failed c.is_state.result 16 r c.in_err-ensure.ensures in
    let told = no_state_row came.state.now came.command came.flag (sym c.is_state.ensures ∙ f.0) in
    record { answer = ap number_or_0 same ∙ f.1 ∙ told.0; row = told.1 }

pub returns-in_err-ensure-2 : goal.returns-in_err-ensure-2
returns-in_err-ensure-2 c =
    let came = c.args in
    let row : List ℕ = came.state.now in
    let good : is_state row ≡ true = sym c.is_state.ensures ∙ passed c.is_state.result NoState c.in_ok-ensure.ensures in
    let r = c.in_err-ensure-2.field-0.0 in
    let same : c.from_residual-in_err-ensure-2.result ≡ Err r = search rules in
    let f = failed (leb came.flag 1) 16 r c.in_err-ensure-2.ensures in
    let told = no_flag row came.command came.flag good f.0 in
    record { answer = ap number_or_0 same ∙ f.1 ∙ told.0; row = told.1 }

pub state_at-requires : goal.state_at-requires
state_at-requires c =
    let came = c.args in
    let row : List ℕ = came.state.now in
    let good : is_state row ≡ true = sym c.is_state.ensures ∙ passed c.is_state.result NoState c.in_ok-ensure.ensures in
    state_row_length row good

pub returns-in_err-admit_command : goal.returns-in_err-admit_command
returns-in_err-admit_command c =
    let came = c.args in
    let row : List ℕ = came.state.now in
    let good : is_state row ≡ true = sym c.is_state.ensures ∙ passed c.is_state.result NoState c.in_ok-ensure.ensures in
    let flag_good : leb came.flag 1 ≡ true = passed (leb came.flag 1) NoState c.in_ok-ensure-2.ensures in
    let r = c.in_err-admit_command.field-0.0 in
    let same : c.from_residual-in_err-admit_command.result ≡ Err r = search rules in
    let asked = ap (λ (s : State). new_command_refusal s came.command) c.state_at.ensures in
    let told =
    refused_command row came.command came.flag good flag_good (number_of r) (c.in_err-admit_command.ensures ∙ asked) (has_a_number r) in
    record { answer = ap number_or_0 same ∙ told.0; row = told.1 }

pub put_new_command-requires : goal.put_new_command-requires
put_new_command-requires c =
    let came = c.args in
    let row : List ℕ = came.state.now in
    let good : is_state row ≡ true = sym c.is_state.ensures ∙ passed c.is_state.result NoState c.in_ok-ensure.ensures in
    let asked = ap (λ (s : State). new_command_refusal s came.command) c.state_at.ensures in
    let none = c.in_ok-admit_command.ensures ∙ asked in (
      state_row_length row good,
      (of_state (under_command (state_of row) came.command) (commanded_finite row came.command came.flag none)).4,
    )

pub returns : goal.returns
returns c =
    let came = c.args in
    let row : List ℕ = came.state.now in
    let good : is_state row ≡ true = sym c.is_state.ensures ∙ passed c.is_state.result NoState c.in_ok-ensure.ensures in
    let flag_good : leb came.flag 1 ≡ true = passed (leb came.flag 1) NoState c.in_ok-ensure-2.ensures in
    let asked = ap (λ (s : State). new_command_refusal s came.command) c.state_at.ensures in
    let small : AllBytes row = λ i. grind arith in
    let told =
    commanded row came.command came.flag good flag_good small (c.in_ok-admit_command.ensures ∙ asked) _ c.put_new_command.ensures in
    record { answer = told.0; row = told.1 }
