-- `c_host::stand` meets its contract: by the rows' lengths, then by what feet and configuration are.
use Rattle.std.specs.Prelude.{◌≡◌, true, eqb, length, Err}
use mathlib.Core.Path.{ap, ap₂, ◌∙◌}
use borrow.Author.Rules.{rules}
use borrow.Author.Tests.{eqb-true}
use Rattle.numbers.specs.Refusals.{number_of, number_or_0}
use Rattle.numbers.specs.declared.refusal.Refusal.TheVariants.{Count, NoState}
use Rattle.numbers.proofs.Numbers.{has_a_number}
use Rattle.joints.specs.Inverse.{ik_refusal}
use Rattle.conductor.specs.States.{finite_state, stood_state}
use Rattle.state_row.specs.Layout.{state_bytes, standing_of, configuration_of}
use Rattle.c_host.proofs.Tests.{failed, passed}
use Rattle.c_host.proofs.Setting.{wrong_feet, wrong_configuration, wrong_state, refused_stand, stood, stood_finite}
use Rattle.c_host.proofs.stand.Goals as goal

pub returns-in_err-ensure : goal.returns-in_err-ensure
returns-in_err-ensure c =
    let came = c.args in
    let r = c.in_err-ensure.field-0.0 in
    let same : c.from_residual.result ≡ Err r = search rules in
    let f = failed (eqb (length came.feet.now) 72) 5 r c.in_err-ensure.ensures in
    let told = wrong_feet came.state.now came.feet.now came.configuration.now f.0 in
    record { answer = ap number_or_0 same ∙ f.1 ∙ told.0; row = told.1 }

pub returns-in_err-ensure-2 : goal.returns-in_err-ensure-2
returns-in_err-ensure-2 c =
    let came = c.args in
    let feet_good : eqb (length came.feet.now) 72 ≡ true = passed (eqb (length came.feet.now) 72) Count c.in_ok-ensure.ensures in
    let r = c.in_err-ensure-2.field-0.0 in
    let same : c.from_residual-in_err-ensure-2.result ≡ Err r = search rules in
    let f = failed (eqb (length came.configuration.now) 164) 5 r c.in_err-ensure-2.ensures in
    let told = wrong_configuration came.state.now came.feet.now came.configuration.now feet_good f.0 in
    record { answer = ap number_or_0 same ∙ f.1 ∙ told.0; row = told.1 }

pub returns-in_err-ensure-3 : goal.returns-in_err-ensure-3
returns-in_err-ensure-3 c =
    let came = c.args in
    let feet_good : eqb (length came.feet.now) 72 ≡ true = passed (eqb (length came.feet.now) 72) Count c.in_ok-ensure.ensures in
    let configuration_good : eqb (length came.configuration.now) 164 ≡ true =
    passed (eqb (length came.configuration.now) 164) Count c.in_ok-ensure-2.ensures in
    let r = c.in_err-ensure-3.field-0.0 in
    let same : c.from_residual-in_err-ensure-3.result ≡ Err r = search rules in
    let f = failed (eqb (length came.state.now) 506) 16 r c.in_err-ensure-3.ensures in
    let told = wrong_state came.state.now came.feet.now came.configuration.now feet_good configuration_good f.0 in
    record { answer = ap number_or_0 same ∙ f.1 ∙ told.0; row = told.1 }

pub returns-in_err-admit_ik : goal.returns-in_err-admit_ik
returns-in_err-admit_ik c =
    let came = c.args in
    let feet_good : eqb (length came.feet.now) 72 ≡ true = passed (eqb (length came.feet.now) 72) Count c.in_ok-ensure.ensures in
    let configuration_good : eqb (length came.configuration.now) 164 ≡ true =
    passed (eqb (length came.configuration.now) 164) Count c.in_ok-ensure-2.ensures in
    let state_good : eqb (length came.state.now) 506 ≡ true = passed (eqb (length came.state.now) 506) NoState c.in_ok-ensure-3.ensures in
    let asked : ik_refusal c.standing_at-standing.result c.configuration_at-built.result
    ≡ ik_refusal (standing_of came.feet.now) (configuration_of came.configuration.now 0) =
    ap₂ ik_refusal c.standing_at-standing.ensures c.configuration_at-built.ensures in
    let r = c.in_err-admit_ik.field-0.0 in
    let same : c.from_residual-in_err-admit_ik.result ≡ Err r = search rules in
    let told =
    refused_stand came.state.now came.feet.now came.configuration.now feet_good configuration_good state_good (number_of r)
    (c.in_err-admit_ik.ensures ∙ asked) (has_a_number r) in
    record { answer = ap number_or_0 same ∙ told.0; row = told.1 }

pub put_state-requires : goal.put_state-requires
put_state-requires c =
    let came = c.args in
    let state_good : eqb (length came.state.now) 506 ≡ true = passed (eqb (length came.state.now) 506) NoState c.in_ok-ensure-3.ensures in
    let asked : ik_refusal c.standing_at-standing.result c.configuration_at-built.result
    ≡ ik_refusal (standing_of came.feet.now) (configuration_of came.configuration.now 0) =
    ap₂ ik_refusal c.standing_at-standing.ensures c.configuration_at-built.ensures in
    let fresh : c.stood.result ≡ stood_state (standing_of came.feet.now) (configuration_of came.configuration.now 0) =
    c.stood.ensures ∙ ap₂ stood_state c.standing_at-standing.ensures c.configuration_at-built.ensures in (
      eqb-true (length came.state.now) 506 state_good,
      ap finite_state fresh
          ∙ stood_finite came.state.now came.feet.now came.configuration.now (c.in_ok-admit_ik.ensures ∙ asked),
    )

pub returns : goal.returns
returns c =
    let came = c.args in
    let feet_good : eqb (length came.feet.now) 72 ≡ true = passed (eqb (length came.feet.now) 72) Count c.in_ok-ensure.ensures in
    let configuration_good : eqb (length came.configuration.now) 164 ≡ true =
    passed (eqb (length came.configuration.now) 164) Count c.in_ok-ensure-2.ensures in
    let state_good : eqb (length came.state.now) 506 ≡ true = passed (eqb (length came.state.now) 506) NoState c.in_ok-ensure-3.ensures in
    let asked : ik_refusal c.standing_at-standing.result c.configuration_at-built.result
    ≡ ik_refusal (standing_of came.feet.now) (configuration_of came.configuration.now 0) =
    ap₂ ik_refusal c.standing_at-standing.ensures c.configuration_at-built.ensures in
    let fresh : c.stood.result ≡ stood_state (standing_of came.feet.now) (configuration_of came.configuration.now 0) =
    c.stood.ensures ∙ ap₂ stood_state c.standing_at-standing.ensures c.configuration_at-built.ensures in
    let told =
    stood came.state.now came.feet.now came.configuration.now feet_good configuration_good
    state_good (c.in_ok-admit_ik.ensures ∙ asked) _
    (c.put_state.ensures ∙ ap state_bytes fresh) in
    record { answer = told.0; row = told.1 }
