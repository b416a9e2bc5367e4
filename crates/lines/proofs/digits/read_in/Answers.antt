-- `lines::digits::read_in` meets its contract. What is read of the bytes to come, after the number so far, is what is read of all.
use mathlib.Core.Path.{sym, ◌∙◌}
use Prim.Native.Nat.{◌≤◌, ◌<◌}
use native.Mathlib.Omega.{arith}
use native.Mathlib.Nat.{mul-le-mul_left}
use lib.ListN.{get_or}
use Rattle.lines.specs.Digits.{value_of}
use Rattle.lines.proofs.Reading.{no_number, next_number, number_below, number_known, room}
use Rattle.lines.proofs.Values.{no_digit, one_digit}
use Rattle.lines.proofs.digits.read_in.Goals as goal

pub returns-in_err-digit : goal.returns-in_err-digit
returns-in_err-digit c =
    let s = c.args.s.now in
    let high : 16 ≤ value_of (get_or s c.loop-b.b-index 0) = no_digit _ (sym c.digit_of.ensures ∙ c.in_err-digit.was) in
    c.from_residual.ensures
    ∙ no_number c.args.base s c.loop-b.b-index c.loop-b.value c.loop-b-test.true c.loop-b.invariant.0 (omega (arith, c.requires.0))

pub returns-then-base-digit : goal.returns-then-base-digit
returns-then-base-digit c =
    let s = c.args.s.now in
    let is = one_digit (get_or s c.loop-b.b-index 0) c.in_ok-digit.digit (sym c.digit_of.ensures ∙ c.in_ok-digit.was) in
    no_number c.args.base s c.loop-b.b-index c.loop-b.value c.loop-b-test.true c.loop-b.invariant.0 (omega (arith, is.0))

pub overflow_mul-value : goal.overflow_mul-value
overflow_mul-value c =
    omega (arith, room _ _ c.loop-b.invariant.1 (omega arith), mul-le-mul_left c.loop-b.value c.requires.0)

pub overflow_add-value : goal.overflow_add-value
overflow_add-value c =
    omega (arith, room _ _ c.loop-b.invariant.1 (omega arith), mul-le-mul_left c.loop-b.value c.requires.0)

pub loop-b-preserved : goal.loop-b-preserved
loop-b-preserved c =
    let s = c.args.s.now in
    let i = c.loop-b.b-index in
    let h = c.loop-b-test.true in
    let is = one_digit (get_or s i 0) c.in_ok-digit.digit (sym c.digit_of.ensures ∙ c.in_ok-digit.was) in
    let low : value_of (get_or s i 0) < c.args.base = omega (arith, is.0) in (
      rw is.0 (next_number c.args.base s i c.loop-b.value h c.loop-b.invariant.0 c.requires.0 low),
      rw is.0 (number_below c.args.base s i c.loop-b.value h c.loop-b.invariant.0 c.requires.0 c.loop-b.invariant.1 low),
    )

pub returns : goal.returns
returns c = number_known c.args.base c.args.s.now c.loop-b.b-index c.loop-b.value c.loop-b-test.false c.loop-b.invariant.0
