-- `lines::put::pattern` meets its contract.
use mathlib.Core.Path.{refl}
use native.Mathlib.Numerals.{towards_suc}
use native.Mathlib.Omega.{arith}
use lib.ListN.{length-set}
use Rattle.lines.specs.Digits.{hex, numeral}
use Rattle.lines.proofs.put.pattern.Goals as goal

pub bounds-buf-at-2 : goal.bounds-buf-at-2
bounds-buf-at-2 c = simp length-set (omega arith)

pub bounds-buf-at-3 : goal.bounds-buf-at-3
bounds-buf-at-3 c = simp length-set (omega arith)

pub bounds-buf-at-4 : goal.bounds-buf-at-4
bounds-buf-at-4 c = simp length-set (omega arith)

pub bounds-buf-at-5 : goal.bounds-buf-at-5
bounds-buf-at-5 c = simp length-set (omega arith)

pub bounds-buf-at-6 : goal.bounds-buf-at-6
bounds-buf-at-6 c = simp length-set (omega arith)

pub bounds-buf-at-7 : goal.bounds-buf-at-7
bounds-buf-at-7 c = simp length-set (omega arith)

pub bounds-buf-at-8 : goal.bounds-buf-at-8
bounds-buf-at-8 c = simp length-set (omega arith)

pub bounds-buf-at-9 : goal.bounds-buf-at-9
bounds-buf-at-9 c = simp length-set (omega arith)

pub shape_of-buf : goal.shape_of-buf
shape_of-buf c = simp length-set

pub returns : goal.returns
unfolding hex numeral
returns c = record {
  place = refl;
  bytes = simp (
    c.digit-8.ensures,
    c.digit-7.ensures,
    c.digit-6.ensures,
    c.digit-5.ensures,
    c.digit-4.ensures,
    c.digit-3.ensures,
    c.digit-2.ensures,
    c.digit.ensures,
    towards_suc,
  );
}
