-- `lines::listed::put_move` meets its contract. Its runs, one behind the other, are the line.
use mathlib.Core.List.{append_assoc}
use native.Mathlib.Omega.{arith}
use Rattle.lines.specs.Fields.{parted}
use Rattle.lines.specs.Lines.{body}
use Rattle.lines.proofs.Decimal.{length_at_most}
use Rattle.lines.proofs.Numerals.{length_hex}
use Rattle.numbers.proofs.Stores.{stored_more, stored_as}
use Rattle.lines.proofs.listed.put_move.Goals as goal

pub count-b-requires : goal.count-b-requires
count-b-requires c = omega (arith, length_at_most 9 c.args.m.count (omega arith))

pub pattern-x-requires : goal.pattern-x-requires
pattern-x-requires c = omega (
  arith,
  length_at_most 9 c.args.m.count
      (omega arith),
)

pub pattern-y-requires : goal.pattern-y-requires
pattern-y-requires c = omega (
  arith,
  length_at_most 9
      c.args.m.count
      (omega arith),
  length_hex
      c.args.m.x,
)

pub pattern-z-requires : goal.pattern-z-requires
pattern-z-requires c = omega (
  arith,
  length_at_most 9
      c.args.m.count (omega arith),
  length_hex c.args.m.x,
  length_hex c.args.m.y,
)

pub newline-requires : goal.newline-requires
newline-requires c = omega (
  arith,
  length_at_most 9
      c.args.m.count (omega arith),
  length_hex c.args.m.x,
  length_hex c.args.m.y,
  length_hex c.args.m.z,
)

pub returns : goal.returns
unfolding parted body
returns c =
    let m = c.args.m in
    let few = length_at_most 9 m.count (omega arith) in
    let a = c.letter-a.ensures in
    let n = c.count-b.ensures in
    let x = c.pattern-x.ensures in
    let y = c.pattern-y.ensures in
    let z = c.pattern-z.ensures in (
      stored_as (simp append_assoc)
          (stored_more (stored_more (stored_more (stored_more (stored_more a n) x) y) z) c.newline.ensures),
      omega (arith, few, length_hex m.x, length_hex m.y, length_hex m.z),
    )
