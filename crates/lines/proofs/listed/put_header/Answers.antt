-- `lines::listed::put_header` meets its contract. Its runs, one behind the other, are the line.
use mathlib.Core.List.{append_assoc}
use native.Mathlib.Omega.{arith}
use Rattle.lines.specs.Fields.{parted}
use Rattle.lines.specs.Lines.{body}
use Rattle.lines.proofs.Decimal.{length_at_most}
use Rattle.numbers.proofs.Stores.{stored_more, stored_as}
use Rattle.lines.proofs.listed.put_header.Goals as goal

pub count-b-requires : goal.count-b-requires
count-b-requires c = omega (arith, length_at_most 9 c.args.version (omega arith))

pub newline-requires : goal.newline-requires
newline-requires c = omega (
  arith,
  length_at_most 9 c.args.version
      (omega arith),
)

pub returns : goal.returns
unfolding parted body
returns c =
    let a = c.args in
    let few = length_at_most 9 a.version (omega arith) in (
      stored_as (simp append_assoc)
          (stored_more (stored_more c.name-a.ensures
          c.count-b.ensures) c.newline.ensures),
      omega (arith, few),
    )
