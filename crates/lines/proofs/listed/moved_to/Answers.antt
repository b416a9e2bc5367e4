-- `lines::listed::moved_to` meets its contract. Where three fields are good, each is.
use mathlib.Core.Path.{sym, ap}
use mathlib.Core.List.{List}
use native.Mathlib.Omega.{arith}
use Rattle.lines.specs.Parts.{Field}
use Rattle.lines.specs.Parts.{bits_of}
use Rattle.lines.specs.Reading.{moved}
use Rattle.lines.proofs.Places.{fields_three, three_good}
use Rattle.lines.proofs.listed.moved_to.Goals as goal

pub bits_at-requires : goal.bits_at-requires
bits_at-requires c = (omega arith, (three_good c.args.s.now c.args.at c.requires.1).0)

pub bits_at-requires-2 : goal.bits_at-requires-2
bits_at-requires-2 c = (omega arith, (three_good c.args.s.now c.args.at c.requires.1).1.0)

pub bits_at-requires-3 : goal.bits_at-requires-3
bits_at-requires-3 c = (
  omega arith,
  (three_good c.args.s.now c.args.at
      c.requires.1).1.1.0,
)

pub returns : goal.returns
unfolding bits_of
returns c = simp (c.bits_at.ensures, c.bits_at-2.ensures, c.bits_at-3.ensures)
    (sym (ap (λ (fs : List Field). moved c.args.count (bits_of fs))
    (fields_three c.args.s.now c.args.at)))
