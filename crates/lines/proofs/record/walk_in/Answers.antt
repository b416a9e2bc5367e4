-- `lines::record::walk_in` meets its contract. Where seven fields are good, each is.
use mathlib.Core.Path.{sym, ap, ◌∙◌}
use mathlib.Core.List.{List}
use native.Mathlib.Omega.{arith}
use Rattle.lines.specs.Parts.{Field}
use Rattle.lines.specs.Parts.{bits_of}
use Rattle.lines.specs.Record.{walk_of}
use Rattle.lines.proofs.Places.{fields_seven, seven_good}
use Rattle.lines.proofs.record.walk_in.Goals as goal

pub bits_at-max_move-requires : goal.bits_at-max_move-requires
bits_at-max_move-requires c = (omega arith, (seven_good c.args.s.now c.requires.1).0)

pub bits_at-requires : goal.bits_at-requires
bits_at-requires c = (omega arith, (seven_good c.args.s.now c.requires.1).1.0)

pub bits_at-requires-2 : goal.bits_at-requires-2
bits_at-requires-2 c = (omega arith, (seven_good c.args.s.now c.requires.1).1.1.0)

pub bits_at-requires-3 : goal.bits_at-requires-3
bits_at-requires-3 c = (omega arith, (seven_good c.args.s.now c.requires.1).1.1.1.0)

pub bits_at-requires-4 : goal.bits_at-requires-4
bits_at-requires-4 c = (
  omega arith,
  (seven_good c.args.s.now
      c.requires.1).1.1.1.1.0,
)

pub bits_at-requires-5 : goal.bits_at-requires-5
bits_at-requires-5 c = (
  omega arith,
  (seven_good c.args.s.now
      c.requires.1).1.1.1.1.1.0,
)

pub bits_at-requires-6 : goal.bits_at-requires-6
bits_at-requires-6 c = (
  omega arith,
  (seven_good c.args.s.now
      c.requires.1).1.1.1.1.1.1.0,
)

pub returns : goal.returns
unfolding bits_of
returns c =
    c.walk_of.ensures
    ∙ (simp (
      c.bits_at-max_move.ensures,
      c.bits_at.ensures,
      c.bits_at-2.ensures,
      c.bits_at-3.ensures,
      c.bits_at-4.ensures,
      c.bits_at-5.ensures,
      c.bits_at-6.ensures,
    ) (sym (ap (λ (fs : List Field). walk_of (bits_of fs))
    (fields_seven c.args.s.now))))
