-- `lines::fields::bits_at` meets its contract. The eight bytes are cut out of the line.
use mathlib.Core.Path.{sym, ap, ◌∙◌}
use Prim.Native.Nat.{◌+◌, ◌≤◌}
use lib.Dec.{eqb}
use lib.ListN.{length, get_or}
use Rattle.numbers.proofs.OnePass.{and_right}
use Rattle.lines.specs.Parts.{Field}
use Rattle.lines.specs.Digits.{read_in}
use Rattle.lines.proofs.Places.{behind, eight_behind, field_is, bits_fit}
use Rattle.lines.proofs.fields.bits_at.Goals as goal

pub spelt-requires : goal.spelt-requires
spelt-requires c =
    let s = c.args.s.now in
    let at = c.args.at in
    let room : at + 9 ≤ length s = c.requires.0 in (
      eight_behind s at room,
      and_right (eqb (get_or s at 0) 9) (read_in 16 (behind s at room)).good
          (ap (λ (f : Field). f.good) (sym (field_is s at room)) ∙ c.requires.1),
    )

pub overflow_cast-result : goal.overflow_cast-result
overflow_cast-result c = record { fits = rw c.spelt.ensures (bits_fit _ _ c.requires.0) }

pub returns : goal.returns
returns c =
    c.spelt.ensures
    ∙ ap (λ (f : Field). f.bits) (sym (field_is _ _ c.requires.0))
