-- `lines::fields::is_tabbed` meets its contract. The eight bytes are cut out of the line.
use mathlib.Core.Path.{sym, ap}
use Prim.Native.Nat.{◌+◌, ◌≤◌}
use native.Mathlib.Omega.{arith}
use lib.ListN.{length}
use Rattle.lines.specs.Parts.{Field}
use Rattle.lines.proofs.Places.{field_is}
use Rattle.lines.proofs.fields.is_tabbed.Goals as goal

pub returns : goal.returns
returns c =
    let s = c.args.s.now in
    let at = c.args.at in
    let room : at + 9 ≤ length s = omega arith in
    rw c.all_hex.ensures (ap (λ (f : Field). f.good) (sym (field_is s at room)))
