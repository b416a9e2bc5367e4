-- `lines::digits::spelt` meets its contract. What is read of the bytes from 2 * k on, after the number so far, is what is read of all.
use mathlib.Core.Path.{◌≡◌}
use Prim.Native.Nat.{◌*◌, ◌<◌, ◌^◌}
use lib.ListN.{drop}
use Rattle.lines.specs.Digits.{push_all, read_in}
use Rattle.lines.proofs.Reading.{known}
use Rattle.lines.proofs.digits.spelt.Given as goal

abbrev pub invariant-loop-k : goal.invariant-loop-k
invariant-loop-k l = (push_all 16 (known l.v) (drop (2 * l.k) l.s) ≡ read_in 16 l.s) × (l.v < 16 ^ (2 * l.k))
