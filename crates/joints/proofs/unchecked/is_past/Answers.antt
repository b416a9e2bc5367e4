-- `joints::unchecked::is_past` meets its contract, by computation of the two limits.
use mathlib.Core.Path.{refl}
use lib.Ieee.{neg, of_bits}
use Rattle.joints.specs.Degrees.{ninety, minus_ninety}
use Rattle.joints.proofs.unchecked.is_past.Goals as goal

pub returns : goal.returns
unfolding ninety minus_ninety neg of_bits
returns c = refl
