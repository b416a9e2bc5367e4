-- `commands::unchecked::as_secs_f32` meets its contract: the bits of 10^9 are computed.
use Rattle.std.specs.Prelude.{◌≡◌}
use mathlib.Core.Path.{refl}
use native.Mathlib.Omega.{arith}
use lib.Dec.{le→leb}
use lib.Ieee.{binary32, of_bits, of_int, round, in_float}
use Rattle.commands.specs.Times.{whole_number, in_seconds}
use Rattle.commands.proofs.unchecked.as_secs_f32.Goals as goal

billion_bits : of_bits binary32 1315859240 ≡ whole_number 1000000000
unfolding of_bits round whole_number
billion_bits = refl

pub int_to_float-seconds : goal.int_to_float-seconds
unfolding in_float
int_to_float-seconds c = le→leb c.counted-seconds.result 16777216 (omega (arith, c.counted-seconds.ensures))

pub returns : goal.returns
unfolding in_seconds of_int whole_number
returns c = simp (c.rounded.ensures, c.counted-seconds.ensures, billion_bits)
