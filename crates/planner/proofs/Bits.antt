-- The constants of the code, by their bits.
use Rattle.std.specs.Prelude.{◌≡◌}
use mathlib.Core.Path.{refl}
use lib.Ieee.{binary32, of_bits}
use Rattle.numbers.specs.Limits.{over}
use Rattle.commands.proofs.Constants.{nought_bits, one_bits}
use Rattle.planner.specs.Plan.{two, three}

pub two_bits : of_bits binary32 0x4000_0000 ≡ two
unfolding of_bits over two
two_bits = refl

pub three_bits : of_bits binary32 0x4040_0000 ≡ three
unfolding of_bits over three
three_bits = refl

pub ruleset bits = (nought_bits, one_bits, two_bits, three_bits)
