-- The constants of the code, by their bits: 1/2 and P.
use Rattle.std.specs.Prelude.{◌≡◌}
use mathlib.Core.Path.{refl}
use lib.Ieee.{binary32, of_bits}
use Rattle.numbers.specs.Limits.{over}
use Rattle.steps.specs.Leg.{half, half_turn}
pub use Rattle.commands.proofs.Constants.{nought_bits, one_bits}

pub half_bits : of_bits binary32 0x3f00_0000 ≡ half
unfolding of_bits over half
half_bits = refl

pub half_turn_bits : of_bits binary32 0x4049_0fdb ≡ half_turn
unfolding of_bits over half_turn
half_turn_bits = refl

-- with 0 and 1
pub ruleset constants = (nought_bits, one_bits, half_bits, half_turn_bits)
