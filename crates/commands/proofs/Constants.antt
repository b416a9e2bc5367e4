-- The constants by their bits.
use Rattle.std.specs.Prelude.{◌≡◌}
use mathlib.Core.Path.{refl}
use lib.Ieee.{binary32, of_bits}
use Rattle.numbers.specs.Limits.{over}
use Rattle.commands.specs.Constants.{nought, one}
use Rattle.commands.specs.Command.{default_step_height, default_step_distance, epsilon}

pub nought_bits : of_bits binary32 0 ≡ nought
unfolding of_bits over nought
nought_bits = refl

pub one_bits : of_bits binary32 0x3f80_0000 ≡ one
unfolding of_bits over one
one_bits = refl

pub height_bits : of_bits binary32 0x3cf5_c28f ≡ default_step_height
unfolding of_bits over default_step_height
height_bits = refl

pub distance_bits : of_bits binary32 0x3ccc_cccd ≡ default_step_distance
unfolding of_bits over default_step_distance
distance_bits = refl

pub epsilon_bits : of_bits binary32 0x3400_0000 ≡ epsilon
unfolding of_bits over epsilon
epsilon_bits = refl
