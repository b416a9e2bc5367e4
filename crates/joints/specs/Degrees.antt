-- Document 01, "Joints": "90 and 150 degrees are Rust's f32 `to_radians` bits, read once from the oracle." 3fc90fdb, bfc90fdb, 40278d36.
use Rattle.std.specs.Prelude.{Float}
use Rattle.std.specs.Float.{binary32}
use Rattle.std.specs.Float.Ieee.{of_bits}

unfoldable pub ninety : Float
unfolding of_bits
ninety = of_bits binary32 1070141403

unfoldable pub minus_ninety : Float
unfolding of_bits
minus_ninety = of_bits binary32 3217625051

unfoldable pub one_fifty : Float
unfolding of_bits
one_fifty = of_bits binary32 1076333878
