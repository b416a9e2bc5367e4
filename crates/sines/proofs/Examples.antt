-- A sine by computation: of P/2, a quarter of a turn, it is 1.
use Rattle.std.specs.Prelude.{◌≡◌, ◌^◌}
use mathlib.Core.Path.{refl}
use lib.Ieee.{of_int, to_bits, mul, lt, le, neg, round}
use Rattle.numbers.specs.Limits.{over, minus, sine_argument}
use Rattle.series.specs.Series.{factorial}
use Rattle.sines.specs.How.{sine, inside_sine, fixed_sine, fixed, even, odd, sine_sum, sine_entry, cosine_entry, counted}

pub quarter_turn : sine (over 13176795 (2 ^ 23)) ≡ over 1 1
unfolding sine inside_sine fixed_sine fixed even odd sine_sum sine_entry cosine_entry counted factorial
    sine_argument over minus round of_int to_bits mul lt le neg
quarter_turn = refl
