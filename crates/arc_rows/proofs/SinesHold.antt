-- The tests of the arc sine's rows hold at all 91 of them: antt computes them. Assumes nothing.
use Prim.Native.Nat.{ℕ, ◌<◌}
use lib.Dec.{T}
use Rattle.arc_rows.proofs.Each.{each, each_of}
use Rattle.arc_rows.proofs.SineTests.{good_sine, sized_sine}

all_good : T (each good_sine 0 91)
unfolding good_sine
all_good = tt

all_sized : T (each sized_sine 0 91)
unfolding sized_sine
all_sized = tt

pub is_good : (k : ℕ) → k < 91 → T (good_sine k)
is_good = each_of good_sine 91 all_good

pub is_sized : (k : ℕ) → k < 91 → T (sized_sine k)
is_sized = each_of sized_sine 91 all_sized
