-- The tests of the angles hold at all 129 of them: antt computes them, 43 at a time where they are long. Assumes nothing.
use Prim.Native.Nat.{ℕ, ◌<◌}
use lib.Dec.{T}
use Rattle.arc_rows.proofs.Each.{each, each_of, each_of_thirds}
use Rattle.arc_rows.proofs.RowTests.{good, good_back, sized}

ahead_first : T (each good 0 43)
unfolding good
ahead_first = tt

ahead_second : T (each good 43 43)
unfolding good
ahead_second = tt

ahead_third : T (each good 86 43)
unfolding good
ahead_third = tt

behind_first : T (each good_back 0 43)
unfolding good_back
behind_first = tt

behind_second : T (each good_back 43 43)
unfolding good_back
behind_second = tt

behind_third : T (each good_back 86 43)
unfolding good_back
behind_third = tt

all_sized : T (each sized 0 129)
unfolding sized
all_sized = tt

pub is_good : (k : ℕ) → k < 129 → T (good k)
is_good = each_of_thirds good ahead_first ahead_second ahead_third

pub is_good_back : (k : ℕ) → k < 129 → T (good_back k)
is_good_back = each_of_thirds good_back behind_first behind_second behind_third

pub is_sized : (k : ℕ) → k < 129 → T (sized k)
is_sized = each_of sized 129 all_sized
