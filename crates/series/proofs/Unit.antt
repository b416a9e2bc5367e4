-- The common denominator of S and C at a whole multiple of 2 ^ -30 is `Grid`'s. Assumes nothing.
use Prim.Native.Nat.{◌^◌}
use mathlib.Core.Path.{◌≡◌, refl}
use Rattle.series.specs.Series.{factorial}
use Rattle.series.specs.Working.{denominator}
use Rattle.series.proofs.Grid.{D}

pub denominator_is : denominator (2 ^ 30) ≡ D
unfolding denominator factorial D
denominator_is = refl
