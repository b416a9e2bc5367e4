-- 1 unit would not be enough: from -12046 to 39037 at progress 2013 the f32 step is 1.0053 units above the whole step. By computing both.
use mathlib.Core.Path.{◌≡◌, refl}
use mathlib.Core.Bool.{true, false}
use lib.Dec.{leb, le→leb}
use lib.IntN.{pos, negsuc}
use lib.Ieee.{binary32, round, add, sub, mul}
use Rattle.series.specs.Fractions.{◌÷◌, Within, value}
use Rattle.steps.specs.Leg.{part_way}
use Rattle.wholes.specs.Wholes.{sideways}
use Rattle.wholes_near.specs.Metres.{metres, progress_of, length}

pub not_within_1 : Within (1 ÷ 10000) (value (part_way (progress_of 2013) (metres (negsuc 12045)) (metres (pos 39037))))
    (length (sideways (negsuc 12045) (pos 39037) 2013)) → ⊥
unfolding progress_of metres round add sub mul
not_within_1 w = le→leb _ _ w.0
