-- Request K13 for a C host: a point by its three numbers, and what the three lent numbers hold after a call.
use Rattle.std.specs.Prelude.{eqb, ℤ, nat_abs}
use Rattle.numbers.specs.Told.{choose}
use Rattle.wholes.specs.Wholes.{refusal, whole_step}
use Rattle.wholes.specs.declared.WholePoint.{WholePoint}

abbrev pub point : ℤ → ℤ → ℤ → WholePoint
point x y z = record { x = x; y = y; z = z }

-- where nothing is refused the foot's point, else what they held
abbrev pub stored : WholePoint → WholePoint → ℤ → ℤ → WholePoint → WholePoint
stored start target height progress held =
    choose (eqb (refusal start target height progress) 0) (whole_step start target (nat_abs height) (nat_abs progress)) held
