-- A leg's place in a row of six.
use Rattle.std.specs.Prelude.{ℕ}
use Rattle.legs.specs.declared.leg.Leg.{Leg}
use Rattle.legs.specs.declared.leg.Leg.TheVariants.{LeftFront, RightFront, LeftMiddle, RightMiddle, LeftRear, RightRear}

abbrev pub leg_number : Leg → ℕ
leg_number LeftFront = 0
leg_number RightFront = 1
leg_number LeftMiddle = 2
leg_number RightMiddle = 3
leg_number LeftRear = 4
leg_number RightRear = 5
