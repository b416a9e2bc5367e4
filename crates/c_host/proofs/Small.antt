-- A refusal's number and a leg's are small, so that one number has room for both. Assumes nothing.
use Rattle.std.specs.Prelude.{◌≤◌}
use native.Mathlib.Omega.{arith}
use Rattle.numbers.specs.Refusals.{number_of}
use Rattle.numbers.specs.declared.refusal.Refusal.{Refusal}
use Rattle.numbers.specs.declared.refusal.Refusal.TheVariants.{NotFinite, Outside, Time, Mask, Count, PastPositive, NoRecord}
use Rattle.numbers.specs.declared.refusal.Refusal.TheVariants.{PastNegative, TooFar}
use Rattle.numbers.specs.declared.refusal.Refusal.TheVariants.{TooNear, StoreFull, NoSuchId, NoObject, OtherNames, IdZero, NoState, NoRoom}
use Rattle.legs.specs.LegNumbers.{leg_number}
use Rattle.legs.specs.declared.leg.Leg.{Leg}
use Rattle.legs.specs.declared.leg.Leg.TheVariants.{LeftFront, RightFront, LeftMiddle, RightMiddle, LeftRear, RightRear}

pub number_small : (r : Refusal) → number_of r ≤ 17
number_small NotFinite = omega arith
number_small Outside = omega arith
number_small Time = omega arith
number_small Mask = omega arith
number_small Count = omega arith
number_small PastPositive = omega arith
number_small NoRecord = omega arith
number_small PastNegative = omega arith
number_small TooFar = omega arith
number_small TooNear = omega arith
number_small StoreFull = omega arith
number_small NoSuchId = omega arith
number_small NoObject = omega arith
number_small OtherNames = omega arith
number_small IdZero = omega arith
number_small NoState = omega arith
number_small NoRoom = omega arith

pub leg_small : (l : Leg) → leg_number l ≤ 5
leg_small LeftFront = omega arith
leg_small RightFront = omega arith
leg_small LeftMiddle = omega arith
leg_small RightMiddle = omega arith
leg_small LeftRear = omega arith
leg_small RightRear = omega arith
