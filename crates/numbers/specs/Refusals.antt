-- Each refusal's number, as the documents have them; of a test at the door it is 0 where nothing is refused.
use Rattle.std.specs.Prelude.{ℕ, Result, Ok, Err}
use Rattle.numbers.specs.declared.refusal.Refusal.{Refusal}
use Rattle.numbers.specs.declared.refusal.Refusal.TheVariants.{NotFinite, Outside, Time, Mask, Count, PastPositive, NoRecord}
use Rattle.numbers.specs.declared.refusal.Refusal.TheVariants.{PastNegative, TooFar}
use Rattle.numbers.specs.declared.refusal.Refusal.TheVariants.{TooNear, StoreFull, NoSuchId, NoObject, OtherNames, IdZero, NoState, NoRoom}

abbrev pub number_of : Refusal → ℕ
number_of NotFinite = 1
number_of Outside = 2
number_of Time = 3
number_of Mask = 4
number_of Count = 5
number_of PastPositive = 6
number_of NoRecord = 7
number_of PastNegative = 8
number_of TooFar = 9
number_of TooNear = 10
number_of StoreFull = 11
number_of NoSuchId = 12
number_of NoObject = 13
number_of OtherNames = 14
number_of IdZero = 15
number_of NoState = 16
number_of NoRoom = 17

abbrev pub number_or_0 : {A : Type 0} → Result A Refusal → ℕ
number_or_0 (Ok a) = 0
number_or_0 (Err r) = number_of r
