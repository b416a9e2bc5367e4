-- A refusal has a number, which is not 0. Assumes nothing.
use Rattle.std.specs.Prelude.{◌≡◌, ℕ, false, eqb}
use mathlib.Core.Path.{refl, sym, ap, ◌∙◌}
use mathlib.Core.Bool.{true≢false}
use Rattle.numbers.specs.Refusals.{number_of}
use Rattle.numbers.specs.declared.refusal.Refusal.{Refusal}
use Rattle.numbers.specs.declared.refusal.Refusal.TheVariants.{NotFinite, Outside, Time, Mask, Count, PastPositive, NoRecord}
use Rattle.numbers.specs.declared.refusal.Refusal.TheVariants.{PastNegative, TooFar}
use Rattle.numbers.specs.declared.refusal.Refusal.TheVariants.{TooNear, StoreFull, NoSuchId, NoObject, OtherNames, IdZero, NoState, NoRoom}

pub has_a_number : (r : Refusal) → eqb (number_of r) 0 ≡ false
has_a_number NotFinite = refl
has_a_number Outside = refl
has_a_number Time = refl
has_a_number Mask = refl
has_a_number Count = refl
has_a_number PastPositive = refl
has_a_number NoRecord = refl
has_a_number PastNegative = refl
has_a_number TooFar = refl
has_a_number TooNear = refl
has_a_number StoreFull = refl
has_a_number NoSuchId = refl
has_a_number NoObject = refl
has_a_number OtherNames = refl
has_a_number IdZero = refl
has_a_number NoState = refl
has_a_number NoRoom = refl

pub a_refusal_has_a_number : (r : Refusal) → number_of r ≡ 0 → ⊥
a_refusal_has_a_number r e = true≢false (sym (ap (λ (n : ℕ). eqb n 0) e) ∙ has_a_number r)
