-- What a test at the door says by its answer: it failed where it refuses, and passed where it does not. Assumes nothing.
use Rattle.std.specs.Prelude.{◌≡◌, ℕ, Bool, true, false}
use mathlib.Core.Path.{refl, sym}
use Rattle.numbers.specs.Door.{unless}
use Rattle.numbers.specs.Refusals.{number_of}
use Rattle.numbers.specs.declared.refusal.Refusal.{Refusal}
use Rattle.numbers.proofs.Numbers.{a_refusal_has_a_number}

pub failed : (t : Bool) (n : ℕ) (r : Refusal) → number_of r ≡ unless t n → (t ≡ false) × (number_of r ≡ n)
failed true n r e = absurd (a_refusal_has_a_number r e)
failed false n r e = (refl, e)

pub passed : (t : Bool) (r : Refusal) → 0 ≡ unless t (number_of r) → t ≡ true
passed true r e = refl
passed false r e = absurd (a_refusal_has_a_number r (sym e))
