-- Document 01's number and values for each case of an answer.
use Rattle.std.specs.Prelude.{ℕ, List, [], ◌∷◌}
use Rattle.std.specs.Prelude.{Float, Option, Some, None, Result, Ok, Err}
use Rattle.numbers.specs.Told.{Told, refused, given}
use Rattle.numbers.specs.Refusals.{number_of}
use Rattle.numbers.specs.declared.refusal.Refusal.{Refusal}

-- of any kind of answer: what its value says, or the number alone
abbrev pub told_by : {A : Type 0} → (A → Told) → Result A Refusal → Told
told_by say (Ok a) = say a
told_by say (Err r) = refused (number_of r)

-- of a number
abbrev pub given_number : Float → Told
given_number x = given [] (x ∷ [])

abbrev pub told : Result Float Refusal → Told
told r = told_by given_number r

-- a pattern is a mark; a NaN has none
abbrev pub told_pattern : Option ℕ → Told
told_pattern (Some n) = given (n ∷ []) []
told_pattern None = given [] []
