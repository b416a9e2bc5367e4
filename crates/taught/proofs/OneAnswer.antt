-- What is told of an answer on taught poses can be read back, so telling loses nothing and no second answer fits a contract stated by it.
use Rattle.std.specs.Prelude.{◌≡◌, Result}
use mathlib.Core.Path.{refl}
use Rattle.numbers.specs.declared.refusal.Refusal.{Refusal}
use Rattle.numbers.proofs.OneAnswer.{told_by_loses_nothing}
use Rattle.taught.specs.Answers.{done, told}

pub told_loses_nothing : (a b : Result (Unit {0}) Refusal) → told a ≡ told b → a ≡ b
told_loses_nothing = told_by_loses_nothing (λ u. done) (λ a b e. refl) (λ a. refl)
