-- What is told of an answer on taught poses: done has a mark, 1, and a refusal none; a list says its length and its ids, and of a refused
-- list its number alone is told.
use Rattle.std.specs.Prelude.{ℕ, List, [], ◌∷◌, take, Result}
use Rattle.numbers.specs.Told.{Told, given}
use Rattle.numbers.specs.Answers.{told_by}
use Rattle.numbers.specs.declared.refusal.Refusal.{Refusal}
use Rattle.taught.specs.declared.Listed.{Listed}

abbrev pub done : Told
done = given (1 ∷ []) []

abbrev pub told : Result (Unit {0}) Refusal → Told
told r = told_by (λ u. done) r

abbrev pub given_ids : ℕ → List ℕ → Told
given_ids n ids = given (n ∷ ids) []

abbrev pub told_listed : Result Listed Refusal → Told
told_listed r = told_by (λ l. given_ids l.len (take l.len l.ids)) r
