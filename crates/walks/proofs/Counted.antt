-- An entry that counts goes on where the test at the door refuses nothing. One law for each of the two ways. Assumes nothing.
use Rattle.std.specs.Prelude.{◌≡◌, ℕ, Result, Err}
use mathlib.Core.Path.{refl, ap, ◌∙◌}
use Rattle.numbers.specs.Refusals.{number_of}
use Rattle.numbers.specs.declared.refusal.Refusal.{Refusal}
use Rattle.numbers.proofs.Numbers.{a_refusal_has_a_number}
use Rattle.numbers.proofs.Admitted.{admitted, turned_back}
use Rattle.walks.specs.Answers.{given_count, told, Counts}

-- where nothing is refused, the count is as P says
pub counted : (n : ℕ) (P : ℕ → Type 0) (k : ℕ) → 0 ≡ n → P k → Counts n P (given_count k)
counted n P k e p = (k, admitted n _ _ e refl, λ _. p)

-- where something is, there is no count
pub not_counted : (n : ℕ) (P : ℕ → Type 0) (r : Refusal) (result : Result ℕ Refusal) → number_of r ≡ n → result ≡ Err r
    → Counts n P (told result)
not_counted n P r result e is =
    (0, ap told is ∙ turned_back r n _ e, λ z. absurd (a_refusal_has_a_number r (e ∙ z)))
