-- An entry looks at what it is given first, and goes on where the test at the door refuses nothing. One law for each of the two ways.
-- Assumes nothing.
use Rattle.std.specs.Prelude.{◌≡◌, ℕ, false, ◌==◌}
use mathlib.Core.Path.{refl, sym, ap, ◌∙◌}
use native.Mathlib.Omega.{arith}
use Rattle.numbers.specs.Told.{Told, refused, answer}
use Rattle.numbers.specs.Refusals.{number_of}
use Rattle.numbers.specs.declared.refusal.Refusal.{Refusal}
use Rattle.numbers.proofs.Numbers.{has_a_number}

-- where nothing is refused, what the value says is what is promised
pub admitted : (n : ℕ) (s t : Told) → 0 ≡ n → s ≡ t → s ≡ answer n t
admitted n s t e same = simp (← e, same)

-- where something is, its number is
pub turned_back : (r : Refusal) (n : ℕ) (t : Told) → number_of r ≡ n → refused (number_of r) ≡ answer n t
turned_back r n t e = simp (← e, has_a_number r)

-- both, for an entry's attribute
pub ruleset entry = (admitted, turned_back)
