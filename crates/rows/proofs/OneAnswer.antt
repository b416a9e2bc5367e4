-- No second answer fits the promise of an update, refused or not, and no second row: the lent one holds at the end what it
-- held. Assumes nothing.
use Rattle.std.specs.Prelude.{◌≡◌, ℕ, List, Result}
use mathlib.Core.Path.{sym, ◌∙◌}
use Rattle.numbers.proofs.OneAnswer.{one_answer}
use Rattle.legs.proofs.OneAnswer.{told_loses_nothing}
use Rattle.legs.specs.Answers.{told}
use Rattle.legs.specs.declared.Foot.{Foot}
use Rattle.legs.specs.Legs.{Feet}
use Rattle.numbers.specs.declared.refusal.Refusal.{Refusal}
use Rattle.rows.specs.Rows.{UpdateOf}

-- `UpdateOf` is what `updated_from_selected_legs` promises
pub one_update : (f : Feet) (lent : List Foot) (m : ℕ) (a b : Result Feet Refusal) (left right : List Foot)
    → UpdateOf f lent m a left → UpdateOf f lent m b right → (a ≡ b) × (left ≡ right)
one_update f lent m a b left right p q = (one_answer told told_loses_nothing a b p.0 q.0, p.1 ∙ sym q.1)
