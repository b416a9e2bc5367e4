-- What is told of a reply can be read back, so telling loses nothing and no second reply fits a contract stated by it.
use Rattle.std.specs.Prelude.{◌≡◌, ℕ, zero, suc, List, [], ◌∷◌, drop, Result}
use mathlib.Core.Path.{refl, sym, ap, ap₂, ◌∙◌}
use lib.Ieee.{Float}
use Rattle.numbers.proofs.OneAnswer.{undone}
use Rattle.legs.proofs.OneAnswer.{feet_at, marks_back}
use Rattle.joints.specs.declared.refusal.SolverRefusal.{SolverRefusal}
use Rattle.joints.proofs.OneAnswer.{joints_from, joints_back, told_by_loses_nothing}
use Rattle.commands.specs.declared.Time.{Time}
use Rattle.conductor.specs.Answers.{given_reply, told}
use Rattle.conductor.specs.Conduct.{conduct_told, state_after}
use Rattle.conductor.specs.declared.State.{State}
use Rattle.conductor.specs.declared.Reply.{Reply}
use Rattle.conductor.specs.declared.Reply.TheVariants.{Step, Planned, Rests}

-- ---- the first mark of a reply is its kind
reply_from : List ℕ → List Float → Reply
reply_from [] xs = Rests (joints_from xs)
reply_from (zero ∷ ks) xs = Step (feet_at ks 0 xs 0) (joints_from (drop 18 xs))
reply_from (suc zero ∷ ks) xs = Planned (joints_from xs)
reply_from (suc (suc k) ∷ ks) xs = Rests (joints_from xs)

reply_back : (r : Reply) → reply_from (given_reply r).marks (given_reply r).values ≡ r
unfolding reply_from
reply_back (Step f j) = ap₂ Step (marks_back f) (joints_back j)
reply_back (Planned j) = ap Planned (joints_back j)
reply_back (Rests j) = ap Rests (joints_back j)

given_loses_nothing : (r q : Reply) → given_reply r ≡ given_reply q → r ≡ q
given_loses_nothing = undone given_reply (λ t. reply_from t.marks t.values) reply_back

-- nothing of it is a refusal
pub no_refusal : (r : Reply) → (given_reply r).number ≡ 0
no_refusal (Step f j) = refl
no_refusal (Planned j) = refl
no_refusal (Rests j) = refl

pub told_loses_nothing : (a b : Result Reply SolverRefusal) → told a ≡ told b → a ≡ b
unfolding told
told_loses_nothing = told_by_loses_nothing given_reply given_loses_nothing no_refusal

-- so state and elapsed time settle what a call says and the state after it, of the call by value and of the one over a lent state
pub one_call : (s : State) (elapsed : Time) (r q : Result Reply SolverRefusal) (t u : State)
    → (told r ≡ conduct_told s elapsed) × (t ≡ state_after s elapsed) → (told q ≡ conduct_told s elapsed) × (u ≡ state_after s elapsed)
    → (r ≡ q) × (t ≡ u)
one_call s elapsed r q t u a b = (told_loses_nothing r q (a.0 ∙ sym b.0), a.1 ∙ sym b.1)
