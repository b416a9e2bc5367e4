-- Where nothing is refused, ours computes document 01's progress: neither time is capped.
use Rattle.std.specs.Prelude.{◌≡◌, Bool, true, false, [], ◌∷◌}
use mathlib.Core.Path.{refl, sym, ap, ap₂}
use native.Mathlib.Omega.{arith}
use lib.Ieee.{Float}
use borrow.Author.Tests.{eqb-true}
use Rattle.numbers.proofs.OneAnswer.{alike_where_taken}
use Rattle.numbers.specs.Told.{Told, answer}
use Rattle.numbers.specs.Door.{unless, first_of}
use Rattle.legs.specs.Legs.{Feet}
use Rattle.commands.specs.Times.{elapsed_permitted, period_permitted}
use Rattle.commands.specs.How.{capped}
use Rattle.commands.specs.declared.Time.{Time}
use Rattle.numbers.proofs.OnePass.{and_left, and_right}
use Rattle.commands.proofs.Uncapped.{elapsed_uncapped, period_uncapped}
use Rattle.steps.specs.Refusals.{timely, progress_refusal, finite_lift, permitted_lift, lift_refusal}
use Rattle.steps.specs.Progress.{timed_progress, even_progress}
use Rattle.steps.specs.declared.Lift.{Lift}
pub use Rattle.numbers.proofs.Admitted.{entry}

-- ---- what is not refused is in time
in_time : (b : Bool) → unless b 3 ≡ 0 → b ≡ true
in_time true e = refl
in_time false e = absurd (omega arith)

after_floats : (F P Q : Bool) → first_of (unless F 1 ∷ unless P 2 ∷ unless Q 3 ∷ []) ≡ 0 → Q ≡ true
after_floats true true Q e = in_time Q e
after_floats true false Q e = absurd (omega arith)
after_floats false P Q e = absurd (omega arith)

progress_in_time : (elapsed period : Time) → progress_refusal elapsed period ≡ 0 → timely elapsed period ≡ true
unfolding progress_refusal
progress_in_time elapsed period = in_time (timely elapsed period)

pub step_in_time : (start last target : Feet) (lift : Lift) (b : Bool) → lift_refusal start last target lift b ≡ 0 → b ≡ true
unfolding lift_refusal
step_in_time start last target lift b =
    after_floats (finite_lift start last target lift) (permitted_lift start last target lift) b

-- ---- and not capped, whatever progress is made of the two
uncapped : (elapsed period : Time) → timely elapsed period ≡ true
    → (progress : Time → Time → Float) → progress (capped elapsed) (capped period) ≡ progress elapsed period
uncapped elapsed period h progress =
    ap₂ progress
    (elapsed_uncapped elapsed (and_left (elapsed_permitted elapsed) (period_permitted period) h))
    (period_uncapped period (and_right (elapsed_permitted elapsed) (period_permitted period) h))

-- ---- so an entry that computes its progress from the capped times, where nothing is refused, gives document 01's
pub timed_uncapped : (elapsed period : Time) → 0 ≡ progress_refusal elapsed period
    → timed_progress (capped elapsed) (capped period) ≡ timed_progress elapsed period
timed_uncapped elapsed period none = uncapped elapsed period (progress_in_time elapsed period (sym none)) timed_progress

pub even_uncapped : (elapsed period : Time) → 0 ≡ progress_refusal elapsed period
    → even_progress (capped elapsed) (capped period) ≡ even_progress elapsed period
even_uncapped elapsed period none = uncapped elapsed period (progress_in_time elapsed period (sym none)) even_progress

pub ruleset progress_entry = (entry, timed_uncapped, even_uncapped)

-- and so does a next step that is made at such a progress
pub made_in_time : (start last target : Feet) (lift : Lift) (elapsed period : Time) {N : Type 0} (tell : N → Told) (at : Float → N)
    (progress : Time → Time → Float)
    → answer (lift_refusal start last target lift (timely elapsed period)) (tell (at (progress (capped elapsed) (capped period))))
    ≡ answer (lift_refusal start last target lift (timely elapsed period)) (tell (at (progress elapsed period)))
made_in_time start last target lift elapsed period tell at progress =
    let n = lift_refusal start last target lift (timely elapsed period) in
    alike_where_taken n (tell (at (progress (capped elapsed) (capped period)))) (tell (at (progress elapsed period)))
    (λ e.
    let i : timely elapsed period ≡ true = step_in_time start last target lift (timely elapsed period) (eqb-true n 0 e) in
    ap (λ (p : Float). tell (at p)) (uncapped elapsed period i progress))
