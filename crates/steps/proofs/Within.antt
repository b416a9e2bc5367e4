-- No number passes a limit inside: where the door lets a state and a time through, a step asks for the sine of a number
-- within document 01's row, or for none.
use Rattle.commands.specs.Constants.{one}
use Rattle.std.specs.Prelude.{◌≡◌, ℕ, ◌+◌, ◌*◌, ◌<◌, ◌≤◌, Bool, true, false, not, T, ◌⊎◌}
use mathlib.Core.Path.{refl, sym, subst}
use mathlib.Core.Logic.{inl, inr}
use mathlib.Core.Bool.{true≢false}
use native.Mathlib.Omega.{arith}
use lib.Dec.{lit≤, lit<}
use lib.Ieee.{Float, nan, inf, fin, binary32, mul, div, lt, le, fits}
use lib.Ieee.Fits.{div-fits}
use Rattle.numbers.specs.Door.{permits}
use Rattle.numbers.specs.Limits.{over}
use Rattle.numbers.specs.Limits as rows
use Rattle.units.specs.Units.{unity, Part, hi, lo}
use Rattle.units.proofs.Held.{single}
use Rattle.units.proofs.Order.{not_le_part}
use Rattle.legs.specs.Legs.{Feet}
use Rattle.bounds.specs.Between.{Between}
use Rattle.bounds.proofs.Between.{product_between}
use Rattle.bounds.proofs.Rows.{sine_row}
use Rattle.commands.specs.Times.{elapsed_permitted, period_permitted, in_seconds}
use Rattle.commands.specs.declared.Time.{Time}
use Rattle.numbers.proofs.OnePass.{and_right}
use Rattle.steps.specs.Leg.{half_turn}
use Rattle.steps.specs.Progress.{timed_progress, even_progress}
use Rattle.steps.specs.Next.{TimedStepIterator, EvenStepIterator}
use Rattle.steps.specs.Refusals.{timely, lift_refusal}
use Rattle.steps.specs.declared.Lift.{Lift}
use Rattle.steps.proofs.Uncapped.{step_in_time}
use Rattle.steps.proofs.Times.{FromZero, div_from_zero, seconds_from_zero, period_above}

-- the step is done and no sine is asked for, or it is asked for within the table
pub SineAsked : Float → Type 0
SineAsked progress = (le one progress ≡ true) ⊎ T (permits rows.sine_argument (mul binary32 progress half_turn))

-- ---- a progress that is not below zero, and not done, is at most 1
one_part : Part binary32 one unity 0
unfolding one over
one_part = (refl, refl)

pub half_turn_between : Between 4 4 half_turn
unfolding half_turn over fits hi lo
half_turn_between = record { held = tt; ok = (refl, refl); low = lit≤ tt; high = lit≤ tt }

not_infinite : le one (inf false) ≡ false → ⊥
unfolding le lt one over
not_infinite h = true≢false h

below_one : (p : Float) → FromZero p → T (fits binary32 p) → le one p ≡ false → Between 1 1 p
below_one nan z F h = absurd z
below_one (inf true) z F h = absurd (true≢false z)
below_one (inf false) z F h = absurd (not_infinite h)
below_one (fin true m e) z F h = absurd (true≢false z)
below_one (fin false m e) z F h =
    let x = fin false m e in
    let s = single x tt F in
    let u = not_le_part binary32 one x unity 0 (hi x) (lo x) one_part s.ok (subst (λ (b : Bool). T (not b)) (sym h) tt) in
    record { held = F; ok = s.ok; low = none (lo x) unity s.ok.1; high = less (hi x) (lo x) unity s.ok.1 u }
  where
    none : (i u : ℕ) → i ≡ 0 → i ≤ 1 * u
    none i u e = omega arith

    less : (i j u : ℕ) → j ≡ 0 → 0 + i < u + j → i ≤ 1 * u
    less i j u e h = omega arith

pub sine_within : (p : Float) → FromZero p → T (fits binary32 p) → SineAsked p
unfolding SineAsked
sine_within p z F = by_test (le one p) refl
  where
    by_test : (b : Bool) → le one p ≡ b → (le one p ≡ true) ⊎ T (permits rows.sine_argument (mul binary32 p half_turn))
    by_test true h = inl h
    by_test false h = inr (sine_row (product_between (below_one p z F h) half_turn_between (lit< tt)) (lit≤ tt) (lit≤ tt))

-- ---- by time
pub timed_asked : (elapsed period : Time) → period_permitted period ≡ true → SineAsked (timed_progress elapsed period)
unfolding timed_progress
timed_asked elapsed period h =
    let e = in_seconds elapsed in
    let p = in_seconds period in
    let a = period_above period h in
    sine_within (div binary32 (div binary32 e p) p)
    (div_from_zero (div binary32 e p) p (div_from_zero e p (seconds_from_zero elapsed) a) a)
    (div-fits binary32 (div binary32 e p) p)

even_from_zero : (elapsed period : Time) → period_permitted period ≡ true → FromZero (even_progress elapsed period)
unfolding even_progress
even_from_zero elapsed period h =
    div_from_zero (in_seconds elapsed) (in_seconds period) (seconds_from_zero elapsed) (period_above period h)

even_fits : (elapsed period : Time) → T (fits binary32 (even_progress elapsed period))
unfolding even_progress
even_fits elapsed period = div-fits binary32 (in_seconds elapsed) (in_seconds period)

pub even_asked : (elapsed period : Time) → period_permitted period ≡ true → SineAsked (even_progress elapsed period)
even_asked elapsed period h =
    sine_within (even_progress elapsed period) (even_from_zero elapsed period h) (even_fits elapsed period)

pub even_below_one : (elapsed period : Time) → period_permitted period ≡ true → le one (even_progress elapsed period) ≡ false
    → Between 1 1 (even_progress elapsed period)
even_below_one elapsed period h =
    below_one (even_progress elapsed period) (even_from_zero elapsed period h) (even_fits elapsed period)

-- where nothing is refused, both times are in the table
module _ (start last target : Feet) (lift : Lift) (elapsed period : Time) where
  pub period_taken : lift_refusal start last target lift (timely elapsed period) ≡ 0 → period_permitted period ≡ true
  period_taken e =
      and_right (elapsed_permitted elapsed) (period_permitted period)
      (step_in_time start last target lift (timely elapsed period) e)

pub timed_within : (s : TimedStepIterator) (elapsed : Time)
    → lift_refusal s.start s.last s.target s.lift (timely elapsed s.period) ≡ 0
    → SineAsked (timed_progress elapsed s.period)
timed_within s elapsed e =
    timed_asked elapsed s.period (period_taken s.start s.last s.target s.lift elapsed s.period e)

pub even_within : (s : EvenStepIterator) (elapsed : Time)
    → lift_refusal s.start s.last s.target s.lift (timely elapsed s.period) ≡ 0
    → SineAsked (even_progress elapsed s.period)
even_within s elapsed e =
    even_asked elapsed s.period (period_taken s.start s.last s.target s.lift elapsed s.period e)
