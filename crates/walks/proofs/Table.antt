-- Within the table of permitted numbers a walk has at most 147,457 steps, a number of six digits; so have six feet.
use Rattle.std.specs.Prelude.{◌≡◌, ℕ, ◌≤◌}
use native.Mathlib.Nat.{le_trans, le_of_eq}
use lib.Ieee.{Float}
use Rattle.units.specs.Units.{mag}
use Rattle.legs.specs.Legs.{Leg, points, foot}
use Rattle.legs.specs.declared.Point.{Point}
use Rattle.legs.specs.Legs.{Feet}
use Rattle.moves.specs.Distance.{Each}
use Rattle.walks.specs.Walk.{spread, Walk, WalkFeet}
use Rattle.walks.specs.Reach.{Reach}
use Rattle.walks.specs.Answers.{walk_refusal, walk_feet_refusal}
use Rattle.walks.proofs.Aim.{Fit}
use Rattle.walks.proofs.Given.{aimed, set_out}
use Rattle.walks.proofs.Few.{few_steps}
use Rattle.walks.proofs.Feet.{one_largest}
use Rattle.walks.proofs.Door.{let_in, let_feet_in}

at_most : (m : Float) (s t : Point) → Fit m → Each Fit s → Each Fit t → Reach m s t → (k : ℕ) → Walk m s t k → k ≤ 147457
at_most m s t Fm Fs Ft r k w =
    few_steps k (mag m) (spread s t) (aimed m s t r Fm Fs Ft).from (set_out m s t r Fm Fs Ft).near w.bound

pub at_most_147457 : (m : Float) (s t : Point) → Fit m → Each Fit s → Each Fit t → walk_refusal m s t ≡ 0 → (k : ℕ) → Walk m s t k
    → k ≤ 147457
at_most_147457 m s t Fm Fs Ft e = at_most m s t Fm Fs Ft (let_in m s t Fm Fs Ft e)

pub feet_at_most_147457 : (m : Float) (s t : Feet) → Fit m → ((l : Leg) → Each Fit (foot s l)) → ((l : Leg) → Each Fit (foot t l))
    → walk_feet_refusal m s t ≡ 0 → (k : ℕ) → WalkFeet m (points s) (points t) k → k ≤ 147457
feet_at_most_147457 m s t Fm Fs Ft e k w =
    let o = one_largest w.counts in
    let l = o.0 in
    le_trans (le_of_eq w.most) (le_trans (le_of_eq o.1)
    (at_most m (foot s l) (foot t l) Fm (Fs l) (Ft l) (let_feet_in m s t Fm Fs Ft e l) (w.counts l) (w.walks l)))
