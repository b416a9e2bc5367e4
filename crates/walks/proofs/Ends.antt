-- Every walk that the facts hold for has a count: S falls with each step, so that no more than S steps are made. A printer, and six
-- feet in rounds, go without
-- knowing it.
use Rattle.std.specs.Prelude.{◌≡◌, ℕ, zero, suc, ◌+◌, ◌<◌, ◌≤◌, Bool, true, false}
use mathlib.Core.Path.{refl}
use native.Mathlib.Nat.{le_refl, le_trans, le_of_eq}
use native.Mathlib.Omega.{arith}
use lib.Ieee.{Float}
use Rattle.legs.specs.Legs.{Leg, row, point}
use Rattle.legs.specs.declared.Point.{Point}
use Rattle.legs.specs.Legs.{Points}
use Rattle.moves.specs.Distance.{Each, same, distance}
use Rattle.moves.specs.Moving.{nearer}
use Rattle.moves.proofs.Steps.{stands, moves}
use Rattle.walks.specs.Walk.{spread, Walk, WalkFeet, largest}
use Rattle.walks.specs.Reach.{Reach, ReachFeet}
use Rattle.walks.specs.Answers.{walk_refusal}
use Rattle.walks.proofs.Aim.{Fit}
use Rattle.walks.proofs.Given.{aimed, set_out}
use Rattle.walks.proofs.Loop.{Going, going_start, going_on, going_nearer, going_few, going_ends}
use Rattle.walks.proofs.Feet.{one_largest, walk_of_six}
use Rattle.walks.proofs.Door.{let_in}

module _ (m : Float) (s t : Point) where
  abbrev Ended : Type 0
  Ended = (n : ℕ) × Walk m s t n × (n ≤ 147457)

  -- at l, after k steps: it has arrived, or goes on from a point that is nearer
  goes_on : (l : Point) (k : ℕ) (b : Bool) → same l t ≡ b → Going m s t l k
      → ((p : Point) → Going m s t p (k + 1) → spread p t < spread l t → Ended) → Ended
  goes_on l k true e g on = (k, going_ends m s t l t k g (stands l t m e), going_few m s t l k g)
  goes_on l k false e g on =
      let p = nearer (distance l t) l t m in
      on p (going_on m s t l p k g (moves l t m e)) (going_nearer m s t l p k g (moves l t m e))

  ends_within : (d : ℕ) (l : Point) (k : ℕ) → Going m s t l k → spread l t ≤ d → Ended
  ends_within zero l k g h = goes_on l k (same l t) refl g (λ p o n. absurd (none n h))
    where
      none : {a b : ℕ} → a < b → b ≤ 0 → ⊥
      none {a} {b} i j = omega arith
  ends_within (suc d) l k g h = goes_on l k (same l t) refl g (λ p o n. ends_within d p (k + 1) o (fewer n h))
    where
      fewer : {a b : ℕ} → a < b → b ≤ suc d → a ≤ d
      fewer {a} {b} i j = omega arith

  pub ends : Fit m → Each Fit s → Each Fit t → Reach m s t → Ended
  ends Fm Fs Ft r =
      ends_within (spread s t) s 0 (going_start m s t (aimed m s t r Fm Fs Ft) (set_out m s t r Fm Fs Ft)) (le_refl (spread s t))

  -- what the door lets in
  pub let_in_ends : Fit m → Each Fit s → Each Fit t → walk_refusal m s t ≡ 0 → Ended
  let_in_ends Fm Fs Ft e = ends Fm Fs Ft (let_in m s t Fm Fs Ft e)

-- ---- six feet
module _ (m : Float) (s t : Points) where
  pub feet_end : Fit m → ((l : Leg) → Each Fit (point s l)) → ((l : Leg) → Each Fit (point t l)) → ReachFeet m s t
      → (k : ℕ) × WalkFeet m s t k × (k ≤ 147457)
  feet_end Fm Fs Ft r =
      let e : (l : Leg) → Ended m (point s l) (point t l) = λ l. ends m (point s l) (point t l) Fm (Fs l) (Ft l) (r l) in
      let g : Leg → ℕ = λ l. (e l).0 in
      let o = one_largest g in
      (largest (row g), walk_of_six m s t g (λ l. (e l).1), le_trans (le_of_eq o.1) (e o.0).2)
