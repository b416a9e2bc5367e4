-- `walks::unchecked::walk_in_rounds` meets its contract: the loop keeps `Striding`, whose count of rounds is bounded. Where one foot is
-- still lifted after a round, not all had arrived before it.
use Rattle.std.specs.Prelude.{◌≡◌, ℕ, ◌+◌, ◌-◌, ◌<◌, Bool, true, false, not}
use mathlib.Core.Path.{sym, ap, ◌∙◌, subst}
use native.Mathlib.Omega.{arith}
use borrow.Author.Rules.{rules}
use lib.Ieee.{Float}
use Rattle.legs.specs.Legs.{point, points, lifted, every, marked}
use Rattle.legs.specs.Legs.{Points}
use Rattle.legs.specs.Legs.{Feet}
use Rattle.moves.specs.Distance.{same}
use Rattle.walks.specs.Walk.{WalkFeet}
use Rattle.walks.specs.How.{strides}
use Rattle.walks.proofs.Given.{aimed, set_out}
use Rattle.walks.proofs.Ends.{feet_end}
use Rattle.walks.proofs.Fits.{points_fit}
use Rattle.walks.proofs.Rounds.{has_arrived}
use Rattle.walks.proofs.Strides.{Striding, striding_start, not_arrived, striding_few, striding_on, striding_ended, striding_ends}
use Rattle.walks.proofs.unchecked.walk_in_rounds.Goals as goal

pub loop-next-init : goal.loop-next-init
loop-next-init c =
    let a = c.args in
    let owned = c.well_formed.1 in
    let fits_start = points_fit a.start owned.0 in
    let fits_target = points_fit a.target owned.1.0 in
    subst (λ (f : Feet). Striding a.max_move (points f) a.target f 0) (sym c.setting_out-last.ensures)
    (striding_start a.max_move a.start a.target
    (feet_end _ _ _ (search rules) fits_start fits_target c.requires)
    (λ f. aimed _ _ _ (c.requires f) (search rules) (fits_start f) (fits_target f))
    (λ f. set_out _ _ _ (c.requires f) (search rules) (fits_start f) (fits_target f)))

-- what a round's calls tell
module _ (m : Float) (s t : Points) (a : Feet) (k : ℕ) (w : Striding m s t a k) where
  still_up : (next : Feet) (b : Bool) → next ≡ strides a t m → b ≡ every (λ l. not (lifted next l)) → b ≡ false
      → has_arrived m s t (points a) ≡ false
  still_up next b e d h = not_arrived m s t a k w (ap (λ (f : Feet). every (λ l. not (lifted f l))) (sym e) ∙ sym d ∙ h)

  all_down_now : (next : Feet) (b : Bool) → next ≡ strides a t m → b ≡ every (λ l. not (lifted next l)) → b ≡ true
      → every (λ l. not (lifted (strides a t m) l)) ≡ true
  all_down_now next b e d h = ap (λ (f : Feet). every (λ l. not (lifted f l))) (sym e) ∙ sym d ∙ h

  arrived_is : (p : Points) (b v : Bool) → p ≡ points a → b ≡ every (λ l. same (point p l) (point t l)) → b ≡ v
      → has_arrived m s t (points a) ≡ v
  arrived_is p b v e d h = ap (λ (q : Points). has_arrived m s t q) (sym e) ∙ sym d ∙ h

  on : (next : Feet) → next ≡ strides a t m → has_arrived m s t (points a) ≡ false → Striding m s t next (k + 1)
  on next e h = subst (λ (f : Feet). Striding m s t f (k + 1)) (sym e) (striding_on m s t a k w h)

-- what set out is the start
from_start : (m : Float) (s t : Points) (f : Feet) (k : ℕ) → f ≡ marked (λ l. true) s → WalkFeet m (points f) t k → WalkFeet m s t k
from_start m s t f k e w = subst (λ (p : Points). WalkFeet m p t k) (ap points e) w

-- so many rounds at most
room : {k : ℕ} → k < 147457 → k + 1 < 4294967296
room {k} h = omega arith

fewer : {k : ℕ} → k < 147457 → 147457 - (k + 1) < 147457 - k
fewer {k} h = omega arith

pub returns-then-all_arrived : goal.returns-then-all_arrived
returns-then-all_arrived c =
    from_start _ _ _ _ c.loop-next.rounds c.setting_out-last.ensures
    (striding_ended _ _ _ c.loop-next.last c.loop-next.rounds c.loop-next.invariant
    (arrived_is _ _ _ c.loop-next.last c.loop-next.rounds c.loop-next.invariant _ _ true c.points_of.ensures
    c.all_arrived.ensures c.if-all_arrived.true))

pub overflow_add-result : goal.overflow_add-result
overflow_add-result c = record {
  fits =
      room
      (striding_few _ _ _ c.loop-next.last c.loop-next.rounds c.loop-next.invariant
      (arrived_is _ _ _ c.loop-next.last c.loop-next.rounds c.loop-next.invariant _ _ false c.points_of.ensures
      c.all_arrived.ensures c.if-all_arrived.false));
}

pub returns-then-all_down : goal.returns-then-all_down
returns-then-all_down c =
    from_start _ _ _ _ _ c.setting_out-last.ensures
    (striding_ends _ _ _ c.loop-next.last c.loop-next.rounds c.loop-next.invariant
    (arrived_is _ _ _ c.loop-next.last c.loop-next.rounds c.loop-next.invariant _ _ false c.points_of.ensures
    c.all_arrived.ensures c.if-all_arrived.false)
    (all_down_now _ _ _ c.loop-next.last c.loop-next.rounds c.loop-next.invariant _ _ c.strides-next.ensures
    c.all_down.ensures c.if-all_down.true))

pub overflow_add-rounds : goal.overflow_add-rounds
overflow_add-rounds c = record {
  fits =
      room
      (striding_few _ _ _ c.loop-next.last c.loop-next.rounds c.loop-next.invariant
      (still_up _ _ _ c.loop-next.last c.loop-next.rounds c.loop-next.invariant _ _ c.strides-next.ensures
      c.all_down.ensures c.if-all_down.false));
}

pub loop-next-smaller : goal.loop-next-smaller
loop-next-smaller c =
    fewer
    (striding_few _ _ _ c.loop-next.last c.loop-next.rounds c.loop-next.invariant
    (still_up _ _ _ c.loop-next.last c.loop-next.rounds c.loop-next.invariant _ _ c.strides-next.ensures
    c.all_down.ensures c.if-all_down.false))

pub loop-next-preserved : goal.loop-next-preserved
loop-next-preserved c =
    on _ _ _ c.loop-next.last c.loop-next.rounds c.loop-next.invariant _ c.strides-next.ensures
    (still_up _ _ _ c.loop-next.last c.loop-next.rounds c.loop-next.invariant _ _ c.strides-next.ensures
    c.all_down.ensures c.if-all_down.false)
