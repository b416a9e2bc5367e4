-- Every point of a walk: it is made of f32s; each coordinate lies between its start and its target, but for 51 * 2 ^ -24, which is
-- below 2 ^ -18; no step takes
-- a coordinate farther from its target; and one that equals its target stays so.
-- And for a printer: each step before the count moves to the next point, and the one after it stands.
use Rattle.std.specs.Prelude.{◌≡◌, ℕ, zero, suc, ◌<◌, ◌≤◌, not, T}
use mathlib.Core.Path.{sym, ap, ◌∙◌}
use native.Mathlib.Omega.{arith}
use lib.Ieee.{Float, eq}
use lib.Ieee.Bits.{is_false, is_true}
use Rattle.units.specs.Units.{apart}
use Rattle.units.proofs.Order.{eq_of_apart, apart_of_eq, apart_comm}
use Rattle.units.proofs.Held.{Single}
use Rattle.legs.specs.declared.Point.{Point}
use Rattle.moves.specs.Distance.{Each, same}
use Rattle.moves.specs.Moving.{move_towards, point_of, place_of}
use Rattle.moves.specs.declared.Step.TheVariants.{Moved, Arrived}
use Rattle.moves.proofs.Steps.{stands, moves}
use Rattle.walks.specs.Walk.{point_after, Walk}
use Rattle.walks.proofs.Aim.{Aim, OnWay}
use Rattle.walks.proofs.Keeps.{at_start}
use Rattle.walks.proofs.Nearer.{NoFarther}
use Rattle.walks.proofs.Steps.{Between, kept}

module _ (m : Float) (s t : Point) where
  module _ (aim : Aim m t) (start : OnWay s t) where
    pub on_way : (k : ℕ) → OnWay (point_after m s t k) t
    unfolding point_after
    on_way zero = start
    on_way (suc k) = (kept m (point_after m s t k) t aim (on_way k)).on

    pub between : (k : ℕ) → Between s t (point_after m s t k)
    unfolding point_after
    between zero = record { x = at_start s.x t.x; y = at_start s.y t.y; z = at_start s.z t.z }
    between (suc k) = (kept m (point_after m s t k) t aim (on_way k)).between s (between k)

    pub never_farther : (k : ℕ) → NoFarther (point_after m s t k) t (point_after m s t (suc k))
    unfolding point_after
    never_farther k = (kept m (point_after m s t k) t aim (on_way k)).no_farther

    -- since it comes no farther, a coordinate c that equals its target stays so
    module _ (c : Point → Float) (of : (p : Point) → Each Single p → Single (c p))
        (closer : (k : ℕ) → apart (c t) (c (point_after m s t (suc k))) ≤ apart (c t) (c (point_after m s t k)))
        (level : T (eq (c s) (c t))) where
      nothing_left : (k : ℕ) → apart (c t) (c (point_after m s t k)) ≡ 0
      unfolding point_after
      nothing_left zero = apart_comm (c t) (c s) ∙ apart_of_eq (c s) (c t) (of s start.point).ok (of t aim.target).ok level
      nothing_left (suc k) = none (closer k) (nothing_left k)
        where
          none : {a b : ℕ} → a ≤ b → b ≡ 0 → a ≡ 0
          none {a} {b} h e = omega arith

      stays_level : (k : ℕ) → T (eq (c (point_after m s t k)) (c t))
      stays_level k =
          eq_of_apart (c (point_after m s t k)) (c t) (of (point_after m s t k) (on_way k).point).ok
          (of t aim.target).ok (apart_comm (c (point_after m s t k)) (c t) ∙ nothing_left k)

    pub stays_x : T (eq s.x t.x) → (k : ℕ) → T (eq (point_after m s t k).x t.x)
    stays_x h k = stays_level (λ p. p.x) (λ p w. w.0) (λ i. (never_farther i).x) h k

    pub stays_y : T (eq s.y t.y) → (k : ℕ) → T (eq (point_after m s t k).y t.y)
    stays_y h k = stays_level (λ p. p.y) (λ p w. w.1) (λ i. (never_farther i).y) h k

    pub stays_z : T (eq s.z t.z) → (k : ℕ) → T (eq (point_after m s t k).z t.z)
    stays_z h k = stays_level (λ p. p.z) (λ p w. w.2) (λ i. (never_farther i).z) h k

  -- the step after k of them, where the walk has not arrived, and where it has
  pub moves_on : (k : ℕ) → T (not (same (point_after m s t k) t)) →
      move_towards (point_after m s t k) t m ≡ Moved (point_after m s t (suc k))
  unfolding point_after place_of
  moves_on k h =
      let e = moves (point_after m s t k) t m (is_false (same (point_after m s t k) t) h) in e ∙ sym (ap (λ a. Moved (point_of a)) e)

  pub stands_there : (k : ℕ) → T (same (point_after m s t k) t) → move_towards (point_after m s t k) t m ≡ Arrived t
  stands_there k h = stands (point_after m s t k) t m (is_true (same (point_after m s t k) t) h)

  -- so for a walk of n steps
  pub step_moves : (n : ℕ) → Walk m s t n → (k : ℕ) → k < n → move_towards (point_after m s t k) t m ≡ Moved (point_after m s t (suc k))
  step_moves n w k h = moves_on k (w.least k h)

  pub last_stands : (n : ℕ) → Walk m s t n → move_towards (point_after m s t n) t m ≡ Arrived t
  last_stands n w = stands_there n w.arrives
