-- No step inside a walk is refused: what the walk hands to a step stays within that step's limits, coordinates to 4 m and a max move
-- from 0 to 1 m.
-- (That the step then hands the root no more than the root's limit, `moves` shows of all that it takes.)
use Rattle.std.specs.Prelude.{◌≡◌, ℕ, ◌+◌, ◌*◌, ◌≤◌, T, ◌⊎◌}
use mathlib.Core.Path.{sym}
use mathlib.Core.Logic.{inl, inr}
use Prim.Native.Nat.{zero-le}
use native.Mathlib.Nat.{lt_of_lt_of_le}
use native.Mathlib.Omega.{arith}
use lib.Dec.{lit≤}
use lib.Pow.{pow_pos}
use lib.Ieee.{Float, binary32}
use Rattle.numbers.specs.Door.{permits}
use Rattle.numbers.specs.Limits.{max_move, foot_limit}
use Rattle.units.specs.Units.{unity, hi, lo}
use Rattle.units.proofs.Values.{one_side}
use Rattle.units.proofs.Held.{Single}
use Rattle.units.proofs.Door.{permits_part, permits_above}
use Rattle.units.proofs.Table.{foot_ends, max_move_ends}
use Rattle.legs.specs.Legs.{permitted_point}
use Rattle.legs.specs.declared.Point.{Point}
use Rattle.moves.specs.Refusals.{move_refusal}
use Rattle.moves.proofs.Refusals.{point_permitted}
use Rattle.moves.proofs.OnePass.{move_taken}
use Rattle.moves.specs.Distance.{Each}
use Rattle.walks.specs.Walk.{point_after}
use Rattle.walks.specs.Reach.{Reach}
use Rattle.walks.proofs.Coordinate.{δ}
use Rattle.walks.proofs.Keeps.{Inside, at_end}
use Rattle.walks.proofs.Aim.{Fit, Parts, Aim, OnWay}
use Rattle.walks.proofs.Door.{all_three}
use Rattle.walks.proofs.Given.{aimed, set_out, all_parts, move_single}
use Rattle.walks.proofs.Steps.{Between}
use Rattle.walks.proofs.Trail.{on_way, between}

-- ---- a coordinate of the walk is at most 4
module _ (hs ls ht lt hl ll d u : ℕ) (small : d ≤ u) (side : (hl ≡ 0) ⊎ (ll ≡ 0)) (a : hs ≤ 3 * u) (b : ls ≤ 3 * u)
    (c : ht ≤ 3 * u) (e : lt ≤ 3 * u) where
  not_below : (hs + ll ≤ ls + hl + d) ⊎ (ht + ll ≤ lt + hl + d) → ll ≤ 4 * u + hl
  not_below (inl h) = omega arith
  not_below (inr h) = omega arith

  not_above : (hl + ls ≤ ll + hs + d) ⊎ (hl + lt ≤ ll + ht + d) → hl ≤ ll + 4 * u
  not_above (inl h) = omega arith
  not_above (inr h) = omega arith

four : (s t l : Float) → Single l → Parts (3 * unity) s → Parts (3 * unity) t → Inside s t l
    → (lo l ≤ 4 * unity + hi l) × (hi l ≤ lo l + 4 * unity)
four s t l w p q i =
    let side = one_side binary32 l (hi l) (lo l) w.ok in (
      not_below (hi s) (lo s) (hi t) (lo t) (hi l) (lo l) (51 * δ) unity (lit≤ tt) side p.0 p.1 q.0 q.1 i.low,
      not_above (hi s) (lo s) (hi t) (lo t) (hi l) (lo l) (51 * δ) unity (lit≤ tt) side p.0 p.1 q.0 q.1 i.high,
    )

-- ---- the door's tests, from units
coordinate : (s t l : Float) → Single l → Parts (3 * unity) s → Parts (3 * unity) t → Inside s t l → T (permits foot_limit l)
coordinate s t l w p q i =
    let f = four s t l w p q i in
    permits_part foot_limit 0 (4 * unity) (4 * unity) 0 foot_ends l (hi l) (lo l) w.ok (up f.0) (down f.1)
  where
    up : {a b : ℕ} → a ≤ b → 0 + a ≤ b
    up {a} {b} h = omega arith

    down : {a b : ℕ} → a ≤ b → a + 0 ≤ b
    down {a} {b} h = omega arith

permitted_point_lem : (s t l : Point) → Each Single l → Each (Parts (3 * unity)) s → Each (Parts (3 * unity)) t → Between s t l
    → T (permitted_point foot_limit l)
permitted_point_lem s t l w p q b =
    point_permitted foot_limit l (
      coordinate s.x t.x l.x w.0 p.0 q.0 b.x,
      coordinate s.y t.y l.y w.1 p.1 q.1 b.y,
      coordinate s.z t.z l.z w.2 p.2 q.2 b.z,
    )

module _ (m : Float) (s t : Point) (r : Reach m s t) (fm : Fit m) (fs : Each Fit s) (ft : Each Fit t) where
  aim : Aim m t
  aim = aimed m s t r fm fs ft

  start : OnWay s t
  start = set_out m s t r fm fs ft

  permitted_move : T (permits max_move m)
  permitted_move =
      permits_above max_move 0 unity max_move_ends m (move_single m s t r fm fs ft) (lt_of_lt_of_le (pow_pos 137) r.from) zero-le r.to

  pub unrefused : (k : ℕ) → move_refusal (point_after m s t k) t m ≡ 0
  unrefused k =
      let l = point_after m s t k in
      let p = all_parts s r.start in
      let q = all_parts t r.target in
      let there : Between s t t = record { x = at_end s.x t.x; y = at_end s.y t.y; z = at_end s.z t.z } in
      sym (move_taken l t m
      (all_three (permitted_point foot_limit l) (permitted_point foot_limit t) (permits max_move m)
      (permitted_point_lem s t l (on_way m s t aim start k).point p q (between m s t aim start k))
      (permitted_point_lem s t t aim.target p q there) permitted_move))
