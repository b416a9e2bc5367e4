-- What is not refused passes every test of its door: the tests of refusals 1 and 2, each apart; of a point, each coordinate's.
-- Assumes nothing.
use Rattle.std.specs.Prelude.{◌≡◌, Bool, true, false, ◌&&◌, T, [], ◌∷◌}
use mathlib.Core.Path.{refl}
use native.Mathlib.Omega.{arith}
use lib.Ieee.{Float}
use lib.Ieee.Fits.{and_i, and_l, and_r}
use Rattle.numbers.specs.Door.{finite, permits, unless, first_of}
use Rattle.numbers.specs.declared.door.Limit.{Limit}
use Rattle.units.proofs.Door.{holds}
use Rattle.legs.specs.Legs.{finite_point, permitted_point}
use Rattle.legs.specs.declared.Point.{Point}
use Rattle.moves.specs.Distance.{Each}
use Rattle.moves.specs.Refusals.{refusal_by}

-- neither 1 nor 2 is given: both tests hold
both_hold : (a b : Bool) → first_of (unless a 1 ∷ unless b 2 ∷ []) ≡ 0 → (a ≡ true) × (b ≡ true)
both_hold true true e = (refl, refl)
both_hold true false e = absurd (omega arith)
both_hold false b e = absurd (omega arith)

pub record Passed {Place : Type 0} (are_finite are_permitted : Place → Bool) (row : Limit) (l t : Place) (m : Float) : Type 0 where
  pub finite_last : T (are_finite l)
  pub finite_target : T (are_finite t)
  pub finite_move : T (finite m)
  pub last : T (are_permitted l)
  pub target : T (are_permitted t)
  pub move : T (permits row m)

module _ {Place : Type 0} (are_finite are_permitted : Place → Bool) (row : Limit) (l t : Place) (m : Float) where
  pub passed : refusal_by are_finite are_permitted row l t m ≡ 0 → Passed are_finite are_permitted row l t m
  passed e =
      let h = both_hold (are_finite l && are_finite t && finite m) (are_permitted l && are_permitted t && permits row m) e in
      let f = and_l (are_finite l && are_finite t) (finite m) (holds h.0) in
      let p = and_l (are_permitted l && are_permitted t) (permits row m) (holds h.1) in
      record {
        finite_last = and_l (are_finite l) (are_finite t) f;
        finite_target = and_r (are_finite l) (are_finite t) f;
        finite_move = and_r (are_finite l && are_finite t) (finite m) (holds h.0);
        last = and_l (are_permitted l) (are_permitted t) p;
        target = and_r (are_permitted l) (are_permitted t) p;
        move = and_r (are_permitted l && are_permitted t) (permits row m) (holds h.1);
      }

-- ---- a test of a point is its three coordinates'
module _ (test : Float → Bool) (p : Point) where
  abbrev EachPasses : Type 0
  EachPasses = Each (λ x. T (test x)) p

  three : T (test p.x && test p.y && test p.z) → EachPasses
  three h =
      let xy = and_l (test p.x && test p.y) (test p.z) h in
      (and_l (test p.x) (test p.y) xy, and_r (test p.x) (test p.y) xy, and_r (test p.x && test p.y) (test p.z) h)

  of_three : EachPasses → T (test p.x && test p.y && test p.z)
  of_three e = and_i (test p.x && test p.y) (test p.z) (and_i (test p.x) (test p.y) e.0 e.1) e.2

pub each_finite : (p : Point) → T (finite_point p) → Each (λ x. T (finite x)) p
unfolding finite_point
each_finite = three finite

pub each_permitted : (row : Limit) (p : Point) → T (permitted_point row p) → Each (λ x. T (permits row x)) p
unfolding permitted_point
each_permitted row = three (permits row)

pub point_permitted : (row : Limit) (p : Point) → Each (λ x. T (permits row x)) p → T (permitted_point row p)
unfolding permitted_point
point_permitted row = of_three (permits row)
