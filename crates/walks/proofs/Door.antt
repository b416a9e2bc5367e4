-- Reach is exactly what the door lets in: coordinates to 3 m either way and a max move from 1/4096 m to 1 m.
use Rattle.std.specs.Prelude.{◌≡◌, ◌*◌, ◌^◌, ◌≤◌, Bool, true, ◌&&◌, T}
use mathlib.Core.Path.{sym}
use native.Mathlib.Nat.{lt_of_lt_of_le}
use lib.Dec.{lit≤}
use lib.Pow.{pow_pos}
use lib.Ieee.{Float}
use lib.Ieee.Bits.{is_true}
use lib.Ieee.Fits.{and_i}
use Rattle.numbers.specs.Door.{finite, permits}
use Rattle.numbers.specs.Limits.{walk_foot, walk_move}
use Rattle.units.specs.Units.{unity, hi}
use Rattle.units.proofs.Door.{finite_single, permitted_mag, permitted_parts, permitted_above, permits_mag, permits_above}
use Rattle.units.proofs.Table.{walk_foot_ends, walk_move_ends}
use Rattle.legs.specs.Legs.{Leg, left_front, points, foot}
use Rattle.legs.specs.Legs.{finite_point, permitted_point, finite_feet, permitted_feet}
use Rattle.legs.proofs.Laws.{each_of_every, every_of_each}
use Rattle.legs.specs.declared.Point.{Point}
use Rattle.legs.specs.Legs.{Feet}
use Rattle.moves.proofs.Refusals.{passed, each_finite, each_permitted, point_permitted}
use Rattle.moves.specs.Distance.{Each}
use Rattle.walks.specs.Reach.{AtMost, Reach, ReachFeet}
use Rattle.walks.specs.Answers.{walk_refusal, walk_feet_refusal}
use Rattle.walks.proofs.Aim.{Fit}
use Rattle.walks.proofs.OnePass.{walk_taken, walk_feet_taken}

-- ---- what is let in is within reach
coordinate : (x : Float) → Fit x → T (finite x) → T (permits walk_foot x) → AtMost (3 * unity) x
coordinate x F f p = (f, permitted_mag walk_foot 0 (3 * unity) (3 * unity) 0 walk_foot_ends (3 * unity) (lit≤ tt) (lit≤ tt) x F p)

point : (p : Point) → Each Fit p → T (finite_point p) → T (permitted_point walk_foot p) → Each (AtMost (3 * unity)) p
point p F f q =
    let g = each_finite p f in
    let h = each_permitted walk_foot p q in
    (coordinate p.x F.0 g.0 h.0, coordinate p.y F.1 g.1 h.1, coordinate p.z F.2 g.2 h.2)

reach : (m : Float) (s t : Point) → Fit m → Each Fit s → Each Fit t → T (finite m) → T (finite_point s) → T (finite_point t)
    → T (permits walk_move m) → T (permitted_point walk_foot s) → T (permitted_point walk_foot t) → Reach m s t
reach m s t Fm Fs Ft a b c d e f = record {
  start = point s Fs b e;
  target = point t Ft c f;
  move = a;
  from = (permitted_above walk_move (2 ^ 137) unity 0 walk_move_ends m Fm d).0;
  to = (permitted_parts walk_move (2 ^ 137) 0 unity 0 walk_move_ends unity (lit≤ tt) (lit≤ tt) m Fm d).0;
}

-- ---- what is within reach is let in
coordinate_let : (x : Float) → Fit x → AtMost (3 * unity) x → T (permits walk_foot x)
coordinate_let x F a = permits_mag walk_foot (3 * unity) walk_foot_ends x (finite_single x a.0 F) a.1

point_let : (p : Point) → Each Fit p → Each (AtMost (3 * unity)) p → T (permitted_point walk_foot p)
point_let p F a =
    point_permitted walk_foot p
    (coordinate_let p.x F.0 a.0, coordinate_let p.y F.1 a.1, coordinate_let p.z F.2 a.2)

move_let : (m : Float) → Fit m → T (finite m) → 2 ^ 137 ≤ hi m → hi m ≤ unity → T (permits walk_move m)
move_let m F f from to =
    permits_above walk_move (2 ^ 137) unity walk_move_ends m (finite_single m f F) (lt_of_lt_of_le (pow_pos 137) from) from to

-- three tests that hold, as the door joins them
pub all_three : (a b c : Bool) → T a → T b → T c → (a && b && c) ≡ true
all_three a b c p q r = is_true (a && b && c) (and_i (a && b) c (and_i a b p q) r)

-- ---- a point
module _ (m : Float) (s t : Point) (Fm : Fit m) (Fs : Each Fit s) (Ft : Each Fit t) where
  pub let_in : walk_refusal m s t ≡ 0 → Reach m s t
  unfolding walk_refusal
  let_in e =
      let p = passed finite_point (permitted_point walk_foot) walk_move s t m e in
      reach m s t Fm Fs Ft
      p.finite_move p.finite_last p.finite_target p.move p.last p.target

  pub within_reach : Reach m s t → walk_refusal m s t ≡ 0
  within_reach r =
      sym (walk_taken m s t
      (all_three (permitted_point walk_foot s) (permitted_point walk_foot t) (permits walk_move m)
      (point_let s Fs r.start) (point_let t Ft r.target) (move_let m Fm r.move r.from r.to)))

-- ---- six feet
module _ (m : Float) (s t : Feet) (Fm : Fit m) (Fs : (l : Leg) → Each Fit (foot s l)) (Ft : (l : Leg) → Each Fit (foot t l)) where
  pub let_feet_in : walk_feet_refusal m s t ≡ 0 → ReachFeet m (points s) (points t)
  unfolding walk_feet_refusal
  let_feet_in e l =
      let p = passed finite_feet (permitted_feet walk_foot) walk_move s t m e in
      let finite_one : (f : Feet) → T (finite_feet f) → T (finite_point (foot f l)) =
      λ f h. each_of_every (λ k. finite_point (foot f k)) h l in
      let permitted_one : (f : Feet) → T (permitted_feet walk_foot f) → T (permitted_point walk_foot (foot f l)) =
      λ f h. each_of_every (λ k. permitted_point walk_foot (foot f k)) h l in
      reach m (foot s l) (foot t l) Fm (Fs l) (Ft l)
      p.finite_move (finite_one s p.finite_last) (finite_one t p.finite_target)
      p.move (permitted_one s p.last) (permitted_one t p.target)

  pub feet_within_reach : ReachFeet m (points s) (points t) → walk_feet_refusal m s t ≡ 0
  feet_within_reach r =
      let one = r left_front in
      sym (walk_feet_taken m s t
      (all_three (permitted_feet walk_foot s) (permitted_feet walk_foot t) (permits walk_move m)
      (every_of_each (λ l. permitted_point walk_foot (foot s l)) (λ l. point_let (foot s l) (Fs l) (r l).start))
      (every_of_each (λ l. permitted_point walk_foot (foot t l)) (λ l. point_let (foot t l) (Ft l) (r l).target))
      (move_let m Fm one.move one.from one.to)))
