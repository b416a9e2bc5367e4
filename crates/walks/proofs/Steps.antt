-- One step of a walk: it stays on the way, S falls where it moved, and each coordinate stays between its start and its target and comes
-- no farther from it.
use Rattle.std.specs.Prelude.{◌≡◌, ℕ, zero, suc, ◌+◌, ◌*◌, ◌<◌, ◌≤◌, Bool, true, false, not, ◌&&◌, T, ◌⊎◌}
use mathlib.Core.Path.{refl, sym, ◌∙◌, subst}
use mathlib.Core.Logic.{inl, inr}
use Prim.Native.Nat.{zero-le}
use native.Mathlib.Nat.{lt_of_lt_of_le}
use native.Mathlib.Omega.{arith}
use lib.Dec.{T_not, not_T}
use lib.Pow.{pow_pos}
use lib.Ieee.{Float, le, eq}
use lib.Ieee.Bits.{is_false}
use lib.Ieee.Fits.{and_i, and_l, and_r}
use Rattle.units.specs.Units.{unity, hi, lo, mag, apart, gap}
use Rattle.units.proofs.Order.{eq_of_apart, apart_of_eq, apart_comm}
use Rattle.units.proofs.Held.{Single}
use Rattle.legs.specs.declared.Point.{Point}
use Rattle.moves.specs.Distance.{Each, same, distance}
use Rattle.moves.specs.Moving.{move_towards, nearer, along, point_of}
use Rattle.moves.specs.declared.Step.TheVariants.{Moved, Arrived}
use Rattle.moves.proofs.Steps.{stands, moves, goes_there, goes_along, after_step}
use Rattle.walks.specs.Walk.{spread}
use Rattle.walks.proofs.Aim.{Aim, OnWay}
use Rattle.walks.proofs.Descent.{lowers}
use Rattle.walks.proofs.Nearer.{NoFarther, along_no_farther}
use Rattle.walks.proofs.Keeps.{Inside, at_end, inside_step, all_kept, along_held, single_along}

-- ---- S is 0 at the target, and only there
apart_self : (x : Float) → apart x x ≡ 0
apart_self x = none (hi x) (lo x)
  where
    none : (a b : ℕ) → gap (a + b) (b + a) ≡ 0
    none a b = omega arith

three : {a b c : ℕ} → a ≡ 0 → b ≡ 0 → c ≡ 0 → a + b + c ≡ 0
three {a} {b} {c} x y z = omega arith

pub spread_self : (t : Point) → spread t t ≡ 0
spread_self t = three (apart_self t.x) (apart_self t.y) (apart_self t.z)

pub same_of_spread : (l t : Point) → Each Single l → Each Single t → spread l t ≡ 0 → T (same l t)
unfolding same
same_of_spread l t sl st e =
    let z = parts (apart t.x l.x) (apart t.y l.y) (apart t.z l.z) e in
    let level : (x y : Float) → Single x → Single y → apart y x ≡ 0 → T (eq x y) =
    λ x y a b h. eq_of_apart x y a.ok b.ok (apart_comm x y ∙ h) in
    and_i (eq l.x t.x && eq l.y t.y) (eq l.z t.z)
    (and_i (eq l.x t.x) (eq l.y t.y) (level l.x t.x sl.0 st.0 z.0) (level l.y t.y sl.1 st.1 z.1))
    (level l.z t.z sl.2 st.2 z.2)
  where
    parts : (a b c : ℕ) → a + b + c ≡ 0 → (a ≡ 0) × (b ≡ 0) × (c ≡ 0)
    parts a b c e = (omega arith, omega arith, omega arith)

pub spread_of_same : (l t : Point) → Each Single l → Each Single t → T (same l t) → spread l t ≡ 0
unfolding same
spread_of_same l t sl st h =
    let xy = and_l (eq l.x t.x && eq l.y t.y) (eq l.z t.z) h in
    let level : (x y : Float) → Single x → Single y → T (eq x y) → apart y x ≡ 0 =
    λ x y a b e. apart_comm y x ∙ apart_of_eq x y a.ok b.ok e in
    three (level l.x t.x sl.0 st.0 (and_l (eq l.x t.x) (eq l.y t.y) xy))
    (level l.y t.y sl.1 st.1 (and_r (eq l.x t.x) (eq l.y t.y) xy))
    (level l.z t.z sl.2 st.2 (and_r (eq l.x t.x && eq l.y t.y) (eq l.z t.z) h))

-- each coordinate is between the start's and the target's, but for 51 * 2 ^ -24
pub record Between (s t l : Point) : Type 0 where
  pub x : Inside s.x t.x l.x
  pub y : Inside s.y t.y l.y
  pub z : Inside s.z t.z l.z

-- ---- a step from l that moved, to p
pub record Moves (m : Float) (l t p : Point) : Type 0 where
  pub way : OnWay p t
  pub less : spread p t < spread l t
  pub falls : (2 * spread p t + mag m ≤ 2 * spread l t) ⊎ (spread p t ≡ 0)
  pub between : (s : Point) → Between s t l → Between s t p
  pub no_farther : NoFarther l t p

-- the target is no farther than anything
pub at_target : (l t : Point) → NoFarther l t t
at_target l t = record { x = none t.x l.x; y = none t.y l.y; z = none t.z l.z }
  where
    none : (x y : Float) → apart x x ≤ apart x y
    none x y = subst (λ (a : ℕ). a ≤ apart x y) (sym (apart_self x)) zero-le

pub test_false : {b : Bool} → b ≡ false → T (not b)
test_false e = subst (λ (b : Bool). T (not b)) (sym e) tt

module _ (m : Float) (l t : Point) (aim : Aim m t) (way : OnWay l t) where
  elsewhere : same l t ≡ false → 0 < spread l t
  elsewhere e = above (spread l t) (λ h. T_not (same l t) (test_false e) (same_of_spread l t way.point aim.target h))
    where
      above : (a : ℕ) → (a ≡ 0 → ⊥) → 0 < a
      above zero h = absurd (h refl)
      above (suc a) h = omega arith

  there : OnWay t t
  there = record { held = aim.held; point = aim.target; near = subst (λ (a : ℕ). a ≤ 18 * unity) (sym (spread_self t)) zero-le }

  ends : (s : Point) → Between s t t
  ends s = record { x = at_end s.x t.x; y = at_end s.y t.y; z = at_end s.z t.z }

  to_target : same l t ≡ false → Moves m l t t
  to_target e = record {
    way = there;
    less = subst (λ (a : ℕ). a < spread l t) (sym (spread_self t)) (elsewhere e);
    falls = inr (spread_self t);
    between = λ s b. ends s;
    no_farther = at_target l t;
  }

  onward : le (distance l t) m ≡ false → Moves m l t (along (distance l t) m l t)
  onward e =
      let far = test_false e in
      let w = lowers m l t aim way far in
      let k = all_kept m l t aim way far in
      let p = along (distance l t) m l t in
      record {
        way =
            record {
              held = along_held (distance l t) m l t;
              point = single_along (distance l t) m l t w.units;
              near = still (spread l t) (spread p t) (mag m) (18 * unity) w.lowered way.near;
            };
        less = fewer (spread l t) (spread p t) (mag m) (lt_of_lt_of_le (pow_pos 137) aim.from) w.lowered;
        falls = inl w.lowered;
        between = λ s b. record {
          x = inside_step s.x t.x l.x p.x k.x b.x;
          y = inside_step s.y t.y l.y p.y k.y b.y;
          z = inside_step s.z t.z l.z p.z k.z b.z;
        };
        no_farther = along_no_farther m l t aim way far;
      }
    where
      still : (a b c k : ℕ) → 2 * b + c ≤ 2 * a → a ≤ k → b ≤ k
      still a b c k h g = omega arith

      fewer : (a b c : ℕ) → 0 < c → 2 * b + c ≤ 2 * a → b < a
      fewer a b c g h = omega arith

  pub moved : (p : Point) → move_towards l t m ≡ Moved p → Moves m l t p
  moved p h = by_place (same l t) refl
    where
      by_distance : same l t ≡ false → (b : Bool) → le (distance l t) m ≡ b → Moves m l t (nearer (distance l t) l t m)
      by_distance e true g = subst (Moves m l t) (sym (goes_there (distance l t) l t m g)) (to_target e)
      by_distance e false g = subst (Moves m l t) (sym (goes_along (distance l t) l t m g)) (onward g)

      by_place : (b : Bool) → same l t ≡ b → Moves m l t p
      by_place true e = absurd (let q : Arrived t ≡ Moved p = sym (stands l t m e) ∙ h in let z : ◌≡◌ {A = ℕ} 0 1 = cc in omega arith)
      by_place false e =
          let q : nearer (distance l t) l t m ≡ p =
          (let r : Moved (nearer (distance l t) l t m) ≡ Moved p = sym (moves l t m e) ∙ h in cc) in
          subst (Moves m l t) q (by_distance e (le (distance l t) m) refl)

  -- what is farther than the max move is not at its target
  pub far_is_elsewhere : le (distance l t) m ≡ false → same l t ≡ false
  far_is_elsewhere e =
      is_false (same l t)
      (not_T (same l t) (λ h. none (onward e).less (spread_of_same l t way.point aim.target h)))
    where
      none : {a b : ℕ} → a < b → b ≡ 0 → ⊥
      none {a} {b} i z = omega arith

  -- whatever a step does: it stays on the way, and between
  pub record Kept : Type 0 where
    pub on : OnWay (point_of (move_towards l t m)) t
    pub between : (s : Point) → Between s t l → Between s t (point_of (move_towards l t m))
    pub no_farther : NoFarther l t (point_of (move_towards l t m))

  pub kept : Kept
  kept = record {
    on = after_step l t m (λ (p : Point). OnWay p t) there (λ e. (onward e).way);
    between = λ s b. after_step l t m (Between s t) (ends s) (λ e. (onward e).between s b);
    no_farther = after_step l t m (NoFarther l t) (at_target l t) (λ e. (onward e).no_farther);
  }
