-- A coordinate is never farther from its target after a step that goes along than it was before, and past it by 2 ^ -24 at most.
use Rattle.std.specs.Prelude.{◌≡◌, ℕ, ◌+◌, ◌*◌, ◌<◌, ◌≤◌, false, not, T, ◌⊎◌}
use mathlib.Core.Path.{sym, ap₂, subst}
use mathlib.Core.Logic.{inl, inr}
use Prim.Native.Nat.{zero-le}
use native.Mathlib.Nat.{le_of_lt, lt_of_le_of_lt}
use native.Mathlib.Omega.{arith}
use lib.Ieee.{Float, binary32, sub, le}
use lib.Ieee.Fits.{sub-fits}
use lib.Ieee.Exact.{HasValue}
use Rattle.units.specs.Units.{Part, Exact, unity, hi, lo, mag, gap, apart}
use Rattle.units.proofs.Values.{hi_is, lo_is, one_side, part_finite, mag_is, mag_parts}
use Rattle.units.proofs.Held.{Single, single}
use Rattle.units.proofs.Digits.{Digits, digits_of}
use Rattle.roots.proofs.Laws.{root_fits}
use Rattle.legs.specs.declared.Point.{Point}
use Rattle.moves.specs.Distance.{square_sum, distance}
use Rattle.moves.specs.Moving.{component, along}
use Rattle.moves.proofs.Largest.{square_sum_rootable}
use Rattle.moves.proofs.Squares.{diff, size, diff_part}
use Rattle.walks.proofs.Aim.{Fit, Parts, Aim, OnWay}
use Rattle.walks.proofs.Coordinate.{δ, next, coord_part, total}
use Rattle.walks.proofs.Descent.{reach, measured, near}
use Rattle.walks.proofs.Components.{none_above}
use Rattle.walks.proofs.Keeps.{Below, BelowBy}
use Rattle.walks.proofs.Passing.{Passed, passed}

-- a coordinate that goes from l to n comes no farther from its target t, and passes it by 2 ^ -24 at most
pub record Nears (l t n : Float) : Type 0 where
  pub no_farther : apart t n ≤ apart t l
  pub up : Below l t → BelowBy δ n t
  pub down : Below t l → BelowBy δ t n

flip : {A B : Type 0} → A ⊎ B → B ⊎ A
flip (inl x) = inr x
flip (inr x) = inl x

turned : (a b : ℕ) → Digits (a + b) → Digits (b + a)
turned a b h = subst Digits (other a b) h
  where
    other : (a b : ℕ) → a + b ≡ b + a
    other a b = omega arith

-- what a coordinate, its target, the distance and the max move are
module _ (l t d m : Float) (Q M : ℕ) (sl : Single l) (st : Single t) (ft : Fit t)
    (dv : HasValue d false Q unity) (mv : HasValue m false M unity)
    (dq : Digits Q) (dm : Digits M) (less : M < Q) (one : M ≤ unity) (small : Parts (3 * unity) t)
    (close : apart t l ≤ 18 * unity) (short : size t l ≤ Q) where
  exact_diff : (Exact (diff (hi t + lo l) (lo t + hi l))) × (Exact (diff (lo t + hi l) (hi t + lo l)))
  exact_diff =
      let p = diff_part t l (hi t) (lo t) (hi l) (lo l) st.ok sl.ok close in
      let x = sub binary32 t l in
      let s =
      single x (part_finite binary32 x (diff (hi t + lo l) (lo t + hi l)) (diff (lo t + hi l) (hi t + lo l)) p)
      (sub-fits binary32 t l) in (
        subst Exact (hi_is x (diff (hi t + lo l) (lo t + hi l)) (diff (lo t + hi l) (hi t + lo l)) p) s.hi_exact,
        subst Exact (lo_is x (diff (hi t + lo l) (lo t + hi l)) (diff (lo t + hi l) (hi t + lo l)) p) s.lo_exact,
      )

  target_digits : Digits (hi t + lo t)
  target_digits = subst Digits (mag_parts t) (digits_of t ft)

  -- neither side's difference is above the distance
  sides : (diff (hi t + lo l) (lo t + hi l) ≤ Q) × (diff (lo t + hi l) (hi t + lo l) ≤ Q)
  sides = both (diff (hi t + lo l) (lo t + hi l)) (diff (lo t + hi l) (hi t + lo l)) short
    where
      both : (a b : ℕ) → a + b ≤ Q → (a ≤ Q) × (b ≤ Q)
      both a b h = (omega arith, omega arith)

  -- towards larger numbers, and towards smaller ones
  upwards : lo t + hi l ≤ hi t + lo l → Passed (hi t) (lo t) (hi l) (lo l) Q M
  upwards h =
      passed (hi t) (lo t) (hi l) (lo l) Q M less one (one_side binary32 t (hi t) (lo t) st.ok)
      (one_side binary32 l (hi l) (lo l) sl.ok)
      st.hi_exact st.lo_exact sl.hi_exact sl.lo_exact exact_diff.0
      sides.0 target_digits dq dm h

  downwards : hi t + lo l ≤ lo t + hi l → Passed (lo t) (hi t) (lo l) (hi l) Q M
  downwards h =
      passed (lo t) (hi t) (lo l) (hi l) Q M less one (flip (one_side binary32 t (hi t) (lo t) st.ok))
      (flip (one_side binary32 l (hi l) (lo l) sl.ok))
      st.lo_exact st.hi_exact sl.lo_exact sl.hi_exact exact_diff.1
      sides.1 (turned (hi t) (lo t) target_digits) dq dm h

  -- the new coordinate's parts
  abbrev n : Float
  n = component d m l t

  abbrev Np : ℕ
  Np = next (hi t) (lo t) (hi l) (lo l) Q M

  abbrev Nn : ℕ
  Nn = next (lo t) (hi t) (lo l) (hi l) Q M

  part : Part binary32 n Np Nn
  part =
      let r = reach (hi t) (lo t) (hi l) (lo l) unity (one_side binary32 l (hi l) (lo l) sl.ok) close small.0 small.1 in
      let QP : 0 < Q = lt_of_le_of_lt zero-le less in
      coord_part (hi l) (lo l) (hi t) (lo t) Q M QP (le_of_lt less) one r.0 r.1 close
      (twice QP sides.0) (twice QP sides.1) l t d m sl.ok st.ok dv mv
    where
      twice : {a b : ℕ} → 0 < b → a ≤ b → a < 2 * b
      twice {a} {b} p h = omega arith

  coordinate_no_farther : apart t n ≤ apart t l
  coordinate_no_farther =
      let e : gap (hi t + Nn) (lo t + Np) ≡ apart t n =
      ap₂ (λ (a b : ℕ). gap (hi t + a) (lo t + b)) (sym (lo_is n Np Nn part)) (sym (hi_is n Np Nn part)) in
      subst (λ (a : ℕ). a ≤ apart t l) e (by_side (total (lo t + hi l) (hi t + lo l)))
    where
      swap : (a b : ℕ) → gap a b ≡ gap b a
      swap a b = omega arith

      by_side : (lo t + hi l ≤ hi t + lo l) ⊎ (hi t + lo l ≤ lo t + hi l) → gap (hi t + Nn) (lo t + Np) ≤ apart t l
      by_side (inl h) = (upwards h).no_farther
      by_side (inr h) =
          subst (λ (a : ℕ). gap (hi t + Nn) (lo t + Np) ≤ a) (swap (lo t + hi l) (hi t + lo l))
          (subst (λ (a : ℕ). a ≤ gap (lo t + hi l) (hi t + lo l)) (swap (lo t + Np) (hi t + Nn)) (downwards h).no_farther)

  pub nears : Nears l t n
  nears = record {
    no_farther = coordinate_no_farther;
    up = λ h. as_up (hi t) (lo t) (hi n) (lo n) Np Nn δ (hi_is n Np Nn part) (lo_is n Np Nn part)
        (upwards (order (hi l) (lo t) (lo l) (hi t) h)).past_by;
    down = λ h. as_down (hi t) (lo t) (hi n) (lo n) Np Nn δ (hi_is n Np Nn part) (lo_is n Np Nn part) (downwards h).past_by;
  }
    where
      order : (a b c d : ℕ) → a + b ≤ c + d → b + a ≤ d + c
      order a b c d h = omega arith

      as_up : (ht lt hn ln Np Nn k : ℕ) → hn ≡ Np → ln ≡ Nn → lt + Np ≤ ht + Nn + k → hn + lt ≤ ln + ht + k
      as_up ht lt hn ln Np Nn k a b h = omega arith

      as_down : (ht lt hn ln Np Nn k : ℕ) → hn ≡ Np → ln ≡ Nn → ht + Nn ≤ lt + Np + k → ht + ln ≤ lt + hn + k
      as_down ht lt hn ln Np Nn k a b h = omega arith

-- ---- the three coordinates of a step from l to p, and that p is no farther from t than l is
pub record AllNear (l t p : Point) : Type 0 where
  pub x : Nears l.x t.x p.x
  pub y : Nears l.y t.y p.y
  pub z : Nears l.z t.z p.z

pub record NoFarther (l t p : Point) : Type 0 where
  pub x : apart t.x p.x ≤ apart t.x l.x
  pub y : apart t.y p.y ≤ apart t.y l.y
  pub z : apart t.z p.z ≤ apart t.z l.z

module _ (m : Float) (l t : Point) (aim : Aim m t) (way : OnWay l t) (far : T (not (le (distance l t) m))) where
  distance_held : Fit (distance l t)
  unfolding distance
  distance_held = root_fits (square_sum l t) (square_sum_rootable l t).held

  pub along_nears : AllNear l t (along (distance l t) m l t)
  unfolding along
  along_nears =
      let d = distance l t in
      let w = measured m l t aim way far in
      let n = near m l t aim way in
      let q = none_above m l t aim way far in
      let dq : Digits w.Q = subst Digits (mag_is d false w.Q w.value) (digits_of d distance_held) in
      let dm : Digits (mag m) = digits_of m aim.held_move in
      record {
        x =
            nears l.x t.x d m w.Q (mag m) way.point.0 aim.target.0 aim.held.0 w.value aim.move dq dm
            w.above aim.to aim.near.0 n.0 q.x;
        y =
            nears l.y t.y d m w.Q (mag m) way.point.1 aim.target.1 aim.held.1 w.value aim.move dq dm
            w.above aim.to aim.near.1 n.1 q.y;
        z =
            nears l.z t.z d m w.Q (mag m) way.point.2 aim.target.2 aim.held.2 w.value aim.move dq dm
            w.above aim.to aim.near.2 n.2 q.z;
      }

  pub along_no_farther : NoFarther l t (along (distance l t) m l t)
  along_no_farther = record { x = along_nears.x.no_farther; y = along_nears.y.no_farther; z = along_nears.z.no_farther }
