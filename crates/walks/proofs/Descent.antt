-- THE DESCENT: a step that goes along lowers S, the exact sum of the three differences in units, by half of the max move at least.
-- Only the largest difference counts: it falls by 9/16 of the max move but for rounding, and no other rises by more than rounding.
use Rattle.std.specs.Prelude.{◌≡◌, ℕ, ◌+◌, ◌*◌, ◌<◌, ◌≤◌, false, not, T, ◌⊎◌}
use mathlib.Core.Path.{sym, ap, ◌∙◌, subst}
use mathlib.Core.Logic.{inl, inr}
use Prim.Native.Nat.{zero-le}
use native.Mathlib.Nat.{le_trans, le_of_lt, lt_of_le_of_lt}
use native.Mathlib.Omega.{arith}
use lib.Dec.{lit≤}
use lib.Ieee.{Float, binary32, le}
use lib.Ieee.Exact.{HasValue}
use Rattle.units.specs.Units.{Part, Units, unity, hi, lo, mag, gap, apart}
use Rattle.units.proofs.Values.{hi_is, lo_is, units_of, one_side}
use Rattle.units.proofs.Order.{not_le_values}
use Rattle.units.proofs.Errors.{unity_pos}
use Rattle.roots.proofs.Laws.{Rooted}
use Rattle.legs.specs.declared.Point.{Point}
use Rattle.moves.specs.Distance.{Each, distance}
use Rattle.moves.specs.Moving.{component, along}
use Rattle.walks.specs.Walk.{spread}
use Rattle.walks.proofs.Arithmetic.{Dist, Coord, pick, under, lower}
use Rattle.moves.proofs.Squares.{Near, diff, size, sq, both, all}
use Rattle.walks.proofs.Coordinate.{next, coord_fact, coord_part, δ}
use Rattle.walks.proofs.Far.{distance_rooted, dist_facts}
use Rattle.walks.proofs.Aim.{Aim, OnWay}

pub reach : (pt nt pl nl u : ℕ) → (pl ≡ 0) ⊎ (nl ≡ 0) → gap (pt + nl) (nt + pl) ≤ 18 * u → pt ≤ 3 * u → nt ≤ 3 * u
    → (pl ≤ 21 * u) × (nl ≤ 21 * u)
reach pt nt pl nl u (inl z) g a b = (omega arith, omega arith)
reach pt nt pl nl u (inr z) g a b = (omega arith, omega arith)

pub parts_lt : (a b k : ℕ) → a + b < k → (a < k) × (b < k)
parts_lt a b k h = (omega arith, omega arith)

third : (a b c k : ℕ) → a + b + c ≤ k → (a ≤ k) × (b ≤ k) × (c ≤ k)
third a b c k h = (omega arith, omega arith, omega arith)

-- the distance Q of three rounded differences
abbrev pub Facts : ℕ → ℕ → ℕ → ℕ → Type 0
Facts X Y Z Q = Dist X Y Z (sq X) (sq Y) (sq Z) (both X Y) (all X Y Z) Q unity

-- a difference a falls to b: by M parts in Q of itself, but for rounding
abbrev pub Shrinks : ℕ → ℕ → ℕ → ℕ → Type 0
Shrinks Q M a b = (Q * b + M * a ≤ Q * a + Q * (51 * δ)) × (Q * a ≤ Q * b + M * a + Q * (51 * δ))

-- one coordinate, at a distance of Q units; D is the size of its rounded difference
record One (l t dist m : Float) (Q M D : ℕ) : Type 0 where
  units : Units (component dist m l t)
  still : apart t (component dist m l t) ≤ apart t l + 51 * δ
  most : 9 * Q ≤ 16 * D → 16 * apart t (component dist m l t) + 9 * M ≤ 16 * apart t l + 1072 * δ
  shrinks : Shrinks Q M (apart t l) (apart t (component dist m l t))

one : (l t dist m : Float) (Q M : ℕ) → Units l → Units t → HasValue dist false Q unity → HasValue m false M unity → 0 < Q
    → M ≤ Q → M ≤ unity
    → hi t ≤ 3 * unity → lo t ≤ 3 * unity → apart t l ≤ 18 * unity → size t l < 2 * Q → One l t dist m Q M (size t l)
one l t dist m Q M ul ut dv mv QP MQ MU ht nt near k =
    let r = reach (hi t) (lo t) (hi l) (lo l) unity (one_side binary32 l (hi l) (lo l) ul) near ht nt in
    let ks = parts_lt (diff (hi t + lo l) (lo t + hi l)) (diff (lo t + hi l) (hi t + lo l)) (2 * Q) k in
    let Np = next (hi t) (lo t) (hi l) (lo l) Q M in
    let Nn = next (lo t) (hi t) (lo l) (hi l) Q M in
    let p : Part binary32 (component dist m l t) Np Nn =
    coord_part (hi l) (lo l) (hi t) (lo t) Q M QP MQ MU r.0 r.1 near ks.0 ks.1 l t dist m ul ut dv mv in
    let c : Coord (hi t) (lo t) (hi l) (lo l) Np Nn M Q (size t l) δ =
    coord_fact (hi l) (lo l) (hi t) (lo t) Q M QP MQ MU r.0 r.1 near ks.0 ks.1 in
    let e : gap (hi t + Nn) (lo t + Np) ≡ apart t (component dist m l t) =
    ap (λ (w : ℕ). gap (hi t + w) (lo t + Np)) (sym (lo_is (component dist m l t) Np Nn p))
    ∙ ap (λ (w : ℕ). gap (hi t + lo (component dist m l t)) (lo t + w)) (sym (hi_is (component dist m l t) Np Nn p)) in
    record {
      units = units_of (component dist m l t) Np Nn p;
      still = subst (λ (w : ℕ). w ≤ apart t l + 51 * δ) e c.still;
      most = λ h. subst (λ (w : ℕ). 16 * w + 9 * M ≤ 16 * apart t l + 1072 * δ) e (c.most h);
      shrinks = subst (Shrinks Q M (apart t l)) e (c.shrinks, c.keeps);
    }

-- ---- a point on its way
module _ (m : Float) (l t : Point) (aim : Aim m t) (way : OnWay l t) where
  pub near : (apart t.x l.x ≤ 18 * unity) × (apart t.y l.y ≤ 18 * unity) × (apart t.z l.z ≤ 18 * unity)
  near = third (apart t.x l.x) (apart t.y l.y) (apart t.z l.z) (18 * unity) way.near

  pub near_target : Near l t
  near_target = record {
    from = (way.point.0.ok, way.point.1.ok, way.point.2.ok);
    to = (aim.target.0.ok, aim.target.1.ok, aim.target.2.ok);
    x = near.0;
    y = near.1;
    z = near.2;
  }

-- ---- a step that goes along: the distance is above the max move
module _ (m : Float) (l t : Point) (aim : Aim m t) (way : OnWay l t) (far : T (not (le (distance l t) m))) where
  -- the distance's size Q: no difference is twice as large, and one is more than half of it
  pub record Measured : Type 0 where
    pub Q : ℕ
    pub value : HasValue (distance l t) false Q unity
    pub above : mag m < Q
    pub facts : Facts (size t.x l.x) (size t.y l.y) (size t.z l.z) Q
    pub kx : size t.x l.x < 2 * Q
    pub ky : size t.y l.y < 2 * Q
    pub kz : size t.z l.z < 2 * Q
    pub largest : (9 * Q ≤ 16 * size t.x l.x) ⊎ ((9 * Q ≤ 16 * size t.y l.y) ⊎ (9 * Q ≤ 16 * size t.z l.z))

  pub measured : Measured
  measured =
      let X = size t.x l.x in
      let Y = size t.y l.y in
      let Z = size t.z l.z in
      let w : Rooted (distance l t) (all X Y Z) = distance_rooted l t (near_target m l t aim way) in
      let MQ : mag m < w.q = not_le_values binary32 (distance l t) m w.q (mag m) w.value aim.move far in
      let D = dist_facts X Y Z (distance l t) w (le_trans aim.from (le_of_lt MQ)) in
      let k = under X Y Z (sq X) (sq Y) (sq Z) (both X Y) (all X Y Z) w.q unity unity_pos D in
      record {
        Q = w.q;
        value = w.value;
        above = MQ;
        facts = D;
        kx = k.0;
        ky = k.1;
        kz = k.2;
        largest = pick X Y Z (sq X) (sq Y) (sq Z) (both X Y) (all X Y Z) w.q unity unity_pos D;
      }

  -- the new point is made of units, and S is lower
  pub record Lowered : Type 0 where
    pub units : Each Units (along (distance l t) m l t)
    pub lowered : 2 * spread (along (distance l t) m l t) t + mag m ≤ 2 * spread l t
    pub x : Shrinks measured.Q (mag m) (apart t.x l.x) (apart t.x (along (distance l t) m l t).x)
    pub y : Shrinks measured.Q (mag m) (apart t.y l.y) (apart t.y (along (distance l t) m l t).y)
    pub z : Shrinks measured.Q (mag m) (apart t.z l.z) (apart t.z (along (distance l t) m l t).z)

  enough : 2704 * δ ≤ mag m
  enough = le_trans (lit≤ tt) aim.from

  pub lowers : Lowered
  unfolding along
  lowers =
      let d = distance l t in
      let w = measured in
      let Q = w.Q in
      let M = mag m in
      let QP : 0 < Q = lt_of_le_of_lt zero-le w.above in
      let n = near m l t aim way in
      let cx =
      one l.x t.x d m Q M way.point.0.ok aim.target.0.ok w.value aim.move QP
      (le_of_lt w.above) aim.to aim.near.0.0 aim.near.0.1 n.0 w.kx in
      let cy =
      one l.y t.y d m Q M way.point.1.ok aim.target.1.ok w.value aim.move QP
      (le_of_lt w.above) aim.to aim.near.1.0 aim.near.1.1 n.1 w.ky in
      let cz =
      one l.z t.z d m Q M way.point.2.ok aim.target.2.ok w.value aim.move QP
      (le_of_lt w.above) aim.to aim.near.2.0 aim.near.2.1 n.2 w.kz in
      record {
        units = (cx.units, cy.units, cz.units);
        lowered =
            lower (apart t.x l.x) (apart t.y l.y) (apart t.z l.z)
            (apart t.x (component d m l.x t.x)) (apart t.y (component d m l.y t.y))
            (apart t.z (component d m l.z t.z)) M δ
            (9 * Q ≤ 16 * size t.x l.x) (9 * Q ≤ 16 * size t.y l.y) (9 * Q ≤ 16 * size t.z l.z) enough
            cx.most cy.most cz.most cx.still cy.still cz.still w.largest;
        x = cx.shrinks;
        y = cy.shrinks;
        z = cz.shrinks;
      }
