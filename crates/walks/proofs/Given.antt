-- From what a walk asks of its numbers to what the facts stand on. That the format holds a number, the machine knows.
use Rattle.std.specs.Prelude.{◌≡◌, ℕ, ◌+◌, ◌*◌, ◌^◌, ◌≤◌, false}
use mathlib.Core.Path.{sym, subst}
use native.Mathlib.Nat.{le_trans, le_of_eq, lt_of_lt_of_le}
use native.Mathlib.Omega.{arith}
use lib.Pow.{pow_pos}
use lib.Ieee.{Float, binary32}
use lib.Ieee.Exact.{HasValue}
use Rattle.units.specs.Units.{unity, hi, lo, mag, apart, gap}
use Rattle.units.proofs.Values.{positive_value, mag_is, mag_parts}
use Rattle.units.proofs.Held.{Single}
use Rattle.units.proofs.Door.{finite_single}
use Rattle.legs.specs.declared.Point.{Point}
use Rattle.moves.specs.Distance.{Each}
use Rattle.walks.specs.Reach.{AtMost, Reach}
use Rattle.walks.proofs.Aim.{Fit, Parts, Aim, OnWay}

both_parts : (k : ℕ) (x : Float) → mag x ≤ k → Parts k x
both_parts k x h = parts (hi x) (lo x) (le_trans (le_of_eq (sym (mag_parts x))) h)
  where
    parts : (a b : ℕ) → a + b ≤ k → (a ≤ k) × (b ≤ k)
    parts a b g = (omega arith, omega arith)

six : (a b c d u : ℕ) → a ≤ 3 * u → b ≤ 3 * u → c ≤ 3 * u → d ≤ 3 * u → gap (a + d) (b + c) ≤ 6 * u
six a b c d u x y z w = omega arith

apart_most : (x y : Float) → Parts (3 * unity) x → Parts (3 * unity) y → apart x y ≤ 6 * unity
apart_most x y p q = six (hi x) (lo x) (hi y) (lo y) unity p.0 p.1 q.0 q.1

pub all_parts : (p : Point) → Each (AtMost (3 * unity)) p → Each (Parts (3 * unity)) p
all_parts p a = (both_parts (3 * unity) p.x a.0.1, both_parts (3 * unity) p.y a.1.1, both_parts (3 * unity) p.z a.2.1)

all_single : (p : Point) → Each (AtMost (3 * unity)) p → Each Fit p → Each Single p
all_single p a f = (finite_single p.x a.0.0 f.0, finite_single p.y a.1.0 f.1, finite_single p.z a.2.0 f.2)

module _ (m : Float) (s t : Point) (r : Reach m s t) (fm : Fit m) (fs : Each Fit s) (ft : Each Fit t) where
  pub move_single : Single m
  move_single = finite_single m r.move fm

  move_value : HasValue m false (hi m) unity
  move_value = positive_value binary32 m (hi m) (lo m) move_single.ok (lt_of_lt_of_le (pow_pos 137) r.from)

  move_hi : mag m ≡ hi m
  move_hi = mag_is m false (hi m) move_value

  pub aimed : Aim m t
  aimed = record {
    held = ft;
    held_move = fm;
    target = all_single t r.target ft;
    near = all_parts t r.target;
    move = subst (λ (a : ℕ). HasValue m false a unity) (sym move_hi) move_value;
    from = subst (λ (a : ℕ). 2 ^ 137 ≤ a) (sym move_hi) r.from;
    to = subst (λ (a : ℕ). a ≤ unity) (sym move_hi) r.to;
  }

  pub set_out : OnWay s t
  set_out =
      let p = all_parts s r.start in
      let q = all_parts t r.target in
      record {
        held = fs;
        point = all_single s r.start fs;
        near =
            eighteen (apart t.x s.x) (apart t.y s.y) (apart t.z s.z) unity
            (apart_most t.x s.x q.0 p.0) (apart_most t.y s.y q.1 p.1)
            (apart_most t.z s.z q.2 p.2);
      }
    where
      eighteen : (a b c u : ℕ) → a ≤ 6 * u → b ≤ 6 * u → c ≤ 6 * u → a + b + c ≤ 18 * u
      eighteen a b c u x y z = omega arith
