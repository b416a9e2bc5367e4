-- Where a coordinate of a walk is, to the unit: between its start and its target, or at most 2 ^ -24 from its target, which it may have
-- passed.
use mathlib.Core.Path.{sym, subst}
use Rattle.std.specs.Prelude.{ℕ, zero, suc, ◌+◌, ◌≤◌, Bool, not, T, ◌⊎◌}
use mathlib.Core.Logic.{inl, inr}
use native.Mathlib.Nat.{le_trans}
use native.Mathlib.Omega.{arith}
use lib.Ieee.{Float}
use Rattle.units.specs.Units.{hi, lo, gap, apart}
use Rattle.units.proofs.Whole.{total}
use Rattle.legs.specs.declared.Point.{Point}
use Rattle.moves.specs.Distance.{distance}
use Rattle.moves.specs.Moving.{along, move_towards, point_of}
use Rattle.moves.proofs.Steps.{after_step}
use Rattle.walks.specs.Walk.{point_after}
use Rattle.walks.proofs.Aim.{Aim, OnWay}
use Rattle.walks.proofs.Coordinate.{δ}
use Rattle.walks.proofs.Keeps.{Below, BelowBy, Kept, all_kept}
use Rattle.walks.proofs.Nearer.{Nears, along_nears}
use Rattle.walks.proofs.Trail.{on_way}

-- p is no lower than both s and t, and no higher
pub record Enclosed (s t p : Float) : Type 0 where
  pub low : Below s p ⊎ Below t p
  pub high : Below p s ⊎ Below p t

abbrev pub Settled : Float → Float → Float → Type 0
Settled s t p = Enclosed s t p ⊎ (apart t p ≤ δ)

below_self : (x : Float) → Below x x
below_self x = level (hi x) (lo x)
  where
    level : (a b : ℕ) → a + b ≤ b + a
    level a b = omega arith

at_start : (s t : Float) → Settled s t s
at_start s t = inl (record { low = inl (below_self s); high = inl (below_self s) })

at_target : (s t : Float) → Settled s t t
at_target s t = inl (record { low = inr (below_self t); high = inr (below_self t) })

then : (x y z : Float) → Below x y → Below y z → Below x z
then x y z a b = through (hi x) (lo x) (hi y) (lo y) (hi z) (lo z) a b
  where
    through : (a a' b b' c c' : ℕ) → a + b' ≤ a' + b → b + c' ≤ b' + c → a + c' ≤ a' + c
    through a a' b b' c c' x y = omega arith

-- past t by no more than k, on either side
close_above : (t p : Float) (k : ℕ) → Below t p → BelowBy k p t → apart t p ≤ k
close_above t p k h g = near (hi t) (lo t) (hi p) (lo p) h g
  where
    near : (a b c d : ℕ) → a + d ≤ b + c → c + b ≤ d + a + k → gap (a + d) (b + c) ≤ k
    near a b c d h g = omega arith

close_below : (t p : Float) (k : ℕ) → Below p t → BelowBy k t p → apart t p ≤ k
close_below t p k h g = near (hi t) (lo t) (hi p) (lo p) h g
  where
    near : (a b c d : ℕ) → c + b ≤ d + a → a + d ≤ b + c + k → gap (a + d) (b + c) ≤ k
    near a b c d h g = omega arith

either : (x y : Float) → Below x y ⊎ Below y x
either x y = elim (total (hi x + lo y) (lo x + hi y)) [ inl h ↦ inl h | inr h ↦ inr (turned (hi x) (lo x) (hi y) (lo y) h) ]
  where
    turned : (a b c d : ℕ) → b + c ≤ a + d → c + b ≤ d + a
    turned a b c d h = omega arith

-- a step from l to n
settled_step : (s t l n : Float) → Kept l t n → Nears l t n → Settled s t l → Settled s t n
settled_step s t l n k p (inr near) = inr (le_trans p.no_farther near)
settled_step s t l n k p (inl i) = by_side (either l t) (either n t)
  where
    onward : Below l n → Below s l ⊎ Below t l → Below s n ⊎ Below t n
    onward h (inl g) = inl (then s l n g h)
    onward h (inr g) = inr (then t l n g h)

    backward : Below n l → Below l s ⊎ Below l t → Below n s ⊎ Below n t
    backward h (inl g) = inl (then n l s h g)
    backward h (inr g) = inr (then n l t h g)

    by_side : Below l t ⊎ Below t l → Below n t ⊎ Below t n → Settled s t n
    by_side (inl h) (inl g) = inl (record { low = onward (k.up h).0 i.low; high = inr g })
    by_side (inl h) (inr g) = inr (close_above t n δ g (p.up h))
    by_side (inr h) (inr g) = inl (record { low = inr g; high = backward (k.down h).0 i.high })
    by_side (inr h) (inl g) = inr (close_below t n δ g (p.down h))

-- ---- all three coordinates, after any number of steps
pub record SettledPoint (s t p : Point) : Type 0 where
  pub x : Settled s.x t.x p.x
  pub y : Settled s.y t.y p.y
  pub z : Settled s.z t.z p.z

module _ (m : Float) (s t : Point) (aim : Aim m t) (start : OnWay s t) where
  goes_on : (l : Point) → OnWay l t → SettledPoint s t l → SettledPoint s t (point_of (move_towards l t m))
  goes_on l way b =
      after_step l t m (SettledPoint s t)
      (record { x = at_target s.x t.x; y = at_target s.y t.y; z = at_target s.z t.z })
      (λ e.
      let far = subst (λ (b : Bool). T (not b)) (sym e) tt in
      let p = along (distance l t) m l t in
      let k = all_kept m l t aim way far in
      let a = along_nears m l t aim way far in
      record {
        x = settled_step s.x t.x l.x p.x k.x a.x b.x;
        y = settled_step s.y t.y l.y p.y k.y a.y b.y;
        z = settled_step s.z t.z l.z p.z k.z a.z b.z;
      })

  pub settled : (k : ℕ) → SettledPoint s t (point_after m s t k)
  unfolding point_after
  settled zero = record { x = at_start s.x t.x; y = at_start s.y t.y; z = at_start s.z t.z }
  settled (suc k) = goes_on (point_after m s t k) (on_way m s t aim start k) (settled k)
