-- The walks of document 01's cases p6 and p7, by computation: from (0,0,0) to (3/8,1/2,0) by 5/8 one step, to (1/4,0,0) by 1/8 two.
-- And request K14's two: a step that passes its target by as much as any may, and a coordinate that stays level while its bits change.
use Rattle.std.specs.Prelude.{◌≡◌, ℕ, zero, suc, ◌+◌, ◌^◌, ◌<◌, ◌≤◌, not, T}
use mathlib.Core.Path.{refl, subst}
use mathlib.Core.Logic.{inl, inr}
use native.Mathlib.Nat.{le_trans}
use native.Mathlib.Omega.{arith}
use lib.Dec.{lit≤}
use lib.Ieee.{Float, binary32, of_bits, add, sub, mul, div, le, eq}
use Rattle.numbers.specs.Limits.{over}
use Rattle.units.specs.Units.{hi, lo, mag}
use Rattle.roots.specs.Root.{square_root}
use Rattle.legs.specs.declared.Point.{Point}
use Rattle.moves.specs.Distance.{same, square_sum, distance}
use Rattle.moves.specs.Moving.{component, along, nearer, step_at, move_towards, place_of}
use Rattle.walks.specs.Walk.{point_after, Walk}
use Rattle.walks.specs.Swing.{NotAbove}

-- (a, b, 0)
abbrev at : Float → Float → Point
at a b = record { x = a; y = b; z = over 0 1 }

abbrev start : Point
start = at (over 0 1) (over 0 1)

abbrev aslant : Point
aslant = at (over 3 8) (over 1 2)

abbrev quarter : Point
quarter = at (over 1 4) (over 0 1)

pub p6 : Walk (over 5 8) start aslant 1
unfolding over point_after place_of move_towards step_at nearer along component same distance square_sum square_root
    add sub mul div le eq hi lo mag
p6 = record { arrives = tt; least = not_yet; bound = lit≤ tt }
  where
    not_yet : (j : ℕ) → j < 1 → T (not (same (point_after (over 5 8) start aslant j) aslant))
    not_yet zero h = tt
    not_yet (suc j) h = absurd (none j h)
      where
        none : (i : ℕ) → suc i < 1 → ⊥
        none i h = omega arith

pub p7 : Walk (over 1 8) start quarter 2
unfolding over point_after place_of move_towards step_at nearer along component same distance square_sum square_root
    add sub mul div le eq hi lo mag
p7 = record { arrives = tt; least = not_yet; bound = lit≤ tt }
  where
    not_yet : (j : ℕ) → j < 2 → T (not (same (point_after (over 1 8) start quarter j) quarter))
    not_yet zero h = tt
    not_yet (suc zero) h = tt
    not_yet (suc (suc j)) h = absurd (none j h)
      where
        none : (i : ℕ) → suc (suc i) < 2 → ⊥
        none i h = omega arith

-- ---- a step that passes its target: x goes from -2 ^ -25 to 2 ^ -24 past 3f000001
abbrev bits : ℕ → Float
bits n = of_bits binary32 n

abbrev behind : Point
behind = at (bits 0xb300_0000) (bits 0)

abbrev ahead : Point
ahead = at (bits 0x3f00_0001) (bits 0x3f40_0000)

pub passes_its_target : point_after (bits 0x3f66_c15a) behind ahead 1 ≡ at (bits 0x3f00_0002) (bits 0x3f3f_ffff)
unfolding over of_bits point_after place_of move_towards step_at nearer along component same distance square_sum square_root
    add sub mul div le eq
passes_its_target = refl

-- so no margin below 2 ^ -24 m would do
pub no_less_margin : (k : ℕ) → NotAbove k behind.x ahead.x (point_after (bits 0x3f66_c15a) behind ahead 1).x → 2 ^ 125 ≤ k
unfolding of_bits hi lo
no_less_margin k h = elim (subst (λ (p : Point). NotAbove k behind.x ahead.x p.x) passes_its_target h) [
  | inl g ↦ rest 0 (2 ^ 125) k (le_trans (lit≤ tt) g)
  | inr g ↦ rest (hi ahead.x) (2 ^ 125) k g
]
  where
    rest : (a b k : ℕ) → a + b ≤ a + k → b ≤ k
    rest a b k h = omega arith

-- ---- a coordinate that begins at its target stays there as a number: -0 becomes +0
abbrev level_target : Point
level_target = at (bits 0x8000_0000) (over 1 4)

pub stays_level : point_after (over 1 8) (at (bits 0x8000_0000) (over 0 1)) level_target 1 ≡ at (bits 0) (over 1 8)
unfolding over of_bits point_after place_of move_towards step_at nearer along component same distance square_sum square_root
    add sub mul div le eq
stays_level = refl

pub level_as_numbers : T (eq (bits 0) level_target.x)
unfolding of_bits eq
level_as_numbers = tt
