-- Points and feet are stored as runs, one behind the other; what is stored of a finite point is finite.
use mathlib.Core.Path.{◌≡◌, ap, sym, ◌∙◌}
use mathlib.Core.Bool.{true, not, ◌&&◌, true≢false}
use mathlib.Core.List.{List, ◌++◌}
use Prim.Native.Nat.{ℕ, ◌+◌}
use native.Mathlib.Nat.{add_assoc}
use lib.Dec.{T}
use lib.ListN.{length}
use lib.Seq.{sets}
use lib.Ieee.{Float, nan, inf, fin, is_nan}
use Rattle.numbers.specs.Door.{finite}
use Rattle.numbers.proofs.OnePass.{and_left, and_right}
use Rattle.numbers.proofs.Stores.{stores_append}
use Rattle.legs.specs.Legs.{Leg, foot, finite_point, finite_feet, row, at as six_at, from_row}
use Rattle.legs.specs.declared.Point.{Point}
use Rattle.legs.specs.declared.Foot.{Foot}
use Rattle.legs.specs.Legs.{Feet}
use Rattle.legs.proofs.OnePass.{each_true}
use Rattle.packed.specs.Packed.{float_bytes, point_bytes, feet_at, feet_in}

pub no_nan : (x : Float) → finite x ≡ true → T (not (is_nan x))
unfolding finite is_nan
no_nan nan e = absurd (true≢false (sym e))
no_nan (inf s) e = tt
no_nan (fin s m e) h = tt

pub finite_each : (p : Point) → finite_point p ≡ true → (finite p.x ≡ true) × (finite p.y ≡ true) × (finite p.z ≡ true)
unfolding finite_point
finite_each p e =
    let two = and_left (finite p.x && finite p.y) (finite p.z) e in
    (and_left (finite p.x) (finite p.y) two, and_right (finite p.x) (finite p.y) two, third e)
  where
    third : (finite p.x && finite p.y && finite p.z) ≡ true → finite p.z ≡ true
    third = and_right (finite p.x && finite p.y) (finite p.z)

pub finite_foot : (f : Feet) → finite_feet f ≡ true → (l : Leg) → finite_point (foot f l) ≡ true
finite_foot f e l = each_true (λ k. finite_point (foot f k)) e l

pub point_stored : (p : Point) (at : ℕ) (l a b c : List ℕ) → a ≡ sets l at (float_bytes p.x) → b ≡ sets a (at + 4) (float_bytes p.y)
    → c ≡ sets b (at + 8) (float_bytes p.z) → c ≡ sets l at (point_bytes p)
point_stored p at l a b c first second third =
    third
    ∙ ap (λ (m : List ℕ). sets m (at + 8) (float_bytes p.z))
    (second
    ∙ ap (λ (m : List ℕ). sets m (at + 4) (float_bytes p.y)) first
    ∙ stores_append l at (float_bytes p.x) (float_bytes p.y))
    ∙ stores_append l at (float_bytes p.x ++ float_bytes p.y) (float_bytes p.z)

pub ruleset of_a_point = (finite_each, point_stored)

-- one run more behind a run
pub more : (l a b : List ℕ) (at : ℕ) (run : List ℕ) (k : ℕ) (next : List ℕ) → k ≡ at + length run → a ≡ sets l at run → b ≡ sets a k next
    → b ≡ sets l at (run ++ next)
more l a b at run k next place e f =
    f
    ∙ ap (λ (m : List ℕ). sets m k next) e
    ∙ ap (λ (i : ℕ). sets (sets l at run) i next) place
    ∙ stores_append l at run next

-- feet whose points stand right behind their marks
pub feet_at_once : (l : List ℕ) (at : ℕ) → feet_in l at (at + 6) ≡ feet_at l at
unfolding feet_in feet_at
feet_at_once l at = simp add_assoc

-- six feet are settled by their row
pub row_back : (f : Feet) (ps : List Foot) → row (six_at f) ≡ ps → f ≡ from_row ps
row_back f ps e = ap from_row e
