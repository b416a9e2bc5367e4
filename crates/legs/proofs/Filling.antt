-- A row of six is filled from the last leg to the first: what comes stands before what was there. Assumes nothing.
use Rattle.std.specs.Prelude.{◌≡◌, ℕ, ◌+◌, ◌<◌, ◌≤◌, Bool, true, false, List, [], ◌∷◌, ◌++◌, length}
use mathlib.Core.Path.{refl, ap, ◌∙◌}
use native.Mathlib.Numerals.{add-one}
use native.Mathlib.Omega.{arith}
use borrow.Author.Tests.{lt-ltb}
use lib.ListN.{length-append}
use Rattle.numbers.specs.Told.{choose}
use Rattle.legs.specs.Legs.{Leg, whole, row}
use Rattle.legs.specs.Masks.{has}
use Rattle.legs.specs.Select.{among, named, in_six_places, selected}
use Rattle.legs.specs.How.{headed_by}
use Rattle.legs.specs.declared.Foot.{Foot}
use Rattle.legs.specs.Legs.{Feet}
use Rattle.legs.specs.declared.RowOfSix.{RowOfSix}

headed : (ps : List Foot) (flag : Bool) (p : Foot) → length ps < 6 →
    headed_by (in_six_places ps) flag p ≡ in_six_places (choose flag (p ∷ []) [] ++ ps)
unfolding headed_by
headed ps false p h = refl
headed ps true p h = simp (lt-ltb (length ps) 6 h, add-one (length ps))

-- the legs of a list, from the last to the first
abbrev pub fill : Feet → ℕ → List Leg → RowOfSix
fill f m [] = in_six_places []
fill f m (l ∷ ls) = headed_by (fill f m ls) (has m l) (whole f l)

at_most_one : (flag : Bool) (p : Foot) → length (choose flag (p ∷ []) []) ≤ 1
at_most_one true p = omega arith
at_most_one false p = omega arith

few : (f : Feet) (m : ℕ) (ls : List Leg) → length (among f m ls) ≤ length ls
few f m [] = omega arith
few f m (l ∷ ls) =
    let new = choose (has m l) (whole f l ∷ []) [] in
    let long : length (new ++ among f m ls) ≡ length new + length (among f m ls) = length-append new (among f m ls) in
    omega (arith, at_most_one (has m l) (whole f l), few f m ls, long)

fill_is : (f : Feet) (m : ℕ) (ls : List Leg) → length ls ≤ 6 → fill f m ls ≡ in_six_places (among f m ls)
fill_is f m [] h = refl
fill_is f m (l ∷ ls) h =
    ap (λ (s : RowOfSix). headed_by s (has m l) (whole f l)) (fill_is f m ls (omega arith))
    ∙ headed (among f m ls) (has m l) (whole f l) (omega (arith, few f m ls))

pub filled : (f : Feet) (m : ℕ) → fill f m (row (λ (l : Leg). l)) ≡ selected f m
unfolding selected named
filled f m = fill_is f m (row (λ (l : Leg). l)) (omega arith)
