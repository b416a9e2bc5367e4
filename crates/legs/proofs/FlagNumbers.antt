-- The fourteen flags are document 01's and the source's numbers. Assumes nothing.
use Rattle.std.specs.Prelude.{◌≡◌, ℕ, List, [], ◌∷◌}
use mathlib.Core.Path.{refl}
use Rattle.legs.specs.Legs.{left_front, right_front, left_middle, right_middle, left_rear, right_rear}
use Rattle.legs.specs.Masks.{weight}
use Rattle.legs.specs.Flags.{lrl_tripod, rlr_tripod, right, left, middle, front, rear, all}

-- the legs: left front, middle and rear, right front, middle and rear
pub flags_of_legs :
    (weight left_front ∷ weight left_middle ∷ weight left_rear ∷ weight right_front ∷ weight right_middle ∷ weight right_rear ∷ [])
    ≡ 1 ∷ 2 ∷ 4 ∷ 8 ∷ 16 ∷ 32 ∷ []
flags_of_legs = refl

-- the groups, in the source's order
pub flags_of_groups :
    (lrl_tripod ∷ rlr_tripod ∷ right ∷ left ∷ middle ∷ front ∷ rear ∷ all ∷ []) ≡ 21 ∷ 42 ∷ 56 ∷ 7 ∷ 18 ∷ 9 ∷ 36 ∷ 63 ∷ []
flags_of_groups = refl
