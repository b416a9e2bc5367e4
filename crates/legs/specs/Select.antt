-- Document 01: "`Vec` from `selected_legs` becomes a row of six with a length." The legs that the mask names, in row order,
-- each with its mark; unused places are +0 and standing.
use Rattle.std.specs.Prelude.{ℕ, List, [], ◌∷◌, ◌++◌, length, nat_lt, slice_index_or}
use Rattle.numbers.specs.Told.{Told, choose, answer}
use Rattle.numbers.specs.Door.{unless, when, first_of}
use Rattle.numbers.specs.Limits.{mask_to, foot_limit}
use Rattle.legs.specs.Legs.{Leg, row, whole, unused, finite_feet, permitted_feet}
use Rattle.legs.specs.Masks.{has}
use Rattle.legs.specs.Answers.{given_row}
use Rattle.legs.specs.declared.Foot.{Foot}
use Rattle.legs.specs.Legs.{Feet}
use Rattle.legs.specs.declared.RowOfSix.{RowOfSix}

-- the feet of the legs that the mask names, out of a list of legs
abbrev pub among : Feet → ℕ → List Leg → List Foot
among f m [] = []
among f m (l ∷ ls) = choose (has m l) (whole f l ∷ []) [] ++ among f m ls

unfoldable pub named : Feet → ℕ → List Foot
named f m = among f m (row (λ l. l))

-- a row of six with a length, of at most six feet
abbrev pub in_six_places : List Foot → RowOfSix
in_six_places ps =
    record {
      len = length ps;
      feet =
          slice_index_or ps 0 unused
          ∷ slice_index_or ps 1 unused
          ∷ slice_index_or ps 2 unused
          ∷ slice_index_or ps 3 unused
          ∷ slice_index_or ps 4 unused
          ∷ slice_index_or ps 5 unused
          ∷ [];
    }

unfoldable pub selected : Feet → ℕ → RowOfSix
selected f m = in_six_places (named f m)

-- 1: a float is NaN or infinite; 2: one is outside the table; 4: the mask is above 63
unfoldable pub select_refusal : Feet → ℕ → ℕ
select_refusal f m =
    first_of
    (unless (finite_feet f) 1
    ∷ unless (permitted_feet foot_limit f) 2
    ∷ when (nat_lt mask_to m) 4
    ∷ [])

unfoldable pub select_told : Feet → ℕ → Told
select_told f m = answer (select_refusal f m) (given_row (selected f m))
