-- Document 01: "`updated_from_selected_legs` takes a lent row of foot points, as many as legs selected, in that order."
-- What it gives, over the list; a foot is taken with its mark (request K12).
use Rattle.std.specs.Prelude.{ℕ, ◌+◌, List, slice_index_or}
use Rattle.numbers.specs.Told.{choose}
use Rattle.legs.specs.Legs.{Leg, left_front, right_front, left_middle, right_middle, left_rear, right_rear, whole, feet, nowhere}
use Rattle.legs.specs.Masks.{bit, has}
use Rattle.legs.specs.declared.Foot.{Foot}
use Rattle.legs.specs.Legs.{Feet}

-- how many legs the mask names before this one, in row order
abbrev pub place : ℕ → Leg → ℕ
place m left_front = 0
place m right_front = bit m left_front
place m left_middle = bit m left_front + bit m right_front
place m right_middle = bit m left_front + bit m right_front + bit m left_middle
place m left_rear = bit m left_front + bit m right_front + bit m left_middle + bit m right_middle
place m right_rear = bit m left_front + bit m right_front + bit m left_middle + bit m right_middle + bit m left_rear

unfoldable pub updated : Feet → List Foot → ℕ → Feet
updated f ps m = feet (λ l. choose (has m l) (slice_index_or ps (place m l) nowhere) (whole f l))
