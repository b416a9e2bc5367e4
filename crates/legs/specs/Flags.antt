-- Document 01, "Modules in port order": the flags of a mask: left front 1, middle 2, rear 4; the right ones 8, 16, 32.
-- A group joins the flags of its legs, as the source's `LegFlags` does.
use Rattle.std.specs.Prelude.{ℕ, ◌+◌, List, [], ◌∷◌}
use Rattle.legs.specs.Legs.{Leg, left_front, right_front, left_middle, right_middle, left_rear, right_rear}
use Rattle.legs.specs.Masks.{weight}

-- the mask that names these legs, each once
abbrev pub naming : List Leg → ℕ
naming [] = 0
naming (l ∷ ls) = weight l + naming ls

abbrev pub lrl_tripod : ℕ
lrl_tripod = naming (left_front ∷ right_middle ∷ left_rear ∷ [])

abbrev pub rlr_tripod : ℕ
rlr_tripod = naming (right_front ∷ left_middle ∷ right_rear ∷ [])

abbrev pub right : ℕ
right = naming (right_front ∷ right_middle ∷ right_rear ∷ [])

abbrev pub left : ℕ
left = naming (left_front ∷ left_middle ∷ left_rear ∷ [])

abbrev pub middle : ℕ
middle = naming (right_middle ∷ left_middle ∷ [])

abbrev pub front : ℕ
front = naming (left_front ∷ right_front ∷ [])

abbrev pub rear : ℕ
rear = naming (left_rear ∷ right_rear ∷ [])

abbrev pub all : ℕ
all = left + right
