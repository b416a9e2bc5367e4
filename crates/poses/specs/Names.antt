-- Request K7: "an object of six names .. One rule covers all six names." The names, said of `Leg` once: the source's fields, and their
-- order.
use Rattle.std.specs.Prelude.{ℕ, zero, suc, Bool, true, false, ◌&&◌, List, [], ◌∷◌, ◌++◌, ◌==◌, slice_index_or}
use Rattle.legs.specs.Legs.{Leg, left_front, right_front, left_middle, right_middle, left_rear, right_rear, row}

-- left_, right_; front, middle, rear
abbrev pub left_side : List ℕ
left_side = 108 ∷ 101 ∷ 102 ∷ 116 ∷ 95 ∷ []

abbrev pub right_side : List ℕ
right_side = 114 ∷ 105 ∷ 103 ∷ 104 ∷ 116 ∷ 95 ∷ []

abbrev pub front : List ℕ
front = 102 ∷ 114 ∷ 111 ∷ 110 ∷ 116 ∷ []

abbrev pub middle : List ℕ
middle = 109 ∷ 105 ∷ 100 ∷ 100 ∷ 108 ∷ 101 ∷ []

abbrev pub rear : List ℕ
rear = 114 ∷ 101 ∷ 97 ∷ 114 ∷ []

abbrev pub name_of : Leg → List ℕ
name_of left_front = left_side ++ front
name_of right_front = right_side ++ front
name_of left_middle = left_side ++ middle
name_of right_middle = right_side ++ middle
name_of left_rear = left_side ++ rear
name_of right_rear = right_side ++ rear

-- the source's field order
abbrev pub fields : List Leg
fields = left_front ∷ left_middle ∷ left_rear ∷ right_front ∷ right_middle ∷ right_rear ∷ []

-- a leg's number in row order, and the name of a number
abbrev pub number : Leg → ℕ
number left_front = 0
number right_front = 1
number left_middle = 2
number right_middle = 3
number left_rear = 4
number right_rear = 5

abbrev pub name_at : ℕ → List ℕ
name_at k = slice_index_or (row name_of) k []

-- the same bytes
unfoldable pub same : List ℕ → List ℕ → Bool
same [] [] = true
same [] (b ∷ t) = false
same (a ∷ s) [] = false
same (a ∷ s) (b ∷ t) = a == b && same s t

-- "A name spelled with an escape counts as unknown": a name is known by its bytes. The number of the leg that has it, 6 where none has
abbrev pub position : List Bool → ℕ
position [] = zero
position (true ∷ bs) = zero
position (false ∷ bs) = suc (position bs)

unfoldable pub leg_named : List ℕ → ℕ
unfolding same
leg_named name = position (row (λ l. same name (name_of l)))
