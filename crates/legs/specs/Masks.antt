-- Document 01: the bits of a mask: left front 1, middle 2, rear 4, right front 8, middle 16, rear 32.
use Rattle.std.specs.Prelude.{ℕ, ◌+◌, ◌/◌, ◌%◌, Bool, ◌==◌}
use Rattle.legs.specs.Legs.{Leg, left_front, right_front, left_middle, right_middle, left_rear, right_rear}

abbrev pub weight : Leg → ℕ
weight left_front = 1
weight left_middle = 2
weight left_rear = 4
weight right_front = 8
weight right_middle = 16
weight right_rear = 32

-- the leg's bit, and whether the mask names the leg
abbrev pub bit : ℕ → Leg → ℕ
bit m l = m / weight l % 2

abbrev pub has : ℕ → Leg → Bool
has m l = bit m l == 1
