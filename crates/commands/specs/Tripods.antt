-- The two tripods of the source: left front, right middle and left rear are lifted together, or the other three.
use Rattle.std.specs.Prelude.{ℕ, Bool, true, false}
use Rattle.legs.specs.Legs.{Leg, left_front, right_front, left_middle, right_middle, left_rear, right_rear}
use Rattle.legs.specs.Flags.{lrl_tripod, rlr_tripod}
use Rattle.commands.specs.declared.Tripod.{Tripod}
use Rattle.commands.specs.declared.Tripod.TheVariants.{LRL, RLR}

abbrev pub inverted : Tripod → Tripod
inverted LRL = RLR
inverted RLR = LRL

-- the mask of its legs
abbrev pub flag_of : Tripod → ℕ
flag_of LRL = lrl_tripod
flag_of RLR = rlr_tripod

abbrev pub is_lrl : Tripod → Bool
is_lrl LRL = true
is_lrl RLR = false

abbrev pub is_rlr : Tripod → Bool
is_rlr LRL = false
is_rlr RLR = true

-- whether the tripod has this leg
abbrev pub has : Tripod → Leg → Bool
has t left_front = is_lrl t
has t right_middle = is_lrl t
has t left_rear = is_lrl t
has t right_front = is_rlr t
has t left_middle = is_rlr t
has t right_rear = is_rlr t
