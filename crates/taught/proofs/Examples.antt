-- By computation: runs of calls on a room of 5,120 bytes, refusals in their order, and rooms that no run of calls can have left.
use Rattle.std.specs.Prelude.{◌≡◌, ℕ, zero, suc, Bool, true, false, List, [], ◌∷◌, ◌++◌, take, drop, set}
use mathlib.Core.Path.{refl}
use lib.Ieee.{binary32, of_bits, to_bits, size, round, units, lt, le, eq}
use Rattle.numbers.specs.Told.{Told, refused}
use Rattle.numbers.specs.Door.{finite}
use Rattle.numbers.specs.Limits.{foot_limit, over, minus}
use Rattle.legs.specs.Legs.{Leg, left_front, right_front, left_middle, right_middle, left_rear, right_rear, feet, finite_point}
use Rattle.legs.specs.Legs.{permitted_point}
use Rattle.legs.specs.Answers.{given_feet}
use Rattle.legs.specs.Legs.{Feet}
use Rattle.packed.specs.Packed.{pair_at, word_at, float_at, point_at, feet_at}
use Rattle.taught.specs.Answers.{done, given_ids}
use Rattle.taught.specs.Map.{Call, fresh, put, get, drop_id, list_ids, answers, leaves}
use Rattle.taught.specs.Room.{zeros, id_of, pose_of, marks_good, holds, used_from, used, all_zero, taught}
use Rattle.taught.specs.Room.{place_from, place_for, has, ids_from}
use Rattle.taught.specs.Room.{place_bytes, told_of, room_after}

-- six feet at one point, its x and z by their bits, the left front foot lifted
abbrev is_first : Leg → Bool
is_first left_front = true
is_first right_front = false
is_first left_middle = false
is_first right_middle = false
is_first left_rear = false
is_first right_rear = false

abbrev pose : ℕ → ℕ → Feet
pose x z = feet
    (λ l. record { point = record { x = of_bits binary32 x; y = of_bits binary32 0; z = of_bits binary32 z }; lifted = is_first l })

-- x is -0 and z the least float above 0; x is 4 and z is -4; NaN; 4.0000005
abbrev small : Feet
small = pose 2147483648 1

abbrev wide : Feet
wide = pose 1082130432 3229614080

abbrev no_number : Feet
no_number = pose 2143289344 0

abbrev beyond : Feet
beyond = pose 1082130433 0

abbrev run : List Call → List ℕ → List Told
run = answers told_of room_after

-- the room that 2 and then 1 leave
abbrev two : List ℕ
two = leaves room_after (fresh ∷ put 2 wide ∷ put 1 small ∷ []) (zeros 5120)

pub in_order :
    run (fresh ∷ list_ids ∷ put 2 wide ∷ put 1 small ∷ list_ids ∷ get 1 ∷ get 2 ∷ drop_id 1 ∷ list_ids ∷ get 1 ∷ put 2 small ∷ get 2 ∷ [])
    (zeros 5120)
    ≡ done
    ∷ given_ids 0 []
    ∷ done
    ∷ done
    ∷ given_ids 2 (1 ∷ 2 ∷ [])
    ∷ given_feet small
    ∷ given_feet wide
    ∷ done
    ∷ given_ids 1 (2 ∷ [])
    ∷ refused 12
    ∷ done
    ∷ given_feet small
    ∷ []
unfolding taught used used_from holds id_of pair_at marks_good pose_of feet_at point_at float_at word_at all_zero ids_from place_from
    place_for has
    finite_point permitted_point finite foot_limit over minus round units of_bits to_bits size lt le eq
in_order = refl

pub refusals_in_order :
    run (get 3 ∷ get 0 ∷ drop_id 3 ∷ drop_id 0 ∷ put 0 no_number ∷ put 0 beyond ∷ put 0 small ∷ []) two
    ≡ refused 12 ∷ refused 15 ∷ refused 12 ∷ refused 15 ∷ refused 1 ∷ refused 2 ∷ refused 15 ∷ []
unfolding taught used used_from holds id_of pair_at marks_good pose_of feet_at point_at float_at word_at all_zero ids_from place_from
    place_for has
    finite_point permitted_point finite foot_limit over minus round units of_bits to_bits size lt le eq
refusals_in_order = refl

-- bytes 0 and 1, 80 and 81; the marks
pub bytes_of_two : (take 8 two ≡ 1 ∷ 0 ∷ 1 ∷ 0 ∷ 0 ∷ 0 ∷ 0 ∷ 0 ∷ []) × (take 2 (drop 80 two) ≡ 2 ∷ 0 ∷ [])
unfolding taught used used_from holds id_of pair_at marks_good pose_of feet_at point_at float_at word_at all_zero ids_from place_from
    place_for has
    finite_point permitted_point finite foot_limit over minus round units of_bits to_bits size lt le eq
bytes_of_two = (refl, refl)

-- every call but fresh is refused, with a pose of NaN too: the last byte is not 0; two ids are alike; a mark is 2; a byte too few, a byte
-- too many
abbrev calls : List Call
calls = put 0 no_number ∷ get 0 ∷ drop_id 9 ∷ list_ids ∷ []

abbrev all_refused : List Told
all_refused = refused 17 ∷ refused 17 ∷ refused 17 ∷ refused 17 ∷ []

pub no_such_room :
    (run (calls ++ (fresh ∷ list_ids ∷ [])) (set two 5119 1) ≡ all_refused ++ (done ∷ given_ids 0 [] ∷ []))
    × (run calls (set two 80 1) ≡ all_refused)
    × (run calls (set two 4 2) ≡ all_refused)
    × (run (calls ++ (fresh ∷ [])) (zeros 5119) ≡ all_refused ++ (refused 17 ∷ []))
    × (run (calls ++ (fresh ∷ [])) (zeros 5121) ≡ all_refused ++ (refused 17 ∷ []))
unfolding taught used used_from holds id_of pair_at marks_good pose_of feet_at point_at float_at word_at all_zero ids_from place_from
    place_for has
    finite_point permitted_point finite foot_limit over minus round units of_bits to_bits size lt le eq
no_such_room = (refl, refl, refl, refl, refl)

-- 64 places are used, under the ids from 1 to 64
abbrev filled : ℕ → ℕ → List ℕ
filled zero id = []
filled (suc n) id = place_bytes id small ++ filled n (suc id)

pub full_store :
    run (put 65 small ∷ put 0 small ∷ put 64 wide ∷ drop_id 7 ∷ put 65 small ∷ put 7 small ∷ []) (filled 64 1)
    ≡ refused 11 ∷ refused 15 ∷ done ∷ done ∷ done ∷ refused 11 ∷ []
unfolding taught used used_from holds id_of pair_at marks_good pose_of feet_at point_at float_at word_at all_zero ids_from place_from
    place_for has
    finite_point permitted_point finite foot_limit over minus round units of_bits to_bits size lt le eq
full_store = refl
