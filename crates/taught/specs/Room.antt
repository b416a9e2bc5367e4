-- Request K11: the room that the host lends. 64 places of 80 bytes: an id in two bytes, six marks, eighteen floats. Used places stand
-- first, their ids rise; every byte after them is 0. So a store has exactly one room.
use Rattle.std.specs.Prelude.{◌≡◌, ℕ, zero, suc, ◌+◌, ◌-◌, ◌*◌, ◌<◌, ◌≤◌, Bool, true, not, ◌&&◌, T, List, [], ◌∷◌, ◌++◌, length, take, drop}
use Rattle.std.specs.Prelude.{replicate, ◌==◌, nat_le, nat_lt, slice_index}
use Rattle.std.proofs.Math.Seq.{slice}
use Rattle.std.specs.Prelude.{Float, Result, Ok, Err}
use Rattle.std.specs.Float.{binary32}
use Rattle.std.specs.Float.Ieee.{fits}
use Rattle.numbers.specs.Told.{Told, choose, answer}
use Rattle.numbers.specs.Door.{unless, either}
use Rattle.numbers.specs.Limits.{foot_limit}
use Rattle.legs.specs.Legs.{Leg, foot, finite_feet, permitted_feet}
use Rattle.legs.specs.Answers.{given_feet}
use Rattle.legs.specs.Legs.{Feet}
use Rattle.packed.specs.Packed.{pair_at, feet_at, pair_bytes, feet_bytes}
use Rattle.numbers.specs.declared.refusal.Refusal.{Refusal}
use Rattle.numbers.specs.declared.refusal.Refusal.TheVariants.{NoRoom}
use Rattle.taught.specs.declared.Listed.{Listed}
use Rattle.taught.specs.Answers.{done, told_listed}
use Rattle.taught.specs.Map.{none, kept, Map, Call, fresh, put, get, drop_id, list_ids, put_number, find_number}

abbrev pub room_length : ℕ
room_length = 5120

abbrev pub most : ℕ
most = 64

abbrev pub zeros : ℕ → List ℕ
zeros n = replicate n 0

-- ---- the first place of some bytes: its id, its pose; and the places behind it
unfoldable pub id_of : List ℕ → ℕ
unfolding pair_at
id_of l = pair_at l 0

unfoldable pub pose_of : List ℕ → Feet
unfolding feet_at
pose_of l = feet_at l 2

abbrev pub behind : List ℕ → List ℕ
behind l = drop 80 l

-- the bytes of a place
abbrev pub place_bytes : ℕ → Feet → List ℕ
place_bytes id f = pair_bytes id ++ feet_bytes f

-- ---- room that some run of calls can have left

-- marks are 0 or 1; a pose that a put takes
unfoldable pub marks_good : List ℕ → Bool
marks_good l =
    nat_le (slice_index l 2) 1
    && nat_le (slice_index l 3) 1
    && nat_le (slice_index l 4) 1
    && nat_le (slice_index l 5) 1
    && nat_le (slice_index l 6) 1
    && nat_le (slice_index l 7) 1

abbrev pub pose_good : Feet → Bool
pose_good f = finite_feet f && permitted_feet foot_limit f

-- the first place holds a pose, under an id above the one before it
unfoldable pub holds : ℕ → List ℕ → Bool
unfolding id_of marks_good pose_of
holds last l = nat_lt last (id_of l) && marks_good l && pose_good (pose_of l)

-- n places do, one after the other
unfoldable pub rises : ℕ → ℕ → List ℕ → Bool
unfolding holds id_of
rises zero last l = true
rises (suc n) last l = holds last l && rises n (id_of l) (behind l)

abbrev pub Bytes : List ℕ → Type 0
Bytes l = (i : ℕ) → slice_index l i < 256

pub record Taught (room : List ℕ) : Type 0 where
  pub bytes : Bytes room
  pub long : length room ≡ room_length
  pub count : ℕ
  pub few : count ≤ most
  pub rise : rises count 0 room ≡ true
  pub rest : drop (80 * count) room ≡ zeros (room_length - 80 * count)

-- the same as a test: how many places in front hold poses under rising ids, and whether all bytes behind these are 0
unfoldable pub used_from : ℕ → ℕ → List ℕ → ℕ
unfolding holds id_of
used_from zero last l = 0
used_from (suc n) last l = choose (holds last l) (suc (used_from n (id_of l) (behind l))) 0

unfoldable pub used : List ℕ → ℕ
unfolding used_from
used room = used_from most 0 room

unfoldable pub all_zero : List ℕ → Bool
all_zero [] = true
all_zero (b ∷ l) = b == 0 && all_zero l

unfoldable pub taught : List ℕ → Bool
unfolding used all_zero
taught room = length room == room_length && all_zero (drop (80 * used room) room)

-- ---- the map that a room is
pub record Place : Type 0 where
  pub id : ℕ
  pub pose : Feet

abbrev pub places_from : ℕ → List ℕ → List Place
places_from zero l = []
places_from (suc n) l = record { id = id_of l; pose = pose_of l } ∷ places_from n (behind l)

abbrev pub places_of : List ℕ → List Place
places_of room = places_from (used room) room

abbrev pub look_up : List Place → Map
look_up [] id = none
look_up (p ∷ ps) id = choose (id == p.id) (kept p.pose) (look_up ps id)

abbrev pub map_of : List ℕ → Map
map_of room = look_up (places_of room)

-- ---- where an id stands, or is to stand: the first used place whose id is not below it; and whether it stands there
unfoldable pub place_from : ℕ → ℕ → List ℕ → ℕ
unfolding id_of
place_from zero id l = 0
place_from (suc n) id l = choose (nat_lt (id_of l) id) (suc (place_from n id (behind l))) 0

unfoldable pub place_for : ℕ → List ℕ → ℕ
unfolding place_from used
place_for id room = place_from (used room) id room

unfoldable pub has : ℕ → List ℕ → Bool
unfolding place_for used id_of
has id room = nat_lt (place_for id room) (used room) && id_of (drop (80 * place_for id room) room) == id

-- ---- "17 first for lent room that no run of calls can have left (in making fresh, for its size only)"
abbrev pub looked : List ℕ → ℕ → ℕ
looked room n = either (unless (taught room) 17) n

abbrev pub put_refusal : ℕ → Feet → List ℕ → ℕ
put_refusal id f room = looked room (put_number id f (not (has id room) && nat_le most (used room)))

abbrev pub find_refusal : ℕ → List ℕ → ℕ
find_refusal id room = looked room (find_number id (has id room))

-- ---- the bytes after a put of an id that is there and of a new one, and after a drop: what stood before the place, the place, what
-- stood behind it
abbrev pub replaced : ℕ → List ℕ → List ℕ → List ℕ
replaced at new room = take at room ++ (new ++ drop (at + 80) room)

abbrev pub inserted : ℕ → ℕ → List ℕ → List ℕ → List ℕ
inserted at end new room = take at room ++ (new ++ (slice at end room ++ drop (end + 80) room))

abbrev pub removed : ℕ → List ℕ → List ℕ
removed at room = take at room ++ (drop (at + 80) room ++ zeros 80)

abbrev pub with_pose : ℕ → Feet → List ℕ → List ℕ
with_pose id f room =
    choose (has id room)
    (replaced (80 * place_for id room) (place_bytes id f) room)
    (inserted (80 * place_for id room) (80 * used room) (place_bytes id f) room)

-- ---- the ids of n places, and the list
unfoldable pub ids_from : ℕ → List ℕ → List ℕ
unfolding id_of
ids_from zero l = []
ids_from (suc n) l = id_of l ∷ ids_from n (behind l)

abbrev pub all_listed : List ℕ → Listed
all_listed room = record { len = used room; ids = ids_from most room }

abbrev pub listed_of : List ℕ → Result Listed Refusal
listed_of room = choose (taught room) (Ok (all_listed room)) (Err NoRoom)

-- ---- the five calls
abbrev pub told_of : Call → List ℕ → Told
told_of fresh room = answer (unless (length room == room_length) 17) done
told_of (put id f) room = answer (put_refusal id f room) done
told_of (get id) room = answer (find_refusal id room) (given_feet (feet_at room (80 * place_for id room + 2)))
told_of (drop_id id) room = answer (find_refusal id room) done
told_of list_ids room = told_listed (listed_of room)

abbrev pub room_after : Call → List ℕ → List ℕ
room_after fresh room = choose (length room == room_length) (zeros room_length) room
room_after (put id f) room = choose (put_refusal id f room == 0) (with_pose id f room) room
room_after (get id) room = room
room_after (drop_id id) room = choose (find_refusal id room == 0) (removed (80 * place_for id room) room) room
room_after list_ids room = room

-- ---- a call that a program can make: its id is a u16, its floats are f32
abbrev pub HeldFloat : Float → Type 0
HeldFloat x = T (fits binary32 x)

abbrev pub HeldFeet : Feet → Type 0
HeldFeet f = (l : Leg) → HeldFloat (foot f l).x × HeldFloat (foot f l).y × HeldFloat (foot f l).z

abbrev pub Made : Call → Type 0
Made (put id f) = (id < 65536) × HeldFeet f
Made fresh = Unit {0}
Made (get id) = Unit {0}
Made (drop_id id) = Unit {0}
Made list_ids = Unit {0}

abbrev pub AllMade : List Call → Type 0
AllMade [] = Unit {0}
AllMade (c ∷ cs) = Made c × AllMade cs
