-- Request K11: "Any run of calls answers as a plain map from ids to poses does." The map, the five calls on it, and what a run of calls
-- answers. Nothing of bytes stands here.
use Rattle.std.specs.Prelude.{ℕ, zero, suc, Bool, true, false, not, ◌&&◌, List, [], ◌∷◌, length, ◌==◌, nat_le}
use Rattle.numbers.specs.Told.{Told, choose, answer}
use Rattle.numbers.specs.Door.{unless, when, first_of}
use Rattle.numbers.specs.Limits.{foot_limit}
use Rattle.legs.specs.Legs.{finite_feet, permitted_feet}
use Rattle.legs.specs.Answers.{given_feet}
use Rattle.legs.specs.Legs.{Feet}
use Rattle.taught.specs.Answers.{done, given_ids}

-- what stands under an id: no pose, or one
pub data Slot : Type 0 where
  none : Slot
  kept : Feet → Slot

abbrev pub there : Slot → Bool
there none = false
there (kept f) = true

abbrev pub Map : Type 0
Map = ℕ → Slot

abbrev pub empty : Map
empty id = none

-- a map with another slot under one id
abbrev pub with : Map → ℕ → Slot → Map
with m id s k = choose (k == id) s (m k)

-- out of n numbers from `first` on those at which the map has a pose; and the ids, from 1 to 65535
abbrev pub list_from : ℕ → ℕ → Map → List ℕ
list_from zero first m = []
list_from (suc n) first m = choose (there (m first)) (first ∷ list_from n (suc first) m) (list_from n (suc first) m)

unfoldable pub list_of : Map → List ℕ
list_of m = list_from 65535 1 m

-- no room for one more
unfoldable pub full : Map → Bool
unfolding list_of
full m = nat_le 64 (length (list_of m))

pub data Call : Type 0 where
  fresh : Call
  put : ℕ → Feet → Call
  get : ℕ → Call
  drop_id : ℕ → Call
  list_ids : Call

-- "then 1 and 2 for a pose, then 15 id 0, 12 id absent, 11 store full, in that order": of a put, where a new id finds the store full or
-- not; of what asks for an id that is there
abbrev pub put_number : ℕ → Feet → Bool → ℕ
put_number id f is_full =
    first_of
    (unless (finite_feet f) 1
    ∷ unless (permitted_feet foot_limit f) 2
    ∷ when (id == 0) 15
    ∷ when is_full 11
    ∷ [])

abbrev pub find_number : ℕ → Bool → ℕ
find_number id is_there = first_of (when (id == 0) 15 ∷ unless is_there 12 ∷ [])

-- "A full store refuses only new ids"
abbrev pub put_refused : ℕ → Feet → Map → ℕ
put_refused id f m = put_number id f (not (there (m id)) && full m)

abbrev pub find_refused : ℕ → Map → ℕ
find_refused id m = find_number id (there (m id))

abbrev pub given_slot : Slot → Told
given_slot none = done
given_slot (kept f) = given_feet f

abbrev pub answer_of : Call → Map → Told
answer_of fresh m = done
answer_of (put id f) m = answer (put_refused id f m) done
answer_of (get id) m = answer (find_refused id m) (given_slot (m id))
answer_of (drop_id id) m = answer (find_refused id m) done
answer_of list_ids m = given_ids (length (list_of m)) (list_of m)

abbrev pub map_after : Call → Map → Map
map_after fresh m = empty
map_after (put id f) m = choose (put_refused id f m == 0) (with m id (kept f)) m
map_after (get id) m = m
map_after (drop_id id) m = choose (find_refused id m == 0) (with m id none) m
map_after list_ids m = m

-- what a run of calls answers, each on what the one before it left; and what it leaves
abbrev pub answers : {S : Type 0} → (Call → S → Told) → (Call → S → S) → List Call → S → List Told
answers tell after [] s = []
answers tell after (c ∷ cs) s = tell c s ∷ answers tell after cs (after c s)

abbrev pub leaves : {S : Type 0} → (Call → S → S) → List Call → S → S
leaves after [] s = s
leaves after (c ∷ cs) s = leaves after cs (after c s)
