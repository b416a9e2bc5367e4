-- Request K11, `as_a_map`: any run of calls on a room answers as on the plain map that the room is. Between the two stands a sorted list of
-- places: one law a call for its answer, for the room, for the map, and that the list stays sound. Assumes nothing.
use Rattle.std.specs.Prelude.{◌≡◌, ℕ, zero, suc, ◌+◌, ◌*◌, ◌<◌, Bool, true, false, not, ◌&&◌, eqb, leb, ◌⊎◌, List, [], ◌∷◌, length}
use native.Mathlib.Omega.{arith}
use mathlib.Core.Path.{refl, sym, ap, ap₂, ◌∙◌, subst, fun_ext}
use mathlib.Core.Bool.{true≢false, false≢true}
use mathlib.Core.Logic.{inl, inr}
use borrow.Author.Tests.{eq-eqb, leb-false}
use Rattle.numbers.specs.Told.{Told, choose, answer}
use Rattle.numbers.specs.Door.{unless}
use Rattle.numbers.specs.Limits.{foot_limit}
use Rattle.numbers.proofs.OneAnswer.{alike_where_taken}
use Rattle.numbers.proofs.Flags.{by_test, chosen}
use Rattle.legs.specs.Legs.{finite_feet, permitted_feet}
use Rattle.legs.specs.Answers.{given_feet}
use Rattle.legs.specs.Legs.{Feet}
use Rattle.packed.specs.Packed.{feet_at}
use Rattle.taught.specs.Answers.{done}
use Rattle.taught.specs.Map.{Slot, none, kept, there, Map, empty, full, Call, fresh, put, get, drop_id, list_ids}
use Rattle.taught.specs.Map.{put_number, find_number, put_refused, find_refused, given_slot, answer_of, map_after, answers, leaves}
use Rattle.taught.specs.Room.{Place, look_up, map_of, places_of, Taught, place_for, room_length, zeros, pose_good}
use Rattle.taught.specs.Room.{put_refusal, find_refusal, with_pose, told_of, room_after, Made, AllMade}
use Rattle.taught.proofs.InOrder.{put_flags, find_flags}
use Rattle.taught.proofs.Written.{written, Sound, position, insert, remove}
use Rattle.taught.proofs.Sorted.{look_insert, look_remove, sound_insert, sound_remove, list_of_places, length_ids}
use Rattle.taught.proofs.Reading.{written_long, taught_written, used_of_written, places_of_written, there_written}
use Rattle.taught.proofs.Reading.{place_for_written, pose_written, ids_of_written}
use Rattle.taught.proofs.Storing.{replaced_written, inserted_written, removed_written}
use Rattle.taught.proofs.Exact.{again, sound, taught_test, written_taught}

-- ---- the five calls on a list of places, under the map's refusals
abbrev pub places_after : Call → List Place → List Place
places_after fresh ps = []
places_after (put id f) ps = choose (eqb (put_refused id f (look_up ps)) 0) (insert id f ps) ps
places_after (get id) ps = ps
places_after (drop_id id) ps = choose (eqb (find_refused id (look_up ps)) 0) (remove id ps) ps
places_after list_ids ps = ps

-- ---- what is not refused
pub not_zero : (n : ℕ) → eqb n 0 ≡ false → 0 < n
not_zero zero e = absurd (true≢false e)
not_zero (suc n) e = omega arith

-- a put that is done: a good pose, an id above 0, one that is there or has room
pub put_done : (id : ℕ) (f : Feet) (b : Bool) → eqb (put_number id f b) 0 ≡ true → (pose_good f ≡ true) × (0 < id) × (b ≡ false)
put_done id f b e =
    let h = put_flags (finite_feet f) (permitted_feet foot_limit f) (eqb id 0) b e in
    (h.0, not_zero id h.1, h.2)

pub find_done : (id : ℕ) (t : Bool) → eqb (find_number id t) 0 ≡ true → (eqb id 0 ≡ false) × (t ≡ true)
find_done id t e = find_flags (eqb id 0) t e

-- ---- the refusals are the map's
pub full_places : (ps : List Place) → Sound 64 0 ps → full (look_up ps) ≡ leb 64 (length ps)
unfolding full
full_places ps s = ap (λ (l : List ℕ). leb 64 (length l)) (list_of_places 64 ps s) ∙ ap (leb 64) (length_ids ps)

put_refusal_lem : (id : ℕ) (f : Feet) (ps : List Place) → Sound 64 0 ps → put_refusal id f (written 64 ps) ≡ put_refused id f (look_up ps)
put_refusal_lem id f ps s = rw (taught_written ps s, there_written id ps s, used_of_written ps s, full_places ps s) refl

find_refusal_lem : (id : ℕ) (ps : List Place) → Sound 64 0 ps → find_refusal id (written 64 ps) ≡ find_refused id (look_up ps)
find_refusal_lem id ps s = rw (taught_written ps s, there_written id ps s) refl

-- ---- the answer
five_thousand : (ps : List Place) → Sound 64 0 ps → eqb (length (written 64 ps)) room_length ≡ true
five_thousand ps s = ap (λ (n : ℕ). eqb n room_length) (written_long 64 0 ps s)

-- the pose that a get reads
abbrev read_at : ℕ → List ℕ → Told
read_at place room = given_feet (feet_at room (80 * place + 2))

told_get : (id : ℕ) (ps : List Place) → Sound 64 0 ps → there (look_up ps id) ≡ true
    → read_at (place_for id (written 64 ps)) (written 64 ps) ≡ given_slot (look_up ps id)
told_get id ps s is =
    ap (λ (k : ℕ). read_at k (written 64 ps)) (place_for_written id ps s)
    ∙ at (look_up ps id) refl is
  where
    at : (slot : Slot) → look_up ps id ≡ slot → there slot ≡ true → read_at (position id ps) (written 64 ps) ≡ given_slot slot
    at none e is = absurd (false≢true is)
    at (kept f) e is = ap given_feet (pose_written id ps s f e)

told_ids : (ps : List Place) → Sound 64 0 ps → told_of list_ids (written 64 ps) ≡ answer_of list_ids (look_up ps)
told_ids ps s =
    rw (taught_written ps s, used_of_written ps s, ids_of_written ps s, list_of_places 64 ps s, length_ids ps) refl

pub same_answer : (c : Call) (ps : List Place) → Sound 64 0 ps → told_of c (written 64 ps) ≡ answer_of c (look_up ps)
same_answer fresh ps s = ap (λ (t : Bool). answer (unless t 17) done) (five_thousand ps s)
same_answer (put id f) ps s = ap (λ (n : ℕ). answer n done) (put_refusal_lem id f ps s)
same_answer (get id) ps s =
    ap (λ (n : ℕ). answer n (read_at (place_for id (written 64 ps)) (written 64 ps))) (find_refusal_lem id ps s)
    ∙ alike_where_taken (find_refused id (look_up ps)) (read_at (place_for id (written 64 ps)) (written 64 ps)) (given_slot (look_up ps id))
    (λ e. told_get id ps s (find_done id (there (look_up ps id)) e).1)
same_answer (drop_id id) ps s = ap (λ (n : ℕ). answer n done) (find_refusal_lem id ps s)
same_answer list_ids ps s = told_ids ps s

-- ---- the room
-- a new id of a put that is done finds room
pub has_room : (t : Bool) (n : ℕ) → (not t && leb 64 n) ≡ false → (t ≡ true) ⊎ (n < 64)
has_room true n e = inl refl
has_room false n e = inr (leb-false 64 n e)

new_has_room : (t : Bool) (n : ℕ) → (not t && leb 64 n) ≡ false → t ≡ false → n < 64
new_has_room t n e new = leb-false 64 n (rw new at e)

-- what a put that is done knows of its places
put_room : (id : ℕ) (f : Feet) (ps : List Place) → Sound 64 0 ps → eqb (put_refused id f (look_up ps)) 0 ≡ true
    → (not (there (look_up ps id)) && leb 64 (length ps)) ≡ false
put_room id f ps s e =
    ap (λ (b : Bool). not (there (look_up ps id)) && b) (sym (full_places ps s))
    ∙ (put_done id f (not (there (look_up ps id)) && full (look_up ps)) e).2

put_written : (id : ℕ) (f : Feet) (ps : List Place) → Sound 64 0 ps → eqb (put_refused id f (look_up ps)) 0 ≡ true
    → with_pose id f (written 64 ps) ≡ written 64 (insert id f ps)
put_written id f ps s e =
    rw (there_written id ps s, place_for_written id ps s, used_of_written ps s)
    (by_test (there (look_up ps id))
    (λ is. rw is (replaced_written 64 0 id f ps s is))
    (λ new. rw new (inserted_written 64 0 id f ps s new (new_has_room (there (look_up ps id)) (length ps) (put_room id f ps s e) new))))

pub same_room : (c : Call) (ps : List Place) → Sound 64 0 ps → room_after c (written 64 ps) ≡ written 64 (places_after c ps)
same_room fresh ps s = ap (λ (t : Bool). choose t (zeros room_length) (written 64 ps)) (five_thousand ps s)
same_room (put id f) ps s =
    rw (put_refusal_lem id f ps s)
    (by_test (eqb (put_refused id f (look_up ps)) 0)
    (λ e. rw e (put_written id f ps s e))
    (λ e. rw e refl))
same_room (get id) ps s = refl
same_room (drop_id id) ps s =
    rw (find_refusal_lem id ps s, place_for_written id ps s)
    (by_test (eqb (find_refused id (look_up ps)) 0)
    (λ e. rw e (removed_written 64 0 id ps s (find_done id (there (look_up ps id)) e).1))
    (λ e. rw e refl))
same_room list_ids ps s = refl

-- ---- the list stays sound
pub stays_sound : (c : Call) → Made c → (ps : List Place) → Sound 64 0 ps → Sound 64 0 (places_after c ps)
stays_sound fresh m ps s = tt
stays_sound (put id f) m ps s =
    chosen (Sound 64 0) (eqb (put_refused id f (look_up ps)) 0) (insert id f ps) ps
    (λ e. let h = put_done id f (not (there (look_up ps id)) && full (look_up ps)) e in
    sound_insert 64 0 id f ps s h.1 (record { small = m.0; good = h.0; held = m.1 })
    (has_room (there (look_up ps id)) (length ps) (put_room id f ps s e)))
    (λ e. s)
stays_sound (get id) m ps s = s
stays_sound (drop_id id) m ps s =
    chosen (Sound 64 0) (eqb (find_refused id (look_up ps)) 0) (remove id ps) ps (λ e. sound_remove 64 0 id ps s) (λ e. s)
stays_sound list_ids m ps s = s

-- ---- the map
pub same_map : (c : Call) (ps : List Place) → Sound 64 0 ps → (k : ℕ) → look_up (places_after c ps) k ≡ map_after c (look_up ps) k
same_map fresh ps s k = refl
same_map (put id f) ps s k =
    by_test (eqb (put_refused id f (look_up ps)) 0)
    (λ e. rw e (look_insert id f ps k))
    (λ e. rw e refl)
same_map (get id) ps s k = refl
same_map (drop_id id) ps s k =
    by_test (eqb (find_refused id (look_up ps)) 0)
    (λ e. rw e (look_remove 64 0 id ps s k))
    (λ e. rw e refl)
same_map list_ids ps s k = refl

-- ---- one induction over the calls
pub run_of_places : (calls : List Call) → AllMade calls → (ps : List Place) → Sound 64 0 ps
    → answers told_of room_after calls (written 64 ps) ≡ answers answer_of map_after calls (look_up ps)
run_of_places [] m ps s = refl
run_of_places (c ∷ calls) m ps s =
    ap₂ {A = Told} {B = List Told} {C = List Told} (λ t ts. t ∷ ts) (same_answer c ps s)
    (ap (answers told_of room_after calls) (same_room c ps s)
    ∙ run_of_places calls m.1 (places_after c ps) (stays_sound c m.0 ps s)
    ∙ ap (answers answer_of map_after calls) (fun_ext (same_map c ps s)))

-- the theorem
pub as_a_map : (calls : List Call) → AllMade calls → (room : List ℕ) → Taught room
    → answers told_of room_after calls room ≡ answers answer_of map_after calls (map_of room)
as_a_map calls m room t =
    let good = taught_test room t in
    ap (answers told_of room_after calls) (again room t.bytes good)
    ∙ run_of_places calls m (places_of room) (sound room t.bytes good)

-- ---- what calls leave: places, written out; their map is the map that the calls leave
pub leaves_places : (calls : List Call) → AllMade calls → (ps : List Place) → Sound 64 0 ps
    → (leaves room_after calls (written 64 ps) ≡ written 64 (leaves places_after calls ps))
    × Sound 64 0 (leaves places_after calls ps)
    × (look_up (leaves places_after calls ps) ≡ leaves map_after calls (look_up ps))
leaves_places [] m ps s = (refl, s, refl)
leaves_places (c ∷ calls) m ps s =
    let h = leaves_places calls m.1 (places_after c ps) (stays_sound c m.0 ps s) in (
      ap (leaves room_after calls) (same_room c ps s) ∙ h.0,
      h.1,
      h.2 ∙ ap (leaves map_after calls) (fun_ext (same_map c ps s)),
    )

-- a room that calls leave on a taught one is taught, and is the map that they leave
pub stays_taught : (calls : List Call) → AllMade calls → (room : List ℕ) → Taught room → Taught (leaves room_after calls room)
stays_taught calls m room t =
    let good = taught_test room t in
    let h = leaves_places calls m (places_of room) (sound room t.bytes good) in
    subst Taught (sym (ap (leaves room_after calls) (again room t.bytes good) ∙ h.0))
    (written_taught (leaves places_after calls (places_of room)) h.1)

pub leaves_the_map : (calls : List Call) → AllMade calls → (room : List ℕ) → Taught room
    → map_of (leaves room_after calls room) ≡ leaves map_after calls (map_of room)
leaves_the_map calls m room t =
    let good = taught_test room t in
    let h = leaves_places calls m (places_of room) (sound room t.bytes good) in
    ap (λ (r : List ℕ). map_of (leaves room_after calls r)) (again room t.bytes good)
    ∙ ap map_of h.0
    ∙ ap look_up (places_of_written (leaves places_after calls (places_of room)) h.1)
    ∙ h.2

-- ---- a fresh room is the empty map, and so is every room once it is made fresh
pub fresh_is_empty : map_of (zeros room_length) ≡ empty
fresh_is_empty = ap look_up (places_of_written [] tt)

pub after_fresh : (calls : List Call) → AllMade calls → (room : List ℕ) → length room ≡ room_length → (m : Map)
    → answers told_of room_after (fresh ∷ calls) room ≡ answers answer_of map_after (fresh ∷ calls) m
after_fresh calls made room long m =
    rw (eq-eqb (length room) room_length long) (ap (λ (ts : List Told). done ∷ ts) (run_of_places calls made [] tt))
