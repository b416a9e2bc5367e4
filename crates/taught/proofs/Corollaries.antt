-- Request K11, what `as_a_map` comes to for a reader: get after put and after drop, every other id as it was, a replaced pose in a full
-- store, no refusal 11 while the map has at most 64 poses; a list rises, and has every id that get answers and no other. Assumes nothing.
use Rattle.std.specs.Prelude.{◌≡◌, ℕ, zero, suc, ◌<◌, ◌≤◌, Bool, true, false, not, ◌&&◌, eqb, ◌↔◌, List, [], ◌∷◌, length, get_or, take}
use native.Mathlib.Nat.{le_of_suc-le-suc}
use native.Mathlib.Omega.{arith}
use mathlib.Core.Path.{refl, sym, ap, ◌∙◌, subst, fun_ext}
use mathlib.Core.Bool.{true≢false, false≢true}
use mathlib.Core.Logic.{inr}
use lib.Seq.{get_or-take}
use borrow.Author.Tests.{eq-eqb, ne_eqb, eqb-true, leb-true, not-true}
use Rattle.numbers.specs.Told.{Told, refused, choose, answer}
use Rattle.numbers.specs.Door.{unless, when, first_of}
use Rattle.numbers.specs.Limits.{foot_limit}
use Rattle.numbers.proofs.Flags.{by_test, chosen}
use Rattle.numbers.proofs.OnePass.{and_left, and_right}
use Rattle.legs.specs.Legs.{finite_feet, permitted_feet}
use Rattle.legs.specs.Answers.{given_feet}
use Rattle.legs.specs.Legs.{Feet}
use Rattle.taught.specs.Answers.{done}
use Rattle.taught.specs.Map.{Slot, none, kept, there, Map, empty, with, list_of, full, Call, fresh, put, get, drop_id, list_ids}
use Rattle.taught.specs.Map.{put_number, find_number, put_refused, find_refused, given_slot, answer_of, map_after, answers, leaves}
use Rattle.taught.specs.Room.{Place, look_up, map_of, places_of, Taught, pose_good, told_of, room_after, ids_from, all_listed}
use Rattle.taught.specs.Room.{listed_of, Made, AllMade}
use Rattle.std.specs.Prelude.{Result, Ok, Err, IsOkAnd}
use Rattle.numbers.specs.declared.refusal.Refusal.{Refusal}
use Rattle.numbers.specs.declared.refusal.Refusal.TheVariants.{NoRoom}
use Rattle.taught.specs.declared.Listed.{Listed}
use Rattle.taught.proofs.Written.{written, Sound, ids_of, insert}
use Rattle.taught.proofs.Sorted.{Rising, rising, few, absent, sound_more, sound_insert, look_insert}
use Rattle.taught.proofs.Sorted.{list_of_places, length_ids, long_insert}
use Rattle.taught.proofs.Reading.{used_of_written, ids_of_written}
use Rattle.taught.proofs.Exact.{again, sound, taught_test}
use Rattle.taught.proofs.AsAMap.{as_a_map, put_done, find_done, places_after, stays_sound, same_map, full_places}

-- ---- one call on a room, and one after another
pub one_told : (c : Call) → Made c → (room : List ℕ) → Taught room → told_of c room ≡ answer_of c (map_of room)
one_told c m room t = ap (λ (ts : List Told). get_or ts 0 done) (as_a_map (c ∷ []) (m, tt) room t)

pub then_told : (c d : Call) → Made c → Made d → (room : List ℕ) → Taught room
    → told_of d (room_after c room) ≡ answer_of d (map_after c (map_of room))
then_told c d m n room t = ap (λ (ts : List Told). get_or ts 1 done) (as_a_map (c ∷ (d ∷ [])) (m, (n, tt)) room t)

-- nothing is refused where the answer's number is 0
taken : (n : ℕ) (x : Told) → (answer n x).number ≡ 0 → eqb n 0 ≡ true
taken n x e = by_test (eqb n 0) (λ is. is) (λ not_is. eq-eqb n 0 (rw not_is at e))

-- ---- get gives what stands under the id
get_kept : (id : ℕ) (f : Feet) (s : Slot) → 0 < id → s ≡ kept f → answer (find_number id (there s)) (given_slot s) ≡ given_feet f
get_kept id f s above e = rw (e, ne_eqb id 0 (λ h. omega (arith, above, h))) refl

pub get_after_put : (id : ℕ) (f : Feet) → Made (put id f) → (room : List ℕ) → Taught room → told_of (put id f) room ≡ done
    → told_of (get id) (room_after (put id f) room) ≡ given_feet f
get_after_put id f m room t is_done =
    let map = map_of room in
    let e : eqb (put_refused id f map) 0 ≡ true =
    taken (put_refused id f map) done (ap (λ (x : Told). x.number) (sym (one_told (put id f) m room t) ∙ is_done)) in
    then_told (put id f) (get id) m tt room t
    ∙ get_kept id f (map_after (put id f) map id) (put_done id f (not (there (map id)) && full map) e).1
    (rw (e, eq-eqb id id refl) refl)

-- and every other id what it gave
other_put : (k id : ℕ) (f : Feet) (m : Map) → (k ≡ id → ⊥) → map_after (put id f) m k ≡ m k
other_put k id f m other =
    chosen (λ (g : Map). g k ≡ m k) (eqb (put_refused id f m) 0) (with m id (kept f)) m
    (λ e. rw (ne_eqb k id other) refl)
    (λ e. refl)

pub get_another : (k id : ℕ) (f : Feet) → (k ≡ id → ⊥) → Made (put id f) → (room : List ℕ) → Taught room
    → told_of (get k) (room_after (put id f) room) ≡ told_of (get k) room
get_another k id f other m room t =
    then_told (put id f) (get k) m tt room t
    ∙ ap (λ (s : Slot). answer (find_number k (there s)) (given_slot s)) (other_put k id f (map_of room) other)
    ∙ sym (one_told (get k) tt room t)

-- ---- after a drop that is done there is no such id; every other gives what it gave
pub get_after_drop : (id : ℕ) (room : List ℕ) → Taught room → told_of (drop_id id) room ≡ done
    → told_of (get id) (room_after (drop_id id) room) ≡ refused 12
get_after_drop id room t is_done =
    let map = map_of room in
    let e : eqb (find_refused id map) 0 ≡ true =
    taken (find_refused id map) done (ap (λ (x : Told). x.number) (sym (one_told (drop_id id) tt room t) ∙ is_done)) in
    then_told (drop_id id) (get id) tt tt room t ∙ gone (map_after (drop_id id) map id) (above e) (rw (e, eq-eqb id id refl) refl)
  where
    above : eqb (find_refused id (map_of room)) 0 ≡ true → eqb id 0 ≡ false
    above e = (find_done id (there (map_of room id)) e).0

    gone : (s : Slot) → eqb id 0 ≡ false → s ≡ none → answer (find_number id (there s)) (given_slot s) ≡ refused 12
    gone s z h = rw (h, z) refl

other_drop : (k id : ℕ) (m : Map) → (k ≡ id → ⊥) → map_after (drop_id id) m k ≡ m k
other_drop k id m other =
    chosen (λ (g : Map). g k ≡ m k) (eqb (find_refused id m) 0) (with m id none) m
    (λ e. rw (ne_eqb k id other) refl)
    (λ e. refl)

pub get_another_dropped : (k id : ℕ) → (k ≡ id → ⊥) → (room : List ℕ) → Taught room
    → told_of (get k) (room_after (drop_id id) room) ≡ told_of (get k) room
get_another_dropped k id other room t =
    then_told (drop_id id) (get k) tt tt room t
    ∙ ap (λ (s : Slot). answer (find_number k (there s)) (given_slot s)) (other_drop k id (map_of room) other)
    ∙ sym (one_told (get k) tt room t)

-- ---- a put of an id that is there is done with any good pose, full store or not
replacing : (F P z t b : Bool) → (F && P) ≡ true → z ≡ false → t ≡ true
    → first_of (unless F 1 ∷ unless P 2 ∷ when z 15 ∷ when (not t && b) 11 ∷ []) ≡ 0
replacing F P z t b good above is = rw (and_left F P good, and_right F P good, above, is) refl

pub replaced_when_full : (id : ℕ) (f : Feet) → Made (put id f) → pose_good f ≡ true → (room : List ℕ) → Taught room
    → (told_of (get id) room).number ≡ 0 → told_of (put id f) room ≡ done
replaced_when_full id f m good room t is =
    let map = map_of room in
    let e : eqb (find_refused id map) 0 ≡ true =
    taken (find_refused id map) (given_slot (map id)) (ap (λ (x : Told). x.number) (sym (one_told (get id) tt room t)) ∙ is) in
    let found = find_done id (there (map id)) e in
    one_told (put id f) m room t
    ∙ ap (λ (n : ℕ). answer n done)
    (replacing (finite_feet f) (permitted_feet foot_limit f) (eqb id 0) (there (map id)) (full map) good found.0 found.1)

-- ---- a run that never puts a 65th pose never meets 11
-- the plain map without a bound: no put is refused for want of room
abbrev pub unbounded : Call → Map → Map
unbounded fresh m = empty
unbounded (put id f) m = choose (eqb (put_number id f false) 0) (with m id (kept f)) m
unbounded (get id) m = m
unbounded (drop_id id) m = choose (eqb (find_refused id m) 0) (with m id none) m
unbounded list_ids m = m

-- one pose more would be a 65th
one_too_many : (id : ℕ) (f : Feet) → Made (put id f) → (ps : List Place) → Sound 64 0 ps
    → (not (there (look_up ps id)) && full (look_up ps)) ≡ true → eqb (put_number id f false) 0 ≡ true
    → 64 < length (list_of (with (look_up ps) id (kept f)))
one_too_many id f made ps s no_room free =
    let new = not-true (there (look_up ps id)) (and_left (not (there (look_up ps id))) (full (look_up ps)) no_room) in
    let many : 64 ≤ length ps =
    leb-true 64 (length ps) (sym (full_places ps s) ∙ and_right (not (there (look_up ps id))) (full (look_up ps)) no_room) in
    let most : length ps ≤ 64 = few 64 0 ps s in
    let h = put_done id f false free in
    let more : Sound 65 0 (insert id f ps) =
    sound_insert 65 0 id f ps (sound_more 64 65 0 ps s (omega arith)) h.1 (record { small = made.0; good = h.0; held = made.1 })
    (inr (omega arith)) in
    let long : length (list_of (with (look_up ps) id (kept f))) ≡ suc (length ps) =
    ap (λ (m : Map). length (list_of m)) (sym (fun_ext (look_insert id f ps)))
    ∙ ap length (list_of_places 65 (insert id f ps) more)
    ∙ length_ids (insert id f ps)
    ∙ long_insert 0 id f ps (rising 64 0 ps s)
    ∙ ap (λ (t : Bool). choose t (length ps) (suc (length ps))) new in
    omega (arith, long, many)

-- where the map without a bound has no 65th pose, a put's number is the one without a bound, and that is not 11
other_refusal : (F P z : Bool) → eqb (first_of (unless F 1 ∷ unless P 2 ∷ when z 15 ∷ 0 ∷ [])) 0 ≡ false → (b : Bool)
    → first_of (unless F 1 ∷ unless P 2 ∷ when z 15 ∷ when b 11 ∷ []) ≡ first_of (unless F 1 ∷ unless P 2 ∷ when z 15 ∷ 0 ∷ [])
other_refusal false P z e b = refl
other_refusal true false z e b = refl
other_refusal true true true e b = refl
other_refusal true true false e b = absurd (true≢false e)

never_eleven : (F P z : Bool) → (answer (first_of (unless F 1 ∷ unless P 2 ∷ when z 15 ∷ 0 ∷ [])) done).number ≡ 11 → ⊥
never_eleven false P z e = absurd (omega arith)
never_eleven true false z e = absurd (omega arith)
never_eleven true true true e = absurd (omega arith)
never_eleven true true false e = absurd (omega arith)

found_never_eleven : (z t : Bool) (x : Told) → x.number ≡ 0 → (answer (first_of (when z 15 ∷ unless t 12 ∷ [])) x).number ≡ 11 → ⊥
found_never_eleven true t x given e = absurd (omega arith)
found_never_eleven false false x given e = absurd (omega arith)
found_never_eleven false true x given e = absurd (omega arith)

given_slot_lem : (s : Slot) → (given_slot s).number ≡ 0
given_slot_lem none = refl
given_slot_lem (kept f) = refl

as_unbounded : (id : ℕ) (f : Feet) → Made (put id f) → (ps : List Place) → Sound 64 0 ps
    → length (list_of (unbounded (put id f) (look_up ps))) ≤ 64 → put_refused id f (look_up ps) ≡ put_number id f false
as_unbounded id f made ps s fits =
    by_test (not (there (look_up ps id)) && full (look_up ps))
    (λ no_room. by_test (eqb (put_number id f false) 0)
    (λ free. absurd (omega (arith, one_too_many id f made ps s no_room free, rw free at fits)))
    (λ other. other_refusal (finite_feet f) (permitted_feet foot_limit f) (eqb id 0) other
    (not (there (look_up ps id)) && full (look_up ps))))
    (λ room. ap (put_number id f) room)

same_unbounded : (c : Call) → Made c → (ps : List Place) → Sound 64 0 ps → length (list_of (unbounded c (look_up ps))) ≤ 64
    → map_after c (look_up ps) ≡ unbounded c (look_up ps)
same_unbounded fresh made ps s fits = refl
same_unbounded (put id f) made ps s fits =
    ap (λ (n : ℕ). choose (eqb n 0) (with (look_up ps) id (kept f)) (look_up ps)) (as_unbounded id f made ps s fits)
same_unbounded (get id) made ps s fits = refl
same_unbounded (drop_id id) made ps s fits = refl
same_unbounded list_ids made ps s fits = refl

not_eleven : (c : Call) → Made c → (ps : List Place) → Sound 64 0 ps → length (list_of (unbounded c (look_up ps))) ≤ 64
    → (answer_of c (look_up ps)).number ≡ 11 → ⊥
not_eleven fresh made ps s fits e = absurd (omega arith)
not_eleven (put id f) made ps s fits e =
    never_eleven (finite_feet f) (permitted_feet foot_limit f) (eqb id 0)
    (ap (λ (n : ℕ). (answer n done).number) (sym (as_unbounded id f made ps s fits)) ∙ e)
not_eleven (get id) made ps s fits e =
    found_never_eleven (eqb id 0) (there (look_up ps id)) (given_slot (look_up ps id)) (given_slot_lem (look_up ps id)) e
not_eleven (drop_id id) made ps s fits e = found_never_eleven (eqb id 0) (there (look_up ps id)) done refl e
not_eleven list_ids made ps s fits e = absurd (omega arith)

never_full_places : (calls : List Call) → AllMade calls → (ps : List Place) → Sound 64 0 ps
    → ((n : ℕ) → length (list_of (leaves unbounded (take n calls) (look_up ps))) ≤ 64)
    → (i : ℕ) → (get_or (answers answer_of map_after calls (look_up ps)) i done).number ≡ 11 → ⊥
never_full_places [] made ps s h i e = absurd (omega arith)
never_full_places (c ∷ calls) made ps s h zero e = not_eleven c made.0 ps s (h 1) e
never_full_places (c ∷ calls) made ps s h (suc i) e =
    let is : look_up (places_after c ps) ≡ map_after c (look_up ps) = fun_ext (same_map c ps s) in
    let on : look_up (places_after c ps) ≡ unbounded c (look_up ps) = is ∙ same_unbounded c made.0 ps s (h 1) in
    never_full_places calls made.1 (places_after c ps) (stays_sound c made.0 ps s)
    (λ n. subst (λ (m : Map). length (list_of (leaves unbounded (take n calls) m)) ≤ 64) (sym on) (h (suc n)))
    i
    (ap (λ (m : Map). (get_or (answers answer_of map_after calls m) i done).number) is ∙ e)

-- if after any number of its calls the map without a bound has at most 64 poses, no answer of the run has number 11
pub never_full : (calls : List Call) → AllMade calls → (room : List ℕ) → Taught room
    → ((n : ℕ) → length (list_of (leaves unbounded (take n calls) (map_of room))) ≤ 64)
    → (i : ℕ) → (get_or (answers told_of room_after calls room) i done).number ≡ 11 → ⊥
never_full calls made room t h i e =
    never_full_places calls made (places_of room) (sound room t.bytes (taught_test room t)) h i
    (ap (λ (ts : List Told). (get_or ts i done).number) (sym (as_a_map calls made room t)) ∙ e)

-- ---- the list: ids of places, in order
later_above : (last : ℕ) (ps : List Place) → Rising last ps → (j : ℕ) → j < length ps → last < get_or (ids_of ps) j 0
later_above last [] r j l = absurd (omega arith)
later_above last (p ∷ ps) r zero l = r.0
later_above last (p ∷ ps) r (suc j) l =
    let above : p.id < get_or (ids_of ps) j 0 = later_above p.id ps r.2 j (le_of_suc-le-suc l) in
    omega (arith, above, r.0)

ids_rise : (last : ℕ) (ps : List Place) → Rising last ps → (i j : ℕ) → i < j → j < length ps →
    get_or (ids_of ps) i 0 < get_or (ids_of ps) j 0
ids_rise last [] r i j before l = absurd (omega arith)
ids_rise last (p ∷ ps) r i zero before l = absurd (omega arith)
ids_rise last (p ∷ ps) r zero (suc j) before l = later_above p.id ps r.2 j (le_of_suc-le-suc l)
ids_rise last (p ∷ ps) r (suc i) (suc j) before l =
    ids_rise p.id ps r.2 i j (le_of_suc-le-suc before) (le_of_suc-le-suc l)

-- an id is one of n numbers
abbrev pub OneOf : ℕ → ℕ → List ℕ → Type 0
OneOf k n ids = (i : ℕ) × (i < n) × (get_or ids i 0 ≡ k)

listed_there : (k : ℕ) (ps : List Place) (i : ℕ) → i < length ps → get_or (ids_of ps) i 0 ≡ k → there (look_up ps k) ≡ true
listed_there k [] i l e = absurd (omega arith)
listed_there k (p ∷ ps) zero l e = rw (eq-eqb k p.id (sym e)) refl
listed_there k (p ∷ ps) (suc i) l e =
    chosen (λ (s : Slot). there s ≡ true) (eqb k p.id) (kept p.pose) (look_up ps k)
    (λ is. refl)
    (λ is. listed_there k ps i (le_of_suc-le-suc l) e)

there_listed : (k : ℕ) (ps : List Place) → there (look_up ps k) ≡ true → OneOf k (length ps) (ids_of ps)
there_listed k [] e = absurd (false≢true e)
there_listed k (p ∷ ps) e =
    by_test (eqb k p.id)
    (λ is. (0, omega arith, sym (eqb-true k p.id is)))
    (λ is. let h = there_listed k ps (rw is at e) in (suc h.0, omega (arith, h.1), h.2))

-- get answers a pose exactly where there is one
there_given : (k : ℕ) (ps : List Place) → Sound 64 0 ps → there (look_up ps k) ≡ true → (answer_of (get k) (look_up ps)).number ≡ 0
there_given k ps s is =
    by_test (eqb k 0)
    (λ e. absurd (false≢true (ap there (sym (absent 0 k ps (rising 64 0 ps s) (omega (arith, eqb-true k 0 e)))) ∙ is)))
    (λ e. rw (e, is) (given_slot_lem (look_up ps k)))

given_there : (k : ℕ) (m : Map) → (answer_of (get k) m).number ≡ 0 → there (m k) ≡ true
given_there k m e = (find_done k (there (m k)) (taken (find_refused k m) (given_slot (m k)) e)).1

-- what a taught room lists are the ids of its places
listed_long : (ps : List Place) → Sound 64 0 ps → (all_listed (written 64 ps)).len ≡ length ps
listed_long ps s = used_of_written ps s

listed_at : (ps : List Place) → Sound 64 0 ps → (i : ℕ) → i < length ps →
    get_or (all_listed (written 64 ps)).ids i 0 ≡ get_or (ids_of ps) i 0
listed_at ps s i l =
    sym (get_or-take (length ps) (ids_from 64 (written 64 ps)) i 0 l) ∙ ap (λ (ids : List ℕ). get_or ids i 0) (ids_of_written ps s)

-- "the ids rising"
rises_written : (ps : List Place) → Sound 64 0 ps → (i j : ℕ) → i < j → j < (all_listed (written 64 ps)).len
    → get_or (all_listed (written 64 ps)).ids i 0 < get_or (all_listed (written 64 ps)).ids j 0
rises_written ps s i j before l =
    let last : j < length ps = rw (listed_long ps s) at l in
    rw (listed_at ps s i (omega (arith, before, last)), listed_at ps s j last) (ids_rise 0 ps (rising 64 0 ps s) i j before last)

-- a taught room has a list
listed : (room : List ℕ) → Taught room → listed_of room ≡ Ok (all_listed room)
listed room t = ap (λ (b : Bool). choose b (Ok (all_listed room)) (Err NoRoom)) (taught_test room t)

abbrev pub Rises : Listed → Type 0
Rises l = (i j : ℕ) → i < j → j < l.len → get_or l.ids i 0 < get_or l.ids j 0

pub list_rises : (room : List ℕ) → Taught room → IsOkAnd (listed_of room) Rises
list_rises room t =
    let good = taught_test room t in
    subst (λ (r : Result Listed Refusal). IsOkAnd r Rises) (sym (listed room t))
    (subst (λ (r : List ℕ). Rises (all_listed r)) (sym (again room t.bytes good))
    (rises_written (places_of room) (sound room t.bytes good)))

-- an id is listed exactly where get answers a pose
exactly_written : (k : ℕ) (ps : List Place) → Sound 64 0 ps
    → OneOf k (all_listed (written 64 ps)).len (all_listed (written 64 ps)).ids ↔ (there (look_up ps k) ≡ true)
exactly_written k ps s = (
  λ h.
      let l : h.0 < length ps = rw (listed_long ps s) at h.1 in
      listed_there k ps h.0 l (sym (listed_at ps s h.0 l) ∙ h.2),
  λ is.
      let h = there_listed k ps is in
      (h.0, rw (listed_long ps s) h.1, listed_at ps s h.0 h.1 ∙ h.2),
)

pub list_exactly : (k : ℕ) (room : List ℕ) → Taught room
    → IsOkAnd (listed_of room) (λ l. OneOf k l.len l.ids ↔ ((told_of (get k) room).number ≡ 0))
list_exactly k room t =
    let good = taught_test room t in
    let s = sound room t.bytes good in
    let told : told_of (get k) room ≡ answer_of (get k) (map_of room) = one_told (get k) tt room t in
    let one : OneOf k (all_listed room).len (all_listed room).ids ↔ (there (map_of room k) ≡ true) =
    subst (λ (r : List ℕ). OneOf k (all_listed r).len (all_listed r).ids ↔ (there (map_of room k) ≡ true)) (sym (again room t.bytes good))
    (exactly_written k (places_of room) s) in
    subst (λ (r : Result Listed Refusal). IsOkAnd r (λ l. OneOf k l.len l.ids ↔ ((told_of (get k) room).number ≡ 0)))
    (sym (listed room t)) (
      λ h. ap (λ (x : Told). x.number) told ∙ there_given k (places_of room) s (one.0 h),
      λ e. one.1 (given_there k (map_of room) (ap (λ (x : Told). x.number) (sym told) ∙ e)),
    )
