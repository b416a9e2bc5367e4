-- What each call answers and leaves, by what it saw.
use Rattle.std.specs.Prelude.{◌≡◌, ℕ, ◌+◌, ◌*◌, ◌<◌, ◌≤◌, Bool, true, false, not, ◌&&◌, eqb, ltb, leb, List, length, drop}
use mathlib.Core.Path.{refl, sym, ap, ◌∙◌, subst}
use native.Mathlib.Omega.{arith}
use lib.Seq.{sets}
use borrow.Author.Tests.{eq-eqb, ne_eqb, eqb-true, ltb-true, leb-false}
use Rattle.numbers.specs.Told.{Told, choose, answer, refused}
use Rattle.std.specs.Prelude.{Result, Ok, Err}
use Rattle.numbers.specs.Door.{either, unless}
use Rattle.numbers.specs.Refusals.{number_of, number_or_0}
use Rattle.numbers.specs.declared.refusal.Refusal.{Refusal}
use Rattle.numbers.specs.declared.refusal.Refusal.TheVariants.{NoRoom}
use Rattle.numbers.proofs.Numbers.{has_a_number, a_refusal_has_a_number}
use Rattle.numbers.proofs.Admitted.{admitted, turned_back}
use Rattle.numbers.specs.Limits.{foot_limit}
use Rattle.numbers.proofs.Flags.{by_test}
use Rattle.numbers.proofs.OnePass.{and_left}
use Rattle.legs.specs.Legs.{finite_feet, permitted_feet}
use Rattle.legs.specs.Answers.{given_feet}
use Rattle.legs.specs.Legs.{Feet}
use Rattle.packed.specs.Packed.{feet_at}
use Rattle.taught.specs.declared.look.Seen.{Seen}
use Rattle.taught.specs.Answers.{done}
use Rattle.taught.specs.Map.{fresh, put, get, drop_id, put_number, find_number}
use Rattle.taught.specs.Room.{zeros, room_length, most, id_of, used, all_zero, taught, place_for, place_from, has, ids_from}
use Rattle.taught.specs.Room.{all_listed, listed_of}
use Rattle.taught.specs.Room.{place_bytes, replaced, inserted, removed, with_pose, put_refusal, find_refusal, told_of, room_after}
use Rattle.taught.specs.How.{all_seen, seen_of, up, down, cleared}
use Rattle.taught.proofs.Looking.{used_most, place_most, zero_is, long_taught, rest_taught}
use Rattle.taught.proofs.Moving.{stored_over, stored_between, gone_down}
use Rattle.taught.proofs.InOrder.{is_full, put_flags, find_flags}

-- ---- a refusal says its number and leaves the room; where there is none, the call says what it is to say, and leaves what it makes
pub turned_away : (r : Refusal) (n : ℕ) (t : Told) (room after : List ℕ) → number_of r ≡ n
    → (refused (number_of r) ≡ answer n t) × (room ≡ choose (eqb n 0) after room)
turned_away r n t room after e = (
  turned_back r n t e,
  sym (ap (λ (b : Bool). choose b after room) (sym (ap (λ (m : ℕ). eqb m 0) e) ∙ has_a_number r)),
)

pub let_in : (n : ℕ) (t : Told) (room made after : List ℕ) → 0 ≡ n → made ≡ after
    → (t ≡ answer n t) × (made ≡ choose (eqb n 0) after room)
let_in n t room made after e is = (
  admitted n t t e refl,
  is ∙ sym (ap (λ (b : Bool). choose b after room) (eq-eqb n 0 (sym e))),
)

-- ---- fresh, by the room's length alone
pub fresh_refused : (room : List ℕ) (r : Refusal) → number_of r ≡ unless (eqb (length room) room_length) 17
    → (refused (number_of r) ≡ told_of fresh room) × (room ≡ room_after fresh room)
fresh_refused room r is = by_test (eqb (length room) room_length) other short
  where
    other : eqb (length room) room_length ≡ true → (refused (number_of r) ≡ told_of fresh room) × (room ≡ room_after fresh room)
    other e = absurd (a_refusal_has_a_number r (is ∙ ap (λ (t : Bool). unless t 17) e))

    short : eqb (length room) room_length ≡ false → (refused (number_of r) ≡ told_of fresh room) × (room ≡ room_after fresh room)
    short e = (turned_back r _ _ is, ap (λ (t : Bool). choose t (zeros room_length) room) (sym e))

pub fresh_done : (room after : List ℕ) → 0 ≡ unless (eqb (length room) room_length) 17 → after ≡ zeros (length room)
    → (done ≡ told_of fresh room) × (after ≡ room_after fresh room)
fresh_done room after none is = by_test (eqb (length room) room_length) long other
  where
    long : eqb (length room) room_length ≡ true → (done ≡ told_of fresh room) × (after ≡ room_after fresh room)
    long e = (
      admitted _ done done none refl,
      is ∙ ap zeros (eqb-true (length room) room_length e) ∙ ap (λ (t : Bool). choose t (zeros room_length) room) (sym e),
    )

    other : eqb (length room) room_length ≡ false → (done ≡ told_of fresh room) × (after ≡ room_after fresh room)
    other e = absurd (let seventeen : 0 ≡ 17 = none ∙ ap (λ (t : Bool). unless t 17) e in omega arith)

-- ---- a look: refused by length, or by a byte behind the used places; else what there is
module _ (room : List ℕ) (id : ℕ) where
  pub seen_short : (length room ≡ room_length → ⊥) → Err NoRoom ≡ seen_of id room
  unfolding taught
  seen_short other =
      sym (ap
      (λ (t : Bool). choose (t && all_zero (drop (80 * used room) room)) (Ok (all_seen id room)) (Err NoRoom))
      (ne_eqb (length room) room_length other))

  taught_is : length room ≡ room_length → taught room ≡ all_zero (drop (80 * used room) room)
  unfolding taught
  taught_is long = ap (λ (t : Bool). t && all_zero (drop (80 * used room) room)) (eq-eqb (length room) room_length long)

  chosen_by : (t : Bool) → taught room ≡ t → choose t (Ok (all_seen id room)) (Err NoRoom) ≡ seen_of id room
  chosen_by t e = sym (ap (λ (b : Bool). choose b (Ok (all_seen id room)) (Err NoRoom)) e)

  pub seen_bad : (n : ℕ) (z : Bool) → length room ≡ room_length → n ≡ used room → z ≡ all_zero (drop (80 * n) room) → z ≡ false
      → Err NoRoom ≡ seen_of id room
  seen_bad n z long e f bad =
      chosen_by false (taught_is long ∙ ap (λ (k : ℕ). all_zero (drop (80 * k) room)) (sym e) ∙ sym f ∙ bad)

  pub seen_good : (n place : ℕ) (z at : Bool) → length room ≡ room_length → n ≡ used room → z ≡ all_zero (drop (80 * n) room) → z ≡ true
      → place ≡ place_from n id room → at ≡ (ltb place n && eqb (id_of (drop (80 * place) room)) id)
      → Ok (record { used = n; place = place; there = at }) ≡ seen_of id room
  unfolding place_for has
  seen_good n place z at long e f good p h =
      let q : place ≡ place_for id room = p ∙ ap (λ (k : ℕ). place_from k id room) e in
      let r : at ≡ has id room =
      h
      ∙ ap (λ (k : ℕ). ltb place k && eqb (id_of (drop (80 * place) room)) id) e
      ∙ ap (λ (k : ℕ). ltb k (used room) && eqb (id_of (drop (80 * k) room)) id) q in
      rw (e, q, r) (chosen_by true (taught_is long ∙ ap (λ (k : ℕ). all_zero (drop (80 * k) room)) (sym e) ∙ sym f ∙ good))

  -- a room that is refused is no taught one, and one that is not is
  pub not_seen : (r : Refusal) → Err r ≡ seen_of id room → (taught room ≡ false) × (number_of r ≡ 17)
  not_seen r is =
      by_test (taught room)
      (λ e. absurd (err≢ok (is ∙ sym (chosen_by true e))))
      (λ e. (e, ap number_or_0 (is ∙ sym (chosen_by false e))))
    where
      err≢ok : {q : Refusal} {s : Seen} → ◌≡◌ {A = Result Seen Refusal} (Err q) (Ok s) → ⊥
      err≢ok e = a_refusal_has_a_number _ (ap number_or_0 e)

  pub is_seen : (s : Seen) → Ok s ≡ seen_of id room → (taught room ≡ true) × (s ≡ all_seen id room)
  is_seen s is =
      by_test (taught room)
      (λ e. (e, ok_same (is ∙ sym (chosen_by true e))))
      (λ e. absurd (ok≢err (is ∙ sym (chosen_by false e))))
    where
      held : Seen → Result Seen Refusal → Seen
      held d (Ok s) = s
      held d (Err r) = d

      ok_same : {a b : Seen} → ◌≡◌ {A = Result Seen Refusal} (Ok a) (Ok b) → a ≡ b
      ok_same {a} {b} e = ap (held a) e

      ok≢err : {a : Seen} {q : Refusal} → ◌≡◌ {A = Result Seen Refusal} (Ok a) (Err q) → ⊥
      ok≢err e = a_refusal_has_a_number _ (sym (ap number_or_0 e))

pub used_few : (room : List ℕ) → used room ≤ most
unfolding used
used_few room = used_most most 0 room

-- ---- what is known of a room that was not refused
pub record Sees (room : List ℕ) (id : ℕ) (s : Seen) : Type 0 where
  pub is_taught : taught room ≡ true
  pub long : length room ≡ room_length
  pub same_used : s.used ≡ used room
  pub same_place : s.place ≡ place_for id room
  pub same_there : s.there ≡ has id room
  pub few : s.used ≤ most
  pub within : s.place ≤ s.used
  pub rest : drop (80 * s.used) room ≡ zeros (length (drop (80 * s.used) room))

place_few : (id : ℕ) (room : List ℕ) → place_for id room ≤ used room
unfolding place_for
place_few id room = place_most (used room) id room

has_within : (id : ℕ) (room : List ℕ) → has id room ≡ true → place_for id room < used room
unfolding has
has_within id room e =
    ltb-true (place_for id room) (used room)
    (and_left (ltb (place_for id room) (used room)) (eqb (id_of (drop (80 * place_for id room) room)) id) e)

module _ (room : List ℕ) (id : ℕ) (s : Seen) (is : Ok s ≡ seen_of id room) where
  pub sees : Sees room id s
  sees =
      let seen = is_seen room id s is in
      let n : s.used ≡ used room = ap (λ (z : Seen). z.used) seen.1 in
      let p : s.place ≡ place_for id room = ap (λ (z : Seen). z.place) seen.1 in
      record {
        is_taught = seen.0;
        long = long_taught room seen.0;
        same_used = n;
        same_place = p;
        same_there = ap (λ (z : Seen). z.there) seen.1;
        few = subst (λ (k : ℕ). k ≤ most) (sym n) (used_few room);
        within = rw (n, p) (place_few id room);
        rest = rw n (zero_is (drop (80 * used room) room) (rest_taught room seen.0));
      }

  -- the number that the code finds is the rule's
  pub find_number_lem : find_number id s.there ≡ find_refusal id room
  find_number_lem =
      let seen = is_seen room id s is in
      ap (λ (z : Seen). find_number id z.there) seen.1
      ∙ sym (ap (λ (t : Bool). either (unless t 17) (find_number id (has id room))) seen.0)

  pub put_number_lem : (f : Feet) → put_number id f (is_full s) ≡ put_refusal id f room
  put_number_lem f =
      let seen = is_seen room id s is in
      ap (λ (z : Seen). put_number id f (is_full z)) seen.1
      ∙ sym (ap (λ (t : Bool). either (unless t 17) (put_number id f (not (has id room) && leb most (used room)))) seen.0)

-- ---- what each call says where it is refused, of the room, or of the pose and the id
module _ (room : List ℕ) (id : ℕ) (r : Refusal) where
  unseen : Err r ≡ seen_of id room → (n : ℕ) → number_of r ≡ either (unless (taught room) 17) n
  unseen is n = let bad = not_seen room id r is in bad.1 ∙ sym (ap (λ (t : Bool). either (unless t 17) n) bad.0)

  pub put_bad : (f : Feet) → Err r ≡ seen_of id room → (refused (number_of r) ≡ told_of (put id f) room)
      × (room ≡ room_after (put id f) room)
  put_bad f is = turned_away r (put_refusal id f room) done room _ (unseen is _)

  pub get_bad : Err r ≡ seen_of id room → refused (number_of r) ≡ told_of (get id) room
  get_bad is = turned_back r (find_refusal id room) _ (unseen is _)

  pub drop_bad : Err r ≡ seen_of id room → (refused (number_of r) ≡ told_of (drop_id id) room) × (room ≡ room_after (drop_id id) room)
  drop_bad is = turned_away r (find_refusal id room) done room _ (unseen is _)

  module _ (s : Seen) (is : Ok s ≡ seen_of id room) where
    pub put_away : (f : Feet) → number_of r ≡ put_number id f (is_full s)
        → (refused (number_of r) ≡ told_of (put id f) room) × (room ≡ room_after (put id f) room)
    put_away f e = turned_away r (put_refusal id f room) done room _ (e ∙ put_number_lem room id s is f)

    pub get_away : number_of r ≡ find_number id s.there → refused (number_of r) ≡ told_of (get id) room
    get_away e = turned_back r (find_refusal id room) _ (e ∙ find_number_lem room id s is)

    pub drop_away : number_of r ≡ find_number id s.there
        → (refused (number_of r) ≡ told_of (drop_id id) room) × (room ≡ room_after (drop_id id) room)
    drop_away e = turned_away r (find_refusal id room) done room _ (e ∙ find_number_lem room id s is)

-- ---- nothing is refused: then the id is there, the pose is permitted, a new id finds room
pub found_facts : (s : Seen) (id : ℕ) → find_number id s.there ≡ 0 → s.there ≡ true
found_facts s id e = (find_flags (eqb id 0) s.there (eq-eqb (find_number id s.there) 0 e)).1

pub put_facts : (s : Seen) (id : ℕ) (f : Feet) → put_number id f (is_full s) ≡ 0 → (finite_feet f ≡ true) × (is_full s ≡ false)
put_facts s id f e =
    let none = eq-eqb (put_number id f (is_full s)) 0 e in
    let flags = put_flags (finite_feet f) (permitted_feet foot_limit f) (eqb id 0) (is_full s) none in
    (and_left (finite_feet f) (permitted_feet foot_limit f) flags.0, flags.2)

-- ---- a place among the used ones, in bytes
pub in_room : (place used : ℕ) → place < used → used ≤ most → 80 * place + 80 ≤ room_length
in_room place used h few = omega arith

-- ---- what a put leaves, of an id that is there and of a new one; what a drop leaves
module _ (room : List ℕ) (id : ℕ) (s : Seen) (seen : Sees room id s) where
  pub there_below : s.there ≡ true → s.place < s.used
  there_below e = rw (seen.same_place, seen.same_used) (has_within id room (sym seen.same_there ∙ e))

  pub put_over : (f : Feet) (after : List ℕ) → s.there ≡ true → after ≡ sets room (80 * s.place) (place_bytes id f)
      → after ≡ with_pose id f room
  put_over f after e is =
      let at : 80 * s.place + 80 ≤ length room = rw seen.long (in_room s.place s.used (there_below e) seen.few) in
      is
      ∙ stored_over room (place_bytes id f) (80 * s.place) refl at
      ∙ ap (λ (k : ℕ). replaced (80 * k) (place_bytes id f) room) seen.same_place
      ∙ sym (ap
      (λ (b : Bool). choose b (replaced (80 * place_for id room) (place_bytes id f) room)
      (inserted (80 * place_for id room) (80 * used room) (place_bytes id f) room))
      (sym seen.same_there ∙ e))

  pub put_between : (f : Feet) (moved after : List ℕ) → s.there ≡ false → s.used < most → moved ≡ up room (80 * s.used) (80 * s.place)
      → after ≡ sets moved (80 * s.place) (place_bytes id f) → after ≡ with_pose id f room
  put_between f moved after e few went is =
      let at : 80 * s.place ≤ 80 * s.used = omega (arith, seen.within) in
      let to : 80 * s.used + 80 ≤ length room = rw seen.long (omega (arith, few)) in
      is
      ∙ ap (λ (m : List ℕ). sets m (80 * s.place) (place_bytes id f)) went
      ∙ stored_between room (place_bytes id f) (80 * s.place) (80 * s.used) refl at to
      ∙ ap (λ (k : ℕ). inserted (80 * k) (80 * s.used) (place_bytes id f) room) seen.same_place
      ∙ ap (λ (k : ℕ). inserted (80 * place_for id room) (80 * k) (place_bytes id f) room) seen.same_used
      ∙ sym (ap
      (λ (b : Bool). choose b (replaced (80 * place_for id room) (place_bytes id f) room)
      (inserted (80 * place_for id room) (80 * used room) (place_bytes id f) room))
      (sym seen.same_there ∙ e))

  pub dropped : (last : ℕ) (moved after : List ℕ) → s.there ≡ true → last + 80 ≡ 80 * s.used → moved ≡ down room (80 * s.place) last
      → after ≡ cleared moved last (last + 80) → after ≡ removed (80 * place_for id room) room
  dropped last moved after e end went is =
      let below : s.place < s.used = there_below e in
      let at : 80 * s.place ≤ last = omega (arith, below, end) in
      let to : last + 80 ≤ length room = rw (seen.long, end) (omega (arith, seen.few)) in
      is
      ∙ ap (λ (m : List ℕ). cleared m last (last + 80)) went
      ∙ gone_down room (80 * s.place) last (length (drop (80 * s.used) room)) at to (ap (λ (k : ℕ). drop k room) end ∙ seen.rest)
      ∙ ap (λ (k : ℕ). removed (80 * k) room) seen.same_place

-- ---- the list, of a good room and of a refused one
pub listed_good : (room ids : List ℕ) (s : Seen) → Ok s ≡ seen_of 0 room → ids ≡ ids_from most room
    → Ok (record { len = s.used; ids = ids }) ≡ listed_of room
listed_good room ids s is e =
    let seen = sees room 0 s is in
    rw (seen.same_used, e) (sym (ap (λ (b : Bool). choose b (Ok (all_listed room)) (Err NoRoom)) seen.is_taught))

pub listed_bad : (room : List ℕ) (r : Refusal) → Err r ≡ seen_of 0 room → Err NoRoom ≡ listed_of room
listed_bad room r is = sym (ap (λ (b : Bool). choose b (Ok (all_listed room)) (Err NoRoom)) (not_seen room 0 r is).0)

-- ---- an id that is found: where it stands, and what get, drop and put say then
module _ (room : List ℕ) (id : ℕ) (s : Seen) (is : Ok s ≡ seen_of id room) where
  pub record FoundIn : Type 0 where
    pub seen : Sees room id s
    pub there : s.there ≡ true
    pub below : s.place < s.used
    pub few : s.used ≤ most
    pub long : length room ≡ room_length

  pub found_in : 0 ≡ find_number id s.there → FoundIn
  found_in none =
      let all = sees room id s is in
      let there = found_facts s id (sym none) in
      record { seen = all; there = there; below = there_below room id s all there; few = all.few; long = all.long }

  pub got : (f : Feet) → 0 ≡ find_number id s.there → f ≡ feet_at room (80 * s.place + 2) → given_feet f ≡ told_of (get id) room
  got f none read =
      let all = (found_in none).seen in
      admitted (find_refusal id room) _ _ (none ∙ find_number_lem room id s is)
      (ap given_feet (read ∙ ap (λ (k : ℕ). feet_at room (80 * k + 2)) all.same_place))

  -- what a put has before it that is not refused
  pub record MayPut (f : Feet) : Type 0 where
    pub seen : Sees room id s
    pub finite : finite_feet f ≡ true
    pub within : s.place ≤ s.used
    pub few : s.used ≤ most
    pub long : length room ≡ room_length
    pub not_full : s.there ≡ false → s.used < most

  pub may_put : (f : Feet) → 0 ≡ put_number id f (is_full s) → MayPut f
  may_put f none =
      let facts = put_facts s id f (sym none) in
      let all = sees room id s is in
      record {
        seen = all;
        finite = facts.0;
        within = all.within;
        few = all.few;
        long = all.long;
        not_full = λ other. leb-false most s.used (sym (ap (λ (b : Bool). not b && leb most s.used) other) ∙ facts.1);
      }
