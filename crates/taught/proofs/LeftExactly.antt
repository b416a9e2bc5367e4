-- Request K11, `left_exactly`: taught rooms are those that some run of calls leaves which begins with making fresh, no other and each of
-- them, byte for byte; so refusal 17 is exact. Assumes nothing.
use Rattle.std.specs.Prelude.{◌≡◌, ℕ, suc, ◌+◌, ◌*◌, ◌<◌, ◌≤◌, Bool, true, false, not, ◌&&◌, eqb, leb, ◌↔◌, List, [], ◌∷◌, ◌++◌, length}
use native.Mathlib.Omega.{arith}
use mathlib.Core.Path.{refl, sym, ap, ◌∙◌, subst}
use mathlib.Core.List.{append_assoc, append-nil}
use lib.ListN.{length-append}
use borrow.Author.Tests.{eq-eqb, ne_eqb, lt-ltb, lt-leb}
use Rattle.numbers.specs.Told.{Told, refused, choose, answer}
use Rattle.numbers.specs.Door.{unless, when, first_of}
use Rattle.numbers.specs.Limits.{foot_limit}
use Rattle.numbers.proofs.Flags.{by_test}
use Rattle.numbers.proofs.OnePass.{and_left, and_right}
use Rattle.legs.specs.Legs.{finite_feet, permitted_feet}
use Rattle.legs.specs.Answers.{given_feet}
use Rattle.packed.specs.Packed.{feet_at}
use Rattle.taught.specs.Answers.{done}
use Rattle.taught.specs.Map.{there, full, Call, fresh, put, get, drop_id, list_ids, leaves}
use Rattle.taught.specs.Room.{Place, look_up, places_of, Taught, Bytes, taught, used, has, place_for, room_length, zeros}
use Rattle.taught.specs.Room.{told_of, room_after, AllMade}
use Rattle.taught.proofs.Written.{written, Good, Sound, insert}
use Rattle.taught.proofs.Sorted.{Rising, rising, few, sound_of}
use Rattle.taught.proofs.Exact.{again, sound, taught_test, taught_record, written_taught}
use Rattle.taught.proofs.AsAMap.{places_after, leaves_places, full_places}

-- ---- made fresh, a room is written with no places; so what calls leave then is
fresh_room : (blank : List ℕ) → length blank ≡ room_length → room_after fresh blank ≡ written 64 []
fresh_room blank long = ap (λ (t : Bool). choose t (zeros room_length) blank) (eq-eqb (length blank) room_length long)

leaves_fresh : (calls : List Call) → AllMade calls → (blank : List ℕ) → length blank ≡ room_length
    → leaves room_after (fresh ∷ calls) blank ≡ written 64 (leaves places_after calls [])
leaves_fresh calls m blank long =
    ap (leaves room_after calls) (fresh_room blank long) ∙ (leaves_places calls m [] tt).0

-- every room that calls leave is taught
pub left_taught : (calls : List Call) → AllMade calls → (blank : List ℕ) → length blank ≡ room_length
    → Taught (leaves room_after (fresh ∷ calls) blank)
left_taught calls m blank long =
    subst Taught (sym (leaves_fresh calls m blank long))
    (written_taught (leaves places_after calls []) (leaves_places calls m [] tt).1)

-- ---- a put for each place
abbrev pub puts : List Place → List Call
puts [] = []
puts (p ∷ ps) = put p.id p.pose ∷ puts ps

puts_made : (last : ℕ) (ps : List Place) → Rising last ps → AllMade (puts ps)
puts_made last [] r = tt
puts_made last (p ∷ ps) r = ((r.1.small, r.1.held), puts_made p.id ps r.2)

-- of a sorted list the part in front, and a place in the middle
in_front : (last : ℕ) (as' bs : List Place) → Rising last (as' ++ bs) → Rising last as'
in_front last [] bs r = tt
in_front last (a ∷ as') bs r = (r.0, r.1, in_front a.id as' bs r.2)

in_middle : (last : ℕ) (as' : List Place) (p : Place) (ps : List Place) → Rising last (as' ++ (p ∷ ps)) → (last < p.id) × Good p
in_middle last [] p ps r = (r.0, r.1)
in_middle last (a ∷ as') p ps r =
    let h = in_middle a.id as' p ps r.2 in
    (omega (arith, r.0, h.0), h.1)

-- a place whose id is above all goes to the end
insert_last : (last : ℕ) (as' : List Place) (p : Place) (ps : List Place) → Rising last (as' ++ (p ∷ ps))
    → insert p.id p.pose as' ≡ as' ++ (p ∷ [])
insert_last last [] p ps r = refl
insert_last last (a ∷ as') p ps r =
    rw (lt-ltb a.id p.id (in_middle a.id as' p ps r.2).0)
    (ap (λ (qs : List Place). a ∷ qs) (insert_last a.id as' p ps r.2))

-- a good pose is put under an id above 0 where there is room
none_refused : (F P z t b : Bool) → (F && P) ≡ true → z ≡ false → b ≡ false
    → eqb (first_of (unless F 1 ∷ unless P 2 ∷ when z 15 ∷ when (not t && b) 11 ∷ [])) 0 ≡ true
none_refused F P z t b good above room = rw (and_left F P good, and_right F P good, above, room) (either_way t)
  where
    either_way : (t : Bool) → eqb (when (not t && false) 11) 0 ≡ true
    either_way true = refl
    either_way false = refl

put_taken : (p : Place) (ps : List Place) → Good p → 0 < p.id → Sound 64 0 ps → length ps < 64
    → places_after (put p.id p.pose) ps ≡ insert p.id p.pose ps
put_taken p ps g above s room =
    ap (λ (t : Bool). choose t (insert p.id p.pose ps) ps)
    (none_refused (finite_feet p.pose) (permitted_feet foot_limit p.pose) (eqb p.id 0) (there (look_up ps p.id))
    (full (look_up ps)) g.good (ne_eqb p.id 0 (λ e. omega (arith, above, e)))
    (full_places ps s ∙ lt-leb 64 (length ps) room))

-- the puts of the places behind those that are there already
puts_leave : (ps as' : List Place) → Rising 0 (as' ++ ps) → length (as' ++ ps) ≤ 64 → leaves places_after (puts ps) as' ≡ as' ++ ps
puts_leave [] as' r l = sym (append-nil as')
puts_leave (p ∷ ps) as' r l =
    let long : length (as' ++ (p ∷ ps)) ≡ length as' + suc (length ps) = length-append as' (p ∷ ps) in
    let room : length as' < 64 = omega (arith, long, l) in
    let s : Sound 64 0 as' = sound_of 64 0 as' (omega (arith, room)) (in_front 0 as' (p ∷ ps) r) in
    let mid = in_middle 0 as' p ps r in
    let next : places_after (put p.id p.pose) as' ≡ as' ++ (p ∷ []) =
    put_taken p as' mid.1 mid.0 s room ∙ insert_last 0 as' p ps r in
    let joined : (as' ++ (p ∷ [])) ++ ps ≡ as' ++ (p ∷ ps) = append_assoc as' (p ∷ []) ps in
    ap (leaves places_after (puts ps)) next
    ∙ puts_leave ps (as' ++ (p ∷ [])) (subst (Rising 0) (sym joined) r) (subst (λ (qs : List Place). length qs ≤ 64) (sym joined) l)
    ∙ joined

-- ---- a room that calls leave on a blank one which they make fresh first
abbrev pub Left : List ℕ → List ℕ → Type 0
Left blank room = (calls : List Call) × AllMade calls × (leaves room_after (fresh ∷ calls) blank ≡ room)

pub taught_left : (room : List ℕ) → Taught room → (blank : List ℕ) → length blank ≡ room_length → Left blank room
taught_left room t blank long =
    let good = taught_test room t in
    let ps = places_of room in
    let s : Sound 64 0 ps = sound room t.bytes good in
    let made = puts_made 0 ps (rising 64 0 ps s) in (
      puts ps,
      made,
      leaves_fresh (puts ps) made blank long
          ∙ ap (written 64) (puts_leave ps [] (rising 64 0 ps s) (few 64 0 ps s))
          ∙ sym (again room t.bytes good),
    )

-- both ways
pub left_exactly : (room blank : List ℕ) → length blank ≡ room_length → Left blank room ↔ Taught room
left_exactly room blank long =
    (λ l. subst Taught l.2 (left_taught l.0 l.1 blank long), λ t. taught_left room t blank long)

-- ---- so 17 is exact: every call but making fresh answers 17 on those bytes alone that no calls leave
abbrev pub Looks : Call → Type 0
Looks fresh = ⊥
Looks (put id f) = Unit {0}
Looks (get id) = Unit {0}
Looks (drop_id id) = Unit {0}
Looks list_ids = Unit {0}

refuses_others : (c : Call) → Looks c → (room : List ℕ) → taught room ≡ false → told_of c room ≡ refused 17
refuses_others fresh l room e = absurd l
refuses_others (put id f) l room e = rw e refl
refuses_others (get id) l room e = rw e refl
refuses_others (drop_id id) l room e = rw e refl
refuses_others list_ids l room e = rw e refl

put_otherwise : (F P z b : Bool) → (answer (first_of (unless F 1 ∷ unless P 2 ∷ when z 15 ∷ when b 11 ∷ [])) done).number ≡ 17 → ⊥
put_otherwise false P z b e = absurd (omega arith)
put_otherwise true false z b e = absurd (omega arith)
put_otherwise true true true b e = absurd (omega arith)
put_otherwise true true false true e = absurd (omega arith)
put_otherwise true true false false e = absurd (omega arith)

find_otherwise : (z t : Bool) (x : Told) → x.number ≡ 0 → (answer (first_of (when z 15 ∷ unless t 12 ∷ [])) x).number ≡ 17 → ⊥
find_otherwise true t x given e = absurd (omega arith)
find_otherwise false false x given e = absurd (omega arith)
find_otherwise false true x given e = absurd (omega arith)

takes_taught : (c : Call) → Looks c → (room : List ℕ) → taught room ≡ true → (told_of c room).number ≡ 17 → ⊥
takes_taught fresh l room t e = absurd l
takes_taught (put id f) l room t e =
    put_otherwise (finite_feet f) (permitted_feet foot_limit f) (eqb id 0) (not (has id room) && leb 64 (used room)) (rw t at e)
takes_taught (get id) l room t e =
    find_otherwise (eqb id 0) (has id room) (given_feet (feet_at room (80 * place_for id room + 2))) refl (rw t at e)
takes_taught (drop_id id) l room t e = find_otherwise (eqb id 0) (has id room) done refl (rw t at e)
takes_taught list_ids l room t e = let h : ◌≡◌ {A = ℕ} 0 17 = rw t at e in absurd (omega (arith, h))

pub seventeen_exactly : (c : Call) → Looks c → (room : List ℕ) → Bytes room → (blank : List ℕ) → length blank ≡ room_length
    → ((told_of c room).number ≡ 17) ↔ (Left blank room → ⊥)
seventeen_exactly c l room b blank long = (
  λ e left. takes_taught c l room (taught_test room ((left_exactly room blank long).0 left)) e,
  λ not_left.
      by_test (taught room)
      (λ t. absurd (not_left (taught_left room (taught_record room b t) blank long)))
      (λ t. ap (λ (x : Told). x.number) (refuses_others c l room t)),
)
