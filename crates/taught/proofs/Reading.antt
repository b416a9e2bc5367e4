-- What is read from the bytes that a list of places is written in: the list itself.
use Rattle.std.specs.Prelude.{◌≡◌, ℕ, zero, suc, ◌+◌, ◌-◌, ◌*◌, ◌<◌, ◌≤◌, Bool, true, false, ◌&&◌, eqb, ltb, List, [], ◌∷◌, ◌++◌, length}
use Rattle.std.specs.Prelude.{take, drop}
use native.Mathlib.Nat.{sub-zero, suc-sub-suc}
use native.Mathlib.Omega.{arith}
use mathlib.Core.Path.{refl, ap, ap₂, sym, ◌∙◌}
use mathlib.Core.Bool.{false≢true}
use lib.ListN.{length-append, length-replicate, replicate-append-replicate}
use lib.Seq.{drop_at, take_at, drop-append-add, take-append-add}
use borrow.Author.Tests.{ltb-true, ltb-false, lt-ltb, le-ltb, eqb-true, eq-eqb, ne_eqb}
use Rattle.numbers.specs.Told.{choose}
use Rattle.numbers.proofs.Flags.{by_test, and_both, both_ways}
use Rattle.legs.specs.Legs.{Feet}
use Rattle.packed.specs.Packed.{pair_at, feet_at}
use Rattle.packed.proofs.Back.{feet_behind}
use Rattle.taught.specs.Map.{Slot, none, kept, there}
use Rattle.taught.specs.Room.{Place, place_bytes, zeros, id_of, pose_of, behind, marks_good, pose_good, holds}
use Rattle.taught.specs.Room.{used_from, used, all_zero, taught, places_from, places_of, look_up, place_from, place_for, has, ids_from}
use Rattle.taught.proofs.Written.{written, Good, Sound, position, ids_of}
use Rattle.taught.proofs.Sorted.{absent_below, length_ids}
use Rattle.taught.proofs.OnePlace.{id_of_place, pose_of_place, place_long, holds_place}

-- ---- a place in front of others
abbrev pub bytes_of : Place → List ℕ
bytes_of p = place_bytes p.id p.pose

pub one_more : (k : ℕ) → 80 * suc k ≡ 80 + 80 * k
one_more k = omega arith

pub behind_place : (p : Place) (rest : List ℕ) → behind (bytes_of p ++ rest) ≡ rest
behind_place p rest = drop_at (bytes_of p) rest 80 (place_long p.id p.pose)

-- past one place and k more
pub drop_place : (p : Place) (k : ℕ) (rest : List ℕ) → drop (80 + k) (bytes_of p ++ rest) ≡ drop k rest
drop_place p k rest =
    ap (λ (n : ℕ). drop (n + k) (bytes_of p ++ rest)) (sym (place_long p.id p.pose)) ∙ drop-append-add (bytes_of p) rest k

pub drop_more : (k : ℕ) (p : Place) (rest : List ℕ) → drop (80 * suc k) (bytes_of p ++ rest) ≡ drop (80 * k) rest
drop_more k p rest = ap (λ (n : ℕ). drop n (bytes_of p ++ rest)) (one_more k) ∙ drop_place p (80 * k) rest

pub take_place : (p : Place) (k : ℕ) (rest : List ℕ) → take (80 + k) (bytes_of p ++ rest) ≡ bytes_of p ++ take k rest
take_place p k rest =
    ap (λ (n : ℕ). take (n + k) (bytes_of p ++ rest)) (sym (place_long p.id p.pose)) ∙ take-append-add (bytes_of p) rest k

pub take_more : (k : ℕ) (p : Place) (rest : List ℕ) → take (80 * suc k) (bytes_of p ++ rest) ≡ bytes_of p ++ take (80 * k) rest
take_more k p rest = ap (λ (n : ℕ). take n (bytes_of p ++ rest)) (one_more k) ∙ take_place p (80 * k) rest

-- ---- zeros
pub id_of_zeros : (k : ℕ) → id_of (zeros k) ≡ 0
unfolding id_of pair_at
id_of_zeros zero = refl
id_of_zeros (suc zero) = refl
id_of_zeros (suc (suc k)) = refl

pub all_zero_zeros : (k : ℕ) → all_zero (zeros k) ≡ true
unfolding all_zero
all_zero_zeros zero = refl
all_zero_zeros (suc k) = all_zero_zeros k

pub drop_zeros : (k m : ℕ) → drop k (zeros (k + m)) ≡ zeros m
drop_zeros k m =
    ap (drop k) (sym (replicate-append-replicate k m 0)) ∙ drop_at (zeros k) (zeros m) k (length-replicate k 0)

pub behind_zeros : (n : ℕ) → behind (zeros (80 * suc n)) ≡ zeros (80 * n)
behind_zeros n = ap (λ (k : ℕ). behind (zeros k)) (one_more n) ∙ drop_zeros 80 (80 * n)

-- ---- one place held, or not
pub not_held : (last : ℕ) (l : List ℕ) → id_of l ≡ 0 → holds last l ≡ false
unfolding holds
not_held last l e =
    let low : id_of l ≤ last = omega (arith, e) in
    ap (λ (t : Bool). t && marks_good l && pose_good (pose_of l)) (le-ltb last (id_of l) low)

pub used_more : (n last : ℕ) (l : List ℕ) → holds last l ≡ true → used_from (suc n) last l ≡ suc (used_from n (id_of l) (behind l))
unfolding used_from
used_more n last l e = ap (λ (t : Bool). choose t (suc (used_from n (id_of l) (behind l))) 0) e

pub used_no_more : (n last : ℕ) (l : List ℕ) → holds last l ≡ false → used_from n last l ≡ 0
unfolding used_from
used_no_more zero last l e = refl
used_no_more (suc n) last l e = ap (λ (t : Bool). choose t (suc (used_from n (id_of l) (behind l))) 0) e

-- ---- how long, how many
pub written_long : (n last : ℕ) (ps : List Place) → Sound n last ps → length (written n ps) ≡ 80 * n
written_long n last [] s = length-replicate (80 * n) 0
written_long zero last (p ∷ ps) s = absurd s
written_long (suc n) last (p ∷ ps) s =
    let front : length (bytes_of p) ≡ 80 = place_long p.id p.pose in
    let back : length (written n ps) ≡ 80 * n = written_long n p.id ps s.2 in
    length-append (bytes_of p) (written n ps) ∙ omega (arith, front, back)

pub used_written : (n last : ℕ) (ps : List Place) → Sound n last ps → used_from n last (written n ps) ≡ length ps
used_written n last [] s = used_no_more n last (zeros (80 * n)) (not_held last (zeros (80 * n)) (id_of_zeros (80 * n)))
used_written zero last (p ∷ ps) s = absurd s
used_written (suc n) last (p ∷ ps) s =
    let l = bytes_of p ++ written n ps in
    used_more n last l (holds_place last p (written n ps) s.0 s.1)
    ∙ ap suc
    (ap (λ (k : ℕ). used_from n k (behind l)) (id_of_place p.id p.pose (written n ps) s.1.small)
    ∙ ap (used_from n p.id) (behind_place p (written n ps))
    ∙ used_written n p.id ps s.2)

-- ---- the places
pub place_read : (p : Place) (rest : List ℕ) → Good p
    → ◌≡◌ {A = Place} (record { id = id_of (bytes_of p ++ rest); pose = pose_of (bytes_of p ++ rest) }) p
place_read p rest g =
    λ i. record {
      id = id_of_place p.id p.pose rest g.small i;
      pose = pose_of_place p.id p.pose rest g.held i;
    }

pub places_written : (n last : ℕ) (ps : List Place) → Sound n last ps → places_from (length ps) (written n ps) ≡ ps
places_written n last [] s = refl
places_written zero last (p ∷ ps) s = absurd s
places_written (suc n) last (p ∷ ps) s =
    ap₂ {A = Place} {B = List Place} {C = List Place} (λ q qs. q ∷ qs)
    (place_read p (written n ps) s.1)
    (ap (places_from (length ps)) (behind_place p (written n ps)) ∙ places_written n p.id ps s.2)

-- behind the places
pub rest_written : (n last : ℕ) (ps : List Place) → Sound n last ps
    → drop (80 * length ps) (written n ps) ≡ zeros (80 * (n - length ps))
rest_written n last [] s = ap (λ (k : ℕ). zeros (80 * k)) (sym (sub-zero n))
rest_written zero last (p ∷ ps) s = absurd s
rest_written (suc n) last (p ∷ ps) s =
    drop_more (length ps) p (written n ps)
    ∙ rest_written n p.id ps s.2
    ∙ ap (λ (k : ℕ). zeros (80 * k)) (sym (suc-sub-suc n (length ps)))

-- so a room of 64 places
pub used_of_written : (ps : List Place) → Sound 64 0 ps → used (written 64 ps) ≡ length ps
unfolding used
used_of_written ps s = used_written 64 0 ps s

pub places_of_written : (ps : List Place) → Sound 64 0 ps → places_of (written 64 ps) ≡ ps
places_of_written ps s = ap (λ (n : ℕ). places_from n (written 64 ps)) (used_of_written ps s) ∙ places_written 64 0 ps s

pub taught_written : (ps : List Place) → Sound 64 0 ps → taught (written 64 ps) ≡ true
unfolding taught
taught_written ps s =
    and_both (eqb (length (written 64 ps)) 5120) (all_zero (drop (80 * used (written 64 ps)) (written 64 ps)))
    (eq-eqb (length (written 64 ps)) 5120 (written_long 64 0 ps s))
    (ap (λ (n : ℕ). all_zero (drop (80 * n) (written 64 ps))) (used_of_written ps s)
    ∙ ap all_zero (rest_written 64 0 ps s)
    ∙ all_zero_zeros (80 * (64 - length ps)))

-- ---- where an id stands
place_next : (n id : ℕ) (l : List ℕ) → place_from (suc n) id l ≡ choose (ltb (id_of l) id) (suc (place_from n id (behind l))) 0
unfolding place_from
place_next n id l = refl

pub place_written : (n last id : ℕ) (ps : List Place) → Sound n last ps → place_from (length ps) id (written n ps) ≡ position id ps
unfolding place_from
place_written n last id [] s = refl
place_written zero last id (p ∷ ps) s = absurd s
place_written (suc n) last id (p ∷ ps) s =
    let l = bytes_of p ++ written n ps in
    place_next (length ps) id l
    ∙ ap₂ (λ (own next : ℕ). choose (ltb own id) (suc next) 0)
    (id_of_place p.id p.pose (written n ps) s.1.small)
    (ap (place_from (length ps) id) (behind_place p (written n ps)) ∙ place_written n p.id id ps s.2)

pub place_for_written : (id : ℕ) (ps : List Place) → Sound 64 0 ps → place_for id (written 64 ps) ≡ position id ps
unfolding place_for
place_for_written id ps s =
    ap (λ (n : ℕ). place_from n id (written 64 ps)) (used_of_written ps s) ∙ place_written 64 0 id ps s

-- past a lower id, or there
pub position_past : (id : ℕ) (p : Place) (ps : List Place) → ltb p.id id ≡ true → position id (p ∷ ps) ≡ suc (position id ps)
position_past id p ps e = ap (λ (t : Bool). choose t (suc (position id ps)) 0) e

pub position_here : (id : ℕ) (p : Place) (ps : List Place) → ltb p.id id ≡ false → position id (p ∷ ps) ≡ 0
position_here id p ps e = ap (λ (t : Bool). choose t (suc (position id ps)) 0) e

-- ---- what stands there: past a lower id it is looked up further on, and behind one that is not lower nothing more is found
pub look_past : (id : ℕ) (p : Place) (ps : List Place) → ltb p.id id ≡ true → look_up (p ∷ ps) id ≡ look_up ps id
look_past id p ps e =
    let less : p.id < id = ltb-true p.id id e in
    ap (λ (t : Bool). choose t (kept p.pose) (look_up ps id)) (ne_eqb id p.id (λ q. omega (arith, less, q)))

pub look_here : (n id : ℕ) (p : Place) (ps : List Place) → Sound n p.id ps → ltb p.id id ≡ false
    → look_up (p ∷ ps) id ≡ choose (eqb p.id id) (kept p.pose) none
look_here n id p ps s e =
    ap₂ (λ (t : Bool) (x : Slot). choose t (kept p.pose) x)
    (both_ways (eqb id p.id) (eqb p.id id)
    (λ q. eq-eqb p.id id (sym (eqb-true id p.id q)))
    (λ q. eq-eqb id p.id (sym (eqb-true p.id id q))))
    (absent_below n p.id id ps s (ltb-false p.id id e))

pub there_here : (t : Bool) (f : Feet) → there (choose t (kept f) none) ≡ t
there_here true f = refl
there_here false f = refl

-- whether an id stands at a place, out of k used ones
abbrev stands_at : ℕ → ℕ → List ℕ → ℕ → Bool
stands_at k id l at = ltb at k && eqb (id_of (drop (80 * at) l)) id

stands_past : (k id at : ℕ) (p : Place) (rest : List ℕ) → stands_at (suc k) id (bytes_of p ++ rest) (suc at) ≡ stands_at k id rest at
stands_past k id at p rest =
    ap₂ (λ (t : Bool) (l : List ℕ). t && eqb (id_of l) id)
    (both_ways (ltb (suc at) (suc k)) (ltb at k)
    (λ e. let h : suc at < suc k = ltb-true (suc at) (suc k) e in lt-ltb at k (omega arith))
    (λ e. let h : at < k = ltb-true at k e in lt-ltb (suc at) (suc k) (omega arith)))
    (drop_more at p rest)

stands_here : (k id : ℕ) (p : Place) (rest : List ℕ) → p.id < 65536 → stands_at (suc k) id (bytes_of p ++ rest) 0 ≡ eqb p.id id
stands_here k id p rest h =
    ap₂ (λ (t : Bool) (own : ℕ). t && eqb own id) (lt-ltb 0 (suc k) (omega arith)) (id_of_place p.id p.pose rest h)

stands_written : (n last id : ℕ) (ps : List Place) → Sound n last ps
    → stands_at (length ps) id (written n ps) (position id ps) ≡ there (look_up ps id)
stands_written n last id [] s = refl
stands_written zero last id (p ∷ ps) s = absurd s
stands_written (suc n) last id (p ∷ ps) s =
    let stands = stands_at (suc (length ps)) id (bytes_of p ++ written n ps) in
    by_test (ltb p.id id)
    (λ e. ap stands (position_past id p ps e)
    ∙ stands_past (length ps) id (position id ps) p (written n ps)
    ∙ stands_written n p.id id ps s.2
    ∙ ap there (sym (look_past id p ps e)))
    (λ e. ap stands (position_here id p ps e)
    ∙ stands_here (length ps) id p (written n ps) s.1.small
    ∙ sym (ap there (look_here n id p ps s.2 e) ∙ there_here (eqb p.id id) p.pose))

pub there_written : (id : ℕ) (ps : List Place) → Sound 64 0 ps → has id (written 64 ps) ≡ there (look_up ps id)
unfolding has
there_written id ps s =
    ap₂ (λ (k at : ℕ). stands_at k id (written 64 ps) at) (used_of_written ps s) (place_for_written id ps s)
    ∙ stands_written 64 0 id ps s

-- and its pose
slot_here : (t : Bool) (f : Feet) → there (choose t (kept f) none) ≡ true → choose t (kept f) none ≡ kept f
slot_here true f e = refl
slot_here false f e = absurd (false≢true e)

abbrev slot_at : List ℕ → ℕ → Slot
slot_at l at = kept (pose_of (drop (80 * at) l))

look_written : (n last id : ℕ) (ps : List Place) → Sound n last ps → there (look_up ps id) ≡ true
    → look_up ps id ≡ slot_at (written n ps) (position id ps)
look_written n last id [] s h = absurd (false≢true h)
look_written zero last id (p ∷ ps) s h = absurd s
look_written (suc n) last id (p ∷ ps) s h =
    by_test (ltb p.id id)
    (λ e. look_past id p ps e
    ∙ look_written n p.id id ps s.2 (ap there (sym (look_past id p ps e)) ∙ h)
    ∙ sym (ap (slot_at (bytes_of p ++ written n ps)) (position_past id p ps e)
    ∙ ap (λ (l : List ℕ). kept (pose_of l)) (drop_more (position id ps) p (written n ps))))
    (λ e. look_here n id p ps s.2 e
    ∙ slot_here (eqb p.id id) p.pose (ap there (sym (look_here n id p ps s.2 e)) ∙ h)
    ∙ sym (ap (slot_at (bytes_of p ++ written n ps)) (position_here id p ps e)
    ∙ ap (λ (q : Place). kept q.pose) (place_read p (written n ps) s.1)))

feet_of : Feet → Slot → Feet
feet_of d none = d
feet_of d (kept f) = f

kept_one : (f g : Feet) → kept f ≡ kept g → f ≡ g
unfolding feet_of
kept_one f g e = ap (feet_of f) e

pub pose_written : (id : ℕ) (ps : List Place) → Sound 64 0 ps → (f : Feet) → look_up ps id ≡ kept f
    → feet_at (written 64 ps) (80 * position id ps + 2) ≡ f
unfolding pose_of
pose_written id ps s f e =
    sym (feet_behind (80 * position id ps) (written 64 ps) 2)
    ∙ kept_one (pose_of (drop (80 * position id ps) (written 64 ps))) f (sym (look_written 64 0 id ps s (ap there e)) ∙ e)

-- ---- the ids
ids_of_zeros : (n : ℕ) → ids_from n (zeros (80 * n)) ≡ zeros n
unfolding ids_from
ids_of_zeros zero = refl
ids_of_zeros (suc n) =
    ap₂ (λ (own : ℕ) (ids : List ℕ). own ∷ ids) (id_of_zeros (80 * suc n)) (ap (ids_from n) (behind_zeros n) ∙ ids_of_zeros n)

ids_next : (n : ℕ) (l : List ℕ) → ids_from (suc n) l ≡ id_of l ∷ ids_from n (behind l)
unfolding ids_from
ids_next n l = refl

pub ids_written : (n last : ℕ) (ps : List Place) → Sound n last ps → ids_from n (written n ps) ≡ ids_of ps ++ zeros (n - length ps)
ids_written n last [] s = ids_of_zeros n ∙ ap zeros (sym (sub-zero n))
ids_written zero last (p ∷ ps) s = absurd s
ids_written (suc n) last (p ∷ ps) s =
    ids_next n (bytes_of p ++ written n ps)
    ∙ ap₂ (λ (own : ℕ) (ids : List ℕ). own ∷ ids)
    (id_of_place p.id p.pose (written n ps) s.1.small)
    (ap (ids_from n) (behind_place p (written n ps))
    ∙ ids_written n p.id ps s.2
    ∙ ap (λ (k : ℕ). ids_of ps ++ zeros k) (sym (suc-sub-suc n (length ps))))

pub ids_of_written : (ps : List Place) → Sound 64 0 ps → take (length ps) (ids_from 64 (written 64 ps)) ≡ ids_of ps
ids_of_written ps s =
    ap (take (length ps)) (ids_written 64 0 ps s)
    ∙ take_at (ids_of ps) (zeros (64 - length ps)) (length ps) (length_ids ps)
