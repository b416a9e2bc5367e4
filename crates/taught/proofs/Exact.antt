-- A room that passes the test is the bytes of its own places, and these are a store; the test says what the record of a taught room says.
use Rattle.std.specs.Prelude.{◌≡◌, ℕ, zero, suc, ◌+◌, ◌-◌, ◌*◌, ◌<◌, ◌≤◌, true, ◌&&◌, eqb, List, [], ◌∷◌, ◌++◌, length, drop}
use native.Mathlib.Omega.{arith}
use mathlib.Core.Path.{refl, ap, ap₂, sym, subst, ◌∙◌}
use lib.Dec.{lit<}
use lib.ListN.{take-append-drop, length-drop}
use lib.Seq.{get_or-drop, drop-drop}
use borrow.Author.Tests.{eq-eqb}
use Rattle.numbers.proofs.Flags.{by_test, and_both}
use Rattle.numbers.proofs.OnePass.{and_left, and_right}
use Rattle.packed.proofs.Back.{bytes_joined}
use Rattle.taught.specs.Room.{Place, Bytes, Taught, zeros, id_of, behind, holds, rises, used_from, used, all_zero, taught}
use Rattle.taught.specs.Room.{places_from, places_of}
use Rattle.taught.proofs.Written.{written, Sound}
use Rattle.taught.proofs.Looking.{used_most, zero_is, long_taught, rest_taught}
use Rattle.taught.proofs.OnePlace.{place_bytes_lem, place_again, above_again, good_again}
use Rattle.taught.proofs.Reading.{bytes_of, one_more, not_held, used_more, used_no_more, id_of_zeros, all_zero_zeros, taught_written}

-- ---- bytes of a part, of zeros, of a list of places
bytes_drop : (n : ℕ) (l : List ℕ) → Bytes l → Bytes (drop n l)
bytes_drop n l b i = subst (λ (k : ℕ). k < 256) (sym (get_or-drop n l i 0)) (b (n + i))

bytes_zeros : (n : ℕ) → Bytes (zeros n)
bytes_zeros zero i = lit< tt
bytes_zeros (suc n) zero = lit< tt
bytes_zeros (suc n) (suc i) = bytes_zeros n i

pub bytes_written : (n : ℕ) (ps : List Place) → Bytes (written n ps)
bytes_written n [] = bytes_zeros (80 * n)
bytes_written zero (p ∷ ps) = bytes_zeros 0
bytes_written (suc n) (p ∷ ps) = bytes_joined (bytes_of p) (written n ps) (place_bytes_lem p.id p.pose) (bytes_written n ps)

-- ---- places read are written again
used_none : (last : ℕ) (l : List ℕ) → used_from 0 last l ≡ 0
unfolding used_from
used_none last l = refl

drop_behind : (k : ℕ) (l : List ℕ) → drop (80 * k) (behind l) ≡ drop (80 * suc k) l
drop_behind k l = drop-drop (80 * k) 80 l ∙ ap (λ (m : ℕ). drop m l) (sym (one_more k))

abbrev Again : ℕ → ℕ → List ℕ → ℕ → Type 0
Again n last l k = (l ≡ written n (places_from k l)) × Sound n last (places_from k l)

-- behind k places all is 0
abbrev Clear : List ℕ → ℕ → Type 0
Clear l k = all_zero (drop (80 * k) l) ≡ true

again_none : (n last : ℕ) (l : List ℕ) → length l ≡ 80 * n → used_from n last l ≡ 0 → Clear l (used_from n last l)
    → Again n last l (used_from n last l)
again_none n last l long none e =
    subst (Again n last l) (sym none) (zero_is l (subst (Clear l) none e) ∙ ap zeros long, tt)

again_more : (n last : ℕ) (l : List ℕ) (k : ℕ) → Bytes l → length l ≡ 80 * suc n → holds last l ≡ true → Again n (id_of l) (behind l) k
    → Again (suc n) last l (suc k)
again_more n last l k b long e g =
    let enough : 80 ≤ length l = omega (arith, long) in
    let same = ap₂ (λ (x y : List ℕ). x ++ y) (place_again last l b enough e) g.0 in
    (sym (take-append-drop 80 l) ∙ same, (above_again last l e, good_again last l b enough e, g.1))

behind_long : (n : ℕ) (l : List ℕ) → length l ≡ 80 * suc n → length (behind l) ≡ 80 * n
behind_long n l long = length-drop 80 l ∙ omega (arith, long)

behind_clear : (k : ℕ) (l : List ℕ) → Clear l (suc k) → Clear (behind l) k
behind_clear k l e = ap all_zero (drop_behind k l) ∙ e

pub room_again : (n last : ℕ) (l : List ℕ) → Bytes l → length l ≡ 80 * n → all_zero (drop (80 * used_from n last l) l) ≡ true
    → (l ≡ written n (places_from (used_from n last l) l)) × Sound n last (places_from (used_from n last l) l)
room_again zero last l b long e = again_none zero last l long (used_none last l) e
room_again (suc n) last l b long e =
    let k = used_from n (id_of l) (behind l) in
    by_test (holds last l)
    (λ h. subst (Again (suc n) last l) (sym (used_more n last l h))
    (again_more n last l k b long h
    (room_again n (id_of l) (behind l) (bytes_drop 80 l b) (behind_long n l long)
    (behind_clear k l (subst (Clear l) (used_more n last l h) e)))))
    (λ h. again_none (suc n) last l long (used_no_more (suc n) last l h) e)

-- ---- a room that passes the test
both_again : (room : List ℕ) → Bytes room → taught room ≡ true → (room ≡ written 64 (places_of room)) × Sound 64 0 (places_of room)
unfolding used
both_again room b e = room_again 64 0 room b (long_taught room e) (rest_taught room e)

pub again : (room : List ℕ) → Bytes room → taught room ≡ true → room ≡ written 64 (places_of room)
again room b e = (both_again room b e).0

pub sound : (room : List ℕ) → Bytes room → taught room ≡ true → Sound 64 0 (places_of room)
sound room b e = (both_again room b e).1

-- ---- the test and the record
rises_next : (n last : ℕ) (l : List ℕ) → rises (suc n) last l ≡ (holds last l && rises n (id_of l) (behind l))
unfolding rises
rises_next n last l = refl

rises_none : (last : ℕ) (l : List ℕ) → rises 0 last l ≡ true
unfolding rises
rises_none last l = refl

-- so many places as are counted hold poses under rising ids
rises_used : (n last : ℕ) (l : List ℕ) → rises (used_from n last l) last l ≡ true
rises_used zero last l = ap (λ (k : ℕ). rises k last l) (used_none last l) ∙ rises_none last l
rises_used (suc n) last l =
    let k = used_from n (id_of l) (behind l) in
    by_test (holds last l)
    (λ h. ap (λ (m : ℕ). rises m last l) (used_more n last l h)
    ∙ rises_next k last l
    ∙ and_both (holds last l) (rises k (id_of l) (behind l)) h (rises_used n (id_of l) (behind l)))
    (λ h. ap (λ (m : ℕ). rises m last l) (used_no_more (suc n) last l h) ∙ rises_none last l)

-- and where zeros follow, so many are counted
used_rises : (n k last : ℕ) (l : List ℕ) (m : ℕ) → k ≤ n → rises k last l ≡ true → drop (80 * k) l ≡ zeros m → used_from n last l ≡ k
used_rises n zero last l m h e z = used_no_more n last l (not_held last l (ap id_of z ∙ id_of_zeros m))
used_rises zero (suc k) last l m h e z = absurd (omega (arith, h))
used_rises (suc n) (suc k) last l m h e z =
    let both : (holds last l && rises k (id_of l) (behind l)) ≡ true = sym (rises_next k last l) ∙ e in
    used_more n last l (and_left (holds last l) (rises k (id_of l) (behind l)) both)
    ∙ ap suc
    (used_rises n k (id_of l) (behind l) m (omega (arith, h))
    (and_right (holds last l) (rises k (id_of l) (behind l)) both)
    (drop_behind k l ∙ z))

pub taught_record : (room : List ℕ) → Bytes room → taught room ≡ true → Taught room
unfolding used
taught_record room b e =
    let long : length room ≡ 5120 = long_taught room e in
    record {
      bytes = b;
      long = long;
      count = used room;
      few = used_most 64 0 room;
      rise = rises_used 64 0 room;
      rest =
          zero_is (drop (80 * used room) room) (rest_taught room e)
          ∙ ap zeros (length-drop (80 * used room) room ∙ ap (λ (k : ℕ). k - 80 * used room) long);
    }

pub taught_test : (room : List ℕ) → Taught room → taught room ≡ true
unfolding taught
taught_test room t =
    and_both (eqb (length room) 5120) (all_zero (drop (80 * used room) room))
    (eq-eqb (length room) 5120 t.long)
    (ap (λ (k : ℕ). all_zero (drop (80 * k) room)) (used_rises 64 t.count 0 room (5120 - 80 * t.count) t.few t.rise t.rest)
    ∙ ap all_zero t.rest
    ∙ all_zero_zeros (5120 - 80 * t.count))

pub written_taught : (ps : List Place) → Sound 64 0 ps → Taught (written 64 ps)
written_taught ps s = taught_record (written 64 ps) (bytes_written 64 ps) (taught_written ps s)

pub taught_exactly : (room : List ℕ) → (Bytes room → taught room ≡ true → Taught room) × (Taught room → taught room ≡ true)
taught_exactly room = (taught_record room, taught_test room)
