-- The first place of some bytes: what is read of a place that was written, and that bytes which hold a place are written as they were.
use Rattle.std.specs.Prelude.{◌≡◌, ℕ, ◌+◌, ◌-◌, ◌*◌, ◌<◌, ◌≤◌, Bool, true, ◌&&◌, ltb, leb, List, ◌++◌, length, get_or, take, drop}
use native.Mathlib.Omega.{arith}
use mathlib.Core.Path.{refl, sym, ap, ap₂, ◌∙◌, subst}
use lib.ListN.{length-drop}
use lib.Seq.{take-add, get_or-drop}
use borrow.Author.Tests.{le-leb, lt-ltb, ltb-true}
use Rattle.numbers.specs.Told.{mark}
use Rattle.numbers.specs.Limits.{foot_limit}
use Rattle.numbers.proofs.Flags.{and_both}
use Rattle.numbers.proofs.OnePass.{and_left, and_right}
use Rattle.legs.specs.Legs.{lifted, finite_feet, permitted_feet}
use Rattle.legs.specs.Legs.{left_front, right_front, left_middle, right_middle, left_rear, right_rear}
use Rattle.legs.specs.Legs.{Feet}
use Rattle.packed.specs.Packed.{pair_at, feet_at, pair_bytes, feet_bytes}
use Rattle.packed.proofs.Back.{pair_back, feet_back_behind, feet_behind, marks_behind, pair_bytes_again, feet_again, feet_held}
use Rattle.packed.proofs.Back.{bytes_joined, bytes_of_pair, bytes_of_feet, mark_low}
use Rattle.taught.specs.Room.{Place, id_of, pose_of, place_bytes, marks_good, pose_good, holds, Bytes, HeldFeet}
use Rattle.taught.proofs.Written.{Good}

-- ---- a place that was written
pub id_of_place : (id : ℕ) (f : Feet) (rest : List ℕ) → id < 65536 → id_of (place_bytes id f ++ rest) ≡ id
unfolding id_of
id_of_place id f rest h = pair_back id (feet_bytes f ++ rest) h

pub pose_of_place : (id : ℕ) (f : Feet) (rest : List ℕ) → HeldFeet f → pose_of (place_bytes id f ++ rest) ≡ f
unfolding pose_of
pose_of_place id f rest held = feet_back_behind f (pair_bytes id) rest held

pub marks_of_place : (id : ℕ) (f : Feet) (rest : List ℕ) → marks_good (place_bytes id f ++ rest) ≡ true
unfolding marks_good
marks_of_place id f rest =
    rw (
      low (lifted f left_front),
      low (lifted f right_front),
      low (lifted f left_middle),
      low (lifted f right_middle),
      low (lifted f left_rear),
      low (lifted f right_rear),
    ) refl
  where
    low : (b : Bool) → leb (mark b) 1 ≡ true
    low b = le-leb (mark b) 1 (mark_low b)

pub place_long : (id : ℕ) (f : Feet) → length (place_bytes id f) ≡ 80
place_long id f = refl

pub place_bytes_lem : (id : ℕ) (f : Feet) → Bytes (place_bytes id f)
place_bytes_lem id f = bytes_joined (pair_bytes id) (feet_bytes f) (bytes_of_pair id) (bytes_of_feet f)

pub holds_place : (last : ℕ) (p : Place) (rest : List ℕ) → last < p.id → Good p → holds last (place_bytes p.id p.pose ++ rest) ≡ true
unfolding holds
holds_place last p rest above good =
    let l = place_bytes p.id p.pose ++ rest in
    let first : ltb last (id_of l) ≡ true =
    ap (ltb last) (id_of_place p.id p.pose rest good.small) ∙ lt-ltb last p.id above in
    let third : pose_good (pose_of l) ≡ true = ap pose_good (pose_of_place p.id p.pose rest good.held) ∙ good.good in
    and_both (ltb last (id_of l) && marks_good l) (pose_good (pose_of l))
    (and_both (ltb last (id_of l)) (marks_good l) first (marks_of_place p.id p.pose rest)) third

-- ---- bytes that hold a place: the id is above the last, the marks are marks, the pose is one that a put takes
held : (last : ℕ) (l : List ℕ) → holds last l ≡ true → (last < id_of l) × (marks_good l ≡ true) × (pose_good (pose_of l) ≡ true)
unfolding holds
held last l e =
    let two = and_left (ltb last (id_of l) && marks_good l) (pose_good (pose_of l)) e in (
      ltb-true last (id_of l) (and_left (ltb last (id_of l)) (marks_good l) two),
      and_right (ltb last (id_of l)) (marks_good l) two,
      and_right (ltb last (id_of l) && marks_good l) (pose_good (pose_of l)) e,
    )

pub above_again : (last : ℕ) (l : List ℕ) → holds last l ≡ true → last < id_of l
above_again last l e = (held last l e).0

pub good_again : (last : ℕ) (l : List ℕ) → Bytes l → 80 ≤ length l → holds last l ≡ true → Good (record { id = id_of l; pose = pose_of l })
unfolding id_of pose_of pair_at
good_again last l small long e =
    record {
      small = pair_small (get_or l 0 0) (get_or l 1 0) (small 0) (small 1);
      good = (held last l e).2;
      held = feet_held l 2;
    }
  where
    pair_small : (a b : ℕ) → a < 256 → b < 256 → a + b * 256 < 65536
    pair_small a b h k = omega arith

pub place_again : (last : ℕ) (l : List ℕ) → Bytes l → 80 ≤ length l → holds last l ≡ true → take 80 l ≡ place_bytes (id_of l) (pose_of l)
unfolding id_of pose_of marks_good
place_again last l small long e =
    let all = held last l e in
    let finite : finite_feet (feet_at l 2) ≡ true = and_left (finite_feet (pose_of l)) (permitted_feet foot_limit (pose_of l)) all.2 in
    let pose = feet_behind 2 l 0 in
    let feet : feet_bytes (feet_at (drop 2 l) 0) ≡ take 78 (drop 2 l) =
    feet_again (drop 2 l) (λ i. subst (λ (b : ℕ). b < 256) (sym (get_or-drop 2 l i 0)) (small (2 + i)))
    (subst (λ (n : ℕ). 78 ≤ n) (sym (length-drop 2 l)) (less (length l) long))
    (marks_behind 2 l 0 ∙ all.1)
    (ap finite_feet pose ∙ finite) in
    take-add 2 78 l
    ∙ ap₂ (λ (a b : List ℕ). a ++ b) (sym (pair_bytes_again l small (two (length l) long))) (sym feet ∙ ap feet_bytes pose)
  where
    less : (n : ℕ) → 80 ≤ n → 78 ≤ n - 2
    less n h = omega arith

    two : (n : ℕ) → 80 ≤ n → 2 ≤ n
    two n h = omega arith
