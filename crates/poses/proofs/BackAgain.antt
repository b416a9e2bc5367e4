-- A pose that is written and read again is that pose, each coordinate as it is written and read, and every foot standing; and its mark is
-- not written.
use Rattle.std.specs.Prelude.{◌≡◌, ℕ, ◌+◌, ◌≤◌, Bool, true, false, ◌&&◌, T, List, [], ◌∷◌, ◌++◌, map, length, take}
use mathlib.Core.Path.{refl, sym, ap, fun_ext, ◌∙◌}
use native.Mathlib.Nat.{zero-add}
use native.Mathlib.Omega.{arith}
use lib.Ieee.{Float, binary32, fits}
use lib.Ieee.Bits.{is_true}
use lib.Seq.{sets}
use borrow.Author.Tests.{eq-eqb}
use Rattle.numbers.specs.Told.{Told, choose, answer}
use Rattle.numbers.specs.Door.{permits, unless, either}
use Rattle.numbers.specs.Limits.{foot_limit}
use Rattle.legs.specs.Legs.{Leg, left_front, right_front, left_middle, right_middle, left_rear, right_rear, permitted_point}
use Rattle.lines.specs.Fields.{parted}
use Rattle.numbers.proofs.Stores.{front_stored}
use Rattle.std.specs.Prelude.{Some, None}
use Rattle.poses.specs.Answers.{OptionalFoot, OptionalLegPositions}
use Rattle.poses.specs.Decimals.{read_as, written_as}
use Rattle.poses.specs.Json.{Text}
use Rattle.poses.specs.Names.{name_of, same, leg_named, fields}
use Rattle.poses.specs.Answers.{leg_of, six_legs, given_pose}
use Rattle.poses.specs.Reading.{inside, all_inside, times, all_known, each_once, foot_of, value_from, value_for, pose_of}
use Rattle.poses.specs.Reading.{read_told, from_json_told}
use Rattle.poses.specs.Writing.{is_minus, foot_text, foot_permitted, named_text, pose_text, write_refused, row_after}
use Rattle.numbers.proofs.Flags.{and_both}
use Rattle.legs.proofs.OnePass.{each_true}
use Rattle.poses.proofs.Writing.{written_below}
use Rattle.poses.proofs.ThereAndBack.{read_permitted}
use Rattle.poses.proofs.Exact.{accepted_exactly}
use Rattle.poses.proofs.OneAnswer.{leg_of_six}
use Rattle.poses.proofs.WritingDoor.{permits_x, permits_y, permits_z, all_permitted, row_long}
use Rattle.poses.proofs.InOrder.{text_long}
use Rattle.poses.proofs.Written.{written_value, member_for, members_for, Few, FewParts, written_derived}

-- ---- what is read back
abbrev pub number_back : Float → Float
number_back x = read_as (is_minus x) (written_as x)

abbrev pub foot_back : OptionalFoot → OptionalFoot
foot_back (Some f) =
    Some
    (record {
      point = record { x = number_back f.point.x; y = number_back f.point.y; z = number_back f.point.z };
      lifted = false;
    })
foot_back None = None

abbrev pub read_back : OptionalLegPositions → OptionalLegPositions
read_back p = six_legs (λ l. foot_back (leg_of p l))

-- ---- the six names, each once and with its leg's value
six_once : (p : OptionalLegPositions) → each_once (members_for p) ≡ true
unfolding times all_known leg_named same
six_once p = refl

value_of : (p : OptionalLegPositions) (l : Leg) → value_for l (members_for p) ≡ written_value (leg_of p l)
unfolding value_from leg_named same
value_of p left_front = refl
value_of p right_front = refl
value_of p left_middle = refl
value_of p right_middle = refl
value_of p left_rear = refl
value_of p right_rear = refl

foot_back_lem : (f : OptionalFoot) → foot_of (written_value f) ≡ foot_back f
foot_back_lem (Some f) = refl
foot_back_lem None = refl

pose_back : (p : OptionalLegPositions) → pose_of (members_for p) ≡ read_back p
pose_back p = ap six_legs (fun_ext (λ l. ap foot_of (value_of p l) ∙ foot_back_lem (leg_of p l)))

all_inside_lem : (p : OptionalLegPositions) → ((l : Leg) → inside (written_value (leg_of p l)) ≡ true) → (ls : List Leg) →
    all_inside (map (member_for p) ls) ≡ true
unfolding all_inside
all_inside_lem p h [] = refl
all_inside_lem p h (l ∷ ls) =
    and_both (inside (written_value (leg_of p l))) (all_inside (map (member_for p) ls)) (h l) (all_inside_lem p h ls)

nothing_refused : (i o : Bool) (t : Told) → i ≡ true → o ≡ true → answer (either (unless i 2) (unless o 14)) t ≡ t
nothing_refused i o t p q = simp (p, q)

-- ---- a coordinate that an f32 is, as every argument is
abbrev pub FootFits : OptionalFoot → Type 0
FootFits (Some f) = T (fits binary32 f.point.x) × T (fits binary32 f.point.y) × T (fits binary32 f.point.z)
FootFits None = Unit

few_of : (x : Float) → T (fits binary32 x) → T (permits foot_limit x) → Few x
few_of x h e = omega (arith, written_below x h e)

foot_few : (f : OptionalFoot) → FootFits f → foot_permitted f ≡ true → FewParts f
foot_few None h e = tt
foot_few (Some f) h e =
    let p = f.point in (
      few_of p.x h.0 (permits_x p e),
      few_of p.y h.1 (permits_y p e),
      few_of p.z h.2 (permits_z p e),
    )

inside_of : (x : Float) → T (fits binary32 x) → T (permits foot_limit x) → permits foot_limit (number_back x) ≡ true
inside_of x h e = is_true (permits foot_limit (number_back x)) (read_permitted x (is_minus x) h e)

foot_inside : (f : OptionalFoot) → FootFits f → foot_permitted f ≡ true → inside (written_value f) ≡ true
unfolding permitted_point
foot_inside None h e = refl
foot_inside (Some f) h e =
    let p = f.point in
    let x = permits foot_limit (number_back p.x) in
    let y = permits foot_limit (number_back p.y) in
    let z = permits foot_limit (number_back p.z) in
    and_both (x && y) z
    (and_both x y (inside_of p.x h.0 (permits_x p e)) (inside_of p.y h.1 (permits_y p e)))
    (inside_of p.z h.2 (permits_z p e))

-- ---- every pose that is not refused: its text is derived, and read again it tells the pose, each number read back and each foot standing
module _ (p : OptionalLegPositions) (n : ℕ) (fit : (l : Leg) → FootFits (leg_of p l)) (taken : write_refused p n ≡ 0) where
  may : (l : Leg) → foot_permitted (leg_of p l) ≡ true
  may = each_true (λ l. foot_permitted (leg_of p l)) (all_permitted p n taken)

  pub text_derived : Text (members_for p) (pose_text p)
  text_derived = written_derived p (λ l. foot_few (leg_of p l) (fit l) (may l))

  pub written_and_read : from_json_told (pose_text p) ≡ given_pose (read_back p)
  unfolding read_told
  written_and_read =
      ap read_told ((accepted_exactly (pose_text p) (members_for p)).1 text_derived)
      ∙ nothing_refused (all_inside (members_for p)) (each_once (members_for p)) (given_pose (pose_of (members_for p)))
      (all_inside_lem p (λ l. foot_inside (leg_of p l) (fit l) (may l)) fields) (six_once p)
      ∙ ap given_pose (pose_back p)

-- ---- the same, from the row: its front is the text
pub row_and_read : (p : OptionalLegPositions) (row : List ℕ) → ((l : Leg) → FootFits (leg_of p l)) → write_refused p (length row) ≡ 0
    → (take (length (pose_text p)) (row_after p row) ≡ pose_text p)
    × (from_json_told (take (length (pose_text p)) (row_after p row)) ≡ given_pose (read_back p))
unfolding row_after
row_and_read p row fit taken =
    let long : length row ≡ 512 = row_long p (length row) taken in
    let fits_in : 0 + length (pose_text p) ≤ length row = omega (arith, long, text_long p) in
    let stored : row_after p row ≡ sets row 0 (pose_text p) =
    ap (λ (b : Bool). choose b (sets row 0 (pose_text p)) row) (eq-eqb (write_refused p (length row)) 0 taken) in
    let front : take (length (pose_text p)) (row_after p row) ≡ pose_text p =
    ap (take (length (pose_text p))) stored
    ∙ ap (λ (k : ℕ). take k (sets row 0 (pose_text p))) (sym (zero-add (length (pose_text p))))
    ∙ front_stored row 0 (pose_text p) fits_in in
    (front, ap from_json_told front ∙ written_and_read p (length row) fit taken)

-- ---- a foot's mark is not written: poses that differ in it alone have one text
abbrev pub marked : Bool → OptionalFoot → OptionalFoot
marked b (Some f) = Some (record { point = f.point; lifted = b })
marked b None = None

texts : (Leg → List ℕ) → List ℕ
texts t = 123 ∷ (parted 44 (map (λ l. 34 ∷ (name_of l ++ (34 ∷ 58 ∷ t l))) fields) ++ (125 ∷ []))

by_feet : (p : OptionalLegPositions) → pose_text p ≡ texts (λ l. foot_text (leg_of p l))
unfolding pose_text named_text texts
by_feet p = refl

pub mark_not_written : (g : Leg → OptionalFoot) (b : Leg → Bool) → pose_text (six_legs (λ l. marked (b l) (g l))) ≡ pose_text (six_legs g)
mark_not_written g b =
    by_feet (six_legs (λ l. marked (b l) (g l)))
    ∙ ap texts
    (fun_ext (λ l. ap foot_text (leg_of_six (λ k. marked (b k) (g k)) l) ∙ same_text (b l) (g l) ∙ sym (ap foot_text (leg_of_six g l))))
    ∙ sym (by_feet (six_legs g))
  where
    same_text : (c : Bool) (f : OptionalFoot) → foot_text (marked c f) ≡ foot_text f
    same_text c (Some f) = refl
    same_text c None = refl
