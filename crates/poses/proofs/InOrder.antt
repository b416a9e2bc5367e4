-- Texts stored one behind the other are a point's, a member's and a pose's; and the longest text has 310 bytes.
use lib.Seq.{sets, sets-eq, drop-drop}
use borrow.Rule.Slice.PartMut.{put_mid}
use Rattle.std.specs.Prelude.{◌-◌, take, drop}
use Rattle.std.specs.Prelude.{◌≡◌, ℕ, ◌+◌, ◌≤◌, Bool, true, false, List, [], ◌∷◌, ◌++◌, length}
use mathlib.Core.Path.{refl, sym, ap, ◌∙◌}
use mathlib.Core.List.{append_assoc}
use native.Mathlib.Omega.{arith}
use lib.Dec.{lit≤}
use lib.Ieee.{Float}
use lib.ListN.{length-append}
use Rattle.lines.specs.Digits.{numeral}
use Rattle.lines.specs.Fields.{parted}
use Rattle.numbers.specs.Stored.{Stored}
use Rattle.numbers.proofs.Stores.{stored_as}
use Rattle.legs.specs.Legs.{Leg, left_front, left_middle, left_rear, right_front, right_middle, right_rear}
use Rattle.legs.specs.declared.Point.{Point}
use Rattle.poses.specs.Answers.{OptionalFoot}
use Rattle.std.specs.Prelude.{Some, None}
use Rattle.poses.specs.Decimals.{written_as}
use Rattle.poses.specs.Answers.{OptionalLegPositions}
use Rattle.poses.specs.Names.{name_of, name_at}
use Rattle.poses.specs.Writing.{is_minus, minus_text, parts_text, number_text, point_text, foot_text, named_text, member_text, pose_text}

-- what is copied over a part of a row is stored there
pub copied : (row text part : List ℕ) (at : ℕ) → part ≡ text → at + length text ≤ length row
    → put_mid at (at + length text - at) row part ≡ sets row at text
copied row text part at is room =
    let n : at + length text - at ≡ length text = omega arith in
    ap (λ (p : List ℕ). put_mid at (at + length text - at) row p) is
    ∙ ap (λ (k : ℕ). take at row ++ (text ++ drop k (drop at row))) n
    ∙ ap (λ (m : List ℕ). take at row ++ (text ++ m)) (drop-drop (length text) at row)
    ∙ sym (append_assoc (take at row) text (drop (at + length text) row))
    ∙ sym (sets-eq text row at room)

-- what is stored is this text; the text comes before the proof, so that another one is named by its bytes
pub text_is : {l l' : List ℕ} {at r : ℕ} {a : List ℕ} (b : List ℕ) → Stored l at a r l' → a ≡ b → Stored l at b r l'
text_is b stored e = stored_as e stored

pub point_in_order : (p : Point)
    → (((((91 ∷ []) ++ number_text p.x) ++ (44 ∷ [])) ++ number_text p.y) ++ (44 ∷ [])) ++ number_text p.z ++ (93 ∷ []) ≡ point_text p
unfolding point_text parted
point_in_order p = regrouped (number_text p.x) (number_text p.y) (number_text p.z)
  where
    regrouped : (x y z : List ℕ) → (((((91 ∷ []) ++ x) ++ (44 ∷ [])) ++ y) ++ (44 ∷ [])) ++ z ++ (93 ∷ [])
        ≡ 91 ∷ ((x ++ (44 ∷ (y ++ (44 ∷ z)))) ++ (93 ∷ []))
    regrouped x y z = simp append_assoc

pub member_in_order : (name : List ℕ) (f : OptionalFoot) (shown : List ℕ) → shown ≡ name
    → ((((34 ∷ []) ++ shown) ++ (34 ∷ [])) ++ (58 ∷ [])) ++ foot_text f ≡ named_text name f
unfolding named_text
member_in_order name f shown is =
    ap (λ (t : List ℕ). ((((34 ∷ []) ++ t) ++ (34 ∷ [])) ++ (58 ∷ [])) ++ foot_text f) is ∙ regrouped (foot_text f)
  where
    regrouped : (t : List ℕ) → ((((34 ∷ []) ++ name) ++ (34 ∷ [])) ++ (58 ∷ [])) ++ t ≡ 34 ∷ (name ++ (34 ∷ 58 ∷ t))
    regrouped t = simp append_assoc

pub pose_in_order : (p : OptionalLegPositions)
    → ((((((123 ∷ []) ++ (named_text (name_at 0) p.left_front ++ (44 ∷ []))) ++ (named_text (name_at 2) p.left_middle ++ (44 ∷ [])))
    ++ (named_text (name_at 4) p.left_rear ++ (44 ∷ []))) ++ (named_text (name_at 1) p.right_front ++ (44 ∷ [])))
    ++ (named_text (name_at 3) p.right_middle ++ (44 ∷ []))) ++ (named_text (name_at 5) p.right_rear ++ (125 ∷ [])) ≡ pose_text p
unfolding pose_text parted
pose_in_order p =
    regrouped (member_text left_front p.left_front) (member_text left_middle p.left_middle) (member_text left_rear p.left_rear)
    (member_text right_front p.right_front) (member_text right_middle p.right_middle) (member_text right_rear p.right_rear)
  where
    regrouped : (a b c d e f : List ℕ)
        → ((((((123 ∷ []) ++ (a ++ (44 ∷ []))) ++ (b ++ (44 ∷ []))) ++ (c ++ (44 ∷ []))) ++ (d ++ (44 ∷ []))) ++ (e ++ (44 ∷ [])))
        ++ (f ++ (125 ∷ []))
        ≡ 123 ∷ ((a ++ (44 ∷ (b ++ (44 ∷ (c ++ (44 ∷ (d ++ (44 ∷ (e ++ (44 ∷ f)))))))))) ++ (125 ∷ []))
    regrouped a b c d e f = simp append_assoc

-- ---- how long a text is
pub parts_long : (n : ℕ) → length (parts_text n) ≡ 10
unfolding parts_text numeral
parts_long n = refl

number_long : (x : Float) → length (number_text x) ≤ 11
unfolding number_text
number_long x = by_sign (is_minus x) (parts_text (written_as x)) (parts_long (written_as x))
  where
    by_sign : (b : Bool) (t : List ℕ) → length t ≡ 10 → length (minus_text b ++ t) ≤ 11
    by_sign true t e = omega arith
    by_sign false t e = omega arith

foot_long : (f : OptionalFoot) → length (foot_text f) ≤ 37
unfolding point_text parted
foot_long None = lit≤ tt
foot_long (Some f) =
    three (number_text f.point.x) (number_text f.point.y) (number_text f.point.z) (number_long f.point.x)
    (number_long f.point.y) (number_long f.point.z)
  where
    three : (x y z : List ℕ) → length x ≤ 11 → length y ≤ 11 → length z ≤ 11
        → length (91 ∷ ((x ++ (44 ∷ (y ++ (44 ∷ z)))) ++ (93 ∷ []))) ≤ 37
    three x y z a b c =
        let i = length-append (x ++ (44 ∷ (y ++ (44 ∷ z)))) (93 ∷ []) in
        let j = length-append x (44 ∷ (y ++ (44 ∷ z))) in
        let k = length-append y (44 ∷ z) in
        omega (arith, i, j, k)

member_long : (l : Leg) (f : OptionalFoot) → length (member_text l f) ≤ 40 + length (name_of l)
unfolding named_text
member_long l f = let i = length-append (name_of l) (34 ∷ 58 ∷ foot_text f) in omega (arith, i, foot_long f)

pub text_long : (p : OptionalLegPositions) → length (pose_text p) ≤ 310
unfolding pose_text parted
text_long p =
    six (member_text left_front p.left_front) (member_text left_middle p.left_middle) (member_text left_rear p.left_rear)
    (member_text right_front p.right_front) (member_text right_middle p.right_middle) (member_text right_rear p.right_rear)
    (member_long left_front p.left_front) (member_long left_middle p.left_middle) (member_long left_rear p.left_rear)
    (member_long right_front p.right_front) (member_long right_middle p.right_middle) (member_long right_rear p.right_rear)
  where
    six : (a b c d e f : List ℕ) → length a ≤ 50 → length b ≤ 51 → length c ≤ 49 → length d ≤ 51 → length e ≤ 52 → length f ≤ 50
        → length (123 ∷ ((a ++ (44 ∷ (b ++ (44 ∷ (c ++ (44 ∷ (d ++ (44 ∷ (e ++ (44 ∷ f)))))))))) ++ (125 ∷ []))) ≤ 310
    six a b c d e f ha hb hc hd he hf =
        let x = e ++ (44 ∷ f) in
        let y = d ++ (44 ∷ x) in
        let z = c ++ (44 ∷ y) in
        let w = b ++ (44 ∷ z) in
        let v = a ++ (44 ∷ w) in
        omega (
          arith,
          length-append v (125 ∷ []),
          length-append a (44 ∷ w),
          length-append b (44 ∷ z),
          length-append c (44 ∷ y),
          length-append d (44 ∷ x),
          length-append e (44 ∷ f),
        )
