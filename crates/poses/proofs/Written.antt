-- The text that is written of a pose is derived by the grammar, with the six names in the source's order and the numbers as they are
-- written.
use Rattle.std.specs.Prelude.{◌≡◌, ℕ, zero, suc, ◌+◌, ◌-◌, ◌*◌, ◌/◌, ◌%◌, ◌^◌, ◌<◌, Bool, true, false, ◌&&◌, T, ltb, leb, List, [], ◌∷◌}
use Rattle.std.specs.Prelude.{◌++◌, map, length}
use mathlib.Core.Path.{refl, sym, ap, subst, ◌∙◌}
use mathlib.Core.List.{append_assoc, append-nil}
use native.Mathlib.Nat.{pow-zero, pow-suc, le_of_eq}
use native.Mathlib.Omega.{arith}
use lib.Ieee.{Float}
use lib.Seq.{append_snoc}
use borrow.Author.Tests.{lt-ltb, le-leb}
use Rattle.numbers.proofs.OnePass.{and_left, and_right}
use Rattle.lines.specs.Digits.{digit, numeral}
use Rattle.lines.specs.Fields.{parted}
use Rattle.lines.proofs.Numerals.{length_numeral}
use Rattle.legs.specs.Legs.{Leg, left_front, right_front, left_middle, right_middle, left_rear, right_rear}
use Rattle.legs.specs.declared.Point.{Point}
use Rattle.units.proofs.Door.{holds}
use Rattle.std.specs.Prelude.{Some, None}
use Rattle.poses.specs.Answers.{OptionalFoot, OptionalLegPositions}
use Rattle.poses.specs.Decimals.{written_as}
use Rattle.poses.specs.Json.{Number, Value, null, three, Member, Language, ◌then◌, is_digit, digits, digits_from, sign}
use Rattle.poses.specs.Json.{Amount, number}
use Rattle.poses.specs.Json.{ws, one, value, plain, utf8, is_plain, spelled, AreChars, chars, member, members, Text}
use Rattle.poses.specs.Names.{name_of, fields}
use Rattle.poses.specs.Answers.{leg_of}
use Rattle.poses.specs.Writing.{is_minus, minus_text, parts_text, number_text, point_text, foot_text, member_text, named_text, pose_text}
use Rattle.numbers.proofs.Flags.{and_both}
use Rattle.poses.proofs.NumbersExact.{pointed_some}

-- ---- the members of the text
abbrev pub written_number : Float → Number
written_number x = record { minus = is_minus x; parts = written_as x }

abbrev pub written_value : OptionalFoot → Value
written_value (Some f) = three (written_number f.point.x) (written_number f.point.y) (written_number f.point.z)
written_value None = null

abbrev pub member_for : OptionalLegPositions → Leg → Member
member_for p l = record { name = name_of l; value = written_value (leg_of p l) }

abbrev pub members_for : OptionalLegPositions → List Member
members_for p = map (member_for p) fields

-- at most nine digits
abbrev pub Few : Float → Type 0
Few x = written_as x < 10 ^ 9

abbrev pub FewParts : OptionalFoot → Type 0
FewParts (Some f) = Few f.point.x × Few f.point.y × Few f.point.z
FewParts None = Unit

-- ---- digits
digit_below_ten : (d : ℕ) → d < 10 → digit d ≡ 48 + d
unfolding digit
digit_below_ten d h = rw (lt-ltb d 10 h)

digit_back : (d : ℕ) → d < 10 → digit d - 48 ≡ d
digit_back d h = rw (digit_below_ten d h) (omega arith)

is_digit_lem : (d : ℕ) → d < 10 → T (is_digit (digit d))
is_digit_lem d h =
    rw (digit_below_ten d h)
    (holds
    (and_both (leb 48 (48 + d)) (leb (48 + d) 57) (le-leb 48 (48 + d) (omega arith)) (le-leb (48 + d) 57 (omega arith))))

digits_append : (s t : List ℕ) → digits s → digits t → digits (s ++ t)
digits_append [] t p q = q
digits_append (b ∷ s) t p q = (p.0, digits_append s t p.1 q)

digits_numeral : (k n : ℕ) → digits (numeral 10 k n)
unfolding numeral
digits_numeral zero n = tt
digits_numeral (suc k) n =
    digits_append (numeral 10 k (n / 10)) (digit (n % 10) ∷ []) (digits_numeral k (n / 10)) (is_digit_lem (n % 10) (omega arith), tt)

from_append : (v : ℕ) (s t : List ℕ) → digits_from v (s ++ t) ≡ digits_from (digits_from v s) t
unfolding digits_from
from_append v [] t = refl
from_append v (b ∷ s) t = from_append (v * 10 + (b - 48)) s t

-- the digits of a number say that number, behind what stood before
from_numeral : (v k n : ℕ) → n < 10 ^ k → digits_from v (numeral 10 k n) ≡ v * 10 ^ k + n
unfolding numeral digits_from
from_numeral v zero n h = rw pow-zero (omega (arith, pow-zero 10))
from_numeral v (suc k) n h =
    let few : n < 10 ^ k * 10 = subst (λ (m : ℕ). n < m) (pow-suc 10 k) h in
    from_append v (numeral 10 k (n / 10)) (digit (n % 10) ∷ [])
    ∙ ap (λ (m : ℕ). m * 10 + (digit (n % 10) - 48)) (from_numeral v k (n / 10) (omega arith))
    ∙ ap (λ (d : ℕ). (v * 10 ^ k + n / 10) * 10 + d) (digit_back (n % 10) (omega arith))
    ∙ rw pow-suc (omega arith)

-- ---- a number
amount_written : (n : ℕ) → n < 10 ^ 9 → Amount n (parts_text n)
unfolding parts_text
amount_written n h =
    let q : ℕ = n / 10 ^ 8 in
    let r : ℕ = n % 10 ^ 8 in
    let more : List ℕ = numeral 10 8 r in
    let long : length more ≡ 8 = length_numeral 10 8 r in
    record {
      first = digit q;
      more = more;
      first_digit = is_digit_lem q (omega arith);
      more_digits = digits_numeral 8 r;
      at_most_eight = le_of_eq long;
      bytes = ap (λ (s : List ℕ). digit q ∷ s) (sym (pointed_some more (omega arith)));
      value =
          sym
          (ap (λ (k : ℕ). digits_from (digit q - 48) more * 10 ^ (8 - k)) long
          ∙ ap (λ (d : ℕ). digits_from d more * 1) (digit_back q (omega arith))
          ∙ ap (λ (m : ℕ). m * 1) (from_numeral q 8 r (omega arith))
          ∙ omega arith);
    }

sign_written : (b : Bool) → sign b (minus_text b)
sign_written true = refl
sign_written false = refl

number_written : (x : Float) → Few x → number (written_number x) (number_text x)
unfolding number_text
number_written x h = (minus_text (is_minus x), parts_text (written_as x), refl, sign_written (is_minus x), amount_written (written_as x) h)

-- ---- a name: characters of one byte each, which a name may have
abbrev is_ascii : List ℕ → Bool
is_ascii [] = true
is_ascii (b ∷ s) = (ltb b 128 && is_plain b) && is_ascii s

spelled_plain : (s : List ℕ) → is_ascii s ≡ true → s ≡ spelled (map plain s)
unfolding spelled utf8
spelled_plain [] e = refl
spelled_plain (b ∷ s) e =
    rw (and_left (ltb b 128) (is_plain b) (and_left (ltb b 128 && is_plain b) (is_ascii s) e))
    (ap (λ (r : List ℕ). b ∷ r) (spelled_plain s (and_right (ltb b 128 && is_plain b) (is_ascii s) e)))

plain_chars : (s : List ℕ) → is_ascii s ≡ true → AreChars (map plain s)
plain_chars [] e = tt
plain_chars (b ∷ s) e = (
  holds (and_right (ltb b 128) (is_plain b) (and_left (ltb b 128 && is_plain b) (is_ascii s) e)),
  plain_chars s (and_right (ltb b 128 && is_plain b) (is_ascii s) e),
)

names_ascii : (l : Leg) → is_ascii (name_of l) ≡ true
names_ascii left_front = refl
names_ascii right_front = refl
names_ascii left_middle = refl
names_ascii right_middle = refl
names_ascii left_rear = refl
names_ascii right_rear = refl

name_written : (l : Leg) → chars (name_of l)
name_written l = (map plain (name_of l), spelled_plain (name_of l) (names_ascii l), plain_chars (name_of l) (names_ascii l))

-- ---- rules one behind the other, with no blanks between them
unblanked : (Q : Language) (s : List ℕ) → Q s → (ws then Q) s
unblanked Q s q = ([], s, refl, tt, q)

behind : (P Q : Language) (a b : List ℕ) → P a → Q b → (P then Q) (a ++ b)
behind P Q a b p q = (a, b, refl, p, q)

headed : (b : ℕ) (Q : Language) (s : List ℕ) → Q s → (one b then Q) (b ∷ s)
headed b Q s q = (b ∷ [], s, refl, refl, q)

-- ---- a value
bracketed : (x y z : List ℕ) → 91 ∷ (x ++ (44 ∷ (y ++ (44 ∷ (z ++ (93 ∷ [])))))) ≡ 91 ∷ (parted 44 (x ∷ y ∷ z ∷ []) ++ (93 ∷ []))
unfolding parted
bracketed x y z = simp append_assoc

point_written : (f : Point) → Few f.x → Few f.y → Few f.z →
    value (three (written_number f.x) (written_number f.y) (written_number f.z)) (point_text f)
unfolding point_text
point_written f hx hy hz =
    let x = number_text f.x in
    let y = number_text f.y in
    let z = number_text f.z in
    subst (value (three (written_number f.x) (written_number f.y) (written_number f.z))) (bracketed x y z)
    (headed 91 _ _
    (unblanked _ _
    (behind (number (written_number f.x)) _ x _ (number_written f.x hx)
    (unblanked _ _
    (headed 44 _ _
    (unblanked _ _
    (behind (number (written_number f.y)) _ y _ (number_written f.y hy)
    (unblanked _ _
    (headed 44 _ _
    (unblanked _ _ (behind (number (written_number f.z)) _ z _ (number_written f.z hz) (unblanked _ _ refl))))))))))))

foot_written : (f : OptionalFoot) → FewParts f → value (written_value f) (foot_text f)
foot_written (Some f) h = point_written f.point h.0 h.1 h.2
foot_written None h = refl

-- ---- a member, several, and the whole text
member_written : (p : OptionalLegPositions) (l : Leg) → FewParts (leg_of p l) → member (member_for p l) (member_text l (leg_of p l))
unfolding named_text
member_written p l h = (
  34 ∷ (name_of l ++ (34 ∷ [])),
  58 ∷ foot_text (leg_of p l),
  ap (λ (s : List ℕ). 34 ∷ s) (sym (append_snoc (name_of l) 34 (58 ∷ foot_text (leg_of p l)))),
  (name_written l, refl),
  unblanked _ _ (headed 58 _ _ (unblanked _ _ (foot_written (leg_of p l) h))),
)

members_written : (p : OptionalLegPositions) → ((l : Leg) → FewParts (leg_of p l)) → (l : Leg) (ls : List Leg) →
    members (member_for p l) (map (member_for p) ls) (parted 44 (map (λ k. member_text k (leg_of p k)) (l ∷ ls)))
unfolding parted
members_written p h l [] = member_written p l (h l)
members_written p h l (k ∷ ls) = (
  member_text l (leg_of p l),
  _,
  refl,
  member_written p l (h l),
  unblanked _ _ (headed 44 _ _ (unblanked _ _ (members_written p h k ls))),
)

pub written_derived : (p : OptionalLegPositions) → ((l : Leg) → FewParts (leg_of p l)) → Text (members_for p) (pose_text p)
unfolding pose_text
written_derived p h =
    let texts = parted 44 (map (λ l. member_text l (leg_of p l)) fields) in
    let six = members_written p h left_front (left_middle ∷ left_rear ∷ right_front ∷ right_middle ∷ right_rear ∷ []) in
    unblanked _ _
    (headed 123 _ _
    (unblanked _ _ (texts, 125 ∷ [], refl, (texts, [], sym (append-nil texts), six, tt), (125 ∷ [], [], refl, refl, tt))))
