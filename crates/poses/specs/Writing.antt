-- Request K7, writing: "Writing gives eight decimals, nearest, ties to even, with no blanks, into a row of 512 bytes; the bytes after
-- the text stay, and the length is reported." "names .. in the source's field order when written". Of K12: "do not write the mark".
use Rattle.std.specs.Prelude.{ℕ, ◌/◌, ◌%◌, Bool, true, false, List, [], ◌∷◌, ◌++◌, map, length, ◌==◌, to_bits}
use Rattle.std.proofs.lemmas.List.Edits.{sets}
use Rattle.std.specs.Prelude.{Float}
use Rattle.std.specs.Float.{binary32}
use Rattle.numbers.specs.Told.{Told, given, choose, answer}
use Rattle.numbers.specs.Door.{unless, first_of}
use Rattle.numbers.specs.Limits.{foot_limit}
use Rattle.units.specs.Patterns.{sign_set}
use Rattle.lines.specs.Digits.{digit, numeral}
use Rattle.lines.specs.Fields.{parted}
use Rattle.legs.specs.Legs.{Leg, every, finite_point, permitted_point}
use Rattle.legs.specs.declared.Point.{Point}
use Rattle.std.specs.Prelude.{Some, None}
use Rattle.poses.specs.Answers.{OptionalFoot, OptionalLegPositions}
use Rattle.poses.specs.Decimals.{whole_decimals, written_as}
use Rattle.poses.specs.Json.{null_word}
use Rattle.poses.specs.Names.{name_of, fields}
use Rattle.poses.specs.Answers.{leg_of}

-- ---- a number: minus where the sign bit is set, one digit, a point, eight digits
abbrev pub is_minus : Float → Bool
is_minus x = sign_set (to_bits binary32 x)

abbrev pub minus_text : Bool → List ℕ
minus_text true = 45 ∷ []
minus_text false = []

unfoldable pub parts_text : ℕ → List ℕ
parts_text n = digit (n / whole_decimals) ∷ 46 ∷ numeral 10 8 (n % whole_decimals)

unfoldable pub number_text : Float → List ℕ
unfolding parts_text
number_text x = minus_text (is_minus x) ++ parts_text (written_as x)

-- ---- a leg: null, or its point's three numbers; its mark is not written
unfoldable pub point_text : Point → List ℕ
unfolding number_text
point_text p = 91 ∷ (parted 44 (number_text p.x ∷ number_text p.y ∷ number_text p.z ∷ []) ++ (93 ∷ []))

abbrev pub foot_text : OptionalFoot → List ℕ
foot_text (Some f) = point_text f.point
foot_text None = null_word

-- ---- a member, and the six in the source's field order
unfoldable pub named_text : List ℕ → OptionalFoot → List ℕ
unfolding point_text
named_text name f = 34 ∷ (name ++ (34 ∷ 58 ∷ foot_text f))

abbrev pub member_text : Leg → OptionalFoot → List ℕ
member_text l f = named_text (name_of l) f

unfoldable pub pose_text : OptionalLegPositions → List ℕ
pose_text p = 123 ∷ (parted 44 (map (λ l. member_text l (leg_of p l)) fields) ++ (125 ∷ []))

-- ---- refusals, over all legs that are not null: 1 NaN or infinite, 2 outside -4 to 4, 5 a row not of 512 bytes
abbrev pub row_length : ℕ
row_length = 512

abbrev pub foot_finite : OptionalFoot → Bool
foot_finite (Some f) = finite_point f.point
foot_finite None = true

abbrev pub foot_permitted : OptionalFoot → Bool
foot_permitted (Some f) = permitted_point foot_limit f.point
foot_permitted None = true

abbrev pub pose_finite : OptionalLegPositions → Bool
pose_finite p = every (λ l. foot_finite (leg_of p l))

abbrev pub pose_permitted : OptionalLegPositions → Bool
pose_permitted p = every (λ l. foot_permitted (leg_of p l))

unfoldable pub write_refused : OptionalLegPositions → ℕ → ℕ
write_refused p n = first_of (unless (pose_finite p) 1 ∷ unless (pose_permitted p) 2 ∷ unless (n == row_length) 5 ∷ [])

-- the answer, and what the row holds then
unfoldable pub to_json_told : OptionalLegPositions → ℕ → Told
to_json_told p n = answer (write_refused p n) (given (length (pose_text p) ∷ []) [])

unfoldable pub row_after : OptionalLegPositions → List ℕ → List ℕ
row_after p row = choose (write_refused p (length row) == 0) (sets row 0 (pose_text p)) row
