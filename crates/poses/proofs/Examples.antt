-- The request's example, written and read by computation; refusals in their order, 13 first, then 2, then 14; and the six names, each once,
-- and one of them twice.
use Rattle.std.specs.Prelude.{◌≡◌, ℕ, false, List, [], ◌∷◌, ◌++◌, map}
use mathlib.Core.Path.{refl}
use lib.Ieee.{binary32, of_bits, to_bits, round, le}
use Rattle.numbers.specs.Told.{refused}
use Rattle.numbers.specs.Limits.{foot_limit, over, minus}
use Rattle.units.specs.Units.{mag}
use Rattle.legs.specs.Legs.{Leg, left_rear, permitted_point}
use Rattle.lines.specs.Digits.{digit, numeral}
use Rattle.lines.specs.Fields.{parted}
use Rattle.std.specs.Prelude.{Some, None}
use Rattle.poses.specs.Answers.{OptionalLegPositions}
use Rattle.poses.specs.Decimals.{read_as, nearest_whole, written_as}
use Rattle.poses.specs.How.{reading, found, found_from, member_at, value_at, null_at, three_at, number_at}
use Rattle.poses.specs.How.{amount_at, run_of, name_end, closing, char_long, escaped, wide, blanks}
use Rattle.poses.specs.Json.{Member, null}
use Rattle.poses.specs.Names.{name_of, fields, same, leg_named}
use Rattle.poses.specs.Answers.{given_pose}
use Rattle.poses.specs.Reading.{all_inside, times, all_known, value_from, members_refused, read_told, from_json_told}
use Rattle.poses.specs.Writing.{parts_text, number_text, point_text, named_text, pose_text}

-- left front at (1/8, -0, 4), the others null
abbrev one_foot : OptionalLegPositions
one_foot =
    record {
      left_front = Some
          (record {
            point = record { x = of_bits binary32 1040187392; y = of_bits binary32 2147483648; z = of_bits binary32 1082130432 };
            lifted = false;
          });
      left_middle = None;
      left_rear = None;
      right_front = None;
      right_middle = None;
      right_rear = None;
    }

-- {"left_front":[0.12500000,-0.00000000,4.00000000],"left_middle":null,"left_rear":null,"right_front":null,"right_middle":null,
-- "right_rear":null}, in one line
one_foot_text : List ℕ
one_foot_text =
    123 ∷ 34 ∷ 108 ∷ 101 ∷ 102 ∷ 116 ∷ 95 ∷ 102 ∷ 114 ∷ 111 ∷ 110 ∷ 116 ∷ 34 ∷ 58 ∷ 91 ∷ 48 ∷ 46 ∷ 49 ∷ 50 ∷ 53 ∷ 48 ∷ 48 ∷ 48 ∷ 48
    ∷ 48 ∷ 44 ∷ 45 ∷ 48 ∷ 46 ∷ 48 ∷ 48 ∷ 48 ∷ 48 ∷ 48 ∷ 48 ∷ 48 ∷ 48 ∷ 44 ∷ 52 ∷ 46 ∷ 48 ∷ 48 ∷ 48 ∷ 48 ∷ 48 ∷ 48 ∷ 48 ∷ 48 ∷ 93 ∷
    44 ∷ 34 ∷ 108 ∷ 101 ∷ 102 ∷ 116 ∷ 95 ∷ 109 ∷ 105 ∷ 100 ∷ 100 ∷ 108 ∷ 101 ∷ 34 ∷ 58 ∷ 110 ∷ 117 ∷ 108 ∷ 108 ∷ 44 ∷ 34 ∷ 108 ∷
    101 ∷ 102 ∷ 116 ∷ 95 ∷ 114 ∷ 101 ∷ 97 ∷ 114 ∷ 34 ∷ 58 ∷ 110 ∷ 117 ∷ 108 ∷ 108 ∷ 44 ∷ 34 ∷ 114 ∷ 105 ∷ 103 ∷ 104 ∷ 116 ∷ 95 ∷
    102 ∷ 114 ∷ 111 ∷ 110 ∷ 116 ∷ 34 ∷ 58 ∷ 110 ∷ 117 ∷ 108 ∷ 108 ∷ 44 ∷ 34 ∷ 114 ∷ 105 ∷ 103 ∷ 104 ∷ 116 ∷ 95 ∷ 109 ∷ 105 ∷ 100 ∷
    100 ∷ 108 ∷ 101 ∷ 34 ∷ 58 ∷ 110 ∷ 117 ∷ 108 ∷ 108 ∷ 44 ∷ 34 ∷ 114 ∷ 105 ∷ 103 ∷ 104 ∷ 116 ∷ 95 ∷ 114 ∷ 101 ∷ 97 ∷ 114 ∷ 34 ∷ 58
    ∷ 110 ∷ 117 ∷ 108 ∷ 108 ∷ 125 ∷ []

is_written : pose_text one_foot ≡ one_foot_text
unfolding one_foot_text pose_text named_text point_text number_text parts_text parted digit numeral written_as nearest_whole mag of_bits
    to_bits
is_written = refl

is_read : from_json_told one_foot_text ≡ given_pose one_foot
unfolding one_foot_text read_told reading found found_from member_at value_at null_at three_at number_at amount_at run_of name_end closing
    char_long
    escaped wide blanks leg_named same all_inside times all_known value_from read_as round permitted_point foot_limit over minus le
    given_pose
    of_bits
is_read = refl

-- {}
abbrev no_names : List ℕ
no_names =
    123 ∷ 125 ∷ []

-- {"x":[9,9,9]}
abbrev unknown_outside : List ℕ
unknown_outside =
    123 ∷ 34 ∷ 120 ∷ 34 ∷ 58 ∷ 91 ∷ 57 ∷ 44 ∷ 57 ∷ 44 ∷ 57 ∷ 93 ∷ 125 ∷ []

-- {"x":[1,1,1]}
abbrev unknown : List ℕ
unknown =
    123 ∷ 34 ∷ 120 ∷ 34 ∷ 58 ∷ 91 ∷ 49 ∷ 44 ∷ 49 ∷ 44 ∷ 49 ∷ 93 ∷ 125 ∷ []

-- {"x":[9,9,9],}
abbrev outside_and_a_comma : List ℕ
outside_and_a_comma =
    123 ∷ 34 ∷ 120 ∷ 34 ∷ 58 ∷ 91 ∷ 57 ∷ 44 ∷ 57 ∷ 44 ∷ 57 ∷ 93 ∷ 44 ∷ 125 ∷ []

-- {"x":[4.00000024,0,0]}
abbrev above_four : List ℕ
above_four =
    123 ∷ 34 ∷ 120 ∷ 34 ∷ 58 ∷ 91 ∷ 52 ∷ 46 ∷ 48 ∷ 48 ∷ 48 ∷ 48 ∷ 48 ∷ 48 ∷ 50 ∷ 52 ∷ 44 ∷ 48 ∷ 44 ∷ 48 ∷ 93 ∷ 125 ∷ []

-- {"x":[4.00000023,0,0]}
abbrev as_good_as_four : List ℕ
as_good_as_four =
    123 ∷ 34 ∷ 120 ∷ 34 ∷ 58 ∷ 91 ∷ 52 ∷ 46 ∷ 48 ∷ 48 ∷ 48 ∷ 48 ∷ 48 ∷ 48 ∷ 50 ∷ 51 ∷ 44 ∷ 48 ∷ 44 ∷ 48 ∷ 93 ∷ 125 ∷ []

in_order :
    (from_json_told no_names ≡ refused 14)
    × (from_json_told unknown_outside ≡ refused 2)
    × (from_json_told unknown ≡ refused 14)
    × (from_json_told outside_and_a_comma ≡ refused 13)
    × (from_json_told above_four ≡ refused 2)
    × (from_json_told as_good_as_four ≡ refused 14)
unfolding read_told reading found found_from member_at value_at null_at three_at number_at amount_at run_of name_end closing char_long
    escaped wide
    blanks leg_named same all_inside times all_known value_from read_as round permitted_point foot_limit over minus le
in_order = (refl, refl, refl, refl, refl, refl)

-- the six names, each with null
abbrev null_for : Leg → Member
null_for l = record { name = name_of l; value = null }

names_refused : (members_refused (map null_for fields) ≡ 0) × (members_refused (map null_for fields ++ (null_for left_rear ∷ [])) ≡ 14)
unfolding all_inside all_known times leg_named same
names_refused = (refl, refl)
