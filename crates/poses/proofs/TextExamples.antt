-- Some texts, read by computation: such as the request's grammar derives, and such as it does not.
use Rattle.std.specs.Prelude.{◌≡◌, ℕ, Bool, true, false, List, [], ◌∷◌}
use mathlib.Core.Path.{refl}
use Rattle.poses.specs.Json.{Number, Value, null, three, Member}
use Rattle.poses.specs.How.{derived, underived, reading, found, found_from, member_at, value_at, null_at, three_at, number_at}
use Rattle.poses.specs.How.{amount_at, run_of, name_end, closing, char_long, escaped, wide, blanks}

-- {"a": and what follows
abbrev a_is : List ℕ → List ℕ
a_is t = 123 ∷ 34 ∷ 97 ∷ 34 ∷ 58 ∷ t

abbrev parts_of : Bool → ℕ → Number
parts_of minus n = record { minus = minus; parts = n }

abbrev one_member : Value → List Member
one_member v = record { name = 97 ∷ []; value = v } ∷ []

-- ---- derived
-- {}
abbrev no_members : List ℕ
no_members = 123 ∷ 125 ∷ []

-- {"a":null}
abbrev one_null : List ℕ
one_null = a_is (110 ∷ 117 ∷ 108 ∷ 108 ∷ 125 ∷ [])

-- {"a":[1,-0.5,2] }
abbrev three_numbers : List ℕ
three_numbers = a_is (91 ∷ 49 ∷ 44 ∷ 45 ∷ 48 ∷ 46 ∷ 53 ∷ 44 ∷ 50 ∷ 93 ∷ 32 ∷ 125 ∷ [])

-- {"a":null}, a blank and a newline
abbrev blanks_behind : List ℕ
blanks_behind = a_is (110 ∷ 117 ∷ 108 ∷ 108 ∷ 125 ∷ 32 ∷ 10 ∷ [])

are_derived :
    (reading no_members ≡ derived [])
    × (reading one_null ≡ derived (one_member null))
    × (reading blanks_behind ≡ derived (one_member null))
    × (reading three_numbers ≡ derived (one_member (three (parts_of false 100000000) (parts_of true 50000000) (parts_of false 200000000))))
unfolding reading found found_from member_at value_at null_at three_at number_at amount_at run_of name_end closing char_long escaped wide
    blanks
are_derived = (refl, refl, refl, refl)

-- ---- not derived
-- no byte at all
abbrev no_bytes : List ℕ
no_bytes = []

-- []
abbrev no_object : List ℕ
no_object = 91 ∷ 93 ∷ []

-- {"a":null,}
abbrev comma_behind_the_last : List ℕ
comma_behind_the_last = a_is (110 ∷ 117 ∷ 108 ∷ 108 ∷ 44 ∷ 125 ∷ [])

-- {"a":[1,2]}
abbrev two_numbers : List ℕ
two_numbers = a_is (91 ∷ 49 ∷ 44 ∷ 50 ∷ 93 ∷ 125 ∷ [])

-- {"a":[1.,2,3]}
abbrev no_digit_behind_the_point : List ℕ
no_digit_behind_the_point = a_is (91 ∷ 49 ∷ 46 ∷ 44 ∷ 50 ∷ 44 ∷ 51 ∷ 93 ∷ 125 ∷ [])

-- {"a":[01,2,3]}
abbrev two_digits_before_the_point : List ℕ
two_digits_before_the_point = a_is (91 ∷ 48 ∷ 49 ∷ 44 ∷ 50 ∷ 44 ∷ 51 ∷ 93 ∷ 125 ∷ [])

-- {"a":[1.123456789,2,3]}
abbrev nine_decimals : List ℕ
nine_decimals = a_is (91 ∷ 49 ∷ 46 ∷ 49 ∷ 50 ∷ 51 ∷ 52 ∷ 53 ∷ 54 ∷ 55 ∷ 56 ∷ 57 ∷ 44 ∷ 50 ∷ 44 ∷ 51 ∷ 93 ∷ 125 ∷ [])

-- {"a":null}{}
abbrev two_objects : List ℕ
two_objects = a_is (110 ∷ 117 ∷ 108 ∷ 108 ∷ 125 ∷ 123 ∷ 125 ∷ [])

-- a byte order mark, then {}
abbrev byte_order_mark : List ℕ
byte_order_mark = 239 ∷ 187 ∷ 191 ∷ 123 ∷ 125 ∷ []

-- null under a name of a and a newline, which is not escaped
abbrev newline_in_the_name : List ℕ
newline_in_the_name = 123 ∷ 34 ∷ 97 ∷ 10 ∷ 34 ∷ 58 ∷ 110 ∷ 117 ∷ 108 ∷ 108 ∷ 125 ∷ []

-- null under a name of the three bytes that would be d800, a surrogate
abbrev surrogate_in_the_name : List ℕ
surrogate_in_the_name = 123 ∷ 34 ∷ 237 ∷ 160 ∷ 128 ∷ 34 ∷ 58 ∷ 110 ∷ 117 ∷ 108 ∷ 108 ∷ 125 ∷ []

are_underived :
    (reading no_bytes ≡ underived)
    × (reading no_object ≡ underived)
    × (reading comma_behind_the_last ≡ underived)
    × (reading two_numbers ≡ underived)
    × (reading no_digit_behind_the_point ≡ underived)
    × (reading two_digits_before_the_point ≡ underived)
    × (reading nine_decimals ≡ underived)
    × (reading two_objects ≡ underived)
    × (reading byte_order_mark ≡ underived)
    × (reading newline_in_the_name ≡ underived)
    × (reading surrogate_in_the_name ≡ underived)
unfolding reading found found_from member_at value_at null_at three_at number_at amount_at run_of name_end closing char_long escaped wide
    blanks
are_underived = (refl, refl, refl, refl, refl, refl, refl, refl, refl, refl, refl)
