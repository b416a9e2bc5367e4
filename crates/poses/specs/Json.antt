-- Request K7: "an object of six names, each with a list of three numbers or null. Read and write such objects by RFC 8259". The grammar,
-- rule by rule, as a relation between the bytes of a text and its members. A rule is a language: which texts it derives.
use Rattle.std.specs.Prelude.{◌≡◌, ℕ, ◌+◌, ◌-◌, ◌*◌, ◌/◌, ◌%◌, ◌^◌, ◌≤◌, Bool, true, false, not, ◌&&◌, ◌||◌, T, List, [], ◌∷◌, ◌++◌, length}
use Rattle.std.specs.Prelude.{◌==◌, nat_le, nat_lt}
use Rattle.numbers.specs.Told.{choose}

-- ---- what a text says: a list of members, each a name, by its bytes between the quotes, and null or three numbers
-- a number: whether the minus stands, and its value without it in hundred-millionths
pub record Number : Type 0 where
  pub minus : Bool
  pub parts : ℕ

pub data Value : Type 0 where
  null : Value
  three : Number → Number → Number → Value

pub record Member : Type 0 where
  pub name : List ℕ
  pub value : Value

-- ---- languages: a text of one rule and behind it one of the other; a word; a byte
abbrev pub Language : Type 1
Language = List ℕ → Type 0

infixr 5 ◌then◌
abbrev pub ◌then◌ : Language → Language → Language
◌then◌ P Q s = (a : List ℕ) × (b : List ℕ) × (s ≡ a ++ b) × P a × Q b

abbrev pub word : List ℕ → Language
word w s = s ≡ w

abbrev pub one : ℕ → Language
one b = word (b ∷ [])

-- ---- ws = any number of blank, tab, newline, return
abbrev pub is_blank : ℕ → Bool
is_blank b = b == 32 || b == 9 || b == 10 || b == 13

abbrev pub ws : Language
ws [] = Unit
ws (b ∷ s) = T (is_blank b) × ws s

-- ---- number = ["-"] digit [ "." 1*8 digit ]
abbrev pub is_digit : ℕ → Bool
is_digit b = nat_le 48 b && nat_le b 57

abbrev pub digits : Language
digits [] = Unit
digits (b ∷ s) = T (is_digit b) × digits s

-- digits behind a number
unfoldable pub digits_from : ℕ → List ℕ → ℕ
digits_from n [] = n
digits_from n (b ∷ s) = digits_from (n * 10 + (b - 48)) s

abbrev pub sign : Bool → Language
sign true = one 45
sign false = word []

-- the point and the digits behind it, or nothing
abbrev pub pointed : List ℕ → List ℕ
pointed [] = []
pointed (b ∷ s) = 46 ∷ b ∷ s

pub record Amount (parts : ℕ) (s : List ℕ) : Type 0 where
  pub first : ℕ
  pub more : List ℕ
  pub first_digit : T (is_digit first)
  pub more_digits : digits more
  pub at_most_eight : length more ≤ 8
  pub bytes : s ≡ first ∷ pointed more
  pub value : parts ≡ digits_from (first - 48) more * 10 ^ (8 - length more)

abbrev pub number : Number → Language
number x = sign x.minus then Amount x.parts

-- ---- value = "null" / "[" ws number ws "," ws number ws "," ws number ws "]"
-- null
abbrev pub null_word : List ℕ
null_word = 110 ∷ 117 ∷ 108 ∷ 108 ∷ []

abbrev pub value : Value → Language
value null = word null_word
value (three x y z) =
    one 91 then ws then number x then ws then one 44 then ws then number y then ws then one 44 then ws then number z then ws then one 93

-- ---- char = any character of UTF-8 but quote, backslash and those below 20
--           / backslash ( quote / backslash / "/" / "b" / "f" / "n" / "r" / "t" / "u" and four hex digits, either case )
pub data Char : Type 0 where
  plain : ℕ → Char
  escape : ℕ → Char
  unicode : ℕ → ℕ → ℕ → ℕ → Char

-- RFC 3629: the bytes of a character's number
abbrev pub tail : ℕ → ℕ
tail n = 128 + n % 64

unfoldable pub utf8 : ℕ → List ℕ
utf8 n =
    choose (nat_lt n 128) (n ∷ [])
    (choose (nat_lt n 2048) ((192 + n / 64) ∷ tail n ∷ [])
    (choose (nat_lt n 65536) ((224 + n / 4096) ∷ tail (n / 64) ∷ tail n ∷ [])
    ((240 + n / 262144) ∷ tail (n / 4096) ∷ tail (n / 64) ∷ tail n ∷ [])))

-- a character's number: up to 10ffff, and no surrogate (d800 to dfff)
abbrev pub is_character : ℕ → Bool
is_character n = nat_le n 1114111 && not (nat_le 55296 n && nat_le n 57343)

abbrev pub is_plain : ℕ → Bool
is_plain n = is_character n && nat_le 32 n && not (n == 34) && not (n == 92)

abbrev pub is_escape : ℕ → Bool
is_escape b = b == 34 || b == 92 || b == 47 || b == 98 || b == 102 || b == 110 || b == 114 || b == 116

abbrev pub is_hex : ℕ → Bool
is_hex b = is_digit b || (nat_le 65 b && nat_le b 70) || (nat_le 97 b && nat_le b 102)

abbrev pub char_bytes : Char → List ℕ
char_bytes (plain n) = utf8 n
char_bytes (escape b) = 92 ∷ b ∷ []
char_bytes (unicode a b c d) = 92 ∷ 117 ∷ a ∷ b ∷ c ∷ d ∷ []

abbrev pub is_char : Char → Bool
is_char (plain n) = is_plain n
is_char (escape b) = is_escape b
is_char (unicode a b c d) = is_hex a && is_hex b && is_hex c && is_hex d

-- ---- name = quote *char quote
unfoldable pub spelled : List Char → List ℕ
spelled [] = []
spelled (c ∷ cs) = char_bytes c ++ spelled cs

abbrev pub AreChars : List Char → Type 0
AreChars [] = Unit
AreChars (c ∷ cs) = T (is_char c) × AreChars cs

abbrev pub chars : Language
chars s = (cs : List Char) × (s ≡ spelled cs) × AreChars cs

abbrev pub quoted : List ℕ → Language
quoted bytes s = chars bytes × (s ≡ 34 ∷ (bytes ++ (34 ∷ [])))

-- ---- member = name ws ":" ws value
abbrev pub member : Member → Language
member m = quoted m.name then ws then one 58 then ws then value m.value

-- ---- text = ws "{" ws [ member *( ws "," ws member ) ws ] "}" ws
abbrev pub members : Member → List Member → Language
members m [] = member m
members m (n ∷ ms) = member m then ws then one 44 then ws then members n ms

abbrev pub inside : List Member → Language
inside [] = word []
inside (m ∷ ms) = members m ms then ws

abbrev pub Text : List Member → Language
Text ms = ws then one 123 then ws then inside ms then one 125 then ws
