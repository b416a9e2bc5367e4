-- How ours reads a text, by places; nothing of the request. (That it reads members exactly where the grammar derives the text with them is
-- proved.) A place past the text's end is nowhere: no byte stands there, so that nothing is found from there on.
use Rattle.std.specs.Prelude.{ℕ, zero, suc, ◌+◌, ◌-◌, ◌*◌, ◌^◌, Bool, true, false, ◌&&◌, List, [], ◌∷◌, length, take, drop, ◌==◌, nat_le}
use Rattle.std.specs.Prelude.{nat_lt, slice_index}
use Rattle.numbers.specs.Told.{choose}
use Rattle.poses.specs.Json.{Number, Value, null, three, Member, is_blank, is_digit, is_escape, is_hex}

-- the byte at a place, 0 where there is none; no rule has a 0
abbrev pub byte : List ℕ → ℕ → ℕ
byte s i = slice_index s i

abbrev pub nowhere : List ℕ → ℕ
nowhere s = suc (length s)

-- how many blanks lead a text; the place behind those from a place on
unfoldable pub blanks : List ℕ → ℕ
blanks [] = 0
blanks (b ∷ s) = choose (is_blank b) (suc (blanks s)) 0

abbrev pub past : List ℕ → ℕ → ℕ
past s i = i + blanks (drop i s)

-- the place behind the byte c, which is not 0; and behind the blanks after it
abbrev pub after : ℕ → List ℕ → ℕ → ℕ
after c s i = choose (byte s i == c) (i + 1) (nowhere s)

abbrev pub token : ℕ → List ℕ → ℕ → ℕ
token c s i = past s (after c s i)

-- ---- a number: its digits behind the point, at most so many
pub record Run : Type 0 where
  pub parts : ℕ
  pub taken : ℕ

unfoldable pub run_of : ℕ → ℕ → List ℕ → Run
run_of zero n s = record { parts = n; taken = 0 }
run_of (suc left) n [] = record { parts = n * 10 ^ suc left; taken = 0 }
run_of (suc left) n (b ∷ s) =
    choose (is_digit b)
    (record { parts = (run_of left (n * 10 + (b - 48)) s).parts; taken = suc (run_of left (n * 10 + (b - 48)) s).taken })
    (record { parts = n * 10 ^ suc left; taken = 0 })

pub record NumberAt : Type 0 where
  pub number : Number
  pub next : ℕ

abbrev pub number_to : Bool → ℕ → ℕ → NumberAt
number_to minus parts next = record { number = record { minus = minus; parts = parts }; next = next }

-- the digits of a number from its first on: what they say, and the place behind them
unfoldable pub amount_at : Bool → List ℕ → ℕ → NumberAt
unfolding run_of
amount_at minus s i =
    let n = byte s i - 48 in
    let run = run_of 8 n (drop (i + 2) s) in
    choose (is_digit (byte s i))
    (choose (byte s (i + 1) == 46)
    (choose (run.taken == 0) (number_to minus 0 (nowhere s)) (number_to minus run.parts (i + 2 + run.taken)))
    (number_to minus (n * 10 ^ 8) (i + 1)))
    (number_to minus 0 (nowhere s))

unfoldable pub number_at : List ℕ → ℕ → NumberAt
unfolding amount_at
number_at s i = choose (byte s i == 45) (amount_at true s (i + 1)) (amount_at false s i)

-- ---- a value
pub record ValueAt : Type 0 where
  pub value : Value
  pub next : ℕ

unfoldable pub null_at : List ℕ → ℕ → ValueAt
null_at s i = record { value = null; next = after 108 s (after 108 s (after 117 s (after 110 s i))) }

unfoldable pub three_at : List ℕ → ℕ → ValueAt
three_at s i =
    let x = number_at s (token 91 s i) in
    let y = number_at s (token 44 s (past s x.next)) in
    let z = number_at s (token 44 s (past s y.next)) in
    record { value = three x.number y.number z.number; next = after 93 s (past s z.next) }

unfoldable pub value_at : List ℕ → ℕ → ValueAt
unfolding null_at three_at
value_at s i = choose (byte s i == 110) (null_at s i) (three_at s i)

-- ---- a name: how many bytes the character at a text's front has, 0 where there is none that a name may have
abbrev pub between : ℕ → ℕ → ℕ → Bool
between low high b = nat_le low b && nat_le b high

abbrev pub is_tail : ℕ → Bool
is_tail b = between 128 191 b

abbrev pub many_where : Bool → ℕ → ℕ
many_where t n = choose t n 0

-- by its first bytes, RFC 3629's table
unfoldable pub escaped : ℕ → ℕ → ℕ → ℕ → ℕ → ℕ
escaped b c d e f = choose (b == 117) (many_where (is_hex c && is_hex d && is_hex e && is_hex f) 6) (many_where (is_escape b) 2)

unfoldable pub wide : ℕ → ℕ → ℕ → ℕ → ℕ
wide a b c d =
    choose (between 194 223 a) (many_where (is_tail b) 2)
    (choose (between 224 239 a)
    (many_where (between (choose (a == 224) 160 128) (choose (a == 237) 159 191) b && is_tail c) 3)
    (choose (between 240 244 a)
    (many_where (between (choose (a == 240) 144 128) (choose (a == 244) 143 191) b && is_tail c && is_tail d) 4) 0))

unfoldable pub char_long : List ℕ → ℕ
unfolding escaped wide
char_long s =
    let a = byte s 0 in
    choose (a == 92) (escaped (byte s 1) (byte s 2) (byte s 3) (byte s 4) (byte s 5))
    (choose (nat_lt a 128) (many_where (nat_le 32 a) 1) (wide a (byte s 1) (byte s 2) (byte s 3)))

-- how many bytes there are up to the closing quote, and it; 0 where none closes. So many bytes of a character are still to be passed
abbrev pub further : ℕ → ℕ
further zero = zero
further (suc n) = suc (suc n)

unfoldable pub closing : ℕ → List ℕ → ℕ
unfolding char_long
closing skip [] = 0
closing (suc skip) (b ∷ s) = further (closing skip s)
closing zero (b ∷ s) =
    choose (b == 34) 1
    (choose (char_long (b ∷ s) == 0) 0 (further (closing (char_long (b ∷ s) - 1) s)))

-- the place behind the closing quote
unfoldable pub name_end : List ℕ → ℕ → ℕ
name_end s i = let n = closing 0 (drop i s) in choose (n == 0) (nowhere s) (i + n)

-- ---- a member, and the blanks behind it
pub record MemberAt : Type 0 where
  pub member : Member
  pub next : ℕ

unfoldable pub member_at : List ℕ → ℕ → MemberAt
member_at s i =
    let from = after 34 s i in
    let end = name_end s from in
    let v = value_at s (token 58 s (past s end)) in
    record { member = record { name = take (end - 1 - from) (drop from s); value = v.value }; next = past s v.next }

-- ---- members, so many at most, and what closes them
pub record Found : Type 0 where
  pub members : List Member
  pub next : ℕ

unfoldable pub found_from : ℕ → List ℕ → ℕ → Found
found_from zero s i = record { members = []; next = nowhere s }
found_from (suc most) s i =
    let m = member_at s i in
    let rest = found_from most s (token 44 s m.next) in
    choose (byte s m.next == 44)
    (record { members = m.member ∷ rest.members; next = rest.next })
    (record { members = m.member ∷ []; next = token 125 s m.next })

unfoldable pub found : List ℕ → Found
found s =
    let i = token 123 s (past s 0) in
    choose (byte s i == 125) (record { members = []; next = token 125 s i }) (found_from (length s) s i)

-- what a text is: its members, or nothing that the grammar derives
pub data Reading : Type 0 where
  derived : List Member → Reading
  underived : Reading

unfoldable pub reading : List ℕ → Reading
unfolding found
reading s = choose ((found s).next == length s) (derived (found s).members) underived
