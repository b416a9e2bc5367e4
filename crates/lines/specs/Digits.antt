-- Document 01, "The walk printer": "floats as eight lower-case hex digits of their bits", "Counts have one to five
-- decimal digits, no leading zero". How numbers are written, and how bytes are read as digits. How many digits a count may have is a
-- limit here, since it depends on the listing's version (request K9): specs/Lines has it.
use Rattle.std.specs.Prelude.{ℕ, zero, suc, ◌+◌, ◌-◌, ◌*◌, ◌/◌, ◌%◌, Bool, true, false, ◌&&◌, ◌||◌, not, List, [], ◌∷◌, ◌++◌, eqb, leb, ltb}
use Rattle.std.specs.Prelude.{length, get_or, Option, Some, None}
use Rattle.numbers.specs.Told.{choose}

-- the byte of a digit's value: 0 to 9, then a to f
unfoldable pub digit : ℕ → ℕ
digit d = choose (ltb d 10) (48 + d) (87 + d)

-- n in k digits of the base, the highest first
unfoldable pub numeral : ℕ → ℕ → ℕ → List ℕ
numeral base zero n = []
numeral base (suc k) n = numeral base k (n / base) ++ (digit (n % base) ∷ [])

-- eight lower-case hex digits
unfoldable pub hex : ℕ → List ℕ
hex n = numeral 16 8 n

-- n in decimal digits with no leading zero; `most` only bounds how many
unfoldable pub decimal_within : ℕ → ℕ → List ℕ
decimal_within zero n = []
decimal_within (suc most) n = choose (ltb n 10) (digit n ∷ []) (decimal_within most (n / 10) ++ (digit (n % 10) ∷ []))

-- a number n has no more than n + 1 digits
unfoldable pub decimal : ℕ → List ℕ
decimal n = decimal_within (suc n) n

-- the value of a byte as a digit; 16 where it is none
unfoldable pub value_of : ℕ → ℕ
value_of b = choose (leb 48 b && leb b 57) (b - 48) (choose (leb 97 b && leb b 102) (b - 87) 16)

-- what a run of bytes says as digits: whether it is good, and the number
pub record Digits : Type 0 where
  pub good : Bool
  pub value : ℕ

-- the number, where the bytes are good
abbrev pub number : Digits → Option ℕ
number d = choose d.good (Some d.value) None

-- the value of one byte as a digit, where it is one
abbrev pub digit_value : ℕ → Option ℕ
digit_value b = choose (ltb (value_of b) 16) (Some (value_of b)) None

-- bytes read as digits of the base: good where each is one, and their number
unfoldable pub push : ℕ → Digits → ℕ → Digits
push base a b = record { good = a.good && ltb (value_of b) base; value = a.value * base + value_of b % 16 }

unfoldable pub push_all : ℕ → Digits → List ℕ → Digits
push_all base a [] = a
push_all base a (b ∷ s) = push_all base (push base a b) s

abbrev pub nothing_yet : Digits
nothing_yet = record { good = true; value = 0 }

abbrev pub read_in : ℕ → List ℕ → Digits
read_in base s = push_all base nothing_yet s

abbrev pub no_digits : Digits
no_digits = record { good = false; value = 0 }

-- from least to most lower-case hex digits, sixteen at most
unfoldable pub hex_of : ℕ → ℕ → List ℕ → Digits
hex_of least most s = choose (leb least (length s) && leb (length s) most && leb (length s) 16) (read_in 16 s) no_digits

-- no leading zero: one digit, or the first is not 0
abbrev pub leads : List ℕ → Bool
leads s = eqb (length s) 1 || not (eqb (get_or s 0 0) 48)

-- one to limit decimal digits (nine at most) with no leading zero
unfoldable pub count_of : ℕ → List ℕ → Digits
count_of limit s =
    choose (leb 1 (length s) && leb (length s) limit && leb (length s) 9)
    (record { good = (read_in 10 s).good && leads s; value = (read_in 10 s).value })
    no_digits
