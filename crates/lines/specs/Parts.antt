-- How ours reads a line: by the places of its parts. (That a line is accepted exactly where it is the written form is proved.)
use Rattle.std.specs.Prelude.{ℕ, zero, suc, Bool, false, ◌&&◌, List, [], ◌∷◌, eqb, ltb, length, get_or, take, drop, Option, Some, None}
use Rattle.numbers.specs.Told.{choose}
use Rattle.lines.specs.Digits.{hex_of, count_of}
use Rattle.lines.specs.Fields.{tab}

-- what a field says: whether it is good, and its number
pub record Field : Type 0 where
  pub good : Bool
  pub bits : ℕ

-- the number, where the field is good
abbrev pub field_number : Field → Option ℕ
field_number f = choose f.good (Some f.bits) None

-- a tab and eight hex digits at the front of a text
unfoldable pub tabbed : List ℕ → Field
tabbed s = record { good = eqb (get_or s 0 0) tab && (hex_of 8 8 (take 8 (drop 1 s))).good; bits = (hex_of 8 8 (take 8 (drop 1 s))).value }

-- k of them, one behind the other
unfoldable pub tabbeds : ℕ → List ℕ → List Field
tabbeds zero s = []
tabbeds (suc k) s = tabbed s ∷ tabbeds k (drop 9 s)

-- all good, and a test before them
unfoldable pub all_good : Bool → List Field → Bool
all_good t [] = t
all_good t (f ∷ fs) = all_good (t && f.good) fs

unfoldable pub bits_of : List Field → List ℕ
bits_of [] = []
bits_of (f ∷ fs) = f.bits ∷ bits_of fs

abbrev pub no_field : Field
no_field = record { good = false; bits = 0 }

-- any letter, a tab, a count
unfoldable pub short_of : ℕ → List ℕ → Field
short_of limit s =
    choose (ltb (length s) 2) no_field
    (record { good = eqb (get_or s 1 0) tab && (count_of limit (drop 2 s)).good; bits = (count_of limit (drop 2 s)).value })
