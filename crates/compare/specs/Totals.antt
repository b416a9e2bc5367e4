-- Request K1: "The total is exactly the number of positions at which the lines differ, and a line present on one side alone counts once."
-- Counted here by itself, position by position and line by line, for the laws.
use Rattle.std.specs.Prelude.{ℕ, zero, suc, ◌+◌, ◌-◌, max, Bool, true, false, ◌||◌, List, [], ◌∷◌, eqb, length, get_or}
use Rattle.numbers.specs.Told.{choose}
use Rattle.lines.specs.Carry.{input_lines}
use Rattle.lines.specs.declared.compared.Told.{Told}
use Rattle.lines.specs.declared.compared.Told.TheVariants as told
use Rattle.compare.specs.Rule.{Row, none, same_row}

-- whether the files differ behind the first j lines: 1 where they do
abbrev pub differ_after : List Row → List Row → ℕ → ℕ
differ_after bench office j = choose (same_row (get_or bench j none) (get_or office j none)) 0 1

-- at how many of the m positions behind the first j
unfoldable pub differing : List Row → List Row → ℕ → ℕ → ℕ
differing bench office j zero = 0
differing bench office j (suc m) = differ_after bench office j + differing bench office (suc j) m

-- at how many from position 2 to the end of the longer file
abbrev pub all_differing : List Row → List Row → ℕ
all_differing bench office = differing bench office 1 (max (length bench) (length office) - 1)

-- how many lines of a text begin with `D`
unfoldable pub count_d : List (List ℕ) → ℕ
count_d [] = 0
count_d (l ∷ ls) = choose (eqb (get_or l 0 0) 68) 1 0 + count_d ls

abbrev pub lines_d : List ℕ → ℕ
lines_d text = count_d (input_lines text)

-- whether something is refused
abbrev pub is_refusal : Told → Bool
is_refusal told.Same = false
is_refusal (told.Differs position) = false
is_refusal (told.Moves both) = false
is_refusal (told.Refused position) = true
is_refusal (told.Total total) = false

unfoldable pub refuses : List Told → Bool
refuses [] = false
refuses (t ∷ ts) = is_refusal t || refuses ts
