-- Document 01's number and values for each case of an answer on feet. The marks of six feet, in row order, stand behind an answer's own.
use Rattle.std.specs.Prelude.{ℕ, List, [], ◌∷◌, Result}
use Rattle.std.specs.Prelude.{Float}
use Rattle.numbers.specs.Told.{Told, given, mark}
use Rattle.numbers.specs.Answers.{told_by}
use Rattle.legs.specs.Legs.{row, foot, lifted, coordinates, values}
use Rattle.legs.specs.declared.Foot.{Foot}
use Rattle.legs.specs.Legs.{Feet}
use Rattle.legs.specs.declared.RowOfSix.{RowOfSix}
use Rattle.numbers.specs.declared.refusal.Refusal.{Refusal}

-- six feet, in row order: their marks, 1 lifted and 0 standing, and their points' coordinates
abbrev pub lifts : Feet → List ℕ
lifts f = row (λ l. mark (lifted f l))

abbrev pub given_feet : Feet → Told
given_feet f = given (lifts f) (values coordinates (row (foot f)))

abbrev pub told : Result Feet Refusal → Told
told r = told_by given_feet r

-- a row of six: its length is the first mark, then all six places, used or not
abbrev pub places : RowOfSix → List Foot
places s = s.feet

abbrev pub marks_of : List Foot → List ℕ
marks_of [] = []
marks_of (p ∷ ps) = mark p.lifted ∷ marks_of ps

abbrev pub spot : Foot → List Float
spot p = coordinates p.point

abbrev pub given_row : RowOfSix → Told
given_row s = given (s.len ∷ marks_of (places s)) (values spot (places s))

abbrev pub told_selected : Result RowOfSix Refusal → Told
told_selected r = told_by given_row r
