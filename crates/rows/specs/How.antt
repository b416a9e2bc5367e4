-- How ours reads a lent row: the first six feet, and what is left to refuse by the number of feet. Nothing here is document 01's.
use Rattle.std.specs.Prelude.{ℕ, ◌-◌, List, [], ◌∷◌, ◌++◌, length, take, replicate, ◌==◌, count_ones, nat_lt}
use Rattle.numbers.specs.Door.{unless, when, first_of}
use Rattle.numbers.specs.Limits.{mask_to}
use Rattle.legs.specs.Legs.{unused}
use Rattle.legs.specs.declared.Foot.{Foot}

-- six places that begin with these feet, six at most
abbrev pub in_six : List Foot → List Foot
in_six ps = ps ++ replicate (6 - length ps) unused

-- the first six feet of a row, +0 and standing where there are fewer
abbrev pub first_six : List Foot → List Foot
first_six ps = in_six (take 6 ps)

-- what is left to refuse where all floats may come in, by the number of feet: 4, or 5
abbrev pub count_refusal : ℕ → ℕ → ℕ
count_refusal n m = first_of (when (nat_lt mask_to m) 4 ∷ unless (n == count_ones m) 5 ∷ [])
