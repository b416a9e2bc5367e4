-- What a walk answers: document 01's number and values for each case, its refusals, and what its entries tell.
use Rattle.std.specs.Prelude.{◌≡◌, ℕ, [], ◌∷◌, Result}
use Rattle.std.specs.Prelude.{Float}
use Rattle.numbers.specs.Told.{Told, given, answer}
use Rattle.numbers.specs.Answers.{told_by}
use Rattle.numbers.specs.declared.refusal.Refusal.{Refusal}
use Rattle.numbers.specs.Limits.{walk_foot, walk_move}
use Rattle.legs.specs.Legs.{finite_point, permitted_point, finite_feet, permitted_feet}
use Rattle.legs.specs.declared.Point.{Point}
use Rattle.legs.specs.Legs.{Feet}
use Rattle.moves.specs.Refusals.{refusal_by}

-- the mark is the count
abbrev pub given_count : ℕ → Told
given_count k = given (k ∷ []) []

abbrev pub told : Result ℕ Refusal → Told
told r = told_by given_count r

-- 1: a float is NaN or infinite; 2: one is outside the table's rows for a walk
unfoldable pub walk_refusal : Float → Point → Point → ℕ
walk_refusal m s t = refusal_by finite_point (permitted_point walk_foot) walk_move s t m

unfoldable pub walk_feet_refusal : Float → Feet → Feet → ℕ
walk_feet_refusal m s t = refusal_by finite_feet (permitted_feet walk_foot) walk_move s t m

-- refused with n, or where n is 0 a count that is as P says
abbrev pub Counts : ℕ → (ℕ → Type 0) → Told → Type 0
Counts n P u = (k : ℕ) × (u ≡ answer n (given_count k)) × (n ≡ 0 → P k)
