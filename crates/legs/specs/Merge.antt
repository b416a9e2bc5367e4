-- Document 01: "`merge_with` takes exactly the flagged legs from the second set." Request K12: "Merging takes point and mark together".
use Rattle.std.specs.Prelude.{ℕ, Bool, ◌&&◌, List, [], ◌∷◌, nat_lt}
use Rattle.numbers.specs.Told.{Told, choose, answer}
use Rattle.numbers.specs.Door.{unless, when, first_of}
use Rattle.numbers.specs.Limits.{mask_to, foot_limit}
use Rattle.legs.specs.Legs.{whole, feet, finite_feet, permitted_feet}
use Rattle.legs.specs.Masks.{has}
use Rattle.legs.specs.Answers.{given_feet}
use Rattle.legs.specs.Legs.{Feet}

unfoldable pub merged : Feet → Feet → ℕ → Feet
merged a b m = feet (λ l. choose (has m l) (whole b l) (whole a l))

-- 1: a float is NaN or infinite; 2: one is outside the table; 4: the mask is above 63
unfoldable pub merge_refusal : Feet → Feet → ℕ → ℕ
merge_refusal a b m =
    first_of
    (unless (finite_feet a && finite_feet b) 1
    ∷ unless (permitted_feet foot_limit a && permitted_feet foot_limit b) 2
    ∷ when (nat_lt mask_to m) 4
    ∷ [])

unfoldable pub merge_told : Feet → Feet → ℕ → Told
merge_told a b m = answer (merge_refusal a b m) (given_feet (merged a b m))
