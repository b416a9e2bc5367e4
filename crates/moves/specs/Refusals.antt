-- Document 01, "Numbered refusals", of a step and of a longest distance. 1: a float is NaN or infinite; 2: one is outside the table.
use Rattle.std.specs.Prelude.{ℕ, Bool, ◌&&◌, [], ◌∷◌}
use Rattle.std.specs.Prelude.{Float}
use Rattle.numbers.specs.Door.{finite, permits, unless, first_of}
use Rattle.numbers.specs.Limits.{foot_limit, max_move}
use Rattle.numbers.specs.declared.door.Limit.{Limit}
use Rattle.legs.specs.Legs.{finite_point, permitted_point, finite_feet, permitted_feet}
use Rattle.legs.specs.declared.Point.{Point}
use Rattle.legs.specs.Legs.{Feet}

-- from where, to where, and by how much at most: the places are points or six feet, with their two tests; the third goes by its row
abbrev pub refusal_by : {Place : Type 0} → (Place → Bool) → (Place → Bool) → Limit → Place → Place → Float → ℕ
refusal_by are_finite are_permitted row l t m =
    first_of
    (unless (are_finite l && are_finite t && finite m) 1
    ∷ unless (are_permitted l && are_permitted t && permits row m) 2
    ∷ [])

unfoldable pub move_refusal : Point → Point → Float → ℕ
move_refusal = refusal_by finite_point (permitted_point foot_limit) max_move

unfoldable pub move_feet_refusal : Feet → Feet → Float → ℕ
move_feet_refusal = refusal_by finite_feet (permitted_feet foot_limit) max_move

unfoldable pub longest_refusal : Feet → Feet → ℕ
longest_refusal a b =
    first_of
    (unless (finite_feet a && finite_feet b) 1
    ∷ unless (permitted_feet foot_limit a && permitted_feet foot_limit b) 2
    ∷ [])
