-- Document 01: "`updated_from_selected_legs` takes a lent row of foot points, as many as legs selected, in that order."
-- Request K12: the row is of lent feet; a flagged leg takes the lent point and the lent mark. A mark is no number, so nothing is refused
-- for it.
use Rattle.std.specs.Prelude.{◌≡◌, ℕ, Bool, ◌&&◌, List, [], ◌∷◌, length, ◌==◌, count_ones, nat_lt, Result}
use Rattle.std.specs.List.{list_all}
use Rattle.numbers.specs.Told.{Told, answer}
use Rattle.numbers.specs.Door.{unless, when, first_of}
use Rattle.numbers.specs.Limits.{mask_to, foot_limit}
use Rattle.legs.specs.Legs.{finite_point, permitted_point, finite_feet, permitted_feet}
use Rattle.legs.specs.Answers.{told, given_feet}
use Rattle.legs.specs.Update.{updated}
use Rattle.legs.specs.declared.Point.{Point}
use Rattle.legs.specs.declared.Foot.{Foot}
use Rattle.legs.specs.Legs.{Feet}
use Rattle.numbers.specs.declared.refusal.Refusal.{Refusal}

-- whether the points of all feet of a row pass, whatever its length
abbrev pub every_point : (Point → Bool) → List Foot → Bool
every_point t ps = list_all (λ p. t p.point) ps

-- 1: a float is NaN or infinite; 2: one is outside the table; 4: the mask is above 63;
-- 5: "number of values differs from the number of one bits in the mask"
unfoldable pub update_refusal : Feet → List Foot → ℕ → ℕ
update_refusal f ps m =
    first_of
    (unless (finite_feet f && every_point finite_point ps) 1
    ∷ unless (permitted_feet foot_limit f && every_point (permitted_point foot_limit) ps) 2
    ∷ when (nat_lt mask_to m) 4
    ∷ unless (length ps == count_ones m) 5
    ∷ [])

unfoldable pub update_told : Feet → List Foot → ℕ → Told
update_told f ps m = answer (update_refusal f ps m) (given_feet (updated f ps m))

-- the promise of an update of these feet, by this lent row and mask: what its answer tells, and that the row holds after it
-- what it held ("every row .. that was lent holds what it held")
abbrev pub UpdateOf : Feet → List Foot → ℕ → Result Feet Refusal → List Foot → Type 0
UpdateOf f lent m r after = (told r ≡ update_told f lent m) × (after ≡ lent)
