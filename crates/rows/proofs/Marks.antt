-- What an update does to each leg, point and mark apart: a flagged leg takes the lent point and the lent mark at its place, another keeps
-- both of its own. Assumes nothing.
use Rattle.std.specs.Prelude.{◌≡◌, ℕ, List, get_or}
use mathlib.Core.Path.{ap, ◌∙◌}
use Rattle.numbers.specs.Told.{choose}
use Rattle.legs.specs.Legs.{Leg, foot, lifted, whole, nowhere}
use Rattle.legs.specs.Masks.{has}
use Rattle.legs.specs.Update.{place, updated}
use Rattle.legs.specs.declared.Foot.{Foot}
use Rattle.legs.specs.Legs.{Feet}
use Rattle.legs.proofs.Laws.{whole_of_feet}
use Rattle.legs.proofs.Marks.{of_chosen}

-- a foot is chosen as a whole
whole_of_update : (f : Feet) (ps : List Foot) (m : ℕ) (l : Leg)
    → whole (updated f ps m) l ≡ choose (has m l) (get_or ps (place m l) nowhere) (whole f l)
unfolding updated
whole_of_update f ps m l = whole_of_feet (λ k. choose (has m k) (get_or ps (place m k) nowhere) (whole f k)) l

pub marks_of_update : (f : Feet) (ps : List Foot) (m : ℕ) (l : Leg)
    → lifted (updated f ps m) l ≡ choose (has m l) (get_or ps (place m l) nowhere).lifted (lifted f l)
marks_of_update f ps m l =
    ap (λ (g : Foot). g.lifted) (whole_of_update f ps m l)
    ∙ of_chosen (λ (g : Foot). g.lifted) (has m l) (get_or ps (place m l) nowhere) (whole f l)

pub points_of_update : (f : Feet) (ps : List Foot) (m : ℕ) (l : Leg)
    → foot (updated f ps m) l ≡ choose (has m l) (get_or ps (place m l) nowhere).point (foot f l)
points_of_update f ps m l =
    ap (λ (g : Foot). g.point) (whole_of_update f ps m l)
    ∙ of_chosen (λ (g : Foot). g.point) (has m l) (get_or ps (place m l) nowhere) (whole f l)
