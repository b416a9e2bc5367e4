-- A merge takes point and mark together, and so does a selection. What a merge does with points is what it did before feet had marks.
-- Assumes nothing.
use Rattle.std.specs.Prelude.{◌≡◌, ℕ, Bool, true, false, [], ◌∷◌}
use mathlib.Core.Path.{refl, ap, ◌∙◌}
use Rattle.numbers.specs.Told.{choose}
use Rattle.legs.specs.Legs.{Leg, foot, lifted, whole, origin}
use Rattle.legs.specs.Flags.{lrl_tripod, rlr_tripod}
use Rattle.legs.specs.Answers.{lifts, given_row}
use Rattle.legs.specs.Select.{named, selected}
use Rattle.legs.specs.Masks.{has}
use Rattle.legs.specs.Merge.{merged}
use Rattle.legs.specs.declared.Foot.{Foot}
use Rattle.legs.specs.Legs.{Feet}
use Rattle.legs.proofs.Laws.{whole_of_feet}

-- what is read of the one of two that is chosen
pub of_chosen : {A B : Type 0} (read : A → B) (t : Bool) (p q : A) → read (choose t p q) ≡ choose t (read p) (read q)
of_chosen read true p q = refl
of_chosen read false p q = refl

module _ (a b : Feet) (m : ℕ) where
  foot_of_merge : (l : Leg) → whole (merged a b m) l ≡ choose (has m l) (whole b l) (whole a l)
  unfolding merged
  foot_of_merge = whole_of_feet (λ l. choose (has m l) (whole b l) (whole a l))

  pub marks_of_merge : (l : Leg) → lifted (merged a b m) l ≡ choose (has m l) (lifted b l) (lifted a l)
  marks_of_merge l =
      ap (λ (f : Foot). f.lifted) (foot_of_merge l)
      ∙ of_chosen (λ (f : Foot). f.lifted) (has m l) (whole b l) (whole a l)

  pub points_of_merge : (l : Leg) → foot (merged a b m) l ≡ choose (has m l) (foot b l) (foot a l)
  points_of_merge l =
      ap (λ (f : Foot). f.point) (foot_of_merge l)
      ∙ of_chosen (λ (f : Foot). f.point) (has m l) (whole b l) (whole a l)

-- ---- by computation: left front, right middle and left rear from b; and right front, left middle and right rear selected
abbrev at : Bool → Bool → Bool → Bool → Bool → Bool → Feet
at lf rf lm rm lr rr =
    record {
      left_front = record { point = origin; lifted = lf };
      left_middle = record { point = origin; lifted = lm };
      left_rear = record { point = origin; lifted = lr };
      right_front = record { point = origin; lifted = rf };
      right_middle = record { point = origin; lifted = rm };
      right_rear = record { point = origin; lifted = rr };
    }

pub marks_merged : lifts (merged (at false true false true false true) (at true false true false true false) lrl_tripod)
    ≡ 1 ∷ 1 ∷ 0 ∷ 0 ∷ 1 ∷ 1 ∷ []
unfolding merged
marks_merged = refl

pub marks_selected : (given_row (selected (at false true false false true true) rlr_tripod)).marks ≡ 3 ∷ 1 ∷ 0 ∷ 1 ∷ 0 ∷ 0 ∷ 0 ∷ []
unfolding selected named
marks_selected = refl
