-- What is told of an answer on feet can be read back, marks and floats together, so telling loses nothing and no second answer fits a
-- contract stated by it.
use Rattle.std.specs.Prelude.{◌≡◌, ℕ, ◌+◌, Bool, eqb, List, [], ◌∷◌, ◌++◌, get_or, drop, Result}
use mathlib.Core.Path.{refl, sym, ap, ap₂, fun_ext, ◌∙◌}
use lib.Ieee.{Float, nan}
use Rattle.numbers.specs.Told.{Told, mark}
use Rattle.numbers.proofs.OneAnswer.{flag_of_mark, told_by_loses_nothing}
use Rattle.legs.specs.Legs.{Leg, row, points, foot, lifted, marked, coordinates, values}
use Rattle.legs.specs.Answers.{lifts, given_feet, told, marks_of, spot, places, given_row, told_selected}
use Rattle.legs.specs.declared.Point.{Point}
use Rattle.legs.specs.declared.Foot.{Foot}
use Rattle.legs.specs.Legs.{Feet}
use Rattle.legs.specs.declared.RowOfSix.{RowOfSix}
use Rattle.numbers.specs.declared.refusal.Refusal.{Refusal}

-- ---- a point, a foot and six feet, from a place among the marks and one among the floats on
abbrev pub point_at : List Float → ℕ → Point
point_at xs k = record { x = get_or xs k nan; y = get_or xs (k + 1) nan; z = get_or xs (k + 2) nan }

abbrev pub foot_at : List ℕ → ℕ → List Float → ℕ → Foot
foot_at ks i xs k = record { point = point_at xs k; lifted = eqb (get_or ks i 0) 1 }

abbrev pub feet_at : List ℕ → ℕ → List Float → ℕ → Feet
feet_at ks i xs k =
    record {
      left_front = foot_at ks i xs k;
      right_front = foot_at ks (i + 1) xs (k + 3);
      left_middle = foot_at ks (i + 2) xs (k + 6);
      right_middle = foot_at ks (i + 3) xs (k + 9);
      left_rear = foot_at ks (i + 4) xs (k + 12);
      right_rear = foot_at ks (i + 5) xs (k + 15);
    }

-- six feet are settled by their points and by what their marks tell
pub marks_back : (f : Feet) → marked (λ l. eqb (mark (lifted f l)) 1) (points f) ≡ f
marks_back f = ap (λ (b : Leg → Bool). marked b (points f)) (fun_ext (λ l. flag_of_mark (lifted f l)))

feet_back : (f : Feet) → feet_at (lifts f) 0 (values coordinates (row (foot f))) 0 ≡ f
feet_back f = marks_back f

pub feet_from_told : (f g : Feet) → lifts f ≡ lifts g → values coordinates (row (foot f)) ≡ values coordinates (row (foot g)) → f ≡ g
feet_from_told f g m v = sym (feet_back f) ∙ ap₂ (λ (ks : List ℕ) (xs : List Float). feet_at ks 0 xs 0) m v ∙ feet_back g

pub told_loses_nothing : (a b : Result Feet Refusal) → told a ≡ told b → a ≡ b
told_loses_nothing =
    told_by_loses_nothing given_feet
    (λ f g e. feet_from_told f g (ap (λ (t : Told). t.marks) e) (ap (λ (t : Told). t.values) e))
    (λ f. refl)

-- ---- a row of six is settled by its length and its places
foot_back : (p : Foot) → foot_at (mark p.lifted ∷ []) 0 (coordinates p.point) 0 ≡ p
foot_back p = ap (λ (b : Bool). record { point = p.point; lifted = b }) (flag_of_mark p.lifted)

-- a list of feet, from their marks and their floats
feet_of : List ℕ → List Float → List Foot
feet_of [] xs = []
feet_of (k ∷ ks) xs = foot_at (k ∷ []) 0 xs 0 ∷ feet_of ks (drop 3 xs)

feet_of_back : (ps : List Foot) → feet_of (marks_of ps) (values spot ps) ≡ ps
unfolding feet_of
feet_of_back [] = refl
feet_of_back (p ∷ ps) = simp (foot_back p, feet_of_back ps)

row_from_told : (s t : RowOfSix) → given_row s ≡ given_row t → s ≡ t
row_from_told s t e =
    let marks : s.len ∷ marks_of s.feet ≡ t.len ∷ marks_of t.feet = ap (λ (u : Told). u.marks) e in
    let floats : values spot s.feet ≡ values spot t.feet = ap (λ (u : Told). u.values) e in
    let len : s.len ≡ t.len = cc in
    let kept : marks_of s.feet ≡ marks_of t.feet = cc in
    let feet : s.feet ≡ t.feet = sym (feet_of_back s.feet) ∙ ap₂ feet_of kept floats ∙ feet_of_back t.feet in
    ap₂ (λ (n : ℕ) (ps : List Foot). record { len = n; feet = ps }) len feet

pub told_selected_loses_nothing : (a b : Result RowOfSix Refusal) → told_selected a ≡ told_selected b → a ≡ b
told_selected_loses_nothing = told_by_loses_nothing given_row row_from_told (λ s. refl)
