-- `told` loses nothing of an answer on joints, so no second answer fits a contract stated by it, and no case is told like another.
use Rattle.std.specs.Prelude.{◌≡◌, ℕ, suc, Bool, true, false, eqb, List, [], ◌∷◌, length, get_or, Result, Ok, Err, Option, Some, None}
use mathlib.Core.Path.{refl, sym, ap, ap₂, ◌∙◌}
use native.Mathlib.Omega.{arith}
use lib.Ieee.{Float, nan}
use borrow.Author.Tests.{eqb-true}
use Rattle.numbers.specs.Told.{Told, refused, choose}
use Rattle.numbers.specs.Refusals.{number_of}
use Rattle.numbers.specs.declared.refusal.Refusal.{Refusal}
use Rattle.numbers.proofs.Numbers.{a_refusal_has_a_number}
use Rattle.numbers.proofs.OneAnswer.{number_of_loses_nothing}
use Rattle.legs.specs.Legs.{Joints, row, angles, joints_of, values}
use Rattle.legs.specs.LegNumbers.{leg_number}
use Rattle.legs.specs.declared.leg.Leg.{Leg}
use Rattle.legs.specs.declared.leg.Leg.TheVariants.{LeftFront, RightFront, LeftMiddle, RightMiddle, LeftRear, RightRear}
use Rattle.joints.specs.Answers.{given_joints, leg_refused, refused_at, told_by, told}
use Rattle.joints.specs.declared.refusal.SolverRefusal.{SolverRefusal}

-- eighteen angles are settled by their floats
pub joints_from : List Float → Joints
joints_from xs =
    record {
      left_front = record { coxa = get_or xs 0 nan; femur = get_or xs 1 nan; tibia = get_or xs 2 nan };
      left_middle = record { coxa = get_or xs 6 nan; femur = get_or xs 7 nan; tibia = get_or xs 8 nan };
      left_rear = record { coxa = get_or xs 12 nan; femur = get_or xs 13 nan; tibia = get_or xs 14 nan };
      right_front = record { coxa = get_or xs 3 nan; femur = get_or xs 4 nan; tibia = get_or xs 5 nan };
      right_middle = record { coxa = get_or xs 9 nan; femur = get_or xs 10 nan; tibia = get_or xs 11 nan };
      right_rear = record { coxa = get_or xs 15 nan; femur = get_or xs 16 nan; tibia = get_or xs 17 nan };
    }

pub joints_back : (j : Joints) → joints_from (values joints_of (row (angles j))) ≡ j
unfolding joints_from
joints_back j = refl

pub joints_from_values : (i j : Joints) → values joints_of (row (angles i)) ≡ values joints_of (row (angles j)) → i ≡ j
joints_from_values i j e = sym (joints_back i) ∙ ap joints_from e ∙ joints_back j

pub floats : {t u : Told} → t ≡ u → t.values ≡ u.values
floats e = ap (λ (t : Told). t.values) e

pub marked : {t u : Told} → t ≡ u → t.marks ≡ u.marks
marked e = ap (λ (t : Told). t.marks) e

pub one_refusal : (n k m l : ℕ) → leg_refused n k ≡ leg_refused m l → (n ≡ m) × (k ≡ l)
one_refusal n k m l e =
    let v : k ∷ [] ≡ l ∷ [] = marked e in
    (ap (λ (t : Told). t.number) e, cc)

-- a leg is settled by its number
leg_at : ℕ → Leg
leg_at k = get_or (LeftFront ∷ RightFront ∷ LeftMiddle ∷ RightMiddle ∷ LeftRear ∷ RightRear ∷ []) k LeftFront

at_its_number : (l : Leg) → leg_at (leg_number l) ≡ l
unfolding leg_at
at_its_number LeftFront = refl
at_its_number RightFront = refl
at_its_number LeftMiddle = refl
at_its_number RightMiddle = refl
at_its_number LeftRear = refl
at_its_number RightRear = refl

pub leg_number_loses_nothing : (l m : Leg) → leg_number l ≡ leg_number m → l ≡ m
leg_number_loses_nothing l m e = sym (at_its_number l) ∙ ap leg_at e ∙ at_its_number m

-- a leg's mark tells the refusals that name one from those that name none
refusal_from_told : (r q : Refusal) (l m : Option Leg) → refused_at (number_of r) l ≡ refused_at (number_of q) m
    → ◌≡◌ {A = SolverRefusal} (record { refusal = r; leg = l }) (record { refusal = q; leg = m })
refusal_from_told r q None None e =
    ap (λ (p : Refusal). record { refusal = p; leg = None }) (number_of_loses_nothing r q (ap (λ (t : Told). t.number) e))
refusal_from_told r q None (Some m) e = let v : [] ≡ leg_number m ∷ [] = marked e in cc
refusal_from_told r q (Some l) None e = let v : leg_number l ∷ [] ≡ [] = marked e in cc
refusal_from_told r q (Some l) (Some m) e =
    let (n, k) = one_refusal (number_of r) (leg_number l) (number_of q) (leg_number m) e in
    ap₂ (λ (p : Refusal) (i : Leg). record { refusal = p; leg = Some i }) (number_of_loses_nothing r q n) (leg_number_loses_nothing l m k)

-- a refusal's number is not 0, whether it names a leg or not
pub refused_number : (n : ℕ) (l : Option Leg) → (refused_at n l).number ≡ n
refused_number n None = refl
refused_number n (Some l) = refl

-- what an answer tells settles it, where what its value says settles the value and is no refusal
pub told_by_loses_nothing :
    {A : Type 0} (say : A → Told) → ((a b : A) → say a ≡ say b → a ≡ b) → ((a : A) → (say a).number ≡ 0) →
    (a b : Result A SolverRefusal) → told_by say a ≡ told_by say b → a ≡ b
told_by_loses_nothing say settles taken (Ok a) (Ok b) e = ap Ok (settles a b e)
told_by_loses_nothing say settles taken (Ok a) (Err q) e =
    absurd
    (a_refusal_has_a_number q.refusal
    (sym (refused_number (number_of q.refusal) q.leg) ∙ sym (ap (λ (t : Told). t.number) e) ∙ taken a))
told_by_loses_nothing say settles taken (Err r) (Ok b) e =
    absurd
    (a_refusal_has_a_number r.refusal
    (sym (refused_number (number_of r.refusal) r.leg) ∙ ap (λ (t : Told). t.number) e ∙ taken b))
told_by_loses_nothing say settles taken (Err r) (Err q) e = ap Err (refusal_from_told r.refusal q.refusal r.leg q.leg e)

pub told_loses_nothing : (a b : Result Joints SolverRefusal) → told a ≡ told b → a ≡ b
told_loses_nothing = told_by_loses_nothing given_joints (λ i j e. joints_from_values i j (floats e)) (λ j. refl)

-- ---- no case is told like another
not_none : (n : ℕ) → suc n ≡ 0 → ⊥
not_none n h = omega (arith, h)

-- joints have floats, which no refusal has, and a leg's refusal has a mark
pub with_floats : (j : Joints) (t : Told) → t.values ≡ [] → given_joints j ≡ t → ⊥
with_floats j t none h = not_none 17 (ap length (floats h ∙ none))

pub with_a_mark : (n k : ℕ) (t : Told) → t.marks ≡ [] → leg_refused n k ≡ t → ⊥
with_a_mark n k t none h = not_none 0 (ap length (marked h ∙ none))

-- what is told and is no refusal of the door's, is said behind it
pub past_the_door :
    (t behind : Told) (n : ℕ) (b : Bool)
    → eqb n 0 ≡ b
    → (t ≡ refused n → ⊥)
    → t ≡ choose b behind (refused n)
    → (n ≡ 0) × (t ≡ behind)
past_the_door t behind n true e other h = (eqb-true n 0 e, h)
past_the_door t behind n false e other h = absurd (other h)
