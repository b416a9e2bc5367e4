-- What is told of an answer on moves loses nothing of it, so no second answer fits a contract stated by it. What is told of a place, be it
-- a point or six feet, can be read off the front of what is told; so a step's and a state's can, whatever moves.
use Rattle.std.specs.Prelude.{◌≡◌, ℕ, List, [], ◌∷◌, ◌++◌, get_or, take, drop, Option, Some, None, Result}
use mathlib.Core.Path.{refl, sym, ap, ap₂, ◌∙◌}
use native.Mathlib.Omega.{arith}
use lib.Ieee.{Float, nan}
use Rattle.numbers.specs.Told.{Told}
use Rattle.numbers.specs.declared.refusal.Refusal.{Refusal}
use Rattle.numbers.proofs.OneAnswer.{told_by_loses_nothing}
use Rattle.legs.specs.Legs.{coordinates}
use Rattle.legs.proofs.OneAnswer.{point_at, feet_from_told}
use Rattle.legs.specs.Answers.{given_feet}
use Rattle.legs.specs.declared.Point.{Point}
use Rattle.legs.specs.Legs.{Feet}
use Rattle.moves.specs.Moving.{MoveStep, FeetStep}
use Rattle.numbers.specs.Answers.{told_by}
use Rattle.moves.specs.Answers.{MovingPoint, MovingFeet, given_point, told_step_by, told_moving_by, told_next_by}
use Rattle.moves.specs.Answers.{told_step, told, told_feet_step, told_feet}
use Rattle.moves.specs.Answers.{told_point_iter, told_feet_iter, told_next_point, told_next_feet}
use Rattle.moves.specs.Iterators.{moving}
use Rattle.moves.specs.declared.Step.{Step}
use Rattle.moves.specs.declared.Step.TheVariants.{Moved, Arrived}
use Rattle.moves.specs.declared.Moving.{Moving}

-- equal lists that begin with what is told of two values: the values are one, and the rests are equal
abbrev pub Readable : {A : Type 0} → (A → Told) → Type 0
Readable {A = A} say = (a b : A) (ks js : List ℕ) (xs ys : List Float) → (say a).marks ++ ks ≡ (say b).marks ++ js
    → (say a).values ++ xs ≡ (say b).values ++ ys → (a ≡ b) × (ks ≡ js) × (xs ≡ ys)

-- a point, and six feet
pub point_from_values : (p q : Point) → coordinates p ≡ coordinates q → p ≡ q
point_from_values p q e = ap (λ (xs : List Float). point_at xs 0) e

pub point_readable : Readable given_point
point_readable p q ks js xs ys m v = (point_from_values p q (ap (take 3) v), m, ap (drop 3) v)

pub feet_readable : Readable given_feet
feet_readable f g ks js xs ys m v = (feet_from_told f g (ap (take 6) m) (ap (take 18) v), ap (drop 6) m, ap (drop 18) v)

-- no mark is 1 and 0
moved_or_not : {ks js : List ℕ} → 1 ∷ ks ≡ 0 ∷ js → ⊥
moved_or_not {ks} {js} e = let z : ◌≡◌ {A = ℕ} 1 0 = ap (λ (l : List ℕ). get_or l 0 0) e in omega arith

-- ---- whatever moves
module _ {A : Type 0} (say : A → Told) (readable : Readable say) where
  settled : (a b : A) → (say a).marks ≡ (say b).marks → (say a).values ≡ (say b).values → a ≡ b
  settled a b m v = (readable a b [] [] [] [] (ap (λ (ks : List ℕ). ks ++ []) m) (ap (λ (xs : List Float). xs ++ []) v)).0

  pub step_settled : (a b : Step A) → told_step_by say a ≡ told_step_by say b → a ≡ b
  step_settled (Moved a) (Moved b) e = ap Moved (settled a b (ap (λ (t : Told). drop 1 t.marks) e) (ap (λ (t : Told). t.values) e))
  step_settled (Moved a) (Arrived b) e = absurd (moved_or_not (ap (λ (t : Told). t.marks) e))
  step_settled (Arrived a) (Moved b) e = absurd (moved_or_not (sym (ap (λ (t : Told). t.marks) e)))
  step_settled (Arrived a) (Arrived b) e = ap Arrived (settled a b (ap (λ (t : Told). drop 1 t.marks) e) (ap (λ (t : Told). t.values) e))

  step_taken : (s : Step A) → (told_step_by say s).number ≡ 0
  step_taken (Moved a) = refl
  step_taken (Arrived a) = refl

  pub step_loses_nothing : (a b : Result (Step A) Refusal) → told_by (told_step_by say) a ≡ told_by (told_step_by say) b → a ≡ b
  step_loses_nothing = told_by_loses_nothing (told_step_by say) step_settled step_taken

  moving_settled : (s r : Moving A) → (told_moving_by say s).marks ≡ (told_moving_by say r).marks
      → (told_moving_by say s).values ≡ (told_moving_by say r).values → s ≡ r
  moving_settled s r m v =
      let l = readable s.last r.last _ _ _ _ m v in
      let t =
      readable s.target r.target [] [] (s.max_move ∷ []) (r.max_move ∷ []) (ap (λ (ks : List ℕ). ks ++ []) l.1) l.2 in
      let x : s.max_move ≡ r.max_move = ap (λ (xs : List Float). get_or xs 0 nan) t.2 in
      ap₂ (λ (p : A) (q : A). moving p q s.max_move) l.0 t.0 ∙ ap (moving r.last r.target) x

  pub moving_loses_nothing : (a b : Result (Moving A) Refusal) → told_by (told_moving_by say) a ≡ told_by (told_moving_by say) b → a ≡ b
  moving_loses_nothing =
      told_by_loses_nothing (told_moving_by say)
      (λ s r e. moving_settled s r (ap (λ (t : Told). t.marks) e) (ap (λ (t : Told). t.values) e))
      (λ s. refl)

  next_settled : (a b : Option (A × Moving A)) → told_next_by say a ≡ told_next_by say b → a ≡ b
  next_settled (Some n) (Some k) e =
      let p = readable n.0 k.0 _ _ _ _ (ap (λ (t : Told). drop 1 t.marks) e) (ap (λ (t : Told). t.values) e) in
      ap₂ (λ (a : A) (s : Moving A). Some (a, s)) p.0 (moving_settled n.1 k.1 p.1 p.2)
  next_settled (Some n) None e = absurd (moved_or_not (ap (λ (t : Told). t.marks) e))
  next_settled None (Some k) e = absurd (moved_or_not (sym (ap (λ (t : Told). t.marks) e)))
  next_settled None None e = refl

  next_taken : (n : Option (A × Moving A)) → (told_next_by say n).number ≡ 0
  next_taken (Some n) = refl
  next_taken None = refl

  pub next_loses_nothing :
      (a b : Result (Option (A × Moving A)) Refusal) → told_by (told_next_by say) a ≡ told_by (told_next_by say) b → a ≡ b
  next_loses_nothing = told_by_loses_nothing (told_next_by say) next_settled next_taken

-- ---- of a point
pub told_step_loses_nothing : (a b : MoveStep) → told_step a ≡ told_step b → a ≡ b
told_step_loses_nothing = step_settled given_point point_readable

pub told_loses_nothing : (a b : Result MoveStep Refusal) → told a ≡ told b → a ≡ b
told_loses_nothing = step_loses_nothing given_point point_readable

pub told_point_iter_loses_nothing : (a b : Result MovingPoint Refusal) → told_point_iter a ≡ told_point_iter b → a ≡ b
told_point_iter_loses_nothing = moving_loses_nothing given_point point_readable

pub told_next_point_loses_nothing :
    (a b : Result (Option (Point × MovingPoint)) Refusal) → told_next_point a ≡ told_next_point b → a ≡ b
told_next_point_loses_nothing = next_loses_nothing given_point point_readable

-- ---- of six feet
pub told_feet_step_loses_nothing : (a b : FeetStep) → told_feet_step a ≡ told_feet_step b → a ≡ b
told_feet_step_loses_nothing = step_settled given_feet feet_readable

pub told_feet_loses_nothing : (a b : Result FeetStep Refusal) → told_feet a ≡ told_feet b → a ≡ b
told_feet_loses_nothing = step_loses_nothing given_feet feet_readable

pub told_feet_iter_loses_nothing : (a b : Result MovingFeet Refusal) → told_feet_iter a ≡ told_feet_iter b → a ≡ b
told_feet_iter_loses_nothing = moving_loses_nothing given_feet feet_readable

pub told_next_feet_loses_nothing :
    (a b : Result (Option (Feet × MovingFeet)) Refusal) → told_next_feet a ≡ told_next_feet b → a ≡ b
told_next_feet_loses_nothing = next_loses_nothing given_feet feet_readable
