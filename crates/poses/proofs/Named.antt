-- The legs' names, by their numbers: a name is its leg's exactly where the bytes are the same.
use Rattle.std.specs.Cmp.Lexicographic.{pointwise}
use Rattle.std.specs.Prelude.{Some, None, ◌&&◌}
use Rattle.std.specs.Prelude.{◌≡◌, ℕ, Bool, zero, suc, ◌<◌, ◌≤◌, true, false, eqb, List, [], ◌∷◌, length}
use mathlib.Core.Path.{refl, ap, ap₂}
use mathlib.Core.Bool.{false≢true}
use native.Mathlib.Omega.{arith}
use lib.Dec.{lit<, lit≤}
use borrow.Author.Tests.{eqb-true, eq-eqb}
use Rattle.numbers.proofs.OnePass.{and_left, and_right}
use Rattle.legs.specs.Legs.{Leg, left_front, right_front, left_middle, right_middle, left_rear, right_rear}
use Rattle.numbers.proofs.Flags.{and_both}
use Rattle.poses.specs.Names.{name_of, number, name_at, same, position, leg_named}
use Rattle.poses.specs.Gathering.{the_leg, number_or_6}
use Rattle.legs.specs.LegNumbers.{leg_number}
use Rattle.legs.specs.declared.leg.Leg.{Leg as LegByName}
use Rattle.legs.specs.declared.leg.Leg.TheVariants.{LeftFront, RightFront, LeftMiddle, RightMiddle, LeftRear, RightRear}

-- ---- legs and their numbers
pub below_six : (l : Leg) → number l < 6
below_six left_front = lit< tt
below_six right_front = lit< tt
below_six left_middle = lit< tt
below_six right_middle = lit< tt
below_six left_rear = lit< tt
below_six right_rear = lit< tt

pub at_legs : (P : ℕ → Type 0) → ((l : Leg) → P (number l)) → (k : ℕ) → k < 6 → P k
at_legs P f zero h = f left_front
at_legs P f (suc zero) h = f right_front
at_legs P f (suc (suc zero)) h = f left_middle
at_legs P f (suc (suc (suc zero))) h = f right_middle
at_legs P f (suc (suc (suc (suc zero)))) h = f left_rear
at_legs P f (suc (suc (suc (suc (suc zero))))) h = f right_rear
at_legs P f (suc (suc (suc (suc (suc (suc k)))))) h = absurd (omega arith)

-- ---- the same bytes are the same text
pub same_means : (s t : List ℕ) → same s t ≡ true → s ≡ t
unfolding same
same_means [] [] e = refl
same_means [] (b ∷ t) e = absurd (false≢true e)
same_means (a ∷ s) [] e = absurd (false≢true e)
same_means (a ∷ s) (b ∷ t) e =
    ap₂ (λ (c : ℕ) (r : List ℕ). c ∷ r) (eqb-true a b (and_left (eqb a b) (same s t) e)) (same_means s t (and_right (eqb a b) (same s t) e))

pub same_self : (s : List ℕ) → same s s ≡ true
unfolding same
same_self [] = refl
same_self (a ∷ s) = and_both (eqb a a) (same s s) (eq-eqb a a refl) (same_self s)

-- ---- the six names, each by its leg's number
pub leg_of_name : (l : Leg) → leg_named (name_of l) ≡ number l
unfolding leg_named same
leg_of_name left_front = refl
leg_of_name right_front = refl
leg_of_name left_middle = refl
leg_of_name right_middle = refl
leg_of_name left_rear = refl
leg_of_name right_rear = refl

-- no name has more than twelve bytes
pub name_few : (k : ℕ) → k < 6 → length (name_at k) ≤ 12
name_few = at_legs (λ k. length (name_at k) ≤ 12) few
  where
    few : (l : Leg) → length (name_at (number l)) ≤ 12
    few left_front = lit≤ tt
    few right_front = lit≤ tt
    few left_middle = lit≤ tt
    few right_middle = lit≤ tt
    few left_rear = lit≤ tt
    few right_rear = lit≤ tt

-- the leg of a name, by its number, has that number
pub leg_back : (name : List ℕ) → number_or_6 (the_leg (leg_named name)) ≡ leg_named name
unfolding leg_named
leg_back name =
    back (same name (name_of left_front)) (same name (name_of right_front)) (same name (name_of left_middle))
    (same name (name_of right_middle)) (same name (name_of left_rear)) (same name (name_of right_rear))
  where
    back : (a b c d e f : Bool) → let k = position (a ∷ b ∷ c ∷ d ∷ e ∷ f ∷ []) in number_or_6 (the_leg k) ≡ k
    back true b c d e f = refl
    back false true c d e f = refl
    back false false true d e f = refl
    back false false false true e f = refl
    back false false false false true f = refl
    back false false false false false true = refl
    back false false false false false false = refl

-- the leg of a name, by the first leg that has it
module _ (name : List ℕ) where
  pub is_left_front : same name (name_of left_front) ≡ true
      → Some LeftFront ≡ the_leg (leg_named name)
  unfolding leg_named
  is_left_front a = rw (a) refl

  pub is_right_front : same name (name_of left_front) ≡ false → same name (name_of right_front) ≡ true
      → Some RightFront ≡ the_leg (leg_named name)
  unfolding leg_named
  is_right_front a b = rw (a, b) refl

  pub is_left_middle : same name (name_of left_front) ≡ false → same name (name_of right_front) ≡ false → same name (name_of left_middle)
      ≡ true
      → Some LeftMiddle ≡ the_leg (leg_named name)
  unfolding leg_named
  is_left_middle a b c = rw (a, b, c) refl

  pub is_right_middle : same name (name_of left_front) ≡ false → same name (name_of right_front) ≡ false → same name (name_of left_middle)
      ≡ false
      → same name (name_of right_middle) ≡ true
      → Some RightMiddle ≡ the_leg (leg_named name)
  unfolding leg_named
  is_right_middle a b c d = rw (a, b, c, d) refl

  pub is_left_rear : same name (name_of left_front) ≡ false → same name (name_of right_front) ≡ false → same name (name_of left_middle)
      ≡ false
      → same name (name_of right_middle) ≡ false → same name (name_of left_rear) ≡ true
      → Some LeftRear ≡ the_leg (leg_named name)
  unfolding leg_named
  is_left_rear a b c d e = rw (a, b, c, d, e) refl

  pub is_right_rear : same name (name_of left_front) ≡ false → same name (name_of right_front) ≡ false → same name (name_of left_middle)
      ≡ false
      → same name (name_of right_middle) ≡ false → same name (name_of left_rear) ≡ false → same name (name_of right_rear) ≡ true
      → Some RightRear ≡ the_leg (leg_named name)
  unfolding leg_named
  is_right_rear a b c d e f = rw (a, b, c, d, e, f) refl

  pub is_none : same name (name_of left_front) ≡ false → same name (name_of right_front) ≡ false → same name (name_of left_middle) ≡ false
      → same name (name_of right_middle) ≡ false → same name (name_of left_rear) ≡ false → same name (name_of right_rear) ≡ false
      → None ≡ the_leg (leg_named name)
  unfolding leg_named
  is_none a b c d e f = rw (a, b, c, d, e, f) refl

-- a leg's number is below 6
pub number_few : (l : LegByName) → leg_number l < 6
number_few LeftFront = lit< tt
number_few RightFront = lit< tt
number_few LeftMiddle = lit< tt
number_few RightMiddle = lit< tt
number_few LeftRear = lit< tt
number_few RightRear = lit< tt

-- the same bytes, as `==` of two slices has them
pub same_pointwise : (s t : List ℕ) → pointwise eqb s t ≡ same s t
unfolding same
same_pointwise [] [] = refl
same_pointwise [] (b ∷ t) = refl
same_pointwise (a ∷ s) [] = refl
same_pointwise (a ∷ s) (b ∷ t) = ap (λ (r : Bool). eqb a b && r) (same_pointwise s t)
