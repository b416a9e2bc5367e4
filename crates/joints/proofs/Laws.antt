-- What upper rooms may cite of the solvers. Where joints are told, each leg's angles are those of its own foot, and no leg is past its
-- limit; a leg is named exactly where it is the first that is past its limit, with the number of that side. A cut quotient.
use Rattle.std.specs.Prelude.{◌≡◌, ℕ, ◌<◌, eqb, ◌⊎◌, ◌↔◌, Ok}
use mathlib.Core.Path.{refl, sym, ap, ap₂, ◌∙◌, subst}
use mathlib.Core.Logic.{inl, inr}
use native.Mathlib.Omega.{arith}
use lib.Ieee.{nan, lt, of_bits, neg}
use borrow.Author.Tests.{eq-eqb}
use Rattle.numbers.specs.Told.{Told, refused}
use Rattle.legs.specs.Legs.{Leg, left_front, right_front, left_middle, right_middle, left_rear, right_rear}
use Rattle.legs.specs.Legs.{row, foot, angles, joints}
use Rattle.legs.specs.Legs.{Feet}
use Rattle.legs.specs.declared.LegAngles.{LegAngles}
use Rattle.legs.specs.Legs.{Joints}
use Rattle.joints.specs.Answers.{given_joints, leg_refused, first_leg, told}
use Rattle.joints.specs.Configured.{leg}
use Rattle.joints.specs.Inverse.{one, cut, coxa_of, leg_angles, all_angles, ik_refusal, side_refusal, legs_told, ik_told}
use Rattle.joints.specs.declared.configuration.Configuration.{Configuration}
use Rattle.joints.proofs.OneAnswer.{floats, one_refusal, joints_from_values, with_floats, with_a_mark, past_the_door}
use Rattle.joints.proofs.LegsTold.{told_in_order}
use Rattle.joints.proofs.FirstLeg.{leg_number, First, AllPass, OneNamed, first_leg_lem, the_first}
use Rattle.joints.proofs.TwoTests.{a_number}
use Rattle.joints.proofs.Sides.{PastSide, Short, past_side, short, refused_at, passed_at}

angles_of_joints : (g : Leg → LegAngles) (l : Leg) → angles (joints g) l ≡ g l
angles_of_joints g left_front = refl
angles_of_joints g right_front = refl
angles_of_joints g left_middle = refl
angles_of_joints g right_middle = refl
angles_of_joints g left_rear = refl
angles_of_joints g right_rear = refl

module _ (f : Feet) (c : Configuration) where
  abbrev solution : Told
  solution = given_joints (all_angles f c)

  abbrev legs_say : Told
  legs_say = first_leg (row (side_refusal f c)) 0 solution

  solved : (j : Joints) → told (Ok j) ≡ ik_told f c → ((l : Leg) → side_refusal f c l ≡ 0) × (j ≡ all_angles f c)
  unfolding ik_told
  solved j e =
      let n = ik_refusal f c in
      by_first (first_leg_lem (side_refusal f c) solution)
      ((past_the_door (given_joints j) (legs_told f c) n (eqb n 0) refl (with_floats j (refused n) refl) e).1 ∙ told_in_order f c)
    where
      by_first : AllPass (side_refusal f c) solution ⊎ OneNamed (side_refusal f c) solution
          → given_joints j ≡ legs_say
          → ((l : Leg) → side_refusal f c l ≡ 0) × (j ≡ all_angles f c)
      by_first (inl (p, q)) h = (p, joints_from_values j (all_angles f c) (floats (h ∙ q)))
      by_first (inr (l, F, q)) h = absurd (with_floats j (leg_refused (side_refusal f c l) (leg_number l)) refl (h ∙ q))

  -- ---- where joints are told
  pub solved_leg : (j : Joints) → told (Ok j) ≡ ik_told f c → (l : Leg) → angles j l ≡ leg_angles (foot f l) c.body (leg c l)
  solved_leg j e l = ap (λ (i : Joints). angles i l) (solved j e).1 ∙ angles_of_joints (λ k. leg_angles (foot f k) c.body (leg c k)) l

  pub no_leg_past : (j : Joints) → told (Ok j) ≡ ik_told f c → (l : Leg) → Short (coxa_of f c l)
  no_leg_past j e l = short (coxa_of f c l) ((solved j e).0 l)

  -- ---- where a leg is named: the door let all in, this leg is past its limit on the number's side, and no leg before it in row order is
  -- past its limit on either
  pub record FirstPast (n k : ℕ) : Type 0 where
    pub let_in : ik_refusal f c ≡ 0
    pub which : Leg
    pub number : leg_number which ≡ k
    pub past : PastSide n (coxa_of f c which)
    pub before : (m : Leg) → leg_number m < k → Short (coxa_of f c m)

  answers : (n k : ℕ) → leg_refused n k ≡ ik_told f c → FirstPast n k
  unfolding ik_told
  answers n k e =
      let r = ik_refusal f c in
      let (open_door, h) = past_the_door (leg_refused n k) (legs_told f c) r (eqb r 0) refl (with_a_mark n k (refused r) refl) e in
      by_first (first_leg_lem (side_refusal f c) solution) open_door (h ∙ told_in_order f c)
    where
      by_first : AllPass (side_refusal f c) solution ⊎ OneNamed (side_refusal f c) solution
          → ik_refusal f c ≡ 0
          → leg_refused n k ≡ legs_say
          → FirstPast n k
      by_first (inl (p, q)) d h = absurd (with_a_mark n k solution refl (h ∙ q))
      by_first (inr (l, F, q)) d h =
          let (same_number, same_leg) = one_refusal n k (side_refusal f c l) (leg_number l) (h ∙ q) in
          record {
            let_in = d;
            which = l;
            number = sym same_leg;
            past = subst (λ (i : ℕ). PastSide i (coxa_of f c l)) (sym same_number) (past_side (coxa_of f c l) F.refused);
            before = λ m b. short (coxa_of f c m) (F.before m (omega (arith, b, same_leg)));
          }

  answered_so : (n k : ℕ) → FirstPast n k → leg_refused n k ≡ ik_told f c
  unfolding ik_told
  answered_so n k P =
      let number : side_refusal f c P.which ≡ n = refused_at (coxa_of f c P.which) n P.past in
      rw (eq-eqb (ik_refusal f c) 0 P.let_in)
      (sym (told_in_order f c ∙ the_first (side_refusal f c) solution P.which first ∙ ap₂ leg_refused number P.number))
    where
      first : First (side_refusal f c) P.which
      first =
          record {
            refused = λ z. a_number 6 8 refl refl n _ _ P.past (sym (refused_at (coxa_of f c P.which) n P.past) ∙ z);
            before = λ m h. passed_at (coxa_of f c m) (P.before m (omega (arith, h, P.number)));
          }

  pub first_leg_answers : (n k : ℕ) → (leg_refused n k ≡ ik_told f c) ↔ FirstPast n k
  first_leg_answers n k = (answers n k, answered_so n k)

  -- no second pair of number and leg fits
  pub no_second_pair : (n k m l : ℕ) → FirstPast n k → FirstPast m l → (n ≡ m) × (k ≡ l)
  no_second_pair n k m l P Q =
      one_refusal n k m l (answered_so n k P ∙ sym (answered_so m l Q))

-- a NaN quotient becomes 1
pub cut_nan : cut nan ≡ one
unfolding cut lt of_bits neg
cut_nan = refl
