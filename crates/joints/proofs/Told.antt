-- What upper rooms may cite of `calculate_ik`'s answer: behind the door it is what six legs tell; feet outside the table are refused 1 or 2
-- where the configuration is within; where joints are told the door let feet and configuration in; a leg that is named is one of six, its
-- number 6 or 8.
use Rattle.std.specs.Prelude.{◌≡◌, ℕ, ◌≤◌, Bool, true, false, ◌&&◌, eqb, ◌⊎◌}
use mathlib.Core.Path.{refl, sym, ap, ◌∙◌}
use mathlib.Core.Bool.{and-true, true≢false}
use mathlib.Core.Logic.{inl, inr}
use native.Mathlib.Omega.{arith}
use lib.Ieee.Bits.{is_true}
use borrow.Author.Tests.{eqb-true}
use Rattle.numbers.specs.Told.{Told, refused, choose, answer}
use Rattle.numbers.specs.Door.{unless, either}
use Rattle.numbers.specs.Limits.{foot_limit}
use Rattle.numbers.proofs.OnePass.{none_refused, let_through, kept_out, and_left, and_right}
use Rattle.numbers.proofs.Flags.{by_test, where_true, where_false}
use Rattle.legs.specs.Legs.{Leg, left_front, right_front, left_middle, right_middle, left_rear, right_rear}
use Rattle.legs.specs.Legs.{row, finite_feet, permitted_feet}
use Rattle.legs.specs.Legs.{Feet}
use Rattle.legs.specs.Legs.{Joints}
use Rattle.joints.specs.Configured.{finite_configuration, permitted_configuration}
use Rattle.joints.specs.Answers.{given_joints, leg_refused, first_leg}
use Rattle.joints.specs.Inverse.{coxa_of, all_angles, ik_refusal, side_refusal, legs_told, ik_told}
use Rattle.joints.specs.declared.configuration.Configuration.{Configuration}
use Rattle.joints.proofs.OneAnswer.{one_refusal, with_floats, with_a_mark, past_the_door}
use Rattle.joints.proofs.OnePass.{configuration_finite, feet_and_configuration}
use Rattle.joints.proofs.LegsTold.{told_in_order}
use Rattle.joints.proofs.FirstLeg.{leg_number, AllPass, OneNamed, first_leg_lem}
use Rattle.joints.proofs.Sides.{PastSide, past_side}

module _ (f : Feet) (c : Configuration) where
  -- ---- the door
  pub ik_let_in : permitted_feet foot_limit f ≡ true → permitted_configuration c ≡ true → ik_told f c ≡ legs_told f c
  unfolding ik_told ik_refusal
  ik_let_in p q =
      let both : (permitted_feet foot_limit f && permitted_configuration c) ≡ true = simp (p, q) in
      ap (λ (n : ℕ). answer n (legs_told f c)) (sym (let_through (feet_and_configuration f c both) both))

  pub ik_feet_refused : permitted_feet foot_limit f ≡ false → permitted_configuration c ≡ true
      → ik_told f c ≡ refused (choose (finite_feet f) 2 1)
  unfolding ik_told ik_refusal
  ik_feet_refused p q =
      let outside : (permitted_feet foot_limit f && permitted_configuration c) ≡ false = simp p in
      let by_feet : (finite_feet f && finite_configuration c) ≡ finite_feet f =
      ap (λ (b : Bool). finite_feet f && b) (configuration_finite c q) ∙ and-true (finite_feet f) in
      let n : either (unless (finite_feet f && finite_configuration c) 1)
      (unless (permitted_feet foot_limit f && permitted_configuration c) 2)
      ≡ choose (finite_feet f) 2 1 =
      sym (kept_out (finite_feet f && finite_configuration c) (permitted_feet foot_limit f && permitted_configuration c) outside)
      ∙ ap (λ (b : Bool). choose b 2 1) by_feet in
      ap (λ (k : ℕ). answer k (legs_told f c)) n ∙ a_refusal (finite_feet f)
    where
      a_refusal : (b : Bool) → answer (choose b 2 1) (legs_told f c) ≡ refused (choose b 2 1)
      a_refusal true = refl
      a_refusal false = refl

  both_permitted : (j : Joints) → given_joints j ≡ ik_told f c → (permitted_feet foot_limit f && permitted_configuration c) ≡ true
  unfolding ik_told ik_refusal
  both_permitted j e =
      let n = ik_refusal f c in
      let both = permitted_feet foot_limit f && permitted_configuration c in
      is_true both
      (none_refused (finite_feet f && finite_configuration c) both
      (past_the_door (given_joints j) (legs_told f c) n (eqb n 0) refl (with_floats j (refused n) refl) e).0)

  pub ik_permitted : (j : Joints) → given_joints j ≡ ik_told f c → permitted_feet foot_limit f ≡ true
  ik_permitted j e = and_left (permitted_feet foot_limit f) (permitted_configuration c) (both_permitted j e)

  pub ik_configuration_permitted : (j : Joints) → given_joints j ≡ ik_told f c → permitted_configuration c ≡ true
  ik_configuration_permitted j e = and_right (permitted_feet foot_limit f) (permitted_configuration c) (both_permitted j e)

  -- ---- a leg that is named
  pub refused_leg_below : (n k : ℕ) → leg_refused n k ≡ legs_told f c → (k ≤ 5) × (n ≤ 8) × (eqb n 0 ≡ false)
  refused_leg_below n k e =
      by_first (first_leg_lem (side_refusal f c) (given_joints (all_angles f c))) (e ∙ told_in_order f c)
    where
      few : (l : Leg) → leg_number l ≤ 5
      few left_front = omega arith
      few right_front = omega arith
      few left_middle = omega arith
      few right_middle = omega arith
      few left_rear = omega arith
      few right_rear = omega arith

      by_number : (m : ℕ) (l : Leg) → PastSide m (coxa_of f c l) → (leg_number l ≤ 5) × (m ≤ 8) × (eqb m 0 ≡ false)
      by_number m l (inl (e, h)) = (few l, omega (arith, e), ap (λ (i : ℕ). eqb i 0) e)
      by_number m l (inr (e, h)) = (few l, omega (arith, e), ap (λ (i : ℕ). eqb i 0) e)

      by_first : AllPass (side_refusal f c) (given_joints (all_angles f c)) ⊎ OneNamed (side_refusal f c) (given_joints (all_angles f c))
          → leg_refused n k ≡ first_leg (row (side_refusal f c)) 0 (given_joints (all_angles f c))
          → (k ≤ 5) × (n ≤ 8) × (eqb n 0 ≡ false)
      by_first (inl (p, q)) h = absurd (with_a_mark n k (given_joints (all_angles f c)) refl (h ∙ q))
      by_first (inr (l, F, q)) h =
          let (same_number, same_leg) = one_refusal n k (side_refusal f c l) (leg_number l) (h ∙ q) in
          let (i, j, o) = by_number (side_refusal f c l) l (past_side (coxa_of f c l) F.refused) in
          (omega (arith, i, same_leg), omega (arith, j, same_number), ap (λ (m : ℕ). eqb m 0) same_number ∙ o)

  -- ---- joints, where nothing is refused
  pub ik_given : eqb (ik_told f c).number 0 ≡ true → ik_told f c ≡ given_joints (all_angles f c)
  unfolding ik_told
  ik_given none =
      by_test (eqb (ik_refusal f c) 0)
      (λ b.
      let behind = sym (where_true (eqb (ik_refusal f c) 0) (legs_told f c) (refused (ik_refusal f c)) b) ∙ told_in_order f c in
      behind
      ∙ by_first (first_leg_lem (side_refusal f c) (given_joints (all_angles f c))) (ap (λ (t : Told). eqb t.number 0) (sym behind) ∙ none))
      (λ b.
      absurd
      (true≢false
      (sym none
      ∙ ap (λ (t : Told). eqb t.number 0) (sym (where_false (eqb (ik_refusal f c) 0) (legs_told f c) (refused (ik_refusal f c)) b))
      ∙ b)))
    where
      by_first : AllPass (side_refusal f c) (given_joints (all_angles f c)) ⊎ OneNamed (side_refusal f c) (given_joints (all_angles f c))
          → eqb (first_leg (row (side_refusal f c)) 0 (given_joints (all_angles f c))).number 0 ≡ true
          → first_leg (row (side_refusal f c)) 0 (given_joints (all_angles f c)) ≡ given_joints (all_angles f c)
      by_first (inl (p, q)) h = q
      by_first (inr (l, F, q)) h =
          absurd (F.refused (eqb-true (side_refusal f c l) 0 (ap (λ (t : Told). eqb t.number 0) (sym q) ∙ h)))

  -- a leg that is named is named behind the door
  pub named_leg_below : (n k : ℕ) → leg_refused n k ≡ ik_told f c → (k ≤ 5) × (n ≤ 8) × (eqb n 0 ≡ false)
  unfolding ik_told
  named_leg_below n k e =
      let m = ik_refusal f c in
      refused_leg_below n k
      (past_the_door (leg_refused n k) (legs_told f c) m (eqb m 0) refl (with_a_mark n k (refused m) refl) e).1

  -- where the door refuses nothing, feet and configuration are in the table
  pub ik_door : ik_refusal f c ≡ 0 → (permitted_feet foot_limit f ≡ true) × (permitted_configuration c ≡ true)
  unfolding ik_refusal
  ik_door e =
      let feet = permitted_feet foot_limit f in
      let configuration = permitted_configuration c in
      let both = is_true (feet && configuration) (none_refused (finite_feet f && finite_configuration c) (feet && configuration) e) in
      (and_left feet configuration both, and_right feet configuration both)
