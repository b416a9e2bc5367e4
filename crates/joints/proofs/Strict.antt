-- What upper rooms may cite of the strict solver. Where it tells joints, the old solver tells the same, and every leg is within reach; what
-- the old one refuses, it refuses alike; it names a leg with 9 or 10 exactly where no leg is past its limit and that leg is the first out
-- of reach.
use Rattle.std.specs.Prelude.{◌≡◌, ℕ, ◌<◌, Bool, true, false, eqb, ◌⊎◌, ◌↔◌, [], Ok}
use mathlib.Core.Path.{refl, sym, ap₂, ◌∙◌, subst}
use mathlib.Core.Logic.{inl, inr}
use native.Mathlib.Omega.{arith}
use lib.Ieee.{lt}
use borrow.Author.Tests.{eq-eqb}
use Rattle.numbers.specs.Told.{Told, refused, choose}
use Rattle.bounds.specs.Between.{HeldFeet}
use Rattle.legs.specs.Legs.{Leg, row}
use Rattle.legs.specs.Legs.{Feet}
use Rattle.legs.specs.Legs.{Joints}
use Rattle.joints.specs.Answers.{given_joints, leg_refused, first_leg, told}
use Rattle.joints.specs.Inverse.{coxa_of, all_angles, ik_refusal, side_refusal, legs_told, ik_told}
use Rattle.joints.specs.Strict.{farthest, nearest, distance_of, reach_refusal, strict_legs_told, strict_told}
use Rattle.joints.specs.declared.configuration.Configuration.{Configuration}
use Rattle.joints.proofs.OneAnswer.{one_refusal, with_floats, with_a_mark, past_the_door}
use Rattle.joints.proofs.LegsTold.{told_in_order, strict_in_order}
use Rattle.joints.proofs.FirstLeg.{leg_number, First, AllPass, OneNamed, first_leg_lem, all_pass, the_first}
use Rattle.joints.proofs.TwoTests.{a_number}
use Rattle.joints.proofs.Sides.{PastSide, Short, past_side, short, passed_at}
use Rattle.joints.proofs.Reach.{OutOfReach, Reached, WithinReach, out_of_reach, reached, refused_out, passed_in}
use Rattle.joints.proofs.Reach.{between_the_ends, past_no_end, never_both_ends}
use Rattle.joints.proofs.Within.{HeldConfiguration, strict_within}

module _ (f : Feet) (c : Configuration) where
  abbrev solution : Told
  solution = given_joints (all_angles f c)

  abbrev in_reach : Told
  in_reach = first_leg (row (reach_refusal f c)) 0 solution

  abbrev old_legs : Told
  old_legs = first_leg (row (side_refusal f c)) 0 solution

  abbrev strict_legs : Told
  strict_legs = first_leg (row (side_refusal f c)) 0 in_reach

  -- ---- behind the door: a leg is past its limit and both solvers name it; or none is, and one is out of reach; or all are solved
  record OnePast : Type 0 where
    which : Leg
    first : First (side_refusal f c) which
    strict : strict_legs ≡ leg_refused (side_refusal f c which) (leg_number which)
    old : old_legs ≡ leg_refused (side_refusal f c which) (leg_number which)

  record OneOut : Type 0 where
    short : (l : Leg) → side_refusal f c l ≡ 0
    which : Leg
    first : First (reach_refusal f c) which
    strict : strict_legs ≡ leg_refused (reach_refusal f c which) (leg_number which)
    old : old_legs ≡ solution

  record AllSolved : Type 0 where
    short : (l : Leg) → side_refusal f c l ≡ 0
    reached : (l : Leg) → reach_refusal f c l ≡ 0
    strict : strict_legs ≡ solution
    old : old_legs ≡ solution

  abbrev Case : Type 0
  Case = OnePast ⊎ (OneOut ⊎ AllSolved)

  the_case : Case
  the_case = by_side (first_leg_lem (side_refusal f c) in_reach)
    where
      by_reach : ((l : Leg) → side_refusal f c l ≡ 0)
          → strict_legs ≡ in_reach
          → AllPass (reach_refusal f c) solution ⊎ OneNamed (reach_refusal f c) solution
          → OneOut ⊎ AllSolved
      by_reach p q (inl (r, s)) =
          inr (record { short = p; reached = r; strict = q ∙ s; old = all_pass (side_refusal f c) solution p })
      by_reach p q (inr (l, F, s)) =
          inl (record { short = p; which = l; first = F; strict = q ∙ s; old = all_pass (side_refusal f c) solution p })

      by_side : AllPass (side_refusal f c) in_reach ⊎ OneNamed (side_refusal f c) in_reach → Case
      by_side (inl (p, q)) = inr (by_reach p q (first_leg_lem (reach_refusal f c) solution))
      by_side (inr (l, F, q)) =
          inl (record { which = l; first = F; strict = q; old = the_first (side_refusal f c) solution l F })

  -- ---- what is told behind the door, and back
  joints_behind : (j : Joints) → told (Ok j) ≡ strict_told f c → (ik_refusal f c ≡ 0) × (given_joints j ≡ strict_legs)
  unfolding strict_told
  joints_behind j e =
      let n = ik_refusal f c in
      let (d, h) = past_the_door (given_joints j) (strict_legs_told f c) n (eqb n 0) refl (with_floats j (refused n) refl) e in
      (d, h ∙ strict_in_order f c)

  old_joints_behind : (j : Joints) → told (Ok j) ≡ ik_told f c → (ik_refusal f c ≡ 0) × (given_joints j ≡ old_legs)
  unfolding ik_told
  old_joints_behind j e =
      let n = ik_refusal f c in
      let (d, h) = past_the_door (given_joints j) (legs_told f c) n (eqb n 0) refl (with_floats j (refused n) refl) e in
      (d, h ∙ told_in_order f c)

  leg_behind : (n k : ℕ) → leg_refused n k ≡ strict_told f c → (ik_refusal f c ≡ 0) × (leg_refused n k ≡ strict_legs)
  unfolding strict_told
  leg_behind n k e =
      let r = ik_refusal f c in
      let (d, h) = past_the_door (leg_refused n k) (strict_legs_told f c) r (eqb r 0) refl (with_a_mark n k (refused r) refl) e in
      (d, h ∙ strict_in_order f c)

  strict_so : (t : Told) → ik_refusal f c ≡ 0 → t ≡ strict_legs → t ≡ strict_told f c
  unfolding strict_told
  strict_so t e h = rw (eq-eqb (ik_refusal f c) 0 e) (h ∙ sym (strict_in_order f c))

  old_so : (t : Told) → ik_refusal f c ≡ 0 → t ≡ old_legs → t ≡ ik_told f c
  unfolding ik_told
  old_so t e h = rw (eq-eqb (ik_refusal f c) 0 e) (h ∙ sym (told_in_order f c))

  -- ---- where joints are told
  all_solved : (j : Joints) → given_joints j ≡ strict_legs → Case → AllSolved
  all_solved j h (inl P) = absurd (with_floats j (leg_refused _ _) refl (h ∙ P.strict))
  all_solved j h (inr (inl O)) = absurd (with_floats j (leg_refused _ _) refl (h ∙ O.strict))
  all_solved j h (inr (inr A)) = A

  -- "On anything it accepts it gives the old solver's joints to the bit"
  pub strict_same_joints : (j : Joints) → told (Ok j) ≡ strict_told f c → told (Ok j) ≡ ik_told f c
  strict_same_joints j e =
      let (open_door, h) = joints_behind j e in
      let A = all_solved j h the_case in
      old_so (given_joints j) open_door (h ∙ A.strict ∙ sym A.old)

  strict_reached : (j : Joints) → told (Ok j) ≡ strict_told f c → (l : Leg) → Reached c.body (distance_of f c l)
  strict_reached j e l = reached c.body (distance_of f c l) ((all_solved j (joints_behind j e).1 the_case).reached l)

  back_to_joints : (j : Joints) → told (Ok j) ≡ ik_told f c → ((l : Leg) → Reached c.body (distance_of f c l))
      → told (Ok j) ≡ strict_told f c
  back_to_joints j e r =
      let (open_door, h) = old_joints_behind j e in
      strict_so (given_joints j) open_door (by_case h the_case)
    where
      by_case : given_joints j ≡ old_legs → Case → given_joints j ≡ strict_legs
      by_case h (inl P) = absurd (with_floats j (leg_refused _ _) refl (h ∙ P.old))
      by_case h (inr (inl O)) = absurd (O.first.refused (passed_in c.body (distance_of f c O.which) (r O.which)))
      by_case h (inr (inr A)) = h ∙ A.old ∙ sym A.strict

  -- ---- "whatever the old one refuses it refuses alike": what the old solver tells without floats
  pub strict_refuses_alike : (t : Told) → t.values ≡ [] → ik_told f c ≡ t → strict_told f c ≡ t
  unfolding ik_told strict_told
  strict_refuses_alike t none h =
      rw (strict_in_order f c) (by_door (eqb (ik_refusal f c) 0) (rw (told_in_order f c) at h))
    where
      by_case : old_legs ≡ t → Case → strict_legs ≡ t
      by_case h (inl P) = P.strict ∙ sym P.old ∙ h
      by_case h (inr (inl O)) = absurd (with_floats (all_angles f c) t none (sym O.old ∙ h))
      by_case h (inr (inr A)) = absurd (with_floats (all_angles f c) t none (sym A.old ∙ h))

      by_door : (b : Bool) → choose b old_legs (refused (ik_refusal f c)) ≡ t → choose b strict_legs (refused (ik_refusal f c)) ≡ t
      by_door true h = by_case h the_case
      by_door false h = h

  -- ---- where 9 or 10 is told with a leg: the door let all in, no leg is past its limit, this leg is out of reach as the number says, and
  -- no leg before it in row order is out of reach
  pub record FirstOut (n k : ℕ) : Type 0 where
    pub let_in : ik_refusal f c ≡ 0
    pub none_past : (l : Leg) → Short (coxa_of f c l)
    pub which : Leg
    pub number : leg_number which ≡ k
    pub out : OutOfReach n c.body (distance_of f c which)
    pub before : (m : Leg) → leg_number m < k → Reached c.body (distance_of f c m)

  pub first_out_of_reach : (n k : ℕ) → (n ≡ 9) ⊎ (n ≡ 10) → leg_refused n k ≡ strict_told f c → FirstOut n k
  first_out_of_reach n k nine_or_ten e = let (open_door, h) = leg_behind n k e in by_case open_door h the_case
    where
      no_side : (a : ℕ) → (n ≡ 9) ⊎ (n ≡ 10) → n ≡ a → (a ≡ 6) ⊎ (a ≡ 8) → ⊥
      no_side a (inl p) s (inl q) = omega (arith, p, q, s)
      no_side a (inl p) s (inr q) = omega (arith, p, q, s)
      no_side a (inr p) s (inl q) = omega (arith, p, q, s)
      no_side a (inr p) s (inr q) = omega (arith, p, q, s)

      six_or_eight : (P : OnePast) → PastSide (side_refusal f c P.which) (coxa_of f c P.which)
          → (side_refusal f c P.which ≡ 6) ⊎ (side_refusal f c P.which ≡ 8)
      six_or_eight P (inl (q, u)) = inl q
      six_or_eight P (inr (q, u)) = inr q

      by_case : ik_refusal f c ≡ 0 → leg_refused n k ≡ strict_legs → Case → FirstOut n k
      by_case d h (inl P) =
          let (same_number, same_leg) = one_refusal n k (side_refusal f c P.which) (leg_number P.which) (h ∙ P.strict) in
          absurd
          (no_side (side_refusal f c P.which) nine_or_ten same_number
          (six_or_eight P (past_side (coxa_of f c P.which) P.first.refused)))
      by_case d h (inr (inl O)) =
          let (same_number, same_leg) = one_refusal n k (reach_refusal f c O.which) (leg_number O.which) (h ∙ O.strict) in
          record {
            let_in = d;
            none_past = λ l. short (coxa_of f c l) (O.short l);
            which = O.which;
            number = sym same_leg;
            out =
                subst (λ (i : ℕ). OutOfReach i c.body (distance_of f c O.which)) (sym same_number)
                (out_of_reach c.body (distance_of f c O.which) O.first.refused);
            before = λ m b. reached c.body (distance_of f c m) (O.first.before m (omega (arith, b, same_leg)));
          }
      by_case d h (inr (inr A)) = absurd (with_a_mark n k solution refl (h ∙ A.strict))

  -- ---- of f32, as code holds them
  module _ (F : HeldFeet f) (C : HeldConfiguration c) where
    pub strict_within_reach :
        (j : Joints)
        → (told (Ok j) ≡ strict_told f c)
        ↔ ((told (Ok j) ≡ ik_told f c) × ((l : Leg) → WithinReach c.body (distance_of f c l)))
    strict_within_reach j = (there, back)
      where
        there : told (Ok j) ≡ strict_told f c → (told (Ok j) ≡ ik_told f c) × ((l : Leg) → WithinReach c.body (distance_of f c l))
        there e = (
          strict_same_joints j e,
          λ l.
              let R = strict_within f c F C (joints_behind j e).0 l in
              between_the_ends c.body (distance_of f c l) R.straight.ok R.sum.ok R.least.ok (strict_reached j e l),
        )

        back : (told (Ok j) ≡ ik_told f c) × ((l : Leg) → WithinReach c.body (distance_of f c l)) → told (Ok j) ≡ strict_told f c
        back (e, w) =
            back_to_joints j e
            (λ l.
            let R = strict_within f c F C (old_joints_behind j e).0 l in
            past_no_end c.body (distance_of f c l) R.straight.ok R.sum.ok R.least.ok (w l))

    -- 9 and 10 never meet in one leg
    pub one_end : ik_refusal f c ≡ 0 → (l : Leg) → lt (farthest c.body) (distance_of f c l) ≡ true
        → lt (distance_of f c l) (nearest c.body) ≡ false
    one_end e l =
        let R = strict_within f c F C e l in
        never_both_ends c.body (distance_of f c l) R.straight.ok R.sum.ok R.least.ok R.apart

    -- and back: the first leg out of reach answers
    pub out_of_reach_answers : (n k : ℕ) → FirstOut n k → leg_refused n k ≡ strict_told f c
    out_of_reach_answers n k P =
        strict_so (leg_refused n k) P.let_in
        (sym (all_pass (side_refusal f c) in_reach (λ l. passed_at (coxa_of f c l) (P.none_past l))
        ∙ the_first (reach_refusal f c) solution P.which first
        ∙ ap₂ leg_refused its_number P.number))
      where
        its_number : reach_refusal f c P.which ≡ n
        its_number = refused_out c.body (distance_of f c P.which) n (one_end P.let_in P.which) P.out

        first : First (reach_refusal f c) P.which
        first =
            record {
              refused = λ z. a_number 9 10 refl refl n _ _ P.out (sym its_number ∙ z);
              before = λ m h. passed_in c.body (distance_of f c m) (P.before m (omega (arith, h, P.number)));
            }
