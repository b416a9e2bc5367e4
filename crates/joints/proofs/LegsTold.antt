-- What the two cores tell of six legs: the refusal of the first leg in row order that is refused, else their angles.
use Rattle.std.specs.Prelude.{◌≡◌, ℕ, suc, Bool, true, false, eqb, List, [], ◌∷◌}
use mathlib.Core.Path.{refl, sym, ap, ◌∙◌}
use borrow.Author.Tests.{eqb-true}
use Rattle.numbers.specs.Told.{Told, choose}
use Rattle.numbers.specs.Refusals.{number_of}
use Rattle.numbers.proofs.Numbers.{a_refusal_has_a_number}
use Rattle.legs.specs.Legs.{Feet, Joints, row}
use Rattle.joints.specs.Answers.{nothing, given_joints, leg_refused, first_leg, refused_at}
use Rattle.joints.specs.Inverse.{side_refusal, leg_angles, all_angles, legs_told}
use Rattle.joints.specs.Strict.{reach_refusal, strict_legs_told}
use Rattle.joints.specs.How.{heading, headings, solved_angles, all_solved, past_refusals, reach_refusals}
use Rattle.joints.specs.declared.configuration.Configuration.{Configuration}
use Rattle.joints.specs.declared.refusal.SolverRefusal.{SolverRefusal}
use Rattle.joints.proofs.OneAnswer.{refused_number}

-- ---- legs one after another: a test that gives nothing passes a leg, and what it names otherwise is what all of them name
-- a refusal is not nothing
names_one : (r : SolverRefusal) → refused_at (number_of r.refusal) r.leg ≡ nothing → ⊥
names_one r e = a_refusal_has_a_number r.refusal (sym (refused_number (number_of r.refusal) r.leg) ∙ ap (λ (t : Told). t.number) e)

pub passed : (m n k : ℕ) → m ≡ n → nothing ≡ first_leg (m ∷ []) k nothing → n ≡ 0
passed m n k same e = sym same ∙ by_test (eqb m 0) refl e
  where
    by_test : (b : Bool) → eqb m 0 ≡ b → nothing ≡ choose b nothing (leg_refused m k) → m ≡ 0
    by_test true d e = eqb-true m 0 d
    by_test false d e = let marks : [] ≡ k ∷ [] = ap (λ (t : Told). t.marks) e in cc

pub stopped : (r : SolverRefusal) (m n k : ℕ) (t : Told) → m ≡ n
    → refused_at (number_of r.refusal) r.leg ≡ first_leg (m ∷ []) k nothing
    → refused_at (number_of r.refusal) r.leg ≡ choose (eqb n 0) t (leg_refused n k)
stopped r m n k t same e = by_test (eqb n 0) (rw same at e)
  where
    by_test : (b : Bool) → refused_at (number_of r.refusal) r.leg ≡ choose b nothing (leg_refused n k)
        → refused_at (number_of r.refusal) r.leg ≡ choose b t (leg_refused n k)
    by_test true e = absurd (names_one r e)
    by_test false e = e

-- over any legs: what a test names is what is told, whatever is given where all pass
pub named_first : (r : SolverRefusal) (t : Told) (ns : List ℕ) (k : ℕ) → refused_at (number_of r.refusal) r.leg ≡ first_leg ns k nothing
    → refused_at (number_of r.refusal) r.leg ≡ first_leg ns k t
named_first r t [] k e = absurd (names_one r e)
named_first r t (n ∷ ns) k e = later_first (refused_at (number_of r.refusal) r.leg) (eqb n 0) (named_first r t ns (suc k)) e
  where
    later_first : (s : Told) (b : Bool) → (s ≡ first_leg ns (suc k) nothing → s ≡ first_leg ns (suc k) t)
        → s ≡ choose b (first_leg ns (suc k) nothing) (leg_refused n k)
        → s ≡ choose b (first_leg ns (suc k) t) (leg_refused n k)
    later_first s true later e = later e
    later_first s false later e = e

pub none_named : (t : Told) (ns : List ℕ) (k : ℕ) → nothing ≡ first_leg ns k nothing → t ≡ first_leg ns k t
none_named t [] k e = refl
none_named t (n ∷ ns) k e = by_test (eqb n 0) (none_named t ns (suc k)) e
  where
    by_test : (b : Bool) → (nothing ≡ first_leg ns (suc k) nothing → t ≡ first_leg ns (suc k) t)
        → nothing ≡ choose b (first_leg ns (suc k) nothing) (leg_refused n k)
        → t ≡ choose b (first_leg ns (suc k) t) (leg_refused n k)
    by_test true later e = later e
    by_test false later e = let marks : [] ≡ k ∷ [] = ap (λ (u : Told). u.marks) e in cc

-- ---- the order of the legs: what is told is told by the first of them. Every law of the two solvers has it from here
pub told_in_order : (f : Feet) (c : Configuration) → legs_told f c ≡ first_leg (row (side_refusal f c)) 0 (given_joints (all_angles f c))
unfolding legs_told
told_in_order f c = refl

pub strict_in_order : (f : Feet) (c : Configuration) → strict_legs_told f c
    ≡ first_leg (row (side_refusal f c)) 0 (first_leg (row (reach_refusal f c)) 0 (given_joints (all_angles f c)))
unfolding strict_legs_told
strict_in_order f c = refl

-- ---- the legs as they set out
module _ (f : Feet) (c : Configuration) where
  solved_so : all_solved (headings f c) c ≡ all_angles f c
  unfolding headings heading all_solved solved_angles leg_angles
  solved_so = refl

  past_so : past_refusals (headings f c) ≡ row (side_refusal f c)
  unfolding past_refusals headings heading
  past_so = refl

  reach_so : reach_refusals (headings f c) c.body ≡ row (reach_refusal f c)
  unfolding reach_refusals headings heading
  reach_so = refl

  solution : (j : Joints) → j ≡ all_solved (headings f c) c → given_joints j ≡ given_joints (all_angles f c)
  solution j e = ap given_joints (e ∙ solved_so)

  -- by the cases of the code
  pub legs_refused : (r : SolverRefusal) → refused_at (number_of r.refusal) r.leg ≡ first_leg (past_refusals (headings f c)) 0 nothing
      → refused_at (number_of r.refusal) r.leg ≡ legs_told f c
  legs_refused r e = named_first r (given_joints (all_angles f c)) (row (side_refusal f c)) 0 (rw (past_so) at e) ∙ sym (told_in_order f c)

  pub legs_solved : (j : Joints) → nothing ≡ first_leg (past_refusals (headings f c)) 0 nothing → j ≡ all_solved (headings f c) c
      → given_joints j ≡ legs_told f c
  legs_solved j e s =
      solution j s
      ∙ none_named (given_joints (all_angles f c)) (row (side_refusal f c)) 0 (rw (past_so) at e)
      ∙ sym (told_in_order f c)

  pub strict_refused : (r : SolverRefusal) → refused_at (number_of r.refusal) r.leg ≡ first_leg (past_refusals (headings f c)) 0 nothing
      → refused_at (number_of r.refusal) r.leg ≡ strict_legs_told f c
  strict_refused r e =
      named_first r (first_leg (row (reach_refusal f c)) 0 (given_joints (all_angles f c))) (row (side_refusal f c)) 0 (rw (past_so) at e)
      ∙ sym (strict_in_order f c)

  pub strict_out : (r : SolverRefusal) → nothing ≡ first_leg (past_refusals (headings f c)) 0 nothing
      → refused_at (number_of r.refusal) r.leg ≡ first_leg (reach_refusals (headings f c) c.body) 0 nothing
      → refused_at (number_of r.refusal) r.leg ≡ strict_legs_told f c
  strict_out r e d =
      let given = given_joints (all_angles f c) in
      named_first r given (row (reach_refusal f c)) 0 (rw (reach_so) at d)
      ∙ none_named (first_leg (row (reach_refusal f c)) 0 given) (row (side_refusal f c)) 0 (rw (past_so) at e)
      ∙ sym (strict_in_order f c)

  pub strict_solved : (j : Joints) → nothing ≡ first_leg (past_refusals (headings f c)) 0 nothing
      → nothing ≡ first_leg (reach_refusals (headings f c) c.body) 0 nothing
      → j ≡ all_solved (headings f c) c
      → given_joints j ≡ strict_legs_told f c
  strict_solved j e d s =
      let given = given_joints (all_angles f c) in
      solution j s
      ∙ none_named given (row (reach_refusal f c)) 0 (rw (reach_so) at d)
      ∙ none_named (first_leg (row (reach_refusal f c)) 0 given) (row (side_refusal f c)) 0 (rw (past_so) at e)
      ∙ sym (strict_in_order f c)

-- the cases of a solver, for its attribute
pub ruleset old = (legs_refused, legs_solved)

pub ruleset strict = (strict_refused, strict_out, strict_solved)
