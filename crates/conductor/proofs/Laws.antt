-- Request K10's laws. One foot: "Two calls in which a step goes on, and which agree on one foot's start, last and target points, on the
-- progress, the lifted tripod and the command, give that foot the same next point"; with K12, and its last mark, the same mark. A step ends
-- at its time. A plan and rest keep the last feet, and so their joints. What is handed down is within. Assumes nothing.
use Rattle.std.specs.Prelude.{◌≡◌, ℕ, suc, ◌≤◌, true, false, eqb, ◌⊎◌, [], length, Some, None, Result, Ok, Err}
use mathlib.Core.Path.{refl, sym, ap, ap₂, subst, ◌∙◌}
use mathlib.Core.Bool.{true≢false}
use mathlib.Core.Logic.{inl, inr}
use native.Mathlib.Omega.{arith}
use lib.Ieee.{Float}
use Rattle.numbers.specs.Told.{Told, refused}
use Rattle.numbers.proofs.Flags.{by_test, where_true, where_false, chosen}
use Rattle.numbers.specs.Limits.{foot_limit}
use Rattle.legs.specs.Legs.{Leg, point, points, foot, lifted, whole, every, finite_feet, permitted_feet}
use Rattle.legs.specs.Legs.{Points}
use Rattle.legs.specs.Legs.{Feet}
use Rattle.legs.specs.Legs.{Joints}
use Rattle.legs.proofs.OnePass.{in_feet_row}
use Rattle.moves.specs.Distance.{same}
use Rattle.commands.specs.Command.{command_refusal, default_command}
use Rattle.commands.specs.Tripods.{inverted}
use Rattle.commands.specs.Times.{in_nanoseconds}
use Rattle.commands.specs.declared.Time.{Time}
use Rattle.commands.specs.declared.Tripod.{Tripod}
use Rattle.commands.specs.declared.Tripod.TheVariants.{LRL}
use Rattle.commands.specs.declared.MoveCommand.{MoveCommand}
use Rattle.commands.proofs.OnePass.{command_let_in}
use Rattle.steps.specs.Progress.{even_progress}
use Rattle.steps.specs.Next.{even_last, next_even}
use Rattle.steps.specs.declared.Lift.{Lift}
use Rattle.steps.proofs.Taken.{even_step_taken}
use Rattle.steps.proofs.Told.{even_refusal}
use Rattle.steps.proofs.FootByFoot.{one_foot_alone}
use Rattle.steps.proofs.Marks.{feet_at, points_of_step, one_foot_and_its_mark}
use Rattle.steps.proofs.Done.{even_points, even_all_there, none_after}
use Rattle.planner.specs.Entry.{plan_refusal, planned_feet}
use Rattle.planner.proofs.LetIn.{plan_let_in}
use Rattle.joints.specs.Configured.{finite_joints}
use Rattle.joints.specs.Answers.{given_joints, leg_refused}
use Rattle.joints.specs.declared.refusal.SolverRefusal.{SolverRefusal}
use Rattle.joints.specs.Inverse.{all_angles, ik_told}
use Rattle.joints.proofs.Within.{HeldConfiguration}
use Rattle.joints.proofs.Finite.{joints_finite}
use Rattle.joints.proofs.OneAnswer.{past_the_door, with_a_mark}
use Rattle.joints.proofs.Told.{named_leg_below}
use Rattle.joints.specs.declared.configuration.Configuration.{Configuration}
use Rattle.conductor.specs.States.{even_of, with_last, planned_state, state_refusal, stood_state}
use Rattle.conductor.specs.Answers.{told, kind_mark, given_call}
use Rattle.conductor.specs.Conduct.{Onward, onward, moved, handed, conduct_told, state_after}
use Rattle.conductor.specs.How.{after_reply}
use Rattle.conductor.specs.declared.State.{State}
use Rattle.conductor.specs.Answers.{Kind, step, planned, rests}
use Rattle.conductor.specs.declared.Reply.{Reply}
use Rattle.conductor.specs.declared.Reply.TheVariants.{Step as SaysStep, Planned as SaysPlanned, Rests as SaysRests}
use Rattle.conductor.proofs.Calls.{refusal_numbered, reply, told_of}
use Rattle.conductor.proofs.Door.{same_refusal}
use Rattle.conductor.proofs.Accepted.{Accepted, Stepped, PlannedNext, Rested, by_kind, told_as, after_is}
use Rattle.conductor.proofs.Accepted.{joints_told, none_refused, last_permitted}
use Rattle.conductor.proofs.Accepted.{all_permitted, elapsed_permitted_lem, period_permitted_lem}
use Rattle.conductor.proofs.Left.{parts, after_step, after_rest}
use Rattle.conductor.proofs.OneAnswer.{told_loses_nothing}

module _ (s : State) (elapsed : Time) (h : Accepted s elapsed) where
  abbrev o : Onward
  o = moved s elapsed

  abbrev pub joints_after : Joints
  joints_after = all_angles (state_after s elapsed).last (state_after s elapsed).configuration

  -- whatever the kind, the joints are those of the last feet after the call
  pub reply_is : (r : Result Reply SolverRefusal) → told r ≡ conduct_told s elapsed
      → r ≡ Ok (reply o.kind (state_after s elapsed).last joints_after)
  reply_is r e =
      told_loses_nothing r _
      (e
      ∙ told_as s elapsed h
      ∙ sym (told_of o.kind o.state.last (all_angles o.state.last o.state.configuration)))
      ∙ ap (λ (t : State). Ok (reply o.kind t.last (all_angles t.last t.configuration))) (sym (after_is s elapsed h))

  pub given_is : (r : Reply) → told (Ok r) ≡ conduct_told s elapsed → r ≡ reply o.kind (state_after s elapsed).last joints_after
  given_is r e = let is = reply_is (Ok r) e in cc

-- ---- a call that says a step
abbrev tag : Reply → ℕ
tag (SaysStep f j) = 0
tag (SaysPlanned j) = 1
tag (SaysRests j) = 2

-- the feet of a step, and of any other reply these
abbrev feet_said : Feet → Reply → Feet
feet_said d (SaysStep f j) = f
feet_said d (SaysPlanned j) = d
feet_said d (SaysRests j) = d

module _ (s : State) (elapsed : Time) (f : Feet) (j : Joints) (e : told (Ok (SaysStep f j)) ≡ conduct_told s elapsed) where
  pub step_accepted : Accepted s elapsed
  unfolding told
  step_accepted = ap (λ (t : Told). eqb t.number 0) (sym e)

  same_reply : SaysStep f j ≡ reply (moved s elapsed).kind (state_after s elapsed).last (joints_after s elapsed step_accepted)
  same_reply = given_is s elapsed step_accepted (SaysStep f j) e

  pub step_taken : (next_even (even_of s) elapsed ≡ Some (f, even_last (even_of s) f)) × (moved s elapsed ≡ onward step (with_last s f))
  step_taken = go (by_kind s elapsed)
    where
      other : {k : ℕ} → 0 ≡ suc k → ⊥
      other {k} h = omega (arith, h)

      as_kind : (k : Kind) → (moved s elapsed).kind ≡ k
          → SaysStep f j ≡ reply k (state_after s elapsed).last (joints_after s elapsed step_accepted)
      as_kind k i =
          same_reply ∙ ap (λ (m : Kind). reply m (state_after s elapsed).last (joints_after s elapsed step_accepted)) i

      go : Stepped s elapsed ⊎ (PlannedNext s elapsed ⊎ Rested s elapsed)
          → (next_even (even_of s) elapsed ≡ Some (f, even_last (even_of s) f)) × (moved s elapsed ≡ onward step (with_last s f))
      go (inl (g, n, m)) =
          let is : f ≡ g =
          ap (feet_said f) (as_kind step (ap (λ (x : Onward). x.kind) m))
          ∙ ap (λ (t : State). t.last) (after_step s elapsed step_accepted g m) in (
            n ∙ ap (λ (x : Feet). Some (x, even_last (even_of s) x)) (sym is),
            m ∙ ap (λ (x : Feet). onward step (with_last s x)) (sym is),
          )
      go (inr (inl (n, b, m))) = absurd (other (ap tag (as_kind planned (ap (λ (x : Onward). x.kind) m))))
      go (inr (inr (n, b, m))) = absurd (other (ap tag (as_kind rests (ap (λ (x : Onward). x.kind) m))))

  -- its feet are the last ones after it, and all else stays
  pub step_sets_last : state_after s elapsed ≡ with_last s f
  step_sets_last = after_step s elapsed step_accepted f step_taken.1

  feet_made : f ≡ feet_at s.start s.last s.target (even_of s).lift (even_progress elapsed s.command.step_time)
  feet_made = (even_step_taken (even_of s) (even_last (even_of s) f) elapsed f step_taken.0).0

  -- ---- once its time is up the feet are at their targets, and no later call steps
  module _ (up : in_nanoseconds s.command.step_time ≤ in_nanoseconds elapsed) where
    pub step_ends : points f ≡ points s.target
    step_ends =
        even_points (even_of s) (even_last (even_of s) f) elapsed f (elapsed_permitted_lem s elapsed step_accepted)
        (period_permitted_lem s elapsed step_accepted) up step_taken.0

    target_finite : finite_feet s.target ≡ true
    target_finite = in_feet_row s.target (parts s (all_permitted s elapsed step_accepted)).third

    pub ends_as_numbers : every (λ l. same (foot f l) (foot s.target l)) ≡ true
    ends_as_numbers =
        even_all_there (even_of s) (even_last (even_of s) f) elapsed f (elapsed_permitted_lem s elapsed step_accepted)
        (period_permitted_lem s elapsed step_accepted) up step_taken.0 target_finite

    pub no_step_follows : (later : Time) → next_even (even_of (state_after s elapsed)) later ≡ None
    no_step_follows later =
        ap (λ (t : State). next_even (even_of t) later) step_sets_last
        ∙ none_after (even_of s) (even_last (even_of s) f) elapsed f (elapsed_permitted_lem s elapsed step_accepted)
        (period_permitted_lem s elapsed step_accepted) up step_taken.0 target_finite later

-- ---- ONE FOOT: two calls that say a step, and agree on one foot's start, last and target points, on progress, lifted tripod and command
module _ (s s' : State) (e e' : Time) (f f' : Feet) (j j' : Joints) (l : Leg)
    (says : told (Ok (SaysStep f j)) ≡ conduct_told s e) (says' : told (Ok (SaysStep f' j')) ≡ conduct_told s' e')
    (start : foot s.start l ≡ foot s'.start l) (last : foot s.last l ≡ foot s'.last l)
    (target : foot s.target l ≡ foot s'.target l)
    (progress : even_progress e s.command.step_time ≡ even_progress e' s'.command.step_time)
    (tripod : s.lifted ≡ s'.lifted) (command : s.command ≡ s'.command) where
  -- what is read of the feet is the same, if it is of the feet that are made at one lift and progress
  read_alike : {A : Type 0} (read : Feet → A)
      → read (feet_at s.start s.last s.target (even_of s).lift (even_progress e s.command.step_time))
      ≡ read (feet_at s'.start s'.last s'.target (even_of s).lift (even_progress e s.command.step_time))
      → read f ≡ read f'
  read_alike read alike =
      let lift : Tripod → MoveCommand → Lift = λ t c. (even_of (record {
        start = s.start;
        last = s.last;
        target = s.target;
        relaxed = s.relaxed;
        lifted = t;
        command = c;
        configuration = s.configuration;
      })).lift in
      ap read (feet_made s e f j says)
      ∙ alike
      ∙ ap₂ (λ (a : Lift) (p : Float). read (feet_at s'.start s'.last s'.target a p)) (ap₂ lift tripod command) progress
      ∙ sym (ap read (feet_made s' e' f' j' says'))

  -- the same next point, whatever the marks
  pub one_foot_point : foot f l ≡ foot f' l
  one_foot_point =
      let lift = (even_of s).lift in
      let at = even_progress e s.command.step_time in
      read_alike (λ (x : Feet). foot x l)
      (ap (λ (p : Points). point p l) (points_of_step s.lifted s.last (points s.target) _)
      ∙ one_foot_alone (points s.start) (points s'.start) (points s.last) (points s'.last) (points s.target)
      (points s'.target) lift at l start last target
      ∙ sym (ap (λ (p : Points). point p l) (points_of_step s.lifted s'.last (points s'.target) _)))

  -- and the same mark, where they agree on its last one too
  pub one_foot : lifted s.last l ≡ lifted s'.last l → whole f l ≡ whole f' l
  one_foot had =
      read_alike (λ (x : Feet). whole x l)
      (one_foot_and_its_mark s.start s'.start s.last s'.last s.target s'.target (even_of s).lift
      (even_progress e s.command.step_time) l start last target had)

-- ---- plans and rests: the last feet stay, so that the joints are those of the call before
module _ (s : State) (elapsed later : Time) (first : Accepted s elapsed) (second : Accepted (state_after s elapsed) later) where
  abbrev t : State
  t = state_after s elapsed

  same_joints : (u : State) → state_after t later ≡ u → u.last ≡ t.last → u.configuration ≡ t.configuration
      → joints_after t later second ≡ joints_after s elapsed first
  same_joints u e a b =
      ap (λ (x : State). all_angles x.last x.configuration) e ∙ ap₂ all_angles a b

  pub planned_keeps_joints : moved t later ≡ onward planned (planned_state t) → joints_after t later second ≡ joints_after s elapsed first
  planned_keeps_joints e = same_joints (planned_state t) (after_is t later second ∙ ap (λ (x : Onward). x.state) e) refl refl

  pub rest_keeps_joints : moved t later ≡ onward rests t → joints_after t later second ≡ joints_after s elapsed first
  rest_keeps_joints e = same_joints t (after_rest t later second e) refl refl

-- ---- the joints that a call hands over
-- those of a reply, and of a refusal these
abbrev pub joints_said : Joints → Result Reply SolverRefusal → Joints
joints_said d (Ok (SaysStep f j)) = j
joints_said d (Ok (SaysPlanned j)) = j
joints_said d (Ok (SaysRests j)) = j
joints_said d (Err r) = d

module _ (s : State) (elapsed : Time) (h : Accepted s elapsed) where
  pub said_joints : (r : Result Reply SolverRefusal) (d : Joints) → told r ≡ conduct_told s elapsed → joints_said d r
      ≡ joints_after s elapsed h
  said_joints r d e = ap (joints_said d) (reply_is s elapsed h r e) ∙ of_reply (moved s elapsed).kind
    where
      of_reply : (k : Kind) → joints_said d (Ok (reply k (state_after s elapsed).last (joints_after s elapsed h)))
          ≡ joints_after s elapsed h
      of_reply step = refl
      of_reply planned = refl
      of_reply rests = refl

  -- they are what the solver tells of the last feet after the call, and finite
  pub solved_after : ik_told (state_after s elapsed).last (state_after s elapsed).configuration ≡ given_joints (joints_after s elapsed h)
  solved_after =
      subst (λ (t : State). ik_told t.last t.configuration ≡ given_joints (all_angles t.last t.configuration))
      (sym (after_is s elapsed h)) (joints_told s elapsed h)

  pub finite_joints_lem : HeldConfiguration (state_after s elapsed).configuration → finite_joints (joints_after s elapsed h) ≡ true
  finite_joints_lem C =
      joints_finite (state_after s elapsed).last (state_after s elapsed).configuration C (joints_after s elapsed h) (sym solved_after)

-- ---- what is handed down is within the table of the room that takes it: where the door lets a state in, neither its step nor its plan nor
-- the command's own test refuses it; and no joints are asked for but of feet and a configuration in the table (`handed`'s tests)
module _ (s : State) (elapsed : Time) (h : Accepted s elapsed) where
  pub step_within : even_refusal (even_of s) elapsed ≡ 0
  step_within =
      let p = parts s (all_permitted s elapsed h) in
      sym (same_refusal s (simp (p.fourth, p.fifth, p.sixth)) elapsed) ∙ none_refused s elapsed h

  pub plan_within : plan_refusal s.last s.relaxed s.command ≡ 0
  plan_within =
      let p = parts s (all_permitted s elapsed h) in
      plan_let_in s.last s.relaxed s.command p.second p.fourth p.fifth (period_permitted_lem s elapsed h)

  pub command_within : command_refusal s.command ≡ 0
  command_within = command_let_in s.command (parts s (all_permitted s elapsed h)).fifth (period_permitted_lem s elapsed h)

  pub joints_within : permitted_feet foot_limit (state_after s elapsed).last ≡ true
  joints_within =
      ap (λ (t : State). permitted_feet foot_limit t.last) (after_is s elapsed h) ∙ last_permitted s elapsed h

-- ---- a refusal has a number, and one that names a leg names one of six
module _ (s : State) (elapsed : Time) where
  -- what is given has floats
  no_floats : (t : Told) → t.values ≡ [] → t ≡ conduct_told s elapsed → eqb t.number 0 ≡ false
  no_floats t none e =
      by_test (eqb t.number 0)
      (λ b.
      let h : Accepted s elapsed = ap (λ (a : Told). eqb a.number 0) (sym e) ∙ b in
      let o = moved s elapsed in
      absurd
      (some_floats o.kind o.state.last (all_angles o.state.last o.state.configuration)
      (ap (λ (a : Told). a.values) (sym (told_as s elapsed h) ∙ sym e) ∙ none)))
      (λ b. b)
    where
      too_many : (k : ℕ) → suc k ≡ 0 → ⊥
      too_many k h = omega (arith, h)

      some_floats : (k : Kind) (f : Feet) (j : Joints) → (given_call k f j).values ≡ [] → ⊥
      some_floats step f j h = too_many 35 (ap length h)
      some_floats planned f j h = too_many 17 (ap length h)
      some_floats rests f j h = too_many 17 (ap length h)

  pub refusal_said : (n : ℕ) → refused n ≡ conduct_told s elapsed → eqb n 0 ≡ false
  refusal_said n e = no_floats (refused n) refl e

  pub leg_said : (n k : ℕ) → leg_refused n k ≡ conduct_told s elapsed → (k ≤ 5) × (n ≤ 8) × (eqb n 0 ≡ false)
  unfolding conduct_told handed
  leg_said n k e =
      let m = state_refusal s elapsed in
      let o = moved s elapsed in
      let t = ik_told o.state.last o.state.configuration in
      let behind = (past_the_door (leg_refused n k) (handed o) m (eqb m 0) refl (with_a_mark n k (refused m) refl) e).1 in
      named_leg_below o.state.last o.state.configuration n k
      (by_test (eqb t.number 0)
      (λ b.
      absurd
      (true≢false
      (sym (ap (λ (a : Told). eqb a.number 0) (behind ∙ sym (where_true (eqb t.number 0) _ t b)))
      ∙ no_floats (leg_refused n k) refl e)))
      (λ b. behind ∙ sym (where_false (eqb t.number 0) _ t b)))

-- ---- whatever a call does, relaxed feet, command and configuration stay, bits and marks
module _ (s : State) (elapsed : Time) where
  keeps : {A : Type 0} (g : State → A) → ((f : Feet) → g (with_last s f) ≡ g s) → g (planned_state s) ≡ g s
      → g (state_after s elapsed) ≡ g s
  unfolding state_after
  keeps g stepped if_planned =
      chosen (λ (t : State). g t ≡ g s) (eqb (conduct_told s elapsed).number 0) (moved s elapsed).state s (λ b. go (by_kind s elapsed))
      (λ b. refl)
    where
      go : Stepped s elapsed ⊎ (PlannedNext s elapsed ⊎ Rested s elapsed) → g (moved s elapsed).state ≡ g s
      go (inl (f, n, e)) = ap (λ (o : Onward). g o.state) e ∙ stepped f
      go (inr (inl (n, b, e))) = ap (λ (o : Onward). g o.state) e ∙ if_planned
      go (inr (inr (n, b, e))) = ap (λ (o : Onward). g o.state) e

  pub relaxed_stays : (state_after s elapsed).relaxed ≡ s.relaxed
  relaxed_stays = keeps (λ t. t.relaxed) (λ f. refl) refl

  pub command_stays : (state_after s elapsed).command ≡ s.command
  command_stays = keeps (λ t. t.command) (λ f. refl) refl

  pub configuration_stays : (state_after s elapsed).configuration ≡ s.configuration
  configuration_stays = keeps (λ t. t.configuration) (λ f. refl) refl

-- ---- a refusal leaves the state, whoever refuses; a plan is made for the tripod that it lifts, the other one, from where the feet are
pub refusal_leaves : (s : State) (elapsed : Time) → eqb (conduct_told s elapsed).number 0 ≡ false → state_after s elapsed ≡ s
unfolding state_after
refusal_leaves s elapsed some = sym (where_false (eqb (conduct_told s elapsed).number 0) (moved s elapsed).state s some)

module _ (s : State) where
  pub planned_for_the_lifted :
      (planned_state s).target ≡ planned_feet s.last s.relaxed (planned_state s).lifted s.command
  planned_for_the_lifted = refl

  pub the_other_tripod : (planned_state s).lifted ≡ inverted s.lifted
  the_other_tripod = refl

  pub starts_from_last : (planned_state s).start ≡ s.last
  starts_from_last = refl

  pub last_stays : (planned_state s).last ≡ s.last
  last_stays = refl

-- ---- what a call says settles the state that it leaves
module _ (s : State) (elapsed : Time) where
  as_tagged : (r : Reply) → Accepted s elapsed → told (Ok r) ≡ conduct_told s elapsed → tag r ≡ kind_mark (moved s elapsed).kind
  as_tagged r h e = ap tag (given_is s elapsed h r e) ∙ of_kind (moved s elapsed).kind
    where
      of_kind : (k : Kind) → tag (reply k (state_after s elapsed).last (joints_after s elapsed h)) ≡ kind_mark k
      of_kind step = refl
      of_kind planned = refl
      of_kind rests = refl

  -- a plan and rest, by the one kind of the three that has their mark
  left_by : (n : ℕ) (t : State) → Accepted s elapsed → n ≡ kind_mark (moved s elapsed).kind → (0 ≡ n → ⊥)
      → (1 ≡ n → planned_state s ≡ t) → (2 ≡ n → s ≡ t) → state_after s elapsed ≡ t
  left_by n t h e never if_planned if_rests = after_is s elapsed h ∙ go (by_kind s elapsed)
    where
      marked : (k : Kind) → (moved s elapsed).kind ≡ k → kind_mark k ≡ n
      marked k i = ap kind_mark (sym i) ∙ sym e

      go : Stepped s elapsed ⊎ (PlannedNext s elapsed ⊎ Rested s elapsed) → (moved s elapsed).state ≡ t
      go (inl (f, i, m)) = absurd (never (marked step (ap (λ (x : Onward). x.kind) m)))
      go (inr (inl (i, b, m))) = ap (λ (x : Onward). x.state) m ∙ if_planned (marked planned (ap (λ (x : Onward). x.kind) m))
      go (inr (inr (i, b, m))) = ap (λ (x : Onward). x.state) m ∙ if_rests (marked rests (ap (λ (x : Onward). x.kind) m))

  pub plan_said : (j : Joints) → told (Ok (SaysPlanned j)) ≡ conduct_told s elapsed → state_after s elapsed ≡ planned_state s
  unfolding told
  plan_said j e =
      let h : Accepted s elapsed = ap (λ (t : Told). eqb t.number 0) (sym e) in
      left_by 1 (planned_state s) h (as_tagged (SaysPlanned j) h e) (λ i. omega (arith, i)) (λ i. refl) (λ i. absurd (omega (arith, i)))

  pub rest_said : (j : Joints) → told (Ok (SaysRests j)) ≡ conduct_told s elapsed → state_after s elapsed ≡ s
  unfolding told
  rest_said j e =
      let h : Accepted s elapsed = ap (λ (t : Told). eqb t.number 0) (sym e) in
      left_by 2 s h (as_tagged (SaysRests j) h e) (λ i. omega (arith, i)) (λ i. absurd (omega (arith, i))) (λ i. refl)

  refused_so : (r : SolverRefusal) → told (Err r) ≡ conduct_told s elapsed → s ≡ state_after s elapsed
  refused_so r e = sym (refusal_leaves s elapsed (ap (λ (a : Told). eqb a.number 0) (sym e) ∙ refusal_numbered r))

  pub said_settles : (r : Result Reply SolverRefusal) → told r ≡ conduct_told s elapsed → after_reply s r ≡ state_after s elapsed
  unfolding told
  said_settles (Ok (SaysStep f j)) e = sym (step_sets_last s elapsed f j e)
  said_settles (Ok (SaysPlanned j)) e = sym (plan_said j e)
  said_settles (Ok (SaysRests j)) e = sym (rest_said j e)
  said_settles (Err r) e = refused_so r e

-- a fresh state lifts LRL, stands where it is relaxed, and its command stands still
module _ (f : Feet) (c : Configuration) where
  pub stands_on : ((stood_state f c).start ≡ f) × ((stood_state f c).last ≡ f) × ((stood_state f c).target ≡ f)
      × ((stood_state f c).relaxed ≡ f)
  unfolding stood_state
  stands_on = (refl, refl, refl, refl)

  pub stands_still : ((stood_state f c).lifted ≡ LRL) × ((stood_state f c).command ≡ default_command)
      × ((stood_state f c).configuration ≡ c)
  unfolding stood_state
  stands_still = (refl, refl, refl)
