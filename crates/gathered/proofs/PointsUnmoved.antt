-- Request K12 moves no point (`points-unmoved`): for every entry that takes feet, the refusal and the floats of the answer are those of the
-- same call with other marks. `marked x (points f)` are the feet f with any marks x. Assumes nothing.
use mathlib.Core.Path.{◌≡◌, refl, sym, ap, ap₂, subst, fun_ext, ◌∙◌}
use mathlib.Core.Bool.{Bool, true, false, ◌&&◌}
use mathlib.Core.List.{List, [], ◌∷◌, ◌++◌}
use Prim.Native.Nat.{ℕ, zero, suc}
use lib.Ieee.{Float}
use lib.ListN.{length, get_or}
use Rattle.std.specs.Prelude.{None}
use Rattle.numbers.specs.Told.{given, choose, answer}
use Rattle.numbers.proofs.OneAnswer.{SameButMarks, same_answers}
use Rattle.legs.specs.Legs.{Leg, row, point, six_points, points, foot, lifted, whole, marked, origin, unused, nowhere, coordinates, values}
use Rattle.legs.specs.Legs.{finite_point, permitted_point}
use Rattle.numbers.specs.Limits.{foot_limit}
use Rattle.legs.specs.Masks.{has}
use Rattle.legs.specs.Answers.{spot, places, given_feet, given_row}
use Rattle.legs.specs.Merge.{merged, merge_refusal, merge_told}
use Rattle.legs.specs.Select.{among, named, in_six_places, selected, select_refusal, select_told}
use Rattle.legs.specs.Update.{place, updated}
use Rattle.legs.specs.declared.Point.{Point}
use Rattle.legs.specs.Legs.{Points}
use Rattle.legs.specs.declared.Foot.{Foot}
use Rattle.legs.specs.Legs.{Feet}
use Rattle.legs.proofs.Marks.{points_of_merge}
use Rattle.rows.specs.Rows.{every_point, update_refusal, update_told}
use Rattle.rows.proofs.Marks.{points_of_update}
use Rattle.moves.specs.Distance.{max_horizontal_distance}
use Rattle.moves.specs.Moving.{PointsStep, move_points_towards, keeping, move_feet_towards}
use Rattle.moves.specs.Answers.{MovingFeet, of_moving_feet, lifts_of_moving, told_feet_step, told_next_by}
use Rattle.moves.specs.Refusals.{move_feet_refusal, longest_refusal}
use Rattle.moves.specs.Entries.{move_feet_told, longest_told}
use Rattle.moves.specs.Iterators.{moving_feet, after, next_feet, feet_iter_told, next_feet_told}
use Rattle.moves.specs.declared.Step.TheVariants.{Moved, Arrived}
use Rattle.walks.specs.Walk.{WalkFeet}
use Rattle.walks.specs.Answers.{walk_feet_refusal, Counts}
use Rattle.commands.specs.declared.Time.{Time}
use Rattle.commands.specs.declared.Tripod.{Tripod}
use Rattle.commands.specs.declared.MoveCommand.{MoveCommand}
use Rattle.steps.specs.Refusals.{step_refusal, lift_refusal, timely}
use Rattle.steps.specs.Marks.{stepped}
use Rattle.steps.specs.Next.{TimedStepIterator, EvenStepIterator, step_ended, step_lift, step_after, timed_after, even_after, by_time}
use Rattle.steps.specs.Next.{timed_at, even_at, next_step, next_timed, next_even}
use Rattle.steps.specs.Progress.{step_progress, timed_progress, even_progress}
use Rattle.steps.specs.Shift.{shift_legs}
use Rattle.commands.specs.Times.{period_permitted}
use Rattle.steps.specs.Answers.{step_marks, step_values, lift_marks, lift_values, given_next_step, given_next_timed, given_next_even}
use Rattle.steps.specs.Entries.{step_state, step_iter_told, next_step_told, timed_iter_told, next_timed_told, next_even_told}
use Rattle.steps.specs.declared.Lift.{Lift}
use Rattle.steps.specs.declared.StepIterator.{StepIterator}
use Rattle.planner.specs.Entry.{plan_refusal, planned_feet, plan_told}
use Rattle.joints.specs.Inverse.{ik_refusal, legs_told, ik_told}
use Rattle.joints.specs.Strict.{strict_legs_told, strict_told}
use Rattle.joints.specs.declared.configuration.Configuration.{Configuration}

-- the same feet with other marks
abbrev remarked : (Leg → Bool) → Feet → Feet
remarked x f = marked x (points f)

-- the floats of six feet, by their points
floats : Points → List Float
floats p = values coordinates (row (point p))

-- ---- merge
merged_points : (a b : Feet) (m : ℕ) → points (merged a b m) ≡ six_points (λ l. choose (has m l) (foot b l) (foot a l))
merged_points a b m = ap six_points (fun_ext (points_of_merge a b m))

pub merge : (x y : Leg → Bool) (a b : Feet) (m : ℕ) → SameButMarks (merge_told a b m) (merge_told (remarked x a) (remarked y b) m)
unfolding merge_told merge_refusal floats
merge x y a b m =
    same_answers (merge_refusal a b m) (given_feet (merged a b m)) (given_feet (merged (remarked x a) (remarked y b) m))
    (refl, ap floats (merged_points a b m ∙ sym (merged_points (remarked x a) (remarked y b) m)))

-- ---- selection and update, by the points of a list of feet
pub spots : List Foot → List Point
spots [] = []
spots (p ∷ ps) = p.point ∷ spots ps

spot_at : (ps : List Foot) (d : Foot) (k : ℕ) → (get_or ps k d).point ≡ get_or (spots ps) k d.point
unfolding spots
spot_at [] d k = refl
spot_at (p ∷ ps) d zero = refl
spot_at (p ∷ ps) d (suc k) = spot_at ps d k

chosen_spots : (b : Bool) (p q : Foot) (ps qs : List Foot) → p.point ≡ q.point → spots ps ≡ spots qs
    → spots (choose b (p ∷ []) [] ++ ps) ≡ spots (choose b (q ∷ []) [] ++ qs)
unfolding spots
chosen_spots true p q ps qs e es = ap₂ (λ (r : Point) (rs : List Point). r ∷ rs) e es
chosen_spots false p q ps qs e es = es

among_spots : (x : Leg → Bool) (f : Feet) (m : ℕ) (ls : List Leg) → spots (among f m ls) ≡ spots (among (remarked x f) m ls)
among_spots x f m [] = refl
among_spots x f m (l ∷ ls) =
    chosen_spots (has m l) (whole f l) (whole (remarked x f) l) (among f m ls) (among (remarked x f) m ls) refl (among_spots x f m ls)

six_spots : List Point → List Float
six_spots ps =
    values coordinates
    (get_or ps 0 origin ∷ get_or ps 1 origin ∷ get_or ps 2 origin ∷ get_or ps 3 origin ∷ get_or ps 4 origin ∷ get_or ps 5 origin ∷ [])

placed_spots : (ps : List Foot) → values spot (places (in_six_places ps)) ≡ six_spots (spots ps)
unfolding six_spots
placed_spots ps =
    simp (spot_at ps unused 0, spot_at ps unused 1, spot_at ps unused 2, spot_at ps unused 3, spot_at ps unused 4, spot_at ps unused 5)

pub select : (x : Leg → Bool) (f : Feet) (m : ℕ) → SameButMarks (select_told f m) (select_told (remarked x f) m)
unfolding select_told select_refusal selected named
select x f m =
    same_answers (select_refusal f m) (given_row (selected f m)) (given_row (selected (remarked x f) m)) (
      refl,
      placed_spots (named f m)
          ∙ ap six_spots (among_spots x f m (row (λ l. l)))
          ∙ sym (placed_spots (named (remarked x f) m)),
    )

-- the lent feet have other marks too
all_spots : (Point → Bool) → List Point → Bool
all_spots t [] = true
all_spots t (p ∷ ps) = t p && all_spots t ps

every_spot : (t : Point → Bool) (ps : List Foot) → every_point t ps ≡ all_spots t (spots ps)
unfolding spots all_spots
every_spot t [] = refl
every_spot t (p ∷ ps) = ap (λ (b : Bool). t p.point && b) (every_spot t ps)

as_many : (ps : List Foot) → length ps ≡ length (spots ps)
unfolding spots
as_many [] = refl
as_many (p ∷ ps) = ap suc (as_many ps)

updated_points : (f : Feet) (ps : List Foot) (m : ℕ)
    → points (updated f ps m) ≡ six_points (λ l. choose (has m l) (get_or (spots ps) (place m l) nowhere.point) (foot f l))
updated_points f ps m =
    ap six_points
    (fun_ext (λ l. points_of_update f ps m l
    ∙ ap (λ (p : Point). choose (has m l) p (foot f l)) (spot_at ps nowhere (place m l))))

module _ (x : Leg → Bool) (f : Feet) (ps qs : List Foot) (m : ℕ) (e : spots ps ≡ spots qs) where
  all_alike : (t : Point → Bool) → every_point t ps ≡ every_point t qs
  all_alike t = every_spot t ps ∙ ap (all_spots t) e ∙ sym (every_spot t qs)

  refused_alike : update_refusal f ps m ≡ update_refusal (remarked x f) qs m
  unfolding update_refusal
  refused_alike =
      simp (all_alike finite_point, all_alike (permitted_point foot_limit), as_many ps ∙ ap length e ∙ sym (as_many qs))

  pub update : SameButMarks (update_told f ps m) (update_told (remarked x f) qs m)
  unfolding update_told floats
  update =
      let there : List Point → Points = λ rs. six_points (λ l. choose (has m l) (get_or rs (place m l) nowhere.point) (foot f l)) in
      subst (λ (n : ℕ). SameButMarks (update_told f ps m) (answer n (given_feet (updated (remarked x f) qs m)))) refused_alike
      (same_answers (update_refusal f ps m) (given_feet (updated f ps m)) (given_feet (updated (remarked x f) qs m))
      (refl, ap floats (updated_points f ps m ∙ ap there e ∙ sym (updated_points (remarked x f) qs m))))

-- ---- foot moves: one case for each of a step's two
kept_alike : (b c : Leg → Bool) (s : PointsStep) → SameButMarks (told_feet_step (keeping b s)) (told_feet_step (keeping c s))
kept_alike b c (Moved p) = (refl, refl)
kept_alike b c (Arrived p) = (refl, refl)

module _ (x y : Leg → Bool) (last target : Feet) (m : Float) where
  pub move_feet : SameButMarks (move_feet_told last target m) (move_feet_told (remarked x last) (remarked y target) m)
  unfolding move_feet_told move_feet_towards move_feet_refusal
  move_feet =
      same_answers (move_feet_refusal last target m)
      (told_feet_step (move_feet_towards last target m))
      (told_feet_step (move_feet_towards (remarked x last) (remarked y target) m))
      (kept_alike (lifted last) (lifted (remarked x last)) (move_points_towards (points last) (points target) m))

  pub set_out : SameButMarks (feet_iter_told last target m) (feet_iter_told (remarked x last) (remarked y target) m)
  unfolding feet_iter_told move_feet_refusal
  set_out =
      same_answers (move_feet_refusal last target m)
      (given (lifts_of_moving (moving_feet last target m)) (of_moving_feet (moving_feet last target m)))
      (given (lifts_of_moving there) (of_moving_feet there))
      (refl, refl)
    where
      there : MovingFeet
      there = moving_feet (remarked x last) (remarked y target) m

  next_alike : (s : PointsStep)
      → SameButMarks
      (told_next_by given_feet (after (moving_feet last target m) (keeping (lifted last) s)))
      (told_next_by given_feet (after (moving_feet (remarked x last) (remarked y target) m) (keeping (lifted (remarked x last)) s)))
  next_alike (Moved p) = (refl, refl)
  next_alike (Arrived p) = (refl, refl)

  pub next_feet_lem : SameButMarks (next_feet_told (moving_feet last target m))
      (next_feet_told (moving_feet (remarked x last) (remarked y target) m))
  unfolding next_feet_told next_feet move_feet_towards move_feet_refusal
  next_feet_lem =
      same_answers (move_feet_refusal last target m)
      (told_next_by given_feet (next_feet (moving_feet last target m)))
      (told_next_by given_feet (next_feet (moving_feet (remarked x last) (remarked y target) m)))
      (next_alike (move_points_towards (points last) (points target) m))

  pub longest : longest_told last target ≡ longest_told (remarked x last) (remarked y target)
  unfolding longest_told longest_refusal
  longest = refl

  -- a walk is counted by points: what is promised of its count is the same
  pub walk_feet : Counts (walk_feet_refusal m last target) (WalkFeet m (points last) (points target))
      ≡ Counts (walk_feet_refusal m (remarked x last) (remarked y target))
      (WalkFeet m (points (remarked x last)) (points (remarked y target)))
  unfolding walk_feet_refusal
  walk_feet = refl

-- ---- steps
module _ (x y z : Leg → Bool) where
  abbrev pub by_distance : StepIterator → StepIterator
  by_distance s =
      record {
        start = remarked x s.start;
        last = remarked y s.last;
        target = remarked z s.target;
        max_move = s.max_move;
        step_height = s.step_height;
        tripod = s.tripod;
        aggressive_leg_lift = s.aggressive_leg_lift;
      }

  abbrev pub timed : TimedStepIterator → TimedStepIterator
  timed s =
      record {
        start = remarked x s.start;
        last = remarked y s.last;
        target = remarked z s.target;
        period = s.period;
        lift = s.lift;
      }

  abbrev pub even : EvenStepIterator → EvenStepIterator
  even s =
      record {
        start = remarked x s.start;
        last = remarked y s.last;
        target = remarked z s.target;
        period = s.period;
        lift = s.lift;
      }

  pub step_set_out : (start target : Feet) (move height : Float) (t : Tripod) (b : Bool)
      → SameButMarks (step_iter_told start target move height t b) (step_iter_told (remarked x start) (remarked z target) move height t b)
  unfolding step_iter_told step_refusal
  step_set_out start target move height t b =
      let here = step_state start target move height t b in
      let there = step_state (remarked x start) (remarked z target) move height t b in
      same_answers (step_refusal here) (given (step_marks here) (step_values here)) (given (step_marks there) (step_values there)) (
        refl,
        refl,
      )

  pub timed_set_out : (start target : Feet) (period : Time) (lift : Lift)
      → SameButMarks (timed_iter_told start target period lift) (timed_iter_told (remarked x start) (remarked z target) period lift)
  unfolding timed_iter_told lift_refusal
  timed_set_out start target period lift =
      let a = remarked x start in
      let b = remarked z target in
      same_answers (lift_refusal start start target lift (period_permitted period))
      (given (lift_marks lift period start start target) (lift_values lift start start target))
      (given (lift_marks lift period a a b) (lift_values lift a a b))
      (refl, refl)

  step_alike : (s : StepIterator) (over : Bool) (g : PointsStep)
      → SameButMarks
      (given_next_step (choose over None (step_after s g)))
      (given_next_step (choose over None (step_after (by_distance s) g)))
  unfolding stepped
  step_alike s true g = (refl, refl)
  step_alike s false (Moved p) = (refl, refl)
  step_alike s false (Arrived p) = (refl, refl)

  pub next_step_lem : (s : StepIterator) → SameButMarks (next_step_told s) (next_step_told (by_distance s))
  unfolding next_step_told next_step step_refusal
  next_step_lem s =
      let full = max_horizontal_distance (points s.start) (points s.target) in
      let progress = step_progress (max_horizontal_distance (points s.last) (points s.start)) s.max_move full in
      same_answers (step_refusal s) (given_next_step (next_step s)) (given_next_step (next_step (by_distance s)))
      (step_alike s (step_ended full) (shift_legs (points s.start) (points s.last) (points s.target) (step_lift s) progress))

  timed_alike : (s : TimedStepIterator) (g : PointsStep)
      → SameButMarks (given_next_timed (timed_after s g)) (given_next_timed (timed_after (timed s) g))
  unfolding stepped
  timed_alike s (Moved p) = (refl, refl)
  timed_alike s (Arrived p) = (refl, refl)

  pub next_timed_lem : (s : TimedStepIterator) (elapsed : Time) →
      SameButMarks (next_timed_told s elapsed) (next_timed_told (timed s) elapsed)
  unfolding next_timed_told next_timed timed_at lift_refusal
  next_timed_lem s elapsed =
      same_answers (lift_refusal s.start s.last s.target s.lift (timely elapsed s.period))
      (given_next_timed (next_timed s elapsed)) (given_next_timed (next_timed (timed s) elapsed))
      (timed_alike s
      (by_time (points s.start) (points s.last) (points s.target) s.lift (timed_progress elapsed s.period)))

  even_alike : (s : EvenStepIterator) (g : PointsStep) →
      SameButMarks (given_next_even (even_after s g)) (given_next_even (even_after (even s) g))
  unfolding stepped
  even_alike s (Moved p) = (refl, refl)
  even_alike s (Arrived p) = (refl, refl)

  pub next_even_lem : (s : EvenStepIterator) (elapsed : Time) → SameButMarks (next_even_told s elapsed) (next_even_told (even s) elapsed)
  unfolding next_even_told next_even even_at lift_refusal
  next_even_lem s elapsed =
      same_answers (lift_refusal s.start s.last s.target s.lift (timely elapsed s.period))
      (given_next_even (next_even s elapsed)) (given_next_even (next_even (even s) elapsed))
      (even_alike s
      (shift_legs (points s.start) (points s.last) (points s.target) s.lift (even_progress elapsed s.period)))

-- ---- the planner and both solvers
pub plan : (x y : Leg → Bool) (start relaxed : Feet) (t : Tripod) (c : MoveCommand)
    → SameButMarks (plan_told start relaxed t c) (plan_told (remarked x start) (remarked y relaxed) t c)
unfolding plan_told planned_feet plan_refusal
plan x y start relaxed t c =
    same_answers (plan_refusal start relaxed c)
    (given_feet (planned_feet start relaxed t c))
    (given_feet (planned_feet (remarked x start) (remarked y relaxed) t c))
    (refl, refl)

pub inverse : (x : Leg → Bool) (f : Feet) (c : Configuration) → ik_told f c ≡ ik_told (remarked x f) c
unfolding ik_told legs_told ik_refusal
inverse x f c = refl

pub strict_inverse : (x : Leg → Bool) (f : Feet) (c : Configuration) → strict_told f c ≡ strict_told (remarked x f) c
unfolding strict_told strict_legs_told ik_refusal
strict_inverse x f c = refl
