-- A state is read of its bytes as it was, and a row that is not refused is written as it was; what is read the format holds, and what is
-- written is bytes of a state's row.
use Rattle.std.specs.Prelude.{◌≡◌, ℕ, zero, suc, ◌+◌, ◌*◌, ◌/◌, ◌%◌, ◌<◌, ◌≤◌, Bool, true, false, ◌&&◌, T, eqb, leb, List, [], ◌∷◌, ◌++◌}
use Rattle.std.specs.Prelude.{length, get_or, drop}
use mathlib.Core.Path.{refl, sym, ap, ap₂, subst, fun_ext, ◌∙◌}
use mathlib.Core.Bool.{and-true, and_assoc}
use mathlib.Core.List.{append-nil}
use native.Mathlib.Omega.{arith}
use native.Mathlib.Nat.{add_assoc, add-zero, lt_of_le_of_lt}
use lib.Dec.{lit<, lit≤}
use lib.ListN.{length-append, drop_of_length-le}
use lib.Seq.{get_or-drop, drop-cons, drop-drop, drop_at}
use lib.Ieee.{Float, nan, binary32, fits, to_bits}
use borrow.Author.Tests.{leb-true, le-leb, eqb-true}
use Rattle.numbers.specs.Told.{mark, choose}
use Rattle.numbers.specs.Door.{finite}
use Rattle.numbers.proofs.OneAnswer.{flag_of_mark}
use Rattle.numbers.proofs.OnePass.{and_left, and_right}
use Rattle.legs.specs.Legs.{Leg, left_front, right_front, left_middle, right_middle, left_rear, right_rear, row, foot, angles, values}
use Rattle.legs.specs.Legs.{every, coordinates, joints_of, finite_point, finite_feet}
use Rattle.legs.specs.Answers.{lifts}
use Rattle.legs.specs.declared.Point.{Point}
use Rattle.legs.specs.declared.Foot.{Foot}
use Rattle.legs.specs.Legs.{Feet}
use Rattle.legs.specs.Legs.{Joints}
use Rattle.legs.proofs.OneAnswer.{marks_back}
use Rattle.legs.proofs.OnePass.{each_true}
use Rattle.commands.specs.Answers.{tripod_mark, command_values}
use Rattle.commands.specs.Command.{finite_command}
use Rattle.commands.specs.declared.MoveCommand.{MoveCommand}
use Rattle.commands.specs.declared.Tripod.{Tripod}
use Rattle.commands.specs.declared.Tripod.TheVariants.{LRL, RLR}
use Rattle.joints.specs.Configured.{leg, finite_leg, finite_body, finite_configuration}
use Rattle.joints.specs.declared.configuration.Body.{Body}
use Rattle.joints.specs.declared.configuration.LegConfiguration.{LegConfiguration}
use Rattle.joints.specs.declared.configuration.Configuration.{Configuration}
use Rattle.joints.proofs.Within.{HeldLeg, HeldConfiguration}
use Rattle.packed.specs.Packed.{word_at, long_at, float_at, point_at, feet_in, word_bytes, long_bytes, float_bytes}
use Rattle.packed.proofs.Back.{HeldPoint, AllBytes, float_behind, word_behind, long_behind, float_back, word_back, long_back}
use Rattle.packed.proofs.Back.{four, four_again, word_bytes_again, long_bytes_again, mark_again, word_fits, long_fits}
use Rattle.packed.proofs.Back.{float_held, feet_in_held, bytes_joined, bytes_of_word, mark_low}
use Rattle.packed.proofs.Storing.{finite_each, finite_foot}
use Rattle.conductor.specs.States.{finite_state}
use Rattle.conductor.specs.declared.State.{State}
use Rattle.conductor.proofs.Left.{HeldState}
use Rattle.state_row.specs.Layout.{state_values, floats_bytes, time_bytes, flag_bytes, state_bytes, joint_bytes}
use Rattle.state_row.specs.Layout.{point_values, body_values, leg_values, configuration_values}
use Rattle.state_row.specs.Layout.{leg_of, body_of, configuration_of, flag, tripod_of, command_of, state_of, flags, is_state}

-- ---- n floats from a place on
abbrev floats_at : ℕ → List ℕ → ℕ → List Float
floats_at zero l at = []
floats_at (suc n) l at = float_at l at ∷ floats_at n l (at + 4)

floats_behind : (n k : ℕ) (l : List ℕ) (at : ℕ) → floats_at n (drop k l) at ≡ floats_at n l (k + at)
floats_behind zero k l at = refl
floats_behind (suc n) k l at =
    ap₂ (λ (x : Float) (xs : List Float). x ∷ xs) (float_behind k l at)
    (floats_behind n k l (at + 4) ∙ ap (floats_at n l) (sym (add_assoc k at 4)))

-- what holds of every float of a list
abbrev Each : (Float → Type 0) → List Float → Type 0
Each P [] = Unit {0}
Each P (x ∷ xs) = P x × Each P xs

infixr 20 ◌and◌
◌and◌ : {P Q : Type 0} → P → Q → P × Q
p and q = (p, q)

abbrev Held : Float → Type 0
Held x = T (fits binary32 x)

floats_back : (xs : List Float) (rest : List ℕ) → Each Held xs → floats_at (length xs) (floats_bytes xs ++ rest) 0 ≡ xs
floats_back [] rest h = refl
floats_back (x ∷ xs) rest h =
    ap₂ (λ (y : Float) (ys : List Float). y ∷ ys) (float_back x (floats_bytes xs ++ rest) h.0)
    (sym (floats_behind (length xs) 4 (floats_bytes (x ∷ xs) ++ rest) 0) ∙ floats_back xs rest h.1)

-- ---- a state of its floats, its flags by their places, and its step time
abbrev point_from : List Float → ℕ → Point
point_from xs k = record { x = get_or xs k nan; y = get_or xs (k + 1) nan; z = get_or xs (k + 2) nan }

abbrev foot_from : List Float → ℕ → ℕ → Foot
foot_from xs k b = record { point = point_from xs k; lifted = flag b }

abbrev feet_from : List Float → ℕ → (ℕ → ℕ) → ℕ → Feet
feet_from xs k g i =
    record {
      left_front = foot_from xs k (g i);
      right_front = foot_from xs (k + 3) (g (i + 1));
      left_middle = foot_from xs (k + 6) (g (i + 2));
      right_middle = foot_from xs (k + 9) (g (i + 3));
      left_rear = foot_from xs (k + 12) (g (i + 4));
      right_rear = foot_from xs (k + 15) (g (i + 5));
    }

abbrev leg_from : List Float → ℕ → LegConfiguration
leg_from xs k =
    record {
      position = point_from xs k;
      angle_offset = get_or xs (k + 3) nan;
      femur_correction = get_or xs (k + 4) nan;
      tibia_correction = get_or xs (k + 5) nan;
    }

state_from : List Float → (ℕ → ℕ) → ℕ → ℕ → State
state_from xs g nanoseconds seconds =
    record {
      start = feet_from xs 0 g 0;
      last = feet_from xs 18 g 6;
      target = feet_from xs 36 g 12;
      relaxed = feet_from xs 54 g 18;
      lifted = tripod_of (g 24);
      command =
          record {
            direction_x = get_or xs 72 nan;
            direction_y = get_or xs 73 nan;
            rotation = get_or xs 74 nan;
            step_height = get_or xs 75 nan;
            step_time = record { seconds = seconds; nanoseconds = nanoseconds };
            aggressive_leg_lift = flag (g 25);
          };
      configuration =
          record {
            body =
                record {
                  coxa_length = get_or xs 76 nan;
                  femur_length = get_or xs 77 nan;
                  tibia_length = get_or xs 78 nan;
                  femur_offset = get_or xs 79 nan;
                  tibia_offset = get_or xs 80 nan;
                };
            legs =
                record {
                  left_front = leg_from xs 81;
                  right_front = leg_from xs 87;
                  left_middle = leg_from xs 93;
                  right_middle = leg_from xs 99;
                  left_rear = leg_from xs 105;
                  right_rear = leg_from xs 111;
                };
          };
    }

-- what is read of a row is the state of its floats, flags and step time, and these are its floats
read_from : (l : List ℕ) → state_of l ≡ state_from (floats_at 117 l 0) (λ k. get_or l (480 + k) 0) (word_at l 468) (long_at l 472)
unfolding point_at feet_in leg_of body_of configuration_of command_of state_of state_from
read_from l = refl

values_read : (l : List ℕ) → state_values (state_of l) ≡ floats_at 117 l 0
unfolding point_at feet_in leg_of body_of configuration_of command_of state_of
values_read l = refl

-- a state is settled by them
tripod_back : (t : Tripod) → tripod_of (tripod_mark t) ≡ t
tripod_back LRL = refl
tripod_back RLR = refl

from_its_own : (s : State)
    → state_from (state_values s) (λ k. get_or (flag_bytes s) k 0) s.command.step_time.nanoseconds s.command.step_time.seconds ≡ s
unfolding state_from
from_its_own s =
    let start = marks_back s.start in
    let last = marks_back s.last in
    let target = marks_back s.target in
    let relaxed = marks_back s.relaxed in
    let tripod = tripod_back s.lifted in
    let aggressive = flag_of_mark s.command.aggressive_leg_lift in
    λ i.
    record {
      start = start i;
      last = last i;
      target = target i;
      relaxed = relaxed i;
      lifted = tripod i;
      command =
          record {
            direction_x = s.command.direction_x;
            direction_y = s.command.direction_y;
            rotation = s.command.rotation;
            step_height = s.command.step_height;
            step_time = s.command.step_time;
            aggressive_leg_lift = aggressive i;
          };
      configuration = s.configuration;
    }

-- ---- what holds of every float of a state's parts
module _ (P : Float → Type 0) where
  each_joined : (xs ys : List Float) → Each P xs → Each P ys → Each P (xs ++ ys)
  each_joined [] ys h k = k
  each_joined (x ∷ xs) ys h k = h.0 and each_joined xs ys h.1 k

  each_of_row : {A : Type 0} (g : A → List Float) (a : Leg → A) → ((l : Leg) → Each P (g (a l))) → Each P (values g (row a))
  each_of_row {A} g a h =
      next left_front (a right_front ∷ a left_middle ∷ a right_middle ∷ a left_rear ∷ a right_rear ∷ [])
      (next right_front (a left_middle ∷ a right_middle ∷ a left_rear ∷ a right_rear ∷ [])
      (next left_middle (a right_middle ∷ a left_rear ∷ a right_rear ∷ [])
      (next right_middle (a left_rear ∷ a right_rear ∷ []) (next left_rear (a right_rear ∷ []) (next right_rear [] tt)))))
    where
      next : (l : Leg) (rest : List A) → Each P (values g rest) → Each P (values g (a l ∷ rest))
      next l rest k = each_joined (g (a l)) (values g rest) (h l) k

  each_of_state :
      (s : State)
      → Each P (point_values s.start)
      → Each P (point_values s.last)
      → Each P (point_values s.target)
      → Each P (point_values s.relaxed)
      → Each P (command_values s.command)
      → Each P (configuration_values s.configuration)
      → Each P (state_values s)
  each_of_state s start last target relaxed command configuration =
      let fifth = configuration_values s.configuration in
      let fourth = command_values s.command ++ fifth in
      let third = point_values s.relaxed ++ fourth in
      let second = point_values s.target ++ third in
      each_joined (point_values s.start) (point_values s.last ++ second) start
      (each_joined (point_values s.last) second last
      (each_joined (point_values s.target) third target
      (each_joined (point_values s.relaxed) fourth relaxed (each_joined (command_values s.command) fifth command configuration))))

-- the format holds them
held_points : (f : Feet) → ((l : Leg) → HeldPoint (foot f l)) → Each Held (point_values f)
held_points f h = each_of_row Held coordinates (foot f) (λ l. (h l).0 and (h l).1 and (h l).2 and tt)

held_values : (s : State) → HeldState s → Each Held (state_values s)
held_values s h =
    let c = s.configuration in
    let b = h.configuration.body in
    each_of_state Held s
    (held_points s.start (λ l. ((h.start l).x, (h.start l).y, (h.start l).z)))
    (held_points s.last (λ l. ((h.last l).x, (h.last l).y, (h.last l).z)))
    (held_points s.target (λ l. ((h.target l).x, (h.target l).y, (h.target l).z)))
    (held_points s.relaxed (λ l. ((h.relaxed l).x, (h.relaxed l).y, (h.relaxed l).z)))
    (h.command.x and h.command.y and h.command.rotation and h.command.height and tt)
    (each_joined Held (body_values c.body) (values leg_values (row (leg c)))
    (b.coxa and b.femur_length and b.tibia_length and b.femur and b.tibia and tt)
    (each_of_row Held leg_values (leg c) (λ l. held_leg (leg c l) (h.configuration.legs l))))
  where
    held_leg : (l : LegConfiguration) → HeldLeg l → Each Held (leg_values l)
    held_leg l h = h.position.x and h.position.y and h.position.z and h.angle and h.femur and h.tibia and tt

-- they are finite
abbrev Finite : Float → Type 0
Finite x = finite x ≡ true

finite_points : (f : Feet) → finite_feet f ≡ true → Each Finite (point_values f)
finite_points f e = each_of_row Finite coordinates (foot f) (λ l. of_point (foot f l) (finite_foot f e l))
  where
    of_point : (p : Point) → finite_point p ≡ true → Each Finite (coordinates p)
    of_point p e = let h = finite_each p e in h.0 and h.1 and h.2 and tt

-- of tests that all pass, each
all_four : (a b c d : Bool) → (a && b && c && d) ≡ true → (a ≡ true) × (b ≡ true) × (c ≡ true) × (d ≡ true)
all_four a b c d h =
    let three = and_left (a && b && c) d h in
    let two = and_left (a && b) c three in
    (and_left a b two, and_right a b two, and_right (a && b) c three, and_right (a && b && c) d h)

finite_leg_lem : (l : LegConfiguration) → finite_leg l ≡ true → Each Finite (leg_values l)
unfolding finite_leg
finite_leg_lem l e =
    let four =
    all_four (finite_point l.position) (finite l.angle_offset) (finite l.femur_correction) (finite l.tibia_correction) e in
    let p = finite_each l.position four.0 in
    p.0 and p.1 and p.2 and four.1 and four.2 and four.3 and tt

finite_body_lem : (b : Body) → finite_body b ≡ true → Each Finite (body_values b)
unfolding finite_body
finite_body_lem b e =
    let c = finite b.coxa_length in
    let f = finite b.femur_length in
    let t = finite b.tibia_length in
    let i = finite b.femur_offset in
    let j = finite b.tibia_offset in
    let four = all_four c f t i (and_left (c && f && t && i) j e) in
    four.0 and four.1 and four.2 and four.3 and and_right (c && f && t && i) j e and tt

finite_command_lem : (c : MoveCommand) → finite_command c ≡ true → Each Finite (command_values c)
unfolding finite_command
finite_command_lem c e =
    let four = all_four (finite c.direction_x) (finite c.direction_y) (finite c.rotation) (finite c.step_height) e in
    four.0 and four.1 and four.2 and four.3 and tt

finite_configuration_lem : (c : Configuration) → finite_configuration c ≡ true → Each Finite (configuration_values c)
unfolding finite_configuration
finite_configuration_lem c e =
    let legs : Leg → Bool = λ l. finite_leg (leg c l) in
    let body = finite_body c.body in
    each_joined Finite (body_values c.body) (values leg_values (row (leg c)))
    (finite_body_lem c.body (and_right (every legs) body e))
    (each_of_row Finite leg_values (leg c) (λ l. finite_leg_lem (leg c l) (each_true legs (and_left (every legs) body e) l)))

finite_values : (s : State) → finite_state s ≡ true → Each Finite (state_values s)
unfolding finite_state
finite_values s e =
    let st = finite_feet s.start in
    let la = finite_feet s.last in
    let ta = finite_feet s.target in
    let re = finite_feet s.relaxed in
    let co = finite_command s.command in
    let cf = finite_configuration s.configuration in
    let five = and_left (st && la && ta && re && co) cf e in
    let four = all_four st la ta re (and_left (st && la && ta && re) co five) in
    each_of_state Finite s (finite_points s.start four.0) (finite_points s.last four.1) (finite_points s.target four.2)
    (finite_points s.relaxed four.3)
    (finite_command_lem s.command (and_right (st && la && ta && re) co five))
    (finite_configuration_lem s.configuration (and_right (st && la && ta && re && co) cf e))

-- ---- a state is read of its bytes
-- the format holds its floats, and its step time fits its bytes
pub record Storable (s : State) : Type 0 where
  pub held : HeldState s
  pub nanoseconds : s.command.step_time.nanoseconds < 4294967296
  pub seconds : s.command.step_time.seconds < 18446744073709551616

length_floats : (xs : List Float) → length (floats_bytes xs) ≡ 4 * length xs
length_floats [] = refl
length_floats (x ∷ xs) = let h = length_floats xs in omega arith

module _ (s : State) where
  front : length (floats_bytes (state_values s)) ≡ 468
  front = length_floats (state_values s)

  behind_floats : drop 468 (state_bytes s) ≡ time_bytes s.command.step_time ++ flag_bytes s
  unfolding state_bytes
  behind_floats = drop_at (floats_bytes (state_values s)) (time_bytes s.command.step_time ++ flag_bytes s) 468 front

  behind_time : drop 480 (state_bytes s) ≡ flag_bytes s
  behind_time = sym (drop-drop 12 468 (state_bytes s)) ∙ ap (drop 12) behind_floats

  flag_read : (k : ℕ) → get_or (state_bytes s) (480 + k) 0 ≡ get_or (flag_bytes s) k 0
  flag_read k = sym (get_or-drop 480 (state_bytes s) k 0) ∙ ap (λ (m : List ℕ). get_or m k 0) behind_time

  module _ (h : Storable s) where
    floats_read : floats_at 117 (state_bytes s) 0 ≡ state_values s
    unfolding state_bytes
    floats_read = floats_back (state_values s) (time_bytes s.command.step_time ++ flag_bytes s) (held_values s h.held)

    nanoseconds_read : word_at (state_bytes s) 468 ≡ s.command.step_time.nanoseconds
    nanoseconds_read =
        sym (word_behind 468 (state_bytes s) 0)
        ∙ ap (λ (m : List ℕ). word_at m 0) behind_floats
        ∙ word_back s.command.step_time.nanoseconds (long_bytes s.command.step_time.seconds ++ flag_bytes s) h.nanoseconds

    seconds_read : long_at (state_bytes s) 472 ≡ s.command.step_time.seconds
    seconds_read =
        sym (long_behind 468 (state_bytes s) 4)
        ∙ ap (λ (m : List ℕ). long_at m 4) behind_floats
        ∙ sym (long_behind 4 (time_bytes s.command.step_time ++ flag_bytes s) 0)
        ∙ long_back s.command.step_time.seconds (flag_bytes s) h.seconds

    pub row_read_back : state_of (state_bytes s) ≡ s
    row_read_back =
        let a = floats_read in
        let b : ◌≡◌ {A = ℕ → ℕ} (λ k. get_or (state_bytes s) (480 + k) 0) (λ k. get_or (flag_bytes s) k 0) = fun_ext flag_read in
        let c = nanoseconds_read in
        let d = seconds_read in
        read_from (state_bytes s) ∙ (λ i. state_from (a i) (b i) (c i) (d i)) ∙ from_its_own s

-- no second state has the same bytes
pub settled_bytes : (s t : State) → Storable s → Storable t → state_bytes s ≡ state_bytes t → s ≡ t
settled_bytes s t h k e = sym (row_read_back s h) ∙ ap state_of e ∙ row_read_back t k

-- ---- and a row that is not refused, of what was read of it
-- n bytes from a place on
abbrev run : ℕ → List ℕ → ℕ → List ℕ
run zero l at = []
run (suc n) l at = get_or l at 0 ∷ run n l (at + 1)

run_joined : (n : ℕ) (l : List ℕ) (at : ℕ) → at + n ≤ length l → run n l at ++ drop (at + n) l ≡ drop at l
run_joined zero l at h = ap (λ (k : ℕ). drop k l) (add-zero at)
run_joined (suc n) l at h =
    let room : at + 1 + n ≤ length l = omega arith in
    let place : at + suc n ≡ at + 1 + n = omega arith in
    let inside : at < length l = omega arith in
    let next : at + 1 ≡ suc at = omega arith in
    ap (λ (k : ℕ). get_or l at 0 ∷ (run n l (at + 1) ++ drop k l)) place
    ∙ ap (λ (m : List ℕ). get_or l at 0 ∷ m) (run_joined n l (at + 1) room ∙ ap (λ (k : ℕ). drop k l) next)
    ∙ sym (drop-cons l at 0 inside)

four_run : (l : List ℕ) (at : ℕ) → four l at ≡ run 4 l at
four_run l at =
    let second : at + 2 ≡ at + 1 + 1 = omega arith in
    let third : at + 3 ≡ at + 1 + 1 + 1 = omega arith in
    ap₂ (λ (a b : ℕ). get_or l at 0 ∷ get_or l (at + 1) 0 ∷ get_or l a 0 ∷ get_or l b 0 ∷ []) second third

floats_again : (n : ℕ) (l : List ℕ) (at : ℕ) → AllBytes l → Each Finite (floats_at n l at) → at + 4 * n ≤ length l
    → floats_bytes (floats_at n l at) ++ drop (at + 4 * n) l ≡ drop at l
floats_again zero l at small e h = ap (λ (k : ℕ). drop k l) (add-zero at)
floats_again (suc n) l at small e h =
    let room : at + 4 + 4 * n ≤ length l = omega arith in
    let place : at + 4 * suc n ≡ at + 4 + 4 * n = omega arith in
    let inside : at + 4 ≤ length l = omega arith in
    let rest = floats_bytes (floats_at n l (at + 4)) in
    ap₂ (λ (a b : List ℕ). a ++ b) (four_again l at small e.0 ∙ four_run l at)
    (ap (λ (k : ℕ). rest ++ drop k l) place ∙ floats_again n l (at + 4) small e.1 room)
    ∙ run_joined 4 l at inside

-- n flags from a place on, as what was read of them is written; where they are 0 or 1 these are they
abbrev marked_run : ℕ → List ℕ → ℕ → List ℕ
marked_run zero l at = []
marked_run (suc n) l at = mark (flag (get_or l at 0)) ∷ marked_run n l (at + 1)

flags_first : (n : ℕ) (l : List ℕ) (at : ℕ) → flags (suc n) l at ≡ (leb (get_or l at 0) 1 && flags n l (at + 1))
flags_first zero l at =
    ap (λ (k : ℕ). leb (get_or l k 0) 1) (add-zero at) ∙ sym (and-true (leb (get_or l at 0) 1))
flags_first (suc n) l at =
    let place : at + suc n ≡ at + 1 + n = omega arith in
    ap₂ (λ (a : Bool) (k : ℕ). a && leb (get_or l k 0) 1) (flags_first n l at) place
    ∙ and_assoc (leb (get_or l at 0) 1) (flags n l (at + 1)) (leb (get_or l (at + 1 + n) 0) 1)

marks_again : (n : ℕ) (l : List ℕ) (at : ℕ) → flags n l at ≡ true → marked_run n l at ≡ run n l at
marks_again zero l at e = refl
marks_again (suc n) l at e =
    let b = leb (get_or l at 0) 1 in
    let both : (b && flags n l (at + 1)) ≡ true = sym (flags_first n l at) ∙ e in
    ap₂ (λ (m : ℕ) (ms : List ℕ). m ∷ ms)
    (mark_again (get_or l at 0) (leb-true (get_or l at 0) 1 (and_left b (flags n l (at + 1)) both)))
    (marks_again n l (at + 1) (and_right b (flags n l (at + 1)) both))

tripod_marked : (b : Bool) → tripod_mark (choose b RLR LRL) ≡ mark b
tripod_marked true = refl
tripod_marked false = refl

module _ (l : List ℕ) (small : AllBytes l) (good : is_state l ≡ true) where
  long : length l ≡ 506
  unfolding is_state
  long = eqb-true (length l) 506 (and_left (eqb (length l) 506) (flags 26 l 480) good)

  flags_good : flags 26 l 480 ≡ true
  unfolding is_state
  flags_good = and_right (eqb (length l) 506) (flags 26 l 480) good

  flags_again : flag_bytes (state_of l) ≡ run 26 l 480
  unfolding feet_in command_of state_of
  flags_again =
      ap (λ (m : ℕ). marked_run 24 l 480 ++ (m ∷ mark (flag (get_or l 505 0)) ∷ [])) (tripod_marked (flag (get_or l 504 0)))
      ∙ marks_again 26 l 480 flags_good

  last_run : run 26 l 480 ≡ drop 480 l
  last_run =
      let whole : 480 + 26 ≤ length l = omega (arith, long) in
      let none : length l ≤ 506 = omega (arith, long) in
      sym (append-nil (run 26 l 480))
      ∙ ap (λ (m : List ℕ). run 26 l 480 ++ m) (sym (drop_of_length-le l none))
      ∙ run_joined 26 l 480 whole

  time_again : time_bytes (state_of l).command.step_time ≡ run 12 l 468
  unfolding command_of state_of
  time_again = ap₂ (λ (a b : List ℕ). a ++ b) (word_bytes_again l 468 small) (long_bytes_again l 472 small)

  tail_again : time_bytes (state_of l).command.step_time ++ flag_bytes (state_of l) ≡ drop 468 l
  tail_again =
      let whole : 468 + 12 ≤ length l = omega (arith, long) in
      ap₂ (λ (a b : List ℕ). a ++ b) time_again (flags_again ∙ last_run) ∙ run_joined 12 l 468 whole

  pub row_written_again : finite_state (state_of l) ≡ true → state_bytes (state_of l) ≡ l
  unfolding state_bytes
  row_written_again e =
      let room : 0 + 4 * 117 ≤ length l = omega (arith, long) in
      ap₂ (λ (xs : List Float) (m : List ℕ). floats_bytes xs ++ m) (values_read l) tail_again
      ∙ floats_again 117 l 0 small (subst (Each Finite) (values_read l) (finite_values (state_of l) e)) room

-- ---- what is read the format holds, and its step time fits
leg_held : (l : List ℕ) (at : ℕ) → HeldLeg (leg_of l at)
unfolding point_at leg_of
leg_held l at =
    record {
      position = record { x = float_held l at; y = float_held l (at + 4); z = float_held l (at + 8) };
      angle = float_held l (at + 12);
      femur = float_held l (at + 16);
      tibia = float_held l (at + 20);
    }

pub configuration_held : (l : List ℕ) (at : ℕ) → HeldConfiguration (configuration_of l at)
unfolding body_of configuration_of
configuration_held l at =
    record {
      body =
          record {
            coxa = float_held l at;
            femur_length = float_held l (at + 4);
            tibia_length = float_held l (at + 8);
            femur = float_held l (at + 12);
            tibia = float_held l (at + 16);
          };
      legs = legs;
    }
  where
    legs : (k : Leg) → HeldLeg (leg (configuration_of l at) k)
    legs left_front = leg_held l (at + 20)
    legs right_front = leg_held l (at + 44)
    legs left_middle = leg_held l (at + 68)
    legs right_middle = leg_held l (at + 92)
    legs left_rear = leg_held l (at + 116)
    legs right_rear = leg_held l (at + 140)

pub row_held : (l : List ℕ) → HeldState (state_of l)
unfolding command_of state_of
row_held l =
    record {
      start = λ k. let h = feet_in_held l 480 0 k in record { x = h.0; y = h.1; z = h.2 };
      last = λ k. let h = feet_in_held l 486 72 k in record { x = h.0; y = h.1; z = h.2 };
      target = λ k. let h = feet_in_held l 492 144 k in record { x = h.0; y = h.1; z = h.2 };
      relaxed = λ k. let h = feet_in_held l 498 216 k in record { x = h.0; y = h.1; z = h.2 };
      command = record { x = float_held l 288; y = float_held l 292; rotation = float_held l 296; height = float_held l 300 };
      configuration = configuration_held l 304;
    }

pub row_storable : (l : List ℕ) → AllBytes l → Storable (state_of l)
unfolding command_of state_of
row_storable l small = record { held = row_held l; nanoseconds = word_fits l 468 small; seconds = long_fits l 472 small }

-- ---- what is written is bytes of a state's row
abbrev Low : List ℕ → Type 0
Low l = (i : ℕ) → get_or l i 0 ≤ 1

low_joined : (a b : List ℕ) → Low a → Low b → Low (a ++ b)
low_joined [] b p q i = q i
low_joined (x ∷ a) b p q zero = p 0
low_joined (x ∷ a) b p q (suc i) = low_joined a b (λ k. p (suc k)) q i

low_lifts : (f : Feet) → Low (lifts f)
low_lifts f zero = mark_low f.left_front.lifted
low_lifts f (suc zero) = mark_low f.right_front.lifted
low_lifts f (suc (suc zero)) = mark_low f.left_middle.lifted
low_lifts f (suc (suc (suc zero))) = mark_low f.right_middle.lifted
low_lifts f (suc (suc (suc (suc zero)))) = mark_low f.left_rear.lifted
low_lifts f (suc (suc (suc (suc (suc zero))))) = mark_low f.right_rear.lifted
low_lifts f (suc (suc (suc (suc (suc (suc i)))))) = lit≤ tt

low_tripod : (t : Tripod) → tripod_mark t ≤ 1
low_tripod LRL = lit≤ tt
low_tripod RLR = lit≤ tt

low_flags : (s : State) → Low (flag_bytes s)
low_flags s =
    let rest = tripod_mark s.lifted ∷ mark s.command.aggressive_leg_lift ∷ [] in
    let fourth = lifts s.relaxed ++ rest in
    let third = lifts s.target ++ fourth in
    let second = lifts s.last ++ third in
    low_joined (lifts s.start) second (low_lifts s.start)
    (low_joined (lifts s.last) third (low_lifts s.last)
    (low_joined (lifts s.target) fourth (low_lifts s.target)
    (low_joined (lifts s.relaxed) rest (low_lifts s.relaxed) two)))
  where
    two : Low (tripod_mark s.lifted ∷ mark s.command.aggressive_leg_lift ∷ [])
    two zero = low_tripod s.lifted
    two (suc zero) = mark_low s.command.aggressive_leg_lift
    two (suc (suc i)) = lit≤ tt

flags_low : (n : ℕ) (l : List ℕ) (at : ℕ) → ((k : ℕ) → get_or l (at + k) 0 ≤ 1) → flags n l at ≡ true
flags_low zero l at h = refl
flags_low (suc n) l at h = ap₂ (λ (a b : Bool). a && b) (flags_low n l at h) (le-leb (get_or l (at + n) 0) 1 (h n))

pub length_of_state : (s : State) → length (state_bytes s) ≡ 506
unfolding state_bytes
length_of_state s =
    length-append (floats_bytes (state_values s)) (time_bytes s.command.step_time ++ flag_bytes s)
    ∙ ap (λ (n : ℕ). n + 38) (front s)

pub length_of_joints : (j : Joints) → length (joint_bytes j) ≡ 72
unfolding joint_bytes
length_of_joints j = length_floats (values joints_of (row (angles j)))

pub bytes_are_a_state : (s : State) → is_state (state_bytes s) ≡ true
unfolding is_state
bytes_are_a_state s =
    ap₂ (λ (n : ℕ) (b : Bool). eqb n 506 && b) (length_of_state s)
    (flags_low 26 (state_bytes s) 480 (λ k. subst (λ (n : ℕ). n ≤ 1) (sym (flag_read s k)) (low_flags s k)))

bytes_of_floats : (xs : List Float) → AllBytes (floats_bytes xs)
bytes_of_floats [] = λ i. lit< tt
bytes_of_floats (x ∷ xs) =
    bytes_joined (float_bytes x) (floats_bytes xs) (bytes_of_word (to_bits binary32 x)) (bytes_of_floats xs)

pub bytes_of_joints : (j : Joints) → AllBytes (joint_bytes j)
unfolding joint_bytes
bytes_of_joints j = bytes_of_floats (values joints_of (row (angles j)))

pub bytes_of_state : (s : State) → AllBytes (state_bytes s)
unfolding state_bytes
bytes_of_state s =
    let t = s.command.step_time in
    let time : AllBytes (time_bytes t) =
    bytes_joined (word_bytes t.nanoseconds) (long_bytes t.seconds) (bytes_of_word t.nanoseconds)
    (bytes_joined (word_bytes (t.seconds % 4294967296)) (word_bytes (t.seconds / 4294967296))
    (bytes_of_word (t.seconds % 4294967296)) (bytes_of_word (t.seconds / 4294967296))) in
    bytes_joined (floats_bytes (state_values s)) (time_bytes t ++ flag_bytes s) (bytes_of_floats (state_values s))
    (bytes_joined (time_bytes t) (flag_bytes s) time (λ i. lt_of_le_of_lt (low_flags s i) (lit< tt)))

-- ---- what is a state's row has its length
pub state_row_length : (l : List ℕ) → is_state l ≡ true → length l ≡ 506
unfolding is_state
state_row_length l h = eqb-true (length l) 506 (and_left (eqb (length l) 506) (flags 26 l 480) h)
