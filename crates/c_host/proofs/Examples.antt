-- Request K10's example, by computing: six feet stand around the origin, 1/8 m below it, LRL lifted; direction x 1/16 m, a step of 1 s,
-- 1/32 m high. A standing state plans; half a step later the feet of RLR are half way and up; at 1 s all are at their targets; then LRL is
-- planned; with no direction it rests. Whatever the crawler is built like.
use Rattle.std.specs.Prelude.{◌≡◌, ℕ, false, List, [], ◌∷◌}
use mathlib.Core.Path.{refl, ap}
use lib.Ieee.{Float, binary32, of_bits, round, neg, add, sub, mul, div, lt, le, eq}
use Rattle.numbers.specs.Limits.{over, minus}
use Rattle.numbers.specs.Finite.{magnitude}
use Rattle.legs.specs.Legs.{Leg, left_front, right_front, left_middle, right_middle, left_rear, right_rear}
use Rattle.legs.specs.Legs.{foot, marked}
use Rattle.legs.specs.Answers.{lifts}
use Rattle.legs.specs.declared.Point.{Point}
use Rattle.legs.specs.Legs.{Points}
use Rattle.legs.specs.Legs.{Feet}
use Rattle.sines.proofs.Examples.{quarter_turn}
use Rattle.moves.specs.Distance.{same}
use Rattle.moves.specs.Moving.{place_of, has_moved}
use Rattle.commands.specs.Constants.{nought, one}
use Rattle.commands.specs.Times.{whole_number, in_seconds}
use Rattle.commands.specs.Command.{command, epsilon, should_move}
use Rattle.commands.specs.declared.Time.{Time}
use Rattle.commands.specs.declared.Tripod.{Tripod}
use Rattle.commands.specs.declared.Tripod.TheVariants.{LRL, RLR}
use Rattle.steps.specs.Leg.{half, half_turn, step_lifted_leg}
use Rattle.steps.specs.Marks.{mark_after, stepped}
use Rattle.steps.specs.Next.{even_at, next_even}
use Rattle.steps.specs.Progress.{even_progress}
use Rattle.steps.specs.Shift.{shift_legs}
use Rattle.joints.specs.declared.configuration.Configuration.{Configuration}
use Rattle.conductor.specs.States.{planned_state, under_command}
use Rattle.conductor.specs.Answers.{step, planned, rests}
use Rattle.conductor.specs.Conduct.{onward, moved}
use Rattle.conductor.specs.declared.State.{State}

abbrev bits : ℕ → Float
bits = of_bits binary32

-- a point 1/8 m below
abbrev below : ℕ → ℕ → Point
below x y = record { x = bits x; y = bits y; z = bits 0xbe00_0000 }

abbrev six : Point → Point → Point → Point → Point → Point → Points
six lf rf lm rm lr rr =
    record {
      left_front = lf;
      right_front = rf;
      left_middle = lm;
      right_middle = rm;
      left_rear = lr;
      right_rear = rr;
    }

-- where they stand: 1/4 m ahead, beside and behind, 1/4 m to the left and to the right
abbrev around : Points
around =
    six (below 0x3e80_0000 0x3e80_0000) (below 0x3e80_0000 0xbe80_0000) (below 0 0x3e80_0000) (below 0 0xbe80_0000)
    (below 0xbe80_0000 0x3e80_0000) (below 0xbe80_0000 0xbe80_0000)

-- where a step of RLR brings them: its three 1/16 m ahead, the others as far back
abbrev target : Points
target =
    six (below 0x3e40_0000 0x3e80_0000) (below 0x3ea0_0000 0xbe80_0000) (below 0x3d80_0000 0x3e80_0000) (below 0xbd80_0000 0xbe80_0000)
    (below 0xbea0_0000 0x3e80_0000) (below 0xbe40_0000 0xbe80_0000)

abbrev standing : Points → Feet
standing p = marked (λ l. false) p

-- a state with these last and target points, this tripod and this direction ahead
abbrev state : Configuration → Points → Points → Tripod → ℕ → State
state c last to lifted direction =
    record {
      start = standing around;
      last = standing last;
      target = standing to;
      relaxed = standing around;
      lifted = lifted;
      command = command (bits direction) (bits 0) (bits 0) (record { seconds = 1; nanoseconds = 0 }) (bits 0x3d00_0000) false;
      configuration = c;
    }

-- the step of RLR, in 2 s
abbrev slowly : Configuration → State
slowly c =
    under_command (state c around target RLR 0x3d80_0000)
    (command (bits 0x3d80_0000) (bits 0) (bits 0) (record { seconds = 2; nanoseconds = 0 }) (bits 0x3d00_0000) false)

abbrev half_second : Time
half_second = record { seconds = 0; nanoseconds = 500000000 }

abbrev one_second : Time
one_second = record { seconds = 1; nanoseconds = 0 }

abbrev across : (Leg → Point) → List Float
across g =
    (g left_front).x ∷ (g right_front).x ∷ (g left_middle).x ∷ (g right_middle).x ∷ (g left_rear).x ∷ (g right_rear).x ∷ []

module _ (c : Configuration) where
  -- 0.5 s: planned, by the other tripod; no foot moves
  pub stands_then_plans :
      (moved (state c around around LRL 0x3d80_0000) half_second ≡ onward planned (planned_state (state c around around LRL 0x3d80_0000)))
      × ((planned_state (state c around around LRL 0x3d80_0000)).lifted ≡ RLR)
      × ((planned_state (state c around around LRL 0x3d80_0000)).start ≡ standing around)
      × ((planned_state (state c around around LRL 0x3d80_0000)).last ≡ standing around)
  unfolding moved next_even even_at even_progress shift_legs stepped mark_after step_lifted_leg same has_moved place_of should_move epsilon
      magnitude
      whole_number in_seconds over minus nought one half half_turn round of_bits neg add sub mul div lt le eq
  stands_then_plans = (refl, refl, refl, refl)

  -- 0.5 s into the step: half way, RLR lifted
  pub half_way :
      ((moved (state c around target RLR 0x3d80_0000) half_second).kind ≡ step)
      × (lifts (moved (state c around target RLR 0x3d80_0000) half_second).state.last ≡ 0 ∷ 1 ∷ 1 ∷ 0 ∷ 0 ∷ 1 ∷ [])
      × (across (foot (moved (state c around target RLR 0x3d80_0000) half_second).state.last)
      ≡ bits 0x3e60_0000 ∷ bits 0x3e90_0000 ∷ bits 0x3d00_0000 ∷ bits 0xbd00_0000 ∷ bits 0xbe90_0000 ∷ bits 0xbe60_0000 ∷ [])
  unfolding moved next_even even_at even_progress shift_legs stepped mark_after step_lifted_leg same has_moved place_of
      whole_number in_seconds over minus nought one half half_turn round of_bits neg add sub mul div lt le eq
  half_way = (refl, refl, refl)

  -- a step of 2 s is half way at 1 s: its time divides once
  pub half_way_of_two_seconds :
      across (foot (moved (slowly c) one_second).state.last)
      ≡ bits 0x3e60_0000 ∷ bits 0x3e90_0000 ∷ bits 0x3d00_0000 ∷ bits 0xbd00_0000 ∷ bits 0xbe90_0000 ∷ bits 0xbe60_0000 ∷ []
  unfolding moved next_even even_at even_progress shift_legs stepped mark_after step_lifted_leg same has_moved place_of
      whole_number in_seconds over minus nought one half half_turn round of_bits neg add sub mul div lt le eq
  half_way_of_two_seconds = refl

  -- right front 1/32 m up, left front not
  pub right_front_up : (foot (moved (state c around target RLR 0x3d80_0000) half_second).state.last right_front).z ≡ bits 0xbdc0_0000
  unfolding moved next_even even_at even_progress shift_legs stepped mark_after step_lifted_leg same has_moved place_of
      whole_number in_seconds over minus nought one half half_turn round of_bits neg add sub mul div lt le eq
  right_front_up = ap (λ (x : Float). add binary32 (mul binary32 x (bits 0x3d00_0000)) (bits 0xbe00_0000)) quarter_turn

  pub left_front_stands : (foot (moved (state c around target RLR 0x3d80_0000) half_second).state.last left_front).z ≡ bits 0xbe00_0000
  unfolding moved next_even even_at even_progress shift_legs stepped mark_after step_lifted_leg same has_moved place_of
      whole_number in_seconds over minus nought one half half_turn round of_bits neg add sub mul div lt le eq
  left_front_stands = ap (λ (x : Float). add binary32 (mul binary32 x (bits 0)) (bits 0xbe00_0000)) quarter_turn

  -- 1 s: at the targets, all standing
  pub at_its_end :
      ((moved (state c around target RLR 0x3d80_0000) one_second).kind ≡ step)
      × ((moved (state c around target RLR 0x3d80_0000) one_second).state ≡ state c target target RLR 0x3d80_0000)
  unfolding moved next_even even_at even_progress shift_legs stepped mark_after step_lifted_leg same has_moved place_of
      whole_number in_seconds over minus nought one half half_turn round of_bits neg add sub mul div lt le eq
  at_its_end = (refl, refl)

  -- and the next call plans for LRL, or rests where there is no direction
  pub then_plans :
      (moved (state c target target RLR 0x3d80_0000) one_second ≡ onward planned (planned_state (state c target target RLR 0x3d80_0000)))
      × ((planned_state (state c target target RLR 0x3d80_0000)).lifted ≡ LRL)
      × ((planned_state (state c target target RLR 0x3d80_0000)).start ≡ standing target)
  unfolding moved next_even even_at even_progress shift_legs stepped mark_after step_lifted_leg same has_moved place_of should_move epsilon
      magnitude
      whole_number in_seconds over minus nought one half half_turn round of_bits neg add sub mul div lt le eq
  then_plans = (refl, refl, refl)

  pub or_rests : moved (state c target target RLR 0) one_second ≡ onward rests (state c target target RLR 0)
  unfolding moved next_even even_at even_progress shift_legs stepped mark_after step_lifted_leg same has_moved place_of should_move epsilon
      magnitude
      whole_number in_seconds over minus nought one half half_turn round of_bits neg add sub mul div lt le eq
  or_rests = refl
