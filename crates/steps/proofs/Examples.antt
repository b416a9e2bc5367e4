-- Request K5's cases, by computation: six feet are to be lowered straight down, by 4 mm, in half a second. Even pace takes the step; the
-- source's two iterators have none, since nothing moves sideways.
use Rattle.std.specs.Prelude.{◌≡◌, ℕ, ◌^◌, Bool, true, false, [], ◌∷◌}
use mathlib.Core.Path.{refl, ap, ◌∙◌}
use lib.Ieee.{Float, binary32, of_bits, round, add, sub, mul, div, lt, le, eq}
use Rattle.commands.specs.Constants.{nought, one}
use Rattle.commands.specs.Tripods.{has}
use Rattle.commands.specs.Times.{elapsed_permitted, period_permitted, whole_number, in_seconds}
use Rattle.commands.specs.declared.Time.{Time}
use Rattle.commands.specs.declared.Tripod.TheVariants.{LRL}
use Rattle.numbers.specs.Told.{Told}
use Rattle.numbers.specs.Door.{finite}
use Rattle.numbers.specs.Limits.{over, minus, foot_limit, max_move, direction}
use Rattle.roots.specs.Root.{square_root}
use Rattle.sines.specs.How.{sine}
use Rattle.sines.proofs.Examples.{quarter_turn}
use Rattle.legs.specs.Legs.{row, six_points, points, marked, finite_point, permitted_point}
use Rattle.legs.specs.declared.Point.{Point}
use Rattle.legs.specs.Legs.{Points}
use Rattle.legs.specs.Legs.{Feet}
use Rattle.moves.specs.Distance.{same, horizontal_sum, horizontal_distance, max_horizontal_distance}
use Rattle.moves.specs.Moving.{place_of, has_moved}
use Rattle.steps.specs.Answers.{lift_marks, lift_values, given_step, given_none}
use Rattle.steps.specs.Entries.{next_step_told, next_timed_told, next_even_told}
use Rattle.steps.specs.Leg.{half, half_turn, step_lifted_leg}
use Rattle.steps.specs.Marks.{mark_after, stepped}
use Rattle.steps.specs.Next.{by_time, timed_at, even_at, next_step, next_timed, next_even}
use Rattle.steps.specs.Progress.{step_progress, timed_progress, even_progress}
use Rattle.steps.specs.Refusals.{step_refusal, lift_refusal}
use Rattle.steps.specs.Shift.{leg_step, shift_legs}
use Rattle.steps.specs.declared.Lift.{Lift}

abbrev bits : ℕ → Float
bits = of_bits binary32

-- (0.2, 0.1, z), and six feet that stand there
abbrev at : Float → Point
at z = record { x = bits 0x3e4c_cccd; y = bits 0x3dcc_cccd; z = z }

abbrev standing : Points → Feet
standing p = marked (λ l. false) p

abbrev all : Float → Feet
all z = standing (six_points (λ l. at z))

-- 4 mm up, and down
abbrev up : Feet
up = all (bits 0x3b83_126f)

abbrev down : Feet
down = all (bits 0)

-- down, but for right rear
abbrev hanging : Feet
hanging = standing (record {
  left_front = at (bits 0);
  left_middle = at (bits 0);
  left_rear = at (bits 0);
  right_front = at (bits 0);
  right_middle = at (bits 0);
  right_rear = at (bits 0x3b83_126f);
})

-- left front, right middle and left rear at one height, the others at another; and six feet there, those three lifted
abbrev swung : Float → Float → Points
swung high low = record {
  left_front = at high;
  left_middle = at low;
  left_rear = at high;
  right_front = at low;
  right_middle = at high;
  right_rear = at low;
}

abbrev three_lifted : Points → Feet
three_lifted p = marked (has LRL) p

-- three feet are lifted by 3 cm, in aggressive mode or not
abbrev lift : Bool → Lift
lift aggressive = record {
  step_height = bits 0x3cf5_c28f;
  grounded_leg_descent = bits 0;
  tripod = LRL;
  aggressive_leg_lift = aggressive;
}

abbrev pub nanoseconds_of : ℕ → Time
nanoseconds_of n = record { seconds = 0; nanoseconds = n }

-- from up to down in half a second, last where it says, at so many nanoseconds
abbrev even : Bool → Feet → ℕ → Told
even aggressive last n =
    next_even_told {pace = 1}
    (record { start = up; last = last; target = down; period = nanoseconds_of 500000000; lift = lift aggressive })
    (nanoseconds_of n)

abbrev timed : Feet → ℕ → Told
timed last n =
    next_timed_told {pace = 0}
    (record { start = up; last = last; target = down; period = nanoseconds_of 500000000; lift = lift false })
    (nanoseconds_of n)

abbrev by_distance : Feet → Told
by_distance last =
    next_step_told (record {
      start = up;
      last = last;
      target = down;
      max_move = over 1 8;
      step_height = bits 0x3cf5_c28f;
      tripod = LRL;
      aggressive_leg_lift = false;
    })

-- a step there; the state after remembers it
abbrev went : Bool → Feet → Told
went aggressive f =
    given_step f
    (lift_marks (lift aggressive) (nanoseconds_of 500000000) up f down)
    (lift_values (lift aggressive) up f down)

-- ---- once the time is up; where all are down; with one foot up
pub lowered : ((even false up 500000000 ≡ went false down)
    × (even false down 500000000 ≡ given_none)
    × (even false hanging 500000000 ≡ went false down))
    × ((timed up 500000000 ≡ given_none) × (timed down 500000000 ≡ given_none) × (timed hanging 500000000 ≡ given_none))
    × ((by_distance up ≡ given_none) × (by_distance down ≡ given_none) × (by_distance hanging ≡ given_none))
unfolding next_even_told next_even even_at next_timed_told next_timed timed_at by_time next_step_told next_step lift_refusal step_refusal
    even_progress timed_progress step_progress shift_legs stepped mark_after step_lifted_leg same has_moved place_of
    max_horizontal_distance horizontal_distance horizontal_sum square_root elapsed_permitted period_permitted whole_number in_seconds
    finite_point permitted_point finite foot_limit max_move direction over minus nought one half half_turn round of_bits add sub mul div lt
    le eq
lowered = ((refl, refl, refl), (refl, refl, refl), (refl, refl, refl))

-- of the last, one foot moved
pub one_foot : row (λ l. has_moved (leg_step (points up) (points hanging) (points down) (lift false) (over 1 1) l))
    ≡ (false ∷ false ∷ false ∷ false ∷ false ∷ true ∷ [])
unfolding step_lifted_leg same has_moved over one round of_bits lt le eq
one_foot = refl

-- ---- half way in time: "z of left front, right middle, left rear is sine(P/2) * 0.03 + 0.004"; and a quarter of the way in aggressive
-- mode, at full height at once
abbrev risen : Float → Points
risen s =
    swung
    (add binary32 (mul binary32 s (bits 0x3cf5_c28f)) (bits 0x3b83_126f))
    (add binary32 (mul binary32 s (bits 0)) (bits 0x3b83_126f))

pub on_the_way : (even false up 250000000 ≡ went false (stepped LRL up (points down) (risen (sine (over 13176795 (2 ^ 23))))))
    × (even true up 125000000 ≡ went true (three_lifted (swung (bits 0x3d0b_4395) (bits 0x3b83_126f))))
    × (timed up 250000000 ≡ given_none)
unfolding next_even_told next_even even_at next_timed_told next_timed timed_at by_time lift_refusal
    even_progress timed_progress shift_legs stepped mark_after step_lifted_leg same has_moved place_of max_horizontal_distance
    horizontal_distance
    horizontal_sum square_root elapsed_permitted period_permitted whole_number in_seconds finite_point permitted_point finite
    foot_limit direction over minus nought one half half_turn round of_bits add sub mul div lt le eq
on_the_way = (refl, refl, refl)

-- which is 34 mm, and 4 mm for the others; the three are lifted
pub half_way : even false up 250000000 ≡ went false (three_lifted (swung (bits 0x3d0b_4395) (bits 0x3b83_126f)))
unfolding stepped mark_after same over round of_bits add mul lt eq
half_way = on_the_way.0 ∙ ap (λ (s : Float). went false (stepped LRL up (points down) (risen s))) quarter_turn
