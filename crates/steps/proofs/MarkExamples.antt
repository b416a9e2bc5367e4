-- Request K12's cases, by computation: six feet go from the origin a quarter of a metre ahead in half a second, left front, right middle
-- and left rear lifted by 3 cm. The marks of the answer are told in row order, 1 for lifted.
use Rattle.std.specs.Prelude.{◌≡◌, ℕ, Bool, true, false, List, [], ◌∷◌, take}
use mathlib.Core.Path.{refl}
use lib.Ieee.{Float, binary32, of_bits, round, add, sub, mul, div, lt, le, eq}
use Rattle.commands.specs.Constants.{nought, one}
use Rattle.commands.specs.Times.{elapsed_permitted, period_permitted, whole_number, in_seconds}
use Rattle.commands.specs.declared.Tripod.TheVariants.{LRL}
use Rattle.numbers.specs.Told.{Told}
use Rattle.numbers.specs.Door.{finite}
use Rattle.numbers.specs.Limits.{over, minus, foot_limit, direction}
use Rattle.legs.specs.Legs.{Leg, left_front, right_front, left_middle, right_middle, left_rear, right_rear}
use Rattle.legs.specs.Legs.{six_points, marked, finite_point, permitted_point}
use Rattle.legs.specs.declared.Point.{Point}
use Rattle.legs.specs.Legs.{Points}
use Rattle.moves.specs.Distance.{same}
use Rattle.moves.specs.Moving.{place_of, has_moved}
use Rattle.steps.specs.Entries.{next_even_told}
use Rattle.steps.specs.Leg.{half, half_turn, step_lifted_leg}
use Rattle.steps.specs.Marks.{mark_after, stepped}
use Rattle.steps.specs.Next.{even_at, next_even}
use Rattle.steps.specs.Progress.{even_progress}
use Rattle.steps.specs.Refusals.{lift_refusal}
use Rattle.steps.specs.Shift.{shift_legs}
use Rattle.steps.proofs.Examples.{nanoseconds_of}
use Rattle.steps.specs.declared.Lift.{Lift}

abbrev bits : ℕ → Float
bits = of_bits binary32

-- on the x axis
abbrev ahead : ℕ → Point
ahead x = record { x = bits x; y = bits 0; z = bits 0 }

abbrev here : Points
here = six_points (λ l. ahead 0)

abbrev there : Points
there = six_points (λ l. ahead 0x3e80_0000)

-- left front at its target already
abbrev one_there : Points
one_there = record {
  left_front = ahead 0x3e80_0000;
  left_middle = ahead 0;
  left_rear = ahead 0;
  right_front = ahead 0;
  right_middle = ahead 0;
  right_rear = ahead 0;
}

-- the marks of last; those of start and target mean nothing, and are others here
abbrev none : Leg → Bool
none l = false

abbrev all : Leg → Bool
all l = true

abbrev odd : Leg → Bool
odd left_front = true
odd right_front = true
odd left_middle = false
odd right_middle = false
odd left_rear = true
odd right_rear = false

-- lifted by so much, in aggressive mode or not
abbrev lift : ℕ → Bool → Lift
lift height aggressive =
    record { step_height = bits height; grounded_leg_descent = bits 0; tripod = LRL; aggressive_leg_lift = aggressive }

-- that there is a step, and the marks of its feet
abbrev told_first : Told → List ℕ
told_first t = take 7 t.marks

abbrev going : Points → (Leg → Bool) → Points → Lift → ℕ → List ℕ
going start had last lift n =
    told_first
    (next_even_told {pace = 1}
    (record {
      start = marked odd start;
      last = marked had last;
      target = marked odd there;
      period = nanoseconds_of 500000000;
      lift = lift;
    })
    (nanoseconds_of n))

abbrev even : (Leg → Bool) → Points → ℕ → List ℕ
even had last = going here had last (lift 0x3cf5_c28f false)

pub marks_told :
    (even none here 250000000 ≡ 1 ∷ 1 ∷ 0 ∷ 0 ∷ 1 ∷ 1 ∷ 0 ∷ [])
    × (even none here 500000000 ≡ 1 ∷ 0 ∷ 0 ∷ 0 ∷ 0 ∷ 0 ∷ 0 ∷ [])
    × (even all here 250000000 ≡ 1 ∷ 1 ∷ 1 ∷ 1 ∷ 1 ∷ 1 ∷ 1 ∷ [])
    × (even all here 500000000 ≡ 1 ∷ 0 ∷ 1 ∷ 1 ∷ 0 ∷ 0 ∷ 1 ∷ [])
    × (even all one_there 500000000 ≡ 1 ∷ 1 ∷ 1 ∷ 1 ∷ 0 ∷ 0 ∷ 1 ∷ [])
unfolding next_even_told next_even even_at lift_refusal even_progress shift_legs stepped mark_after step_lifted_leg same has_moved place_of
    elapsed_permitted period_permitted whole_number in_seconds finite_point permitted_point finite foot_limit direction over minus nought
    one
    half half_turn round of_bits add sub mul div lt le eq
marks_told = (refl, refl, refl, refl, refl)

-- ---- the point decides, not the progress: a step from the target to the target, with no height, is there a quarter of the way
pub there_early :
    (going there none here (lift 0 true) 125000000 ≡ 1 ∷ 0 ∷ 0 ∷ 0 ∷ 0 ∷ 0 ∷ 0 ∷ [])
    × (going there all here (lift 0 true) 125000000 ≡ 1 ∷ 0 ∷ 1 ∷ 1 ∷ 0 ∷ 0 ∷ 1 ∷ [])
unfolding next_even_told next_even even_at lift_refusal even_progress shift_legs stepped mark_after step_lifted_leg same has_moved place_of
    elapsed_permitted period_permitted whole_number in_seconds finite_point permitted_point finite foot_limit direction over minus nought
    one
    half half_turn round of_bits add sub mul div lt le eq
there_early = (refl, refl)
