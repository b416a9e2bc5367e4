-- Document 01, "Cases to prove (p1 to p12)", and those of requests K5 and K12: one list, one statement. Lengths are metres.
use Rattle.std.specs.Prelude.{◌≡◌, true, false, List, [], ◌∷◌, ℕ, ◌^◌, Float, take}
use Rattle.std.specs.Float.{nan}
use Rattle.numbers.specs.Told.{Told, given, refused}
use Rattle.numbers.specs.Limits.{over, minus, foot_limit}
use Rattle.legs.specs.Legs.{feet, coordinates, permitted_feet}
use Rattle.legs.specs.declared.Foot.{Foot}
use Rattle.legs.specs.Flags.{lrl_tripod}
use Rattle.legs.specs.Answers.{given_feet}
use Rattle.legs.specs.Merge.{merge_told}
use Rattle.rows.specs.Rows.{update_told}
use Rattle.moves.specs.Entries.{move_told}
use Rattle.walks.specs.Walk.{Walk}
use Rattle.walks.specs.Answers.{walk_refusal, Counts}
use Rattle.steps.specs.Answers.{lift_marks, lift_values, given_step}
use Rattle.steps.specs.Entries.{timed_progress_told, even_progress_told, next_even_told}
use Rattle.steps.specs.declared.Lift.{Lift}
use Rattle.commands.specs.declared.Tripod.TheVariants.{LRL}
use Rattle.legs.specs.declared.Point.{Point}
use Rattle.legs.specs.Legs.{Feet}
use Rattle.commands.specs.declared.Time.{Time}

-- (a, b, 0), and six feet that stand at one point
abbrev at : Float → Float → Point
at a b = record { x = a; y = b; z = over 0 1 }

abbrev standing : Point → Foot
standing p = record { point = p; lifted = false }

abbrev all : Point → Feet
all p = feet (λ l. standing p)

abbrev zero : Float
zero = over 0 1

abbrev start : Point
start = at zero zero

abbrev eighth : Point
eighth = at (over 1 8) zero

abbrev quarter : Point
quarter = at (over 1 4) zero

abbrev slant : Point
slant = at (over 3 8) (over 1 2)

abbrev nanoseconds : ℕ → Time
nanoseconds n = record { seconds = 0; nanoseconds = n }

-- a single step's answer: the new point, moved; or the target, not moved
abbrev moved : Point → Told
moved p = given (1 ∷ []) (coordinates p)

abbrev not_moved : Point → Told
not_moved p = given (0 ∷ []) (coordinates p)

-- what `walk` promises holds of the answer k, with nothing refused
abbrev Walks : Float → Point → Point → ℕ → Type 0
Walks m s t k = Counts (walk_refusal m s t) (Walk m s t) (given (k ∷ []) [])

-- of all permitted feet a and b the mask gives one
abbrev Merges : ℕ → (Feet → Feet → Feet) → Type 0
Merges mask pick = (a b : Feet) → permitted_feet foot_limit a ≡ true → permitted_feet foot_limit b ≡ true
    → merge_told a b mask ≡ given_feet (pick a b)

-- a step at even pace: six feet from one point to another in half a second, the left front, right middle and left rear lifted by 3 cm;
-- not yet gone, and the time is up. Its answer: the feet, and the state that remembers them
abbrev lift : Lift
lift =
    record {
      step_height = over 3 100;
      grounded_leg_descent = zero;
      tripod = LRL;
      aggressive_leg_lift = false;
    }

abbrev paced : Point → Point → Told
paced from to =
    next_even_told {pace = 1}
    (record { start = all from; last = all from; target = all to; period = nanoseconds 500000000; lift = lift })
    (nanoseconds 500000000)

abbrev moved_to : Point → Point → Point → Told
moved_to from to p =
    given_step (all p)
    (lift_marks lift (nanoseconds 500000000) (all from) (all p) (all to))
    (lift_values lift (all from) (all p) (all to))

-- such a step from (0,0,0) to (1/4,0,0) after so many nanoseconds: that there is one, and the marks of its feet in row order
abbrev striding : ℕ → List ℕ
striding n =
    take 7
    (next_even_told {pace = 1}
    (record {
      start = all start;
      last = all start;
      target = all quarter;
      period = nanoseconds 500000000;
      lift = lift;
    })
    (nanoseconds n)).marks

-- (0.2, 0.1), 4 mm up and down
abbrev lifted : Point
lifted = record { x = over 1 5; y = over 1 10; z = over 4 1000 }

abbrev lowered : Point
lowered = at (over 1 5) (over 1 10)

abbrev pub cases : List (Type 0)
cases =
    -- p1 (0,0,0) to (1/4,0,0), m 1/8: (1/8,0,0), moved
    (move_told start quarter (over 1 8) ≡ moved eighth)
    -- p2 from there: target, moved
    ∷ (move_told eighth quarter (over 1 8) ≡ moved quarter)
    -- p3 from there: not moved
    ∷ (move_told quarter quarter (over 1 8) ≡ not_moved quarter)
    -- p4 x -0 to +0, rest equal: +0, not moved
    ∷ (move_told (at (minus 0 1) zero) start (over 1 8) ≡ not_moved start)
    -- p5 p1 with m 0: (0,0,0), moved
    ∷ (move_told start quarter zero ≡ moved start)
    -- p6 (0,0,0) to (3/8,1/2,0), m 5/8: one step
    ∷ (move_told start slant (over 5 8) ≡ moved slant)
    ∷ Walks (over 5 8) start slant 1
    -- p7 p1's walk: 2
    ∷ Walks (over 1 8) start quarter 2
    -- p8 mask 0 merges nothing, 63 all
    ∷ Merges 0 (λ a b. a)
    ∷ Merges 63 (λ a b. b)
    -- p9 mask of LRL_TRIPOD, two values: refusal 5
    ∷ (update_told (all start) (standing quarter ∷ standing quarter ∷ []) lrl_tripod ≡ refused 5)
    -- p10 period 1/2 s, elapsed 1/4 s: progress 1; even pace: 1/2
    ∷ (timed_progress_told (nanoseconds 250000000) (nanoseconds 500000000) ≡ given [] (over 1 1 ∷ []))
    ∷ (even_progress_told (nanoseconds 250000000) (nanoseconds 500000000) ≡ given [] (over 1 2 ∷ []))
    -- p11 nanoseconds 999,999,999 taken, 10^9: refusal 3
    ∷ (even_progress_told (nanoseconds 999999999) (nanoseconds 500000000) ≡ given [] (over 2 1 ∷ []))
    ∷ (even_progress_told (nanoseconds (10 ^ 9)) (nanoseconds 500000000) ≡ refused 3)
    -- p12 NaN point with mask 64: refusal 1
    ∷ (merge_told (all (at nan zero)) (all start) 64 ≡ refused 1)
    -- k5 start and target differ only in z, progress 1: target, moved
    ∷ (paced lifted lowered ≡ moved_to lifted lowered lowered)
    -- k12 half way left front, right middle and left rear are lifted; at their targets all stand
    ∷ (striding 250000000 ≡ 1 ∷ 1 ∷ 0 ∷ 0 ∷ 1 ∷ 1 ∷ 0 ∷ [])
    ∷ (striding 500000000 ≡ 1 ∷ 0 ∷ 0 ∷ 0 ∷ 0 ∷ 0 ∷ 0 ∷ [])
    ∷ []

-- every case of a list holds
abbrev pub Hold : List (Type 0) → Type 0
Hold [] = Unit {0}
Hold (p ∷ ps) = p × Hold ps
