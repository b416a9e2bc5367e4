-- How ours computes six feet: left front, right middle and left rear alike, and the other three alike. Nothing of document 01.
use Rattle.std.specs.Prelude.{Bool, not, List}
use Rattle.std.specs.Prelude.{Float}
use Rattle.legs.specs.Legs.{Leg, left_front, right_front, left_middle, right_middle, left_rear, right_rear, point, six_points}
use Rattle.legs.specs.declared.Point.{Point}
use Rattle.legs.specs.Legs.{Points}
use Rattle.planner.specs.Turns.{applied}
use Rattle.planner.specs.Plan.{ready_foot}

-- the first for left front, right middle and left rear, the second for the others
abbrev pub by_leg : {A : Type 0} → Leg → A → A → A
by_leg left_front a b = a
by_leg right_middle a b = a
by_leg left_rear a b = a
by_leg right_front a b = b
by_leg left_middle a b = b
by_leg right_rear a b = b

unfoldable pub applied_feet : List (List Float) → List (List Float) → Points → Points
applied_feet a b f = six_points (λ l. applied (by_leg l a b) (point f l))

unfoldable pub ready_feet : Bool → Points → Points → Point → Point → Points
ready_feet lrl start relaxed motion shift =
    six_points (λ l. ready_foot (by_leg l lrl (not lrl)) (point start l) (point relaxed l) motion shift)
