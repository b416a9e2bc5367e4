-- What is told of a call. The first mark of one that is not refused is its kind: 0 a step, with the marks of its feet behind, 1 a plan, 2
-- rest; its values are the feet of a step, then eighteen joint angles.
use Rattle.std.specs.Prelude.{ℕ, List, [], ◌∷◌, ◌++◌, ◌==◌}
use Rattle.std.specs.Prelude.{Float, Result}
use Rattle.numbers.specs.Told.{Told, given, choose}
use Rattle.legs.specs.Legs.{row, foot, angles, coordinates, joints_of, values}
use Rattle.legs.specs.Answers.{lifts}
use Rattle.legs.specs.Legs.{Feet}
use Rattle.legs.specs.Legs.{Joints}
use Rattle.joints.specs.Answers.{told_by}
use Rattle.joints.specs.declared.refusal.SolverRefusal.{SolverRefusal}
use Rattle.conductor.specs.declared.Reply.{Reply}
use Rattle.conductor.specs.declared.Reply.TheVariants.{Step as SaysStep, Planned as SaysPlanned, Rests as SaysRests}

-- what a call does that nothing refuses
pub data Kind : Type 0 where
  step planned rests : Kind

-- a kind's mark, and what stands before the joints: of a step, its feet
abbrev pub kind_mark : Kind → ℕ
kind_mark step = 0
kind_mark planned = 1
kind_mark rests = 2

abbrev pub kind_marks : Kind → Feet → List ℕ
kind_marks step f = kind_mark step ∷ lifts f
kind_marks planned f = kind_mark planned ∷ []
kind_marks rests f = kind_mark rests ∷ []

abbrev pub kind_values : Kind → Feet → List Float
kind_values step f = values coordinates (row (foot f))
kind_values planned f = []
kind_values rests f = []

-- what the joint solver tells, with the kind before it where it tells joints
abbrev pub with_kind : Kind → Feet → Told → Told
with_kind k f t = choose (t.number == 0) (given (kind_marks k f ++ t.marks) (kind_values k f ++ t.values)) t

abbrev pub given_call : Kind → Feet → Joints → Told
given_call k f j = given (kind_marks k f) (kind_values k f ++ values joints_of (row (angles j)))

abbrev pub given_reply : Reply → Told
given_reply (SaysStep f j) = given_call step f j
given_reply (SaysPlanned j) = given (kind_mark planned ∷ []) (values joints_of (row (angles j)))
given_reply (SaysRests j) = given (kind_mark rests ∷ []) (values joints_of (row (angles j)))

unfoldable pub told : Result Reply SolverRefusal → Told
told r = told_by given_reply r
