-- Document 01's number and values for each case of an answer on joints, and request K2's: "both name the leg, 0 to 5 in 01's row order";
-- so do the two of request K4. The leg is the one mark of such a refusal.
use Rattle.std.specs.Prelude.{ℕ, suc, List, [], ◌∷◌, ◌==◌, Option, Some, None, Result, Ok, Err}
use Rattle.numbers.specs.Told.{Told, refused, given, choose}
use Rattle.numbers.specs.Refusals.{number_of}
use Rattle.numbers.specs.declared.refusal.Refusal.{Refusal}
use Rattle.legs.specs.Legs.{Joints, row, angles, joints_of, values}
use Rattle.legs.specs.LegNumbers.{leg_number}
use Rattle.legs.specs.declared.leg.Leg.{Leg}
use Rattle.joints.specs.declared.refusal.SolverRefusal.{SolverRefusal}

-- eighteen angles, in row order
abbrev pub given_joints : Joints → Told
given_joints j = given [] (values joints_of (row (angles j)))

-- a refusal that names a leg
abbrev pub leg_refused : ℕ → ℕ → Told
leg_refused n k = record { number = n; marks = k ∷ []; values = [] }

-- over the refusals of legs in row order, from the k-th on (0: this leg passes): the first that is not 0, with its leg, else what is given
abbrev pub first_leg : List ℕ → ℕ → Told → Told
first_leg [] k t = t
first_leg (n ∷ ns) k t = choose (n == 0) (first_leg ns (suc k) t) (leg_refused n k)

-- a refusal, with the leg where it names one; that of the door names none
abbrev pub refused_at : ℕ → Option Leg → Told
refused_at n None = refused n
refused_at n (Some l) = leg_refused n (leg_number l)

abbrev pub of_the_door : Refusal → SolverRefusal
of_the_door r = record { refusal = r; leg = None }

-- of any kind of answer: what its value says, or the refusal
abbrev pub told_by : {A : Type 0} → (A → Told) → Result A SolverRefusal → Told
told_by say (Ok a) = say a
told_by say (Err r) = refused_at (number_of r.refusal) r.leg

abbrev pub told : Result Joints SolverRefusal → Told
told r = told_by given_joints r

-- of a test, which gives nothing where it passes
abbrev pub nothing : Told
nothing = given [] []

abbrev pub told_test : {A : Type 0} → Result A SolverRefusal → Told
told_test {A} r = told_by (λ (a : A). nothing) r
