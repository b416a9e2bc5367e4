-- What is told of a whole-number step: its point by six marks and no float, or the refusal's number.
use Rattle.std.specs.Prelude.{ℕ, not, List, [], ◌∷◌, ◌++◌, ℤ, nat_abs, Result}
use Rattle.std.specs.Int.Signed.{non_neg}
use Rattle.numbers.specs.Told.{Told, given, mark, answer}
use Rattle.numbers.specs.Answers.{told_by}
use Rattle.numbers.specs.declared.refusal.Refusal.{Refusal}
use Rattle.wholes.specs.Wholes.{refusal, whole_step}
use Rattle.wholes.specs.declared.WholePoint.{WholePoint}

-- a whole number by two marks: whether it is below 0, and how far from 0
abbrev pub marks_of : ℤ → List ℕ
marks_of n = mark (not (non_neg n)) ∷ nat_abs n ∷ []

abbrev pub given_point : WholePoint → Told
given_point p = given (marks_of p.x ++ (marks_of p.y ++ marks_of p.z)) []

abbrev pub told : Result WholePoint Refusal → Told
told r = told_by given_point r

abbrev pub step_leg_told : WholePoint → WholePoint → ℤ → ℤ → Told
step_leg_told start target height progress =
    answer (refusal start target height progress) (given_point (whole_step start target (nat_abs height) (nat_abs progress)))
