-- What is told of a whole-number step can be read back, so telling loses nothing and no second answer fits a contract stated by it.
use Rattle.std.specs.Prelude.{Result}
use mathlib.Core.Path.{◌≡◌, refl, sym, ap, ◌∙◌}
use mathlib.Core.Bool.{not}
use mathlib.Core.List.{List, [], ◌∷◌}
use Prim.Native.Nat.{ℕ, zero, suc}
use lib.IntN.{ℤ, pos, negsuc, neg_ℤ, nat_abs}
use lib.Signed.{non_neg}
use Rattle.numbers.specs.Told.{Told, mark}
use Rattle.numbers.specs.declared.refusal.Refusal.{Refusal}
use Rattle.numbers.proofs.OneAnswer.{told_by_loses_nothing}
use Rattle.wholes.specs.Answers.{given_point, told}
use Rattle.wholes.specs.declared.WholePoint.{WholePoint}
use Rattle.wholes.proofs.Steps.{same_point}

-- a number of its two marks
number_of : ℕ → ℕ → ℤ
number_of zero n = pos n
number_of (suc k) n = neg_ℤ (pos n)

number_back : (n : ℤ) → number_of (mark (not (non_neg n))) (nat_abs n) ≡ n
unfolding number_of
number_back (pos n) = refl
number_back (negsuc n) = refl

-- a point of its six marks
place : List ℕ → ℕ → ℕ
place [] k = 0
place (m ∷ ms) zero = m
place (m ∷ ms) (suc k) = place ms k

point_of : List ℕ → WholePoint
point_of ms =
    record {
      x = number_of (place ms 0) (place ms 1);
      y = number_of (place ms 2) (place ms 3);
      z = number_of (place ms 4) (place ms 5);
    }

point_back : (p : WholePoint) → point_of (given_point p).marks ≡ p
unfolding point_of place
point_back p = same_point (number_back p.x) (number_back p.y) (number_back p.z)

pub given_point_loses_nothing : (p q : WholePoint) → given_point p ≡ given_point q → p ≡ q
given_point_loses_nothing p q e = sym (point_back p) ∙ ap (λ (t : Told). point_of t.marks) e ∙ point_back q

pub told_loses_nothing : (a b : Result WholePoint Refusal) → told a ≡ told b → a ≡ b
told_loses_nothing = told_by_loses_nothing given_point given_point_loses_nothing (λ p. refl)
