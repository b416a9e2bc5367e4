-- No second answer fits: where a contract says what an answer tells, and telling loses nothing, the answer is settled.
use Rattle.std.specs.Prelude.{◌≡◌, ⊤, ℕ, Bool, true, false, eqb, List, [], ◌∷◌, get_or}
use mathlib.Core.Path.{refl, sym, ap, ◌∙◌}
use native.Mathlib.Omega.{arith}
use lib.Ieee.{Float}
use Rattle.numbers.specs.Told.{Told, refused, choose, mark, answer}
use Rattle.numbers.specs.Answers.{told, told_by, given_number, told_pattern}
use Rattle.std.specs.Prelude.{Result, Ok, Err, Option, Some, None}
use Rattle.numbers.specs.Refusals.{number_of, number_or_0}
use Rattle.numbers.specs.declared.refusal.Refusal.{Refusal}
use Rattle.numbers.specs.declared.refusal.Refusal.TheVariants.{NotFinite, Outside, Time, Mask, Count, PastPositive, NoRecord}
use Rattle.numbers.specs.declared.refusal.Refusal.TheVariants.{PastNegative, TooFar}
use Rattle.numbers.specs.declared.refusal.Refusal.TheVariants.{TooNear, StoreFull, NoSuchId, NoObject, OtherNames, IdZero, NoState, NoRoom}
use Rattle.numbers.proofs.Numbers.{a_refusal_has_a_number}

-- the general law, over any answer type and what it tells
pub one_answer : {A B : Type 0} (tell : A → B) (keeps : (a b : A) → tell a ≡ tell b → a ≡ b) {said : B} (a b : A)
    → tell a ≡ said → tell b ≡ said → a ≡ b
one_answer tell keeps a b p q = keeps a b (p ∙ sym q)

-- telling that can be undone loses nothing
pub undone : {A : Type 0} (tell : A → Told) (back : Told → A) → ((a : A) → back (tell a) ≡ a) → (a b : A) → tell a ≡ tell b → a ≡ b
undone tell back is a b e = sym (is a) ∙ ap back e ∙ is b

-- a flag is settled by its mark
pub flag_of_mark : (b : Bool) → eqb (mark b) 1 ≡ b
flag_of_mark true = refl
flag_of_mark false = refl

-- two that agree where nothing is refused
pub alike_where_taken : (n : ℕ) (s t : Told) → (eqb n 0 ≡ true → s ≡ t) → answer n s ≡ answer n t
alike_where_taken n s t same = by_test (eqb n 0) refl
  where
    by_test : (b : Bool) → eqb n 0 ≡ b → answer n s ≡ answer n t
    by_test true e = ap (λ (u : Told). answer n u) (same e)
    by_test false e = simp e

-- what two answers tell is the same but for marks: the same refusal, or the same floats
abbrev pub SameButMarks : Told → Told → Type 0
SameButMarks s t = (s.number ≡ t.number) × (s.values ≡ t.values)

pub same_answers : (n : ℕ) (s t : Told) → SameButMarks s t → SameButMarks (answer n s) (answer n t)
same_answers n s t h = by_test (eqb n 0)
  where
    by_test : (b : Bool) → SameButMarks (choose b s (refused n)) (choose b t (refused n))
    by_test true = h
    by_test false = (refl, refl)

-- the refusals in the order of their numbers, 0 to 17; 0 is none, and stands for the last
abbrev of_number : ℕ → Refusal
of_number n =
    get_or
    (NoRoom
    ∷ NotFinite
    ∷ Outside
    ∷ Time
    ∷ Mask
    ∷ Count
    ∷ PastPositive
    ∷ NoRecord
    ∷ PastNegative
    ∷ TooFar
    ∷ TooNear
    ∷ StoreFull
    ∷ NoSuchId
    ∷ NoObject
    ∷ OtherNames
    ∷ IdZero
    ∷ NoState
    ∷ NoRoom
    ∷ [])
    n NoRoom

of_number_of : (r : Refusal) → of_number (number_of r) ≡ r
of_number_of NotFinite = refl
of_number_of Outside = refl
of_number_of Time = refl
of_number_of Mask = refl
of_number_of Count = refl
of_number_of PastPositive = refl
of_number_of NoRecord = refl
of_number_of PastNegative = refl
of_number_of TooFar = refl
of_number_of TooNear = refl
of_number_of StoreFull = refl
of_number_of NoSuchId = refl
of_number_of NoObject = refl
of_number_of OtherNames = refl
of_number_of IdZero = refl
of_number_of NoState = refl
of_number_of NoRoom = refl

pub number_of_loses_nothing : (a b : Refusal) → number_of a ≡ number_of b → a ≡ b
number_of_loses_nothing a b e = sym (of_number_of a) ∙ ap of_number e ∙ of_number_of b

-- and a test at the door by the number that it gives
pub number_or_0_loses_nothing : (a b : Result ⊤ Refusal) → number_or_0 a ≡ number_or_0 b → a ≡ b
number_or_0_loses_nothing (Ok a) (Ok b) e = refl
number_or_0_loses_nothing (Ok a) (Err r) e = absurd (a_refusal_has_a_number r (sym e))
number_or_0_loses_nothing (Err r) (Ok b) e = absurd (a_refusal_has_a_number r e)
number_or_0_loses_nothing (Err r) (Err q) e = ap Err (number_of_loses_nothing r q e)

-- what an answer tells settles it, where what its value says settles the value and is no refusal
pub told_by_loses_nothing :
    {A : Type 0} (say : A → Told) → ((a b : A) → say a ≡ say b → a ≡ b) → ((a : A) → (say a).number ≡ 0) →
    (a b : Result A Refusal) → told_by say a ≡ told_by say b → a ≡ b
told_by_loses_nothing say settles taken (Ok a) (Ok b) e = ap Ok (settles a b e)
told_by_loses_nothing say settles taken (Ok a) (Err r) e =
    absurd (a_refusal_has_a_number r (sym (ap (λ (t : Told). t.number) e) ∙ taken a))
told_by_loses_nothing say settles taken (Err r) (Ok b) e =
    absurd (a_refusal_has_a_number r (ap (λ (t : Told). t.number) e ∙ taken b))
told_by_loses_nothing say settles taken (Err r) (Err q) e = ap Err (number_of_loses_nothing r q (ap (λ (t : Told). t.number) e))

-- `told` loses nothing of an answer on numbers
pub told_loses_nothing : (a b : Result Float Refusal) → told a ≡ told b → a ≡ b
told_loses_nothing =
    told_by_loses_nothing given_number
    (λ x y e. let v : x ∷ [] ≡ y ∷ [] = ap (λ (t : Told). t.values) e in cc)
    (λ x. refl)

-- and `told_pattern` nothing of a pattern
pub told_pattern_loses_nothing : (a b : Option ℕ) → told_pattern a ≡ told_pattern b → a ≡ b
told_pattern_loses_nothing (Some n) (Some m) e = let k : n ∷ [] ≡ m ∷ [] = ap (λ (t : Told). t.marks) e in cc
told_pattern_loses_nothing (Some n) None e = let k : n ∷ [] ≡ [] = ap (λ (t : Told). t.marks) e in cc
told_pattern_loses_nothing None (Some m) e = let k : [] ≡ m ∷ [] = ap (λ (t : Told). t.marks) e in cc
told_pattern_loses_nothing None None e = refl
