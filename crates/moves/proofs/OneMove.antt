-- One move serves points and vectors. The source has a second, for vectors, which takes its distance from target to last, and so had we. It
-- told what the one move tells, of any input, refused or not: the square of a difference is the same float the other way round. That holds
-- of NaN and infinities as well, so nothing is assumed.
use Rattle.std.specs.Prelude.{◌≡◌, ℕ, ◌+◌, ◌-◌, ◌*◌, ◌<◌, ◌≤◌, Bool, true, false, cond, not, ◌&&◌, ltb}
use mathlib.Core.Path.{refl, sym, ap, ap₂, ◌∙◌}
use mathlib.Core.Bool.{beq}
use native.Mathlib.Nat.{add_comm, mul_comm}
use native.Mathlib.Omega.{arith}
use borrow.Author.Tests.{ltb-true, ltb-false}
use lib.Ieee.{Float, nan, inf, fin, binary32, up, down, neg, round, sum, add, sub, mul, le}
use Rattle.numbers.specs.Told.{Told, choose, answer}
use Rattle.units.specs.Units.{gap}
use Rattle.units.proofs.OtherSign.{turned_round}
use Rattle.roots.specs.Root.{square_root}
use Rattle.legs.specs.declared.Point.{Point}
use Rattle.moves.specs.Distance.{same, square, apart², square_sum, distance}
use Rattle.moves.specs.Moving.{MoveStep, along, nearer, step_at, move_towards}
use Rattle.moves.specs.Answers.{told_step}
use Rattle.moves.specs.Refusals.{move_refusal}
use Rattle.moves.specs.Entries.{move_told}
use Rattle.moves.specs.declared.Step.TheVariants.{Moved, Arrived}

-- ---- a square does not show the sign
square_neg : (x : Float) → square (neg x) ≡ square x
unfolding mul neg
square_neg nan = refl
square_neg (inf true) = refl
square_neg (inf false) = refl
square_neg (fin true m e) = refl
square_neg (fin false m e) = refl

square_round : (s : Bool) (a c : ℕ) → square (round binary32 s a c) ≡ square (round binary32 false a c)
square_round true a c = ap square (turned_round binary32 false a c) ∙ square_neg (round binary32 false a c)
square_round false a c = refl

-- of two numbers with their signs: the sum where the signs are alike, else the difference
abbrev joined : Bool → ℕ → Bool → ℕ → ℕ
joined s a t b = cond (beq s t) (a + b) (gap a b)

square_sum_lem : (s : Bool) (a : ℕ) (t : Bool) (b c : ℕ) →
    square (sum binary32 s a t b c) ≡ square (round binary32 false (joined s a t b) c)
unfolding sum
square_sum_lem s a t b c = by_tests (beq s t) (ltb a b) refl
  where
    less : a < b → b - a ≡ gap a b
    less h = omega arith

    not_less : b ≤ a → a - b ≡ gap a b
    not_less h = omega arith

    by_tests : (p q : Bool) → ltb a b ≡ q
        → square (cond p (round binary32 s (a + b) c) (cond q (round binary32 t (b - a) c) (round binary32 (s && ltb b a) (a - b) c)))
        ≡ square (round binary32 false (cond p (a + b) (gap a b)) c)
    by_tests true q e = square_round s (a + b) c
    by_tests false true e = square_round t (b - a) c ∙ ap (λ (n : ℕ). square (round binary32 false n c)) (less (ltb-true a b e))
    by_tests false false e =
        square_round (s && ltb b a) (a - b) c ∙ ap (λ (n : ℕ). square (round binary32 false n c)) (not_less (ltb-false a b e))

-- ---- the way back is as long
joined_back : (s : Bool) (a : ℕ) (t : Bool) (b : ℕ) → joined s a (not t) b ≡ joined t b (not s) a
joined_back true a true b = add_comm (a - b) (b - a)
joined_back true a false b = add_comm a b
joined_back false a true b = add_comm a b
joined_back false a false b = add_comm (a - b) (b - a)

square_back : (x y : Float) → apart² y x ≡ apart² x y
unfolding sub add neg mul
square_back nan nan = refl
square_back nan (inf t) = refl
square_back nan (fin t n d) = refl
square_back (inf s) nan = refl
square_back (inf true) (inf true) = refl
square_back (inf true) (inf false) = refl
square_back (inf false) (inf true) = refl
square_back (inf false) (inf false) = refl
square_back (inf true) (fin t n d) = refl
square_back (inf false) (fin t n d) = refl
square_back (fin s m e) nan = refl
square_back (fin s m e) (inf true) = refl
square_back (fin s m e) (inf false) = refl
square_back (fin s m e) (fin t n d) =
    let a = m * up e * down d in
    let b = n * up d * down e in
    square_sum_lem s a (not t) b (down e * down d)
    ∙ ap₂ (λ (k c : ℕ). square (round binary32 false k c)) (joined_back s a t b) (mul_comm (down e) (down d))
    ∙ sym (square_sum_lem t b (not s) a (down d * down e))

pub distance_back : (l t : Point) → distance t l ≡ distance l t
unfolding distance square_sum
distance_back l t =
    ap square_root
    (ap₂ (add binary32) (ap₂ (add binary32) (square_back l.x t.x) (square_back l.y t.y)) (square_back l.z t.z))

-- ---- the source's move of a vector: it tells arrival by the way back, and divides by the length of the way there
abbrev pub source_vector_move : Point → Point → Float → MoveStep
source_vector_move l t m = choose (same l t) (Arrived t) (Moved (choose (le (distance t l) m) t (along (distance l t) m l t)))

pub source_vector_move_is_ours : (l t : Point) (m : Float) → source_vector_move l t m ≡ move_towards l t m
unfolding move_towards step_at nearer
source_vector_move_is_ours l t m =
    ap (λ (d : Float). choose (same l t) (Arrived t) (Moved (choose (le d m) t (along (distance l t) m l t)))) (distance_back l t)

-- ---- our own, as it was while it had an entry: the way back for both
unfoldable pub move_vector_towards : Point → Point → Float → MoveStep
move_vector_towards l t m = step_at (distance t l) l t m

unfoldable pub move_vector_told : Point → Point → Float → Told
move_vector_told l t m = answer (move_refusal l t m) (told_step (move_vector_towards l t m))

pub vector_move_was_the_same : (l t : Point) (m : Float) → move_vector_told l t m ≡ move_told l t m
unfolding move_vector_told move_told move_vector_towards move_towards
vector_move_was_the_same l t m = ap (λ (d : Float). answer (move_refusal l t m) (told_step (step_at d l t m))) (distance_back l t)
