-- No two of the six names agree in both their length and their first byte: whether a name is a leg's is settled by one of the six, which
-- these two tell. Assumes nothing.
use Rattle.std.specs.Prelude.{◌≡◌, ℕ, true, false, eqb, List, length, get_or, Option, Some, None}
use mathlib.Core.Path.{refl, sym, ap, ◌∙◌, subst}
use borrow.Author.Tests.{eqb-true}
use Rattle.numbers.specs.Told.{choose}
use Rattle.legs.specs.Legs.{Leg, left_front, right_front, left_middle, right_middle, left_rear, right_rear}
use Rattle.numbers.proofs.Flags.{chosen, by_test}
use Rattle.legs.specs.LegNumbers.{leg_number}
use Rattle.legs.specs.declared.leg.Leg.{Leg as LegByName}
use Rattle.poses.specs.Names.{name_of, number, name_at, same, leg_named}
use Rattle.poses.specs.Gathering.{the_leg, likely}
use Rattle.poses.proofs.Named.{same_means}

-- ---- the likely leg: a name that is a leg's has that leg's length and first byte
abbrev guess : List ℕ → ℕ
guess name = likely (length name) (get_or name 0 0)

-- looked at as one leg alone, and as each leg in turn
abbrev pub looked : List ℕ → ℕ → ℕ
looked name k = choose (eqb k 6) 6 (choose (same name (name_at k)) k 6)

Likely : List ℕ → Type 0
Likely name = leg_named name ≡ looked name (guess name)

itself : (l : Leg) → Likely (name_of l)
unfolding Likely leg_named same
itself left_front = refl
itself right_front = refl
itself left_middle = refl
itself right_middle = refl
itself left_rear = refl
itself right_rear = refl

-- a text that is the same as a leg's name, or as none of the six
one_of_six : (name : List ℕ) (l : Leg) → same name (name_of l) ≡ true → Likely name
one_of_six name l e = subst Likely (sym (same_means name (name_of l) e)) (itself l)

-- the likely leg is one of the six whose name has that length, or 6
pub likely_one : (n first : ℕ) (P : ℕ → Type 0) → ((l : Leg) → n ≡ length (name_at (number l)) → P (number l)) → P 6 → P (likely n first)
likely_one n first P leg none =
    chosen P (eqb first 108) (among 10 11 9 left_front left_middle left_rear) (among 11 12 10 right_front right_middle right_rear)
    (λ left. three 10 11 9 left_front left_middle left_rear refl refl refl)
    (λ right. three 11 12 10 right_front right_middle right_rear refl refl refl)
  where
    among : (x y z : ℕ) (i j k : Leg) → ℕ
    among x y z i j k = choose (eqb n x) (number i) (choose (eqb n y) (number j) (choose (eqb n z) (number k) 6))

    of : (x : ℕ) (i : Leg) → x ≡ length (name_at (number i)) → eqb n x ≡ true → P (number i)
    of x i long e = leg i (eqb-true n x e ∙ long)

    three : (x y z : ℕ) (i j k : Leg) → x ≡ length (name_at (number i)) → y ≡ length (name_at (number j)) → z ≡ length (name_at (number k))
        → P (among x y z i j k)
    three x y z i j k p q r =
        chosen P (eqb n x) (number i) (choose (eqb n y) (number j) (choose (eqb n z) (number k) 6)) (of x i p)
        (λ e. chosen P (eqb n y) (number j) (choose (eqb n z) (number k) 6) (of y j q)
        (λ f. chosen P (eqb n z) (number k) 6 (of z k r) (λ g. none)))

none_of_six : (name : List ℕ) → same name (name_of left_front) ≡ false → same name (name_of right_front) ≡ false →
    same name (name_of left_middle) ≡ false → same name (name_of right_middle) ≡ false → same name (name_of left_rear) ≡ false →
    same name (name_of right_rear) ≡ false → Likely name
unfolding Likely leg_named
none_of_six name a b c d e f =
    rw (a, b, c, d, e, f) (likely_one (length name) (get_or name 0 0) (λ k. 6 ≡ looked name k) (λ l long. leg l) refl)
  where
    leg : (l : Leg) → 6 ≡ looked name (number l)
    leg left_front = rw a
    leg right_front = rw b
    leg left_middle = rw c
    leg right_middle = rw d
    leg left_rear = rw e
    leg right_rear = rw f

pub likely_leg : (name : List ℕ) → leg_named name ≡ looked name (likely (length name) (get_or name 0 0))
unfolding Likely
likely_leg name =
    by_test (same name (name_of left_front)) (one_of_six name left_front)
    (λ a.
    by_test (same name (name_of right_front)) (one_of_six name right_front)
    (λ b.
    by_test (same name (name_of left_middle)) (one_of_six name left_middle)
    (λ c.
    by_test (same name (name_of right_middle)) (one_of_six name right_middle)
    (λ d.
    by_test (same name (name_of left_rear)) (one_of_six name left_rear)
    (λ e. by_test (same name (name_of right_rear)) (one_of_six name right_rear) (none_of_six name a b c d e))))))

-- ---- the same of legs: the likely one where it has the name, else none
module _ (name : List ℕ) where
  abbrev pub where_named : Option LegByName → Option LegByName
  where_named (Some l) = choose (same name (name_at (leg_number l))) (Some l) None
  where_named None = None

  pub leg_by_likely : the_leg (leg_named name) ≡ where_named (the_leg (likely (length name) (get_or name 0 0)))
  leg_by_likely =
      ap the_leg (likely_leg name)
      ∙ likely_one (length name) (get_or name 0 0) (λ k. the_leg (looked name k) ≡ where_named (the_leg k)) (λ l long. of l) refl
    where
      of : (l : Leg) → the_leg (looked name (number l)) ≡ where_named (the_leg (number l))
      of left_front = by_test (same name (name_of left_front)) (λ e. rw e refl) (λ e. rw e refl)
      of right_front = by_test (same name (name_of right_front)) (λ e. rw e refl) (λ e. rw e refl)
      of left_middle = by_test (same name (name_of left_middle)) (λ e. rw e refl) (λ e. rw e refl)
      of right_middle = by_test (same name (name_of right_middle)) (λ e. rw e refl) (λ e. rw e refl)
      of left_rear = by_test (same name (name_of left_rear)) (λ e. rw e refl) (λ e. rw e refl)
      of right_rear = by_test (same name (name_of right_rear)) (λ e. rw e refl) (λ e. rw e refl)
