-- A mask's count of ones is the number of legs that it names, and each named leg's place is below it. Assumes nothing.
use Rattle.std.specs.Prelude.{◌≡◌, ℕ, ◌+◌, ◌*◌, ◌/◌, ◌%◌, ◌<◌, ◌≤◌, true, List, [], ◌∷◌}
use mathlib.Core.Path.{refl, sym, ap, ◌∙◌}
use native.Mathlib.Nat.{div-one, div-div-eq-div-mul}
use native.Mathlib.Omega.{arith}
use borrow.Author.Tests.{eqb-true}
use lib.Count.{ones, ones_step}
use Rattle.legs.specs.Legs.{Leg, left_front, right_front, left_middle, right_middle, left_rear, right_rear, row}
use Rattle.legs.specs.Masks.{bit, has}
use Rattle.legs.specs.Update.{place}

-- how many legs of a list the mask names
abbrev count : ℕ → List Leg → ℕ
count m [] = 0
count m (l ∷ ls) = bit m l + count m ls

no_ones : ones 0 ≡ 0
unfolding ones
no_ones = refl

-- bit by bit, from the lowest
one_step : (m k : ℕ) → ones (m / k) ≡ m / k % 2 + ones (m / (k * 2))
one_step m k = ones_step (m / k) ∙ ap (λ (j : ℕ). m / k % 2 + ones j) (div-div-eq-div-mul m k 2)

in_row_order : (a b c d e g : ℕ) → a + (b + (c + (d + (e + (g + 0))))) ≡ a + (d + (b + (e + (c + (g + 0)))))
in_row_order a b c d e g = omega arith

ones_are_bits : (m : ℕ) → m < 64 → ones m ≡ count m (row (λ (l : Leg). l))
ones_are_bits m h =
    let none : ones (m / 64) ≡ 0 = ap ones (omega arith) ∙ no_ones in
    let bits : ones (m / 1) ≡ m / 1 % 2 + (m / 2 % 2 + (m / 4 % 2 + (m / 8 % 2 + (m / 16 % 2 + (m / 32 % 2 + 0))))) =
    simp (one_step m 1, one_step m 2, one_step m 4, one_step m 8, one_step m 16, one_step m 32, none) in
    ap ones (sym (div-one m)) ∙ bits ∙ in_row_order (m / 1 % 2) (m / 2 % 2) (m / 4 % 2) (m / 8 % 2) (m / 16 % 2) (m / 32 % 2)

-- so a leg that the mask names takes one of the first feet, as many as the mask has ones
up_to : (m : ℕ) (l : Leg) → place m l + bit m l ≤ count m (row (λ (l : Leg). l))
up_to m left_front = omega arith
up_to m right_front = omega arith
up_to m left_middle = omega arith
up_to m right_middle = omega arith
up_to m left_rear = omega arith
up_to m right_rear = omega arith

pub place_below_ones : (m : ℕ) (l : Leg) → m < 64 → has m l ≡ true → place m l < ones m
place_below_ones m l h n =
    let o = ones_are_bits m h in
    let u = up_to m l in
    let b : bit m l ≡ 1 = eqb-true (bit m l) 1 n in
    omega arith
