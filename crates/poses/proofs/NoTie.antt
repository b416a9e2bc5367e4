-- No number of parts lies just between two f32: what is n / 10 ^ 8 and a binary fraction has eight places at most, and a tie has more of
-- them. So the last of 25 digits rounds, and what it gives is less than half a step away.
use Rattle.std.specs.Prelude.{◌≡◌, ℕ, ◌+◌, ◌-◌, ◌*◌, ◌/◌, ◌%◌, ◌^◌, ◌<◌, ◌≤◌}
use mathlib.Core.Path.{sym, ap, ◌∙◌}
use mathlib.Core.Logic.{inl, inr}
use native.Mathlib.Nat.{mul-le-mul_right, mul-lt-mul_of_pos_right, mul_assoc, mul_left_comm, eq-zero-or-pos}
use native.Mathlib.Omega.{arith}
use lib.Pow.{pow-add, pow_pos}
use Rattle.units.specs.Units.{unity}
use Rattle.units.proofs.Whole.{le_or_lt}
use Rattle.poses.specs.Decimals.{whole_decimals}
use Rattle.poses.proofs.OneNearest.{Inside}

not_twice : (x y : ℕ) → 2 * x + 1 ≡ 2 * y → ⊥
not_twice x y e = elim (le_or_lt y x) [ inl h ↦ omega arith | inr h ↦ omega arith ]

-- an odd quotient leaves a rest, where the number has nine zeros at its end: 10 ^ 8 has eight
odd_rest : (Q B r : ℕ) → Q * 100000000 + r ≡ 512 * B → Q % 2 ≡ 1 → 0 < r
odd_rest Q B r e o = elim (eq-zero-or-pos r) [ inr p ↦ p | inl z ↦ absurd (no (omega arith)) ]
  where
    no : Q * 100000000 ≡ 512 * B → ⊥
    no f = let g : 2 * (390625 * (Q / 2) + 195312) + 1 ≡ 2 * B = omega arith in not_twice (390625 * (Q / 2) + 195312) B g

-- half of the quotient, its last digit rounded up
module _ (A Q B r : ℕ) (e : Q * 100000000 + r ≡ A) (s : A ≡ 512 * B) (l : r < 100000000) where
  over : 2 * ((Q + 1) / 2 * 100000000) < A + 100000000
  over = elim (eq-zero-or-pos (Q % 2)) [
    | inl z ↦ omega arith
    | inr p ↦ let o : Q % 2 ≡ 1 = omega arith in let R : 0 < r = odd_rest Q B r (e ∙ s) o in omega arith
  ]

  below : A < 2 * ((Q + 1) / 2 * 100000000) + 100000000
  below = omega arith

  at_bottom : 2 ^ 24 ≤ Q → (Q + 1) / 2 ≡ 2 ^ 23 → 2 * ((Q + 1) / 2 * 100000000) ≤ A
  at_bottom g f = omega arith

-- and times 2 ^ k
up_lt : (m c A a t : ℕ) → 0 < t → A * t ≡ 2 * a → 2 * (m * c) < A + c → 2 * (m * t * c) < 2 * a + c * t
up_lt m c A a t T e h = let g : 2 * (m * c) * t < (A + c) * t = mul-lt-mul_of_pos_right h T in omega arith

up_gt : (m c A a t : ℕ) → 0 < t → A * t ≡ 2 * a → A < 2 * (m * c) + c → 2 * a < 2 * (m * t * c) + c * t
up_gt m c A a t T e h = let g : A * t < (2 * (m * c) + c) * t = mul-lt-mul_of_pos_right h T in omega arith

up_le : (m c A a t : ℕ) → A * t ≡ 2 * a → 2 * (m * c) ≤ A → m * t * c ≤ a
up_le m c A a t e h = let g : 2 * (m * c) * t ≤ A * t = mul-le-mul_right t h in omega arith

pub inside : (n y k Q r : ℕ) → 9 ≤ y → y + k ≡ 150 → Q * whole_decimals + r ≡ n * 2 ^ y → r < whole_decimals → 2 ^ 24 ≤ Q → Q < 2 ^ 25
    → Inside (n * unity) whole_decimals ((Q + 1) / 2) k
inside n y k Q r g p e l a b =
    let A = n * 2 ^ y in
    let i : 9 + (y - 9) ≡ y = omega arith in
    let s : A ≡ 512 * (n * 2 ^ (y - 9)) =
    ap (λ (x : ℕ). n * 2 ^ x) (sym i) ∙ ap (λ (x : ℕ). n * x) (pow-add 2 9 (y - 9)) ∙ mul_left_comm n (2 ^ 9) (2 ^ (y - 9)) in
    let d : A * 2 ^ k ≡ 2 * (n * unity) =
    mul_assoc n (2 ^ y) (2 ^ k) ∙ ap (λ (x : ℕ). n * x) (sym (pow-add 2 y k) ∙ ap (λ (x : ℕ). 2 ^ x) p) ∙ mul_left_comm n 2 unity in
    let m = (Q + 1) / 2 in
    record {
      low = omega arith;
      high = omega arith;
      above = up_lt m whole_decimals A (n * unity) (2 ^ k) (pow_pos k) d (over A Q (n * 2 ^ (y - 9)) r e s l);
      below = up_gt m whole_decimals A (n * unity) (2 ^ k) (pow_pos k) d (below A Q (n * 2 ^ (y - 9)) r e s l);
      bottom = λ (f : m ≡ 2 ^ 23).
          up_le m whole_decimals A (n * unity) (2 ^ k) d (at_bottom A Q (n * 2 ^ (y - 9)) r e s l a f);
    }
