-- The quotient that `nearest_bits` rounds: n moved up to 52 binary digits and divided by 10 ^ 8 has 25 or 26, and what rounding their first
-- 25 gives is inside of half a step.
use Rattle.std.specs.Prelude.{◌≡◌, ℕ, suc, ◌+◌, ◌-◌, ◌*◌, ◌/◌, ◌%◌, ◌^◌, ◌<◌, ◌≤◌}
use mathlib.Core.Path.{sym, ap, ◌∙◌, subst, subst₂}
use mathlib.Core.Logic.{inl, inr}
use native.Mathlib.Nat.{add-zero, div-one, lt_of_lt_of_le, mod-eq_of_lt, mul_left_comm, pow-succ', div-add-mod', mod-lt}
use native.Mathlib.Omega.{arith}
use lib.Count.{count_leading_zeros}
use lib.Dec.{lit≤}
use Rattle.units.specs.Units.{unity}
use Rattle.units.proofs.Whole.{le_or_lt}
use Rattle.poses.specs.Decimals.{whole_decimals}
use Rattle.poses.proofs.MovedUp.{Moved, moved_up}
use Rattle.poses.proofs.OneNearest.{Inside}
use Rattle.poses.proofs.NoTie.{inside}

-- how far n is moved up, and the quotient, as the code has them
abbrev pub moves : ℕ → ℕ
moves n = count_leading_zeros 64 n - 12

abbrev pub quotient : ℕ → ℕ
quotient n = n * 2 ^ moves n % 2 ^ 64 / 100000000

-- how many digits the quotient has more than 25
abbrev pub more : ℕ → ℕ
more q = q / 33554432

module _ (n : ℕ) (p : 0 < n) (h : n < 10 ^ 9) where
  pub moved : Moved n 29 51 12 (count_leading_zeros 64 n)
  moved = moved_up n 29 51 12 p (lt_of_lt_of_le h (lit≤ tt)) (lit≤ tt)

  pub moves_most : moves n ≤ 51
  moves_most = let m : count_leading_zeros 64 n ≤ 63 = moved.most in omega arith

  moves_least : 22 ≤ moves n
  moves_least = let m : 34 ≤ count_leading_zeros 64 n = moved.least in omega arith

  kept : n * 2 ^ moves n % 2 ^ 64 ≡ n * 2 ^ moves n
  kept = mod-eq_of_lt (lt_of_lt_of_le moved.high (lit≤ tt))

  quotient_is : quotient n ≡ n * 2 ^ moves n / 100000000
  quotient_is = ap (λ (x : ℕ). x / 100000000) kept

  pub quotient_low : 2 ^ 24 ≤ quotient n
  quotient_low =
      let e : quotient n ≡ n * 2 ^ moves n / 100000000 = quotient_is in
      let m : 2 ^ 51 ≤ n * 2 ^ moves n = moved.low in
      omega arith

  pub quotient_high : quotient n < 2 ^ 26
  quotient_high =
      let e : quotient n ≡ n * 2 ^ moves n / 100000000 = quotient_is in
      let m : n * 2 ^ moves n < 2 ^ 52 = moved.high in
      omega arith

  of_25 : quotient n < 2 ^ 25 → Inside (n * unity) whole_decimals ((quotient n + 1) / 2) (150 - moves n)
  of_25 l =
      let a : 22 ≤ moves n = moves_least in
      let b : moves n ≤ 51 = moves_most in
      let A = n * 2 ^ moves n in
      inside n (moves n) (150 - moves n) (quotient n) (A % 100000000) (omega arith) (omega arith)
      (ap (λ (x : ℕ). x * whole_decimals + A % whole_decimals) quotient_is ∙ div-add-mod' A whole_decimals)
      (mod-lt A (lit≤ tt)) quotient_low l

  of_26 : 2 ^ 25 ≤ quotient n → Inside (n * unity) whole_decimals ((quotient n / 2 + 1) / 2) (150 - moves n + 1)
  of_26 l =
      let a : 22 ≤ moves n = moves_least in
      let b : moves n ≤ 51 = moves_most in
      let y = moves n - 1 in
      let A = n * 2 ^ y in
      let i : moves n ≡ suc y = omega arith in
      let d : n * 2 ^ moves n ≡ 2 * A =
      ap (λ (x : ℕ). n * 2 ^ x) i ∙ ap (λ (x : ℕ). n * x) (pow-succ' 2 y) ∙ mul_left_comm n 2 (2 ^ y) in
      let e : quotient n ≡ 2 * A / 100000000 = quotient_is ∙ ap (λ (x : ℕ). x / 100000000) d in
      inside n y (150 - moves n + 1) (quotient n / 2) (A - quotient n / 2 * 100000000) (omega arith) (omega arith)
      (joined (quotient n) A e) (few (quotient n) A e) (omega arith) (half (quotient n) quotient_high)
    where
      joined : (q A : ℕ) → q ≡ 2 * A / 100000000 → q / 2 * 100000000 + (A - q / 2 * 100000000) ≡ A
      joined q A e = omega arith

      few : (q A : ℕ) → q ≡ 2 * A / 100000000 → A - q / 2 * 100000000 < 100000000
      few q A e = omega arith

      half : (q : ℕ) → q < 2 ^ 26 → q / 2 < 2 ^ 25
      half q h = omega arith

  -- either way, by how many digits it has more than 25
  pub rounded_inside : Inside (n * unity) whole_decimals ((quotient n / 2 ^ more (quotient n) + 1) / 2) (150 - moves n + more (quotient n))
  rounded_inside = elim (le_or_lt (2 ^ 25) (quotient n)) [
    | inl l ↦
        let one : more (quotient n) ≡ 1 = omega (arith, quotient_high) in
        subst (λ (d : ℕ). Inside (n * unity) whole_decimals ((quotient n / 2 ^ d + 1) / 2) (150 - moves n + d)) (sym one) (of_26 l)
    | inr l ↦
        let none : more (quotient n) ≡ 0 = omega arith in
        let k : 150 - moves n + 0 ≡ 150 - moves n = add-zero (150 - moves n) in
        let m : quotient n / 2 ^ 0 ≡ quotient n = div-one (quotient n) in
        subst (λ (d : ℕ). Inside (n * unity) whole_decimals ((quotient n / 2 ^ d + 1) / 2) (150 - moves n + d)) (sym none)
        (subst₂ (λ (x y : ℕ). Inside (n * unity) whole_decimals ((x + 1) / 2) y) (sym m) (sym k) (of_25 l))
  ]

  pub some_inside : (m : ℕ) × (k : ℕ) × Inside (n * unity) whole_decimals m k
  some_inside = ((quotient n / 2 ^ more (quotient n) + 1) / 2, 150 - moves n + more (quotient n), rounded_inside)
