-- What a count tells of the number that is counted: 0 that it is outside the table, 1 that it is below 2 ^ -12, and any other that it is
-- neither. Assumes nothing.
use Rattle.std.specs.Prelude.{◌≡◌, ℕ, ◌+◌, ◌-◌, ◌/◌, ◌%◌, ◌^◌, ◌<◌, ◌≤◌, Bool, true, false, cond, T, ltb}
use mathlib.Core.Path.{refl, sym, ◌∙◌, subst}
use native.Mathlib.Nat.{mul-le-mul}
use native.Mathlib.Omega.{arith}
use borrow.Author.Tests.{ltb-true, ltb-false, lt-ltb, le-ltb}
use lib.Pow.{pow_pos}
use lib.Ieee.{Float, binary32, to_bits}
use Rattle.numbers.specs.Door.{permits}
use Rattle.numbers.specs.Limits.{sine_argument}
use Rattle.units.specs.Patterns.{bare}
use Rattle.sines.specs.How.{tiny_bits, fixed, count}

-- no number from 2 ^ -12 on is counted by 0 or 1
fixed_above : (m : ℕ) → 1 < fixed m
unfolding fixed
fixed_above m =
    mul-le-mul {n₁ = 2} {m₁ = 1} {n₂ = 2 ^ 23 + m % 2 ^ 23} {m₂ = 2 ^ (m / 2 ^ 23 - 115)} (omega arith) (pow_pos (m / 2 ^ 23 - 115))

-- ---- by the two tests
none : (p t : Bool) (f : ℕ) → 1 < f → cond p (cond t 1 f) 0 ≡ 0 → p ≡ false
none true true f h e = absurd (omega (arith, e))
none true false f h e = absurd (omega (arith, e))
none false t f h e = refl

one : (p t : Bool) (f : ℕ) → 1 < f → cond p (cond t 1 f) 0 ≡ 1 → (p ≡ true) × (t ≡ true)
one true true f h e = (refl, refl)
one true false f h e = absurd (omega (arith, e))
one false t f h e = absurd (omega (arith, e))

more : (p t : Bool) (f : ℕ) → (cond p (cond t 1 f) 0 ≡ 0 → ⊥) → (cond p (cond t 1 f) 0 ≡ 1 → ⊥) → (p ≡ true) × (t ≡ false)
more true true f z o = absurd (o refl)
more true false f z o = (refl, refl)
more false t f z o = absurd (z refl)

module _ (x : Float) where
  abbrev m : ℕ
  m = bare (to_bits binary32 x)

  -- ---- the count in each case
  pub outside_count : permits sine_argument x ≡ false → 0 ≡ count x
  unfolding count
  outside_count e = rw e refl

  pub tiny_count : permits sine_argument x ≡ true → m < tiny_bits → 1 ≡ count x
  unfolding count
  tiny_count e h = rw (e, lt-ltb m tiny_bits h) refl

  pub else_count : permits sine_argument x ≡ true → tiny_bits ≤ m → fixed m ≡ count x
  unfolding count
  else_count e h = rw (e, le-ltb m tiny_bits h) refl

  -- ---- and back
  module _ (n : ℕ) (is : n ≡ count x) where
    pub at_none : n ≡ 0 → permits sine_argument x ≡ false
    unfolding count
    at_none e = none (permits sine_argument x) (ltb m tiny_bits) (fixed m) (fixed_above m) (sym is ∙ e)

    pub at_one : n ≡ 1 → T (permits sine_argument x) × (m < tiny_bits)
    unfolding count
    at_one e =
        let both = one (permits sine_argument x) (ltb m tiny_bits) (fixed m) (fixed_above m) (sym is ∙ e) in
        (subst T (sym both.0) tt, ltb-true m tiny_bits both.1)

    pub at_more : (n ≡ 0 → ⊥) → (n ≡ 1 → ⊥) → T (permits sine_argument x) × (tiny_bits ≤ m) × (n ≡ fixed m)
    unfolding count
    at_more z o =
        let both = more (permits sine_argument x) (ltb m tiny_bits) (fixed m) (λ e. z (is ∙ e)) (λ e. o (is ∙ e)) in
        let far = ltb-false m tiny_bits both.1 in
        (subst T (sym both.0) tt, far, is ∙ sym (else_count both.0 far))
