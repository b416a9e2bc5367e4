-- What lies past 1, of a number from 1 to 2, in units of 2 ^ -25: the digits of its bit pattern. Assumes nothing.
use Rattle.std.specs.Prelude.{◌≡◌, ℕ, ◌+◌, ◌-◌, ◌*◌, ◌/◌, ◌%◌, ◌^◌, ◌≤◌}
use mathlib.Core.Path.{refl, sym, ap, ap₂, ◌∙◌, subst}
use mathlib.Core.Logic.{inl, inr}
use native.Mathlib.Nat.{mul-div_cancel}
use native.Mathlib.Omega.{arith}
use lib.Pow.{pow_pos}
use Rattle.units.specs.Units.{unity}
use Rattle.units.specs.Patterns.{val_of, val}
use Rattle.series.proofs.Order.{here_or_on}

-- 1065353216 is the pattern of 1, 1073741824 that of 2
pub past_one : (m : ℕ) → 1065353216 ≤ m → m ≤ 1073741824 → 4 * (m - 1065353216) ≡ (val m - unity) / 2 ^ 124
past_one m h k = elim (here_or_on m 1073741824) [
  | inl g ↦
      let e : m / 8388608 ≡ 127 = omega arith in
      let f : m % 8388608 ≡ m - 1065353216 = omega arith in
      sym (ap (λ (n : ℕ). (n - unity) / 2 ^ 124) (ap₂ val_of e f)
      ∙ ap (λ (n : ℕ). n / 2 ^ 124) (go (m - 1065353216) (2 ^ 124))
      ∙ mul-div_cancel (4 * (m - 1065353216)) (pow_pos 124))
  | inr g ↦
      let e : m ≡ 1073741824 = omega arith in
      subst (λ (n : ℕ). 4 * (n - 1065353216) ≡ (val n - unity) / 2 ^ 124) (sym e) refl
]
  where
    go : (t p : ℕ) → (8388608 + t) * (4 * p) - 33554432 * p ≡ 4 * t * p
    go t p = omega arith
