-- `lines::put::count` meets its contract. The digits of m stored over what is there give the digits of n stored over what was there.
use mathlib.Core.Path.{◌≡◌, refl, sym, ap, ◌∙◌}
use mathlib.Core.List.{List, [], ◌∷◌, ◌++◌}
use Prim.Native.Nat.{ℕ, ◌+◌, ◌≤◌, ◌/◌, ◌%◌}
use native.Mathlib.Nat.{mod-eq_of_lt}
use native.Mathlib.Omega.{arith}
use lib.ListN.{length, set, length-set}
use lib.Seq.{sets}
use Rattle.lines.specs.Digits.{digit, decimal}
use Rattle.lines.proofs.Decimal.{decimal_few, decimal_more, length_few, length_more, length_positive}
use Rattle.numbers.proofs.Stores.{last_stored_first}
use Rattle.lines.proofs.put.count.Goals as goal

pub overflow_sub-j : goal.overflow_sub-j
overflow_sub-j c = omega (arith, length_positive c.args.n)

pub loop-m-init : goal.loop-m-init
loop-m-init c = (refl, omega (arith, length_positive c.args.n), omega arith, refl)

pub overflow_sub-j-in-loop-m : goal.overflow_sub-j-in-loop-m
overflow_sub-j-in-loop-m c = omega (
  arith,
  length_more c.loop-m.m c.loop-m-test.true,
  length_positive (c.loop-m.m / 10),
)

-- the last digit of m, stored behind the digits of its tenth
last_digit : (buf buf₀ : List ℕ) (at n m j b : ℕ) → 10 ≤ m → b ≡ digit (m % 10 % 16) → j + 1 ≡ at + length (decimal m)
    → sets buf at (decimal m) ≡ sets buf₀ at (decimal n) → sets (set buf j b) at (decimal (m / 10)) ≡ sets buf₀ at (decimal n)
last_digit buf buf₀ at n m j b many is place same =
    let e : m % 10 % 16 ≡ m % 10 = mod-eq_of_lt (omega arith) in
    last_stored_first buf at (decimal (m / 10)) j b (omega (arith, length_more m many))
    ∙ ap (λ (d : ℕ). sets buf at (decimal (m / 10) ++ (d ∷ []))) (is ∙ ap digit e)
    ∙ ap (sets buf at) (sym (decimal_more m many))
    ∙ same

pub loop-m-preserved : goal.loop-m-preserved
loop-m-preserved c = (
  last_digit _ _ _ _ _ _ _ c.loop-m-test.true c.digit.ensures c.loop-m.invariant.1
      c.loop-m.invariant.0,
  omega (arith, length_more c.loop-m.m c.loop-m-test.true, length_positive (c.loop-m.m / 10)),
  omega (arith, length_more c.loop-m.m c.loop-m-test.true),
  simp length-set c.loop-m.invariant.3,
)

pub shape_of-buf : goal.shape_of-buf
shape_of-buf c = simp length-set c.loop-m.invariant.3

-- the first digit, at the first place
first_digit : (buf buf₀ : List ℕ) (at n m j b : ℕ) → m ≤ 9 → b ≡ digit (m % 16) → j + 1 ≡ at + length (decimal m)
    → sets buf at (decimal m) ≡ sets buf₀ at (decimal n) → set buf j b ≡ sets buf₀ at (decimal n)
first_digit buf buf₀ at n m j b few is place same =
    let e : m % 16 ≡ m = mod-eq_of_lt (omega arith) in
    let k : j ≡ at = omega (arith, length_few m (omega arith)) in
    ap (λ (i : ℕ). set buf i b) k
    ∙ ap (set buf at) (is ∙ ap digit e)
    ∙ ap (sets buf at) (sym (decimal_few m (omega arith)))
    ∙ same

pub returns : goal.returns
returns c = record {
  place = omega arith;
  bytes = first_digit _ _ _ _ _ _ _ c.loop-m-test.false c.digit-2.ensures c.loop-m.invariant.1
      c.loop-m.invariant.0;
}
