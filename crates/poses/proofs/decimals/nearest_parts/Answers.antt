-- `poses::decimals::nearest_parts` meets its contract. The product has at most 51 digits and so has the half, so that nothing is lost.
use Rattle.std.specs.Prelude.{◌≡◌, ℕ, ◌+◌, ◌-◌, ◌*◌, ◌/◌, ◌%◌, ◌^◌, ◌≤◌}
use mathlib.Core.Path.{sym, ap, ◌∙◌}
use native.Mathlib.Nat.{le_trans, le_of_eq}
use native.Mathlib.Omega.{arith}
use lib.Pow.{pow_mono}
use Rattle.poses.proofs.Parts.{no_parts, some_parts, one_up}
use Rattle.poses.proofs.decimals.nearest_parts.Goals as goal

pub returns-then-b-lt830472192 : goal.returns-then-b-lt830472192
returns-then-b-lt830472192 c = sym (no_parts c.args.b c.if-b-lt830472192.true)

pub overflow_add-result : goal.overflow_add-result
overflow_add-result c =
    let pattern : ℕ = c.args.b in
    let down : ℕ = 150 - pattern / 8388608 in
    let half_is : 1 * 2 ^ (down - 1) % 2 ^ 64 ≡ 2 ^ (down - 1) = let l : 830472192 ≤ pattern =
    c.if-b-lt830472192.false in one_up (down - 1) (omega arith) in
    let half_few : 1 * 2 ^ (down - 1) % 2 ^ 64 ≤ 2 ^ 50 = let l : 830472192 ≤ pattern =
    c.if-b-lt830472192.false in le_trans (le_of_eq half_is) (pow_mono {i = down - 1} {j = 50} (omega arith)) in
    omega (arith, half_few)

pub overflow_add-result-2 : goal.overflow_add-result-2
overflow_add-result-2 c =
    let pattern : ℕ = c.args.b in
    let down : ℕ = 150 - pattern / 8388608 in
    let half_is : 1 * 2 ^ (down - 1) % 2 ^ 64 ≡ 2 ^ (down - 1) = let l : 830472192 ≤ pattern =
    c.if-b-lt830472192.false in one_up (down - 1) (omega arith) in
    let half_few : 1 * 2 ^ (down - 1) % 2 ^ 64 ≤ 2 ^ 50 = let l : 830472192 ≤ pattern =
    c.if-b-lt830472192.false in le_trans (le_of_eq half_is) (pow_mono {i = down - 1} {j = 50} (omega arith)) in
    omega (arith, half_few)

pub returns : goal.returns
returns c =
    let pattern : ℕ = c.args.b in
    let down : ℕ = 150 - pattern / 8388608 in
    let half_is : 1 * 2 ^ (down - 1) % 2 ^ 64 ≡ 2 ^ (down - 1) = let l : 830472192 ≤ pattern =
    c.if-b-lt830472192.false in one_up (down - 1) (omega arith) in
    let p = (8388608 + pattern % 8388608) * 100000000 in
    ap (λ (x : ℕ). (p + x - 1 + p / 2 ^ down % 2) / 2 ^ down) half_is
    ∙ sym (some_parts pattern c.if-b-lt830472192.false c.requires)
