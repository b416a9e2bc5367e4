-- A number below ten is one digit; any other is what its tenth is, and one digit more. So how long a count is.
use mathlib.Core.Path.{◌≡◌, ap, ◌∙◌}
use mathlib.Core.List.{List, [], ◌∷◌, ◌++◌}
use mathlib.Core.Logic.{⊎_elim}
use Prim.Native.Nat.{ℕ, zero, suc, ◌+◌, ◌/◌, ◌%◌, ◌≤◌, ◌<◌, ◌^◌}
use native.Mathlib.Nat.{pow-suc, one-le-pow, not-suc-le-zero}
use lib.Dec.{ltb, lit<}
use native.Mathlib.Omega.{arith}
use lib.ListN.{length, length-append}
use borrow.Author.Tests.{lt-ltb, le-ltb}
use Rattle.numbers.specs.Told.{choose}
use Rattle.lines.specs.Digits.{digit, decimal_within, decimal}
use Rattle.numbers.proofs.Flags.{lt_or_le}

-- how far the digits may go does not matter, once it is far enough
far_enough : (k l n : ℕ) → n < k → n < l → decimal_within k n ≡ decimal_within l n
unfolding decimal_within
far_enough zero l n h h' = absurd (not-suc-le-zero h)
far_enough (suc k) zero n h h' = absurd (not-suc-le-zero h')
far_enough (suc k) (suc l) n h h' =
    ⊎_elim (λ (few : n < 10). simp (lt-ltb n 10 few))
    (λ (many : 10 ≤ n).
    ap (λ (s : List ℕ). choose (ltb n 10) (digit n ∷ []) (s ++ (digit (n % 10) ∷ [])))
    (far_enough k l (n / 10) (omega arith) (omega arith)))
    (lt_or_le n 10)

pub decimal_few : (n : ℕ) → n < 10 → decimal n ≡ digit n ∷ []
unfolding decimal decimal_within
decimal_few n few = simp (lt-ltb n 10 few)

pub decimal_more : (n : ℕ) → 10 ≤ n → decimal n ≡ decimal (n / 10) ++ (digit (n % 10) ∷ [])
unfolding decimal decimal_within
decimal_more n many =
    simp (le-ltb n 10 many)
    (ap (λ (s : List ℕ). s ++ (digit (n % 10) ∷ [])) (far_enough n (suc (n / 10)) (n / 10) (omega arith) (omega arith)))

pub length_few : (n : ℕ) → n < 10 → length (decimal n) ≡ 1
length_few n few = ap length (decimal_few n few)

pub length_more : (n : ℕ) → 10 ≤ n → length (decimal n) ≡ length (decimal (n / 10)) + 1
length_more n many = ap length (decimal_more n many) ∙ length-append (decimal (n / 10)) _

pub length_positive : (n : ℕ) → 1 ≤ length (decimal n)
length_positive n =
    ⊎_elim (λ (few : n < 10). omega (arith, length_few n few)) (λ (many : 10 ≤ n). omega (arith, length_more n many)) (lt_or_le n 10)

-- a number below 10 ^ (k + 1) has at most k + 1 digits
pub length_at_most : (k n : ℕ) → n < 10 ^ suc k → length (decimal n) ≤ suc k
length_at_most zero n h = omega (arith, length_few n h)
length_at_most (suc k) n h =
    ⊎_elim (λ (few : n < 10). omega (arith, length_few n few))
    (λ (many : 10 ≤ n).
    let e = pow-suc 10 (suc k) in
    omega (arith, length_more n many, length_at_most k (n / 10) (omega arith)))
    (lt_or_le n 10)

-- and one of 10 ^ k or more has more than k
pub length_at_least : (k n : ℕ) → 10 ^ k ≤ n → k < length (decimal n)
length_at_least zero n h = length_positive n
length_at_least (suc k) n h =
    let e = pow-suc 10 k in
    let one : 1 ≤ 10 ^ k = one-le-pow k 10 (lit< tt) in
    let many : 10 ≤ n = omega arith in
    omega (arith, length_more n many, length_at_least k (n / 10) (omega arith))
