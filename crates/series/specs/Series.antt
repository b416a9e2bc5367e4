-- Document 01, "Numbers with bounds": S and C.
use Rattle.std.specs.Prelude.{ℕ, zero, suc, ◌+◌, ◌*◌}
use Rattle.series.specs.Fractions.{Fraction, ◌÷◌, whole, ◌⊖◌, ◌⊗◌}

-- 0! = 1, i! = 1 * 2 * .. * i
unfoldable pub factorial : ℕ → ℕ
factorial zero = 1
factorial (suc i) = suc i * factorial i

-- x ^ 0 = 1, x ^ i = x * .. * x
unfoldable pub power : Fraction → ℕ → Fraction
power x zero = whole 1
power x (suc i) = x ⊗ power x i

-- x ^ i / i!
abbrev pub term : Fraction → ℕ → Fraction
term x i = power x i ⊗ 1 ÷ factorial i

-- x ^ i / i! - x ^ (i + 2) / (i + 2)! + x ^ (i + 4) / (i + 4)! - .., so many terms
unfoldable pub alternating : ℕ → Fraction → ℕ → Fraction
alternating zero x i = whole 0
alternating (suc k) x i = term x i ⊖ alternating k x (i + 2)

-- the first 32 terms of sine's power series: x - x ^ 3 / 3! + x ^ 5 / 5! - .., last x ^ 63 / 63!
unfoldable pub S : Fraction → Fraction
S x = alternating 32 x 1

-- the first 32 terms of cosine's: 1 - x ^ 2 / 2! + x ^ 4 / 4! - .., last x ^ 62 / 62!
unfoldable pub C : Fraction → Fraction
C x = alternating 32 x 0
