-- Fractions that equal two others stand in their strict order. Assumes nothing.
use Rattle.std.specs.Prelude.{◌<◌}
use mathlib.Core.Path.{sym}
use native.Mathlib.Nat.{lt_of_not-le, not-le_of_lt}
use Rattle.series.specs.Fractions.{Fraction, ◌≋◌, ◌≼◌, ◌≺◌}
use Rattle.series.proofs.Fractions.{le_same}

pub lt_same : (a a' b b' : Fraction) → 0 < a'.over → 0 < b'.over → a ≋ a' → b ≋ b' → a ≺ b → a' ≺ b'
lt_same a a' b b' i j h k l = lt_of_not-le (λ (g : b' ≼ a'). not-le_of_lt l (le_same b' b a' a j i (sym k) (sym h) g))
