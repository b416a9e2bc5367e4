-- The number that an f32 is, as a fraction: by its sign and its magnitude. Assumes nothing.
use Prim.Native.Nat.{ℕ, ◌*◌, ◌<◌}
use mathlib.Core.Path.{◌≡◌, subst}
use mathlib.Core.Bool.{Bool, true, false}
use native.Mathlib.Omega.{arith}
use lib.Ieee.{Float, nan, inf, fin, up, down}
use lib.Ieee.Exact.{HasValue}
use lib.Ieee.Fits.{down_pos}
use Rattle.series.specs.Fractions.{Fraction, ◌÷◌, signed, ◌≋◌, value}
use Rattle.series.proofs.Fractions.{negative_same}

pub value_is : (x : Float) (s : Bool) (n c : ℕ) → HasValue x s n c → value x ≋ signed s (n ÷ c)
value_is nan s n c h = absurd h
value_is (inf t) s n c h = absurd h
value_is (fin t m d) s n c h =
    subst (λ (b : Bool). signed t ((m * up d) ÷ down d) ≋ signed b (n ÷ c)) h.0 (go t (m * up d) (down d) h.1)
  where
    go : (t : Bool) (a b : ℕ) → a * c ≡ n * b → signed t (a ÷ b) ≋ signed t (n ÷ c)
    go true a b e = omega arith
    go false a b e = omega arith

-- ---- a sign leaves the denominator, and what is the same stays so
pub signed_over : (s : Bool) (a : Fraction) → 0 < a.over → 0 < (signed s a).over
signed_over true a h = h
signed_over false a h = h

pub signed_same : (s : Bool) (a b : Fraction) → a ≋ b → signed s a ≋ signed s b
signed_same true a b h = negative_same a b h
signed_same false a b h = h

pub value_over : (x : Float) → 0 < (value x).over
value_over nan = omega arith
value_over (inf s) = omega arith
value_over (fin s m d) = signed_over s ((m * up d) ÷ down d) (down_pos d)
