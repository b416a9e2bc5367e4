-- The nearest whole number of a fraction is within a half of it. Nothing here is about floats.
use mathlib.Core.Path.{◌≡◌, subst}
use Prim.Native.Nat.{ℕ, zero, suc, ◌+◌, ◌*◌, ◌/◌, ◌%◌, ◌≤◌, ◌<◌, compare, Ordering}
use native.Mathlib.Nat.{mod-lt, div-add-mod'}
use native.Mathlib.Omega.{arith}
use mathlib.Core.Bool.{not}
use lib.Dec.{T, is_le, compare_is_eq, eqb, leb→le, nleb→lt, eqb→eq, eqb_refl}
use lib.Arith.{lt_of_le-ne}
use lib.Ieee.{nearest}
use lib.Ieee.Nearest.{closest}

abbrev Cmp : Ordering → ℕ → ℕ → Type 0
Cmp Ordering.lt a b = a < b
Cmp Ordering.eq a b = a ≡ b
Cmp Ordering.gt a b = b < a

cmp : (a b : ℕ) → Cmp (compare a b) a b
cmp a b = go (compare a b) (leb→le a b) (nleb→lt a b) (eqb→eq a b) (λ (e : a ≡ b). subst (λ (x : ℕ). T (eqb a x)) e (eqb_refl a))
  where
    go : (o : Ordering) → (T (is_le o) → a ≤ b) → (T (not (is_le o)) → b < a) → (T (compare_is_eq o) → a ≡ b) →
        (a ≡ b → T (compare_is_eq o)) → Cmp o a b
    go Ordering.lt h k e n = lt_of_le-ne (h tt) n
    go Ordering.eq h k e n = e tt
    go Ordering.gt h k e n = k tt

-- twice the nearest whole number is within 1 of twice the fraction
pub record Near (w a b : ℕ) : Type 0 where
  pub above : 2 * (w * b) ≤ 2 * a + b
  pub below : 2 * a ≤ 2 * (w * b) + b

tie : (q r b a m : ℕ) → q * b + r ≡ a → r * 2 ≡ b → m < 2 → Near (q + m) a b
tie q r b a zero e h l = record { above = omega arith; below = omega arith }
tie q r b a (suc zero) e h l = record { above = omega arith; below = omega arith }
tie q r b a (suc (suc m)) e h l = absurd (omega arith)

near_of : (q r b a : ℕ) (o : Ordering) → q * b + r ≡ a → r < b → Cmp o (r * 2) b → Near (nearest q o) a b
near_of q r b a Ordering.lt e l h = record { above = omega arith; below = omega arith }
near_of q r b a Ordering.eq e l h = tie q r b a (q % 2) e h (omega arith)
near_of q r b a Ordering.gt e l h = record { above = omega arith; below = omega arith }

pub closest_near : (a b : ℕ) → 0 < b → Near (closest a b) a b
closest_near a b B = near_of (a / b) (a % b) b a (compare (a % b * 2) b) (div-add-mod' a b) (mod-lt a B) (cmp (a % b * 2) b)
