-- Two whole numbers: one is no larger than the other.
use mathlib.Core.Logic.{◌⊎◌, inl, inr}
use Prim.Native.Nat.{ℕ, ◌≤◌, ◌<◌}
use native.Mathlib.Nat.{le_of_lt}
use mathlib.Core.Bool.{Bool, true, false, not}
use lib.Dec.{T, leb, leb→le, nleb→lt}

pub le_or_lt : (a b : ℕ) → (a ≤ b) ⊎ (b < a)
le_or_lt a b = go (leb a b) (leb→le a b) (nleb→lt a b)
  where
    go : (t : Bool) → (T t → a ≤ b) → (T (not t) → b < a) → (a ≤ b) ⊎ (b < a)
    go true f g = inl (f tt)
    go false f g = inr (g tt)

pub total : (a b : ℕ) → (a ≤ b) ⊎ (b ≤ a)
total a b = elim (le_or_lt a b) [ inl h ↦ inl h | inr h ↦ inr (le_of_lt h) ]
