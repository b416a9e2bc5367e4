-- A test that passes at each of the numbers from 0 to 128, from three runs of it. Assumes nothing.
use Prim.Native.Nat.{ℕ, zero, suc, ◌+◌, ◌-◌, ◌<◌, ◌≤◌}
use mathlib.Core.Path.{◌≡◌, sym, ◌∙◌, subst}
use mathlib.Core.Bool.{Bool, true}
use mathlib.Core.Logic.{inl, inr}
use native.Mathlib.Nat.{add-zero, zero-add, add-suc, suc-add, le_of_suc-le-suc, not-suc-le-zero}
use native.Mathlib.Omega.{arith}
use lib.Dec.{T}
use Rattle.series.proofs.Order.{here_or_on}
use Rattle.series.proofs.Tables.{both, both_l, both_r}

-- the test f passes at the n numbers from k on
abbrev pub each : (ℕ → Bool) → ℕ → ℕ → Bool
each f k zero = true
each f k (suc n) = both (f k) (each f (suc k) n)

each_at : (f : ℕ → Bool) (k n : ℕ) → T (each f k n) → (i : ℕ) → i < n → T (f (k + i))
each_at f k zero t i h = absurd (not-suc-le-zero h)
each_at f k (suc n) t zero h = subst (λ (m : ℕ). T (f m)) (sym (add-zero k)) (both_l (f k) (each f (suc k) n) t)
each_at f k (suc n) t (suc i) h =
    subst (λ (m : ℕ). T (f m)) (suc-add k i ∙ sym (add-suc k i))
    (each_at f (suc k) n (both_r (f k) (each f (suc k) n) t) i (le_of_suc-le-suc h))

pub each_of : (f : ℕ → Bool) (n : ℕ) → T (each f 0 n) → (k : ℕ) → k < n → T (f k)
each_of f n t k h = subst (λ (m : ℕ). T (f m)) (zero-add k) (each_at f 0 n t k h)

pub each_of_thirds : (f : ℕ → Bool) → T (each f 0 43) → T (each f 43 43) → T (each f 86 43) → (k : ℕ) → k < 129 → T (f k)
each_of_thirds f a b c k h =
    elim (here_or_on k 43) [
      | inl p ↦ each_of f 43 a k p
      | inr p ↦ elim (here_or_on k 86) [ inl q ↦ later 43 b p (omega arith) | inr q ↦ later 86 c q (omega arith) ]
    ]
  where
    later : (i : ℕ) → T (each f i 43) → i ≤ k → k - i < 43 → T (f k)
    later i t p q = let e : i + (k - i) ≡ k = omega arith in subst (λ (m : ℕ). T (f m)) e (each_at f i 43 t (k - i) q)
