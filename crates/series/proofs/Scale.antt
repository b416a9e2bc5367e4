-- The working sums at equal fractions: taking numerator and denominator k times as large makes them k ^ 63 times as large. Assumes
-- nothing.
use mathlib.Core.Path.{◌≡◌, refl, sym, ap, ◌∙◌}
use mathlib.Core.List.{List, [], ◌∷◌}
use Prim.Native.Nat.{ℕ, ◌*◌, ◌^◌, ◌<◌}
use native.Mathlib.Nat.{pow-zero, pow-succ', mul_assoc, mul-zero, eq_of_mul-eq-mul_left}
use native.Mathlib.Omega.{arith}
use lib.ListN.{length}
use Rattle.series.specs.Working.{pw, ev}

pw_mul : (k n : ℕ) (p : List ℕ) → pw k p * pw n p ≡ pw (k * n) p
unfolding pw
pw_mul k n [] = refl
pw_mul k n (c ∷ p) = omega (arith, pw_mul k n p, ap (λ (w : ℕ). k * n * w) (pw_mul k n p))

pub ev_times : (k n r : ℕ) (p : List ℕ) → k * ev (k * n) (k * r) p ≡ pw k p * ev n r p
unfolding ev pw
ev_times k n r [] = simp mul-zero
ev_times k n r (c ∷ p) = omega (arith, ap (λ (w : ℕ). k * c * w) (pw_mul k n p), ap (λ (w : ℕ). k * r * w) (ev_times k n r p))

pub pw_pow : (n : ℕ) (p : List ℕ) → pw n p ≡ n ^ length p
unfolding pw
pw_pow n [] = sym (pow-zero n)
pw_pow n (c ∷ p) = ap (λ (w : ℕ). n * w) (pw_pow n p) ∙ sym (pow-succ' n (length p))

pw_is : (n : ℕ) (p : List ℕ) → length p ≡ 64 → pw n p ≡ n * n ^ 63
pw_is n p h = pw_pow n p ∙ ap (λ (k : ℕ). n ^ k) h ∙ pow-succ' n 63

pub ev_widen : (k n r : ℕ) (p : List ℕ) → length p ≡ 64 → 0 < k → ev (k * n) (k * r) p ≡ k ^ 63 * ev n r p
ev_widen k n r p h pos =
    eq_of_mul-eq-mul_left k pos (ev (k * n) (k * r) p) (k ^ 63 * ev n r p)
    (ev_times k n r p ∙ ap (λ (w : ℕ). w * ev n r p) (pw_is k p h) ∙ mul_assoc k (k ^ 63) (ev n r p))
