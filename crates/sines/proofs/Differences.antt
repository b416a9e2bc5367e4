-- A signed number as the difference of two natural numbers: sums, differences, products and shares that are rounded down, and what is
-- read of its bits. Assumes nothing.
use Rattle.std.specs.Prelude.{◌≡◌, ℕ, zero, suc, ◌+◌, ◌-◌, ◌*◌, ◌/◌, ◌^◌, ◌<◌, ◌≤◌, Bool, true, false, cond, ltb, ℤ, pos, negsuc, ◌+ℤ◌}
use Rattle.std.specs.Prelude.{◌-ℤ◌, ◌*ℤ◌, neg_ℤ}
use mathlib.Core.Path.{refl, sym, ap, ◌∙◌, subst}
use native.Mathlib.Nat.{mul-div-le, lt-mul-div-succ, div-eq_of_lt-le, div-lt_iff_lt-mul}
use native.Mathlib.Omega.{arith}
use borrow.Author.Tests.{ltb-true, ltb-false, le-ltb}
use lib.IntN.{sub_ℕ}
use lib.Signed.{shr_z}
use mir.Syntax.{w64}
use mir.Val.{SFits, to_z, of_z}
use mir.Facts.{to_z-of_z, to_z_pos}

-- z is x - y
abbrev pub Is : ℤ → ℕ → ℕ → Type 0
Is (pos n) x y = n + y ≡ x
Is (negsuc n) x y = suc n + x ≡ y

pub moved : (z : ℤ) (p q x y : ℕ) → Is z p q → p + y ≡ x + q → Is z x y
moved (pos n) p q x y i e = omega (arith, i, e)
moved (negsuc n) p q x y i e = omega (arith, i, e)

by_test : (a b : ℕ) (t : Bool) → ltb a b ≡ t → Is (cond t (negsuc (b - suc a)) (pos (a - b))) a b
by_test a b true e = let h : a < b = ltb-true a b e in omega arith
by_test a b false e = let h : b ≤ a = ltb-false a b e in omega arith

natural : (a b : ℕ) → Is (sub_ℕ a b) a b
natural a b = by_test a b (ltb a b) refl

pub sum_is : (z w : ℤ) (x y p q : ℕ) → Is z x y → Is w p q → Is (z +ℤ w) (x + p) (y + q)
sum_is (pos a) (pos b) x y p q i j = omega (arith, i, j)
sum_is (pos a) (negsuc b) x y p q i j = moved (sub_ℕ a (suc b)) a (suc b) (x + p) (y + q) (natural a (suc b)) (omega (arith, i, j))
sum_is (negsuc a) (pos b) x y p q i j = moved (sub_ℕ b (suc a)) b (suc a) (x + p) (y + q) (natural b (suc a)) (omega (arith, i, j))
sum_is (negsuc a) (negsuc b) x y p q i j = omega (arith, i, j)

negative_is : (z : ℤ) (x y : ℕ) → Is z x y → Is (neg_ℤ z) y x
negative_is (pos zero) x y i = omega (arith, i)
negative_is (pos (suc n)) x y i = omega (arith, i)
negative_is (negsuc n) x y i = omega (arith, i)

pub difference_is : (z w : ℤ) (x y p q : ℕ) → Is z x y → Is w p q → Is (z -ℤ w) (x + q) (y + p)
difference_is z w x y p q i j = sum_is z (neg_ℤ w) x y q p i (negative_is w p q j)

pub product_is : (z : ℤ) (x y p : ℕ) → Is z x y → Is (z *ℤ pos p) (x * p) (y * p)
product_is (pos a) x y p i = omega (arith, ap (λ (k : ℕ). k * p) i)
product_is (negsuc a) x y p i =
    moved (neg_ℤ (pos (suc a * p))) 0 (suc a * p) (x * p) (y * p) (negative_is (pos (suc a * p)) (suc a * p) 0 (omega arith))
    (omega (arith, ap (λ (k : ℕ). k * p) i))

-- ---- what is read
pub fits : (z : ℤ) (x y : ℕ) → Is z x y → x < 2 ^ 63 → y < 2 ^ 63 → SFits w64 z
fits (pos n) x y i h k = record { sfits = omega (arith, i, h) }
fits (negsuc n) x y i h k = record { sfits = omega (arith, i, k) }

abbrev pub read : ℤ → ℤ
read z = to_z w64 (of_z w64 z)

pub read_is : (z : ℤ) (x y : ℕ) → Is z x y → x < 2 ^ 63 → y < 2 ^ 63 → Is (read z) x y
read_is z x y i h k = subst (λ (w : ℤ). Is w x y) (sym (to_z-of_z (fits z x y i h k))) i

pub whole : (n : ℕ) → n < 2 ^ 63 → to_z w64 n ≡ pos n
whole n h = to_z_pos w64 h

-- ---- a share that is rounded down, and enough to make it natural
above : (n x y d s q : ℕ) → n + y ≡ x → d * q ≤ n → n < d * (q + 1) → y ≤ s * d → (s * d - y + x) / d ≡ q + s
above n x y d s q e l u h = div-eq_of_lt-le {k = q + s} d (omega arith) (omega arith)

below : (n x y d q t : ℕ) → suc n + x ≡ y → d * q ≤ n → n < d * (q + 1) → y ≤ (q + 1 + t) * d → ((q + 1 + t) * d - y + x) / d ≡ t
below n x y d q t e l u h = div-eq_of_lt-le {k = t} d (omega arith) (omega arith)

pub share_is : (z : ℤ) (x y d s : ℕ) → 0 < d → Is z x y → y ≤ s * d → shr_z z d +ℤ pos s ≡ pos ((s * d - y + x) / d)
share_is (pos n) x y d s g i h = ap pos (sym (above n x y d s (n / d) i (mul-div-le n d) (lt-mul-div-succ n g) h))
share_is (negsuc n) x y d s g i h =
    let q : n / d < s = (div-lt_iff_lt-mul {k = d} {x = n} {y = s} g).1 (omega arith) in
    ap (λ (b : Bool). cond b (negsuc (suc (n / d) - suc s)) (pos (s - suc (n / d)))) (le-ltb s (suc (n / d)) q)
    ∙ ap pos (sym (rest (n / d) (s - suc (n / d)) (mul-div-le n d) (lt-mul-div-succ n g) (omega arith)))
  where
    rest : (q t : ℕ) → d * q ≤ n → n < d * (q + 1) → s ≡ q + 1 + t → (s * d - y + x) / d ≡ t
    rest q t l u e = ap (λ (k : ℕ). (k * d - y + x) / d) e ∙ below n x y d q t i l u (subst (λ (k : ℕ). y ≤ k * d) e h)
