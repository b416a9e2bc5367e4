-- The rounded fraction is the nearest f32: no f32, of w units, is nearer to a / c.
use mathlib.Core.Path.{◌≡◌, sym, ap, ◌∙◌}
use mathlib.Core.Logic.{inl, inr}
use Prim.Native.Nat.{ℕ, suc, ◌+◌, ◌*◌, ◌/◌, ◌^◌, ◌≤◌, ◌<◌}
use native.Mathlib.Nat.{le_trans, le_of_eq, le_of_lt, lt_of_lt_of_le, lt_of_le_of_lt, lt_of_mul-lt-mul_right, mul-le-mul_right}
use native.Mathlib.Nat.{le-div_iff_mul-le, eq-zero-or-pos}
use native.Mathlib.Omega.{arith}
use lib.Dec.{lit<}
use lib.Pow.{pow-add}
use lib.Ieee.{size}
use lib.Ieee.Digits.{size_reaches}
use lib.Ieee.Order.{drop, kept}
use Rattle.units.specs.Units.{unity, gap, rounded}
use Rattle.units.proofs.Whole.{le_or_lt}
use Rattle.units.proofs.Grid.{cell, cell_near, kept_ge, used}
use Rattle.units.proofs.Digits.{Digits, multiple}

-- G is within half a step of n; what is a step from G is no nearer
step_above : (G n s W : ℕ) → 2 * G ≤ 2 * n + s → 2 * n ≤ 2 * G + s → G + s ≤ W → gap G n ≤ gap W n
step_above G n s W a b h = omega arith

step_below : (G n s W : ℕ) → 2 * G ≤ 2 * n + s → 2 * n ≤ 2 * G + s → W + s ≤ G → gap G n ≤ gap W n
step_below G n s W a b h = omega arith

under : (G n W : ℕ) → G ≤ n → W ≤ G → gap G n ≤ gap W n
under G n W a b = omega arith

module _ (n c w : ℕ) (C : 0 < c) (d : Digits w) where
  k : ℕ
  k = drop 24 n c

  g : ℕ
  g = cell 24 n c

  same : w ≡ g → gap (g * c) n ≤ gap (w * c) n
  same e = le_of_eq (ap (λ (x : ℕ). gap (x * c) n) (sym e))

  -- one step apart, in units and times c
  wide : (x y : ℕ) → x + 2 ^ k ≤ y → x * c + c * 2 ^ k ≤ y * c
  wide x y h = let m : (x + 2 ^ k) * c ≤ y * c = mul-le-mul_right c h in spread x (2 ^ k) c (y * c) m
    where
      spread : (x u c z : ℕ) → (x + u) * c ≤ z → x * c + c * u ≤ z
      spread x u c z h = omega arith

  close : w < g + 2 ^ k → g < w + 2 ^ k → gap (g * c) n ≤ gap (w * c) n
  unfolding k g
  close above below = elim (le_or_lt (2 ^ 23 * 2 ^ k) w) [
    | inl h ↦
        let M = multiple w k d h in
        let K = kept 24 n c in
        let u = M.0 in
        let x : u < suc K =
        lt_of_mul-lt-mul_right (2 ^ k) (lt_of_le_of_lt (le_of_eq (sym M.1)) (lt_of_lt_of_le above (le_of_eq (next K (2 ^ k))))) in
        let y : K < suc u =
        lt_of_mul-lt-mul_right (2 ^ k) (lt_of_lt_of_le below (le_of_eq (ap (λ (z : ℕ). z + 2 ^ k) M.1 ∙ next u (2 ^ k)))) in
        same (M.1 ∙ ap (λ (z : ℕ). z * 2 ^ k) (equal u K x y))
    | inr h ↦ elim (eq-zero-or-pos k) [
      | inl z ↦ same (equal w g (one_step above (ap (λ (j : ℕ). 2 ^ j) z)) (one_step below (ap (λ (j : ℕ). 2 ^ j) z)))
      | inr p ↦
          let K = kept 24 n c in
          let b = 2 ^ 23 * 2 ^ k in
          let l : 2 ^ 23 ≤ K = kept_ge 24 n c (lit< tt) p in
          let t : K < suc (2 ^ 23) =
          lt_of_mul-lt-mul_right (2 ^ k) (lt_of_lt_of_le below (le_trans (less w b (2 ^ k) h) (le_of_eq (next (2 ^ 23) (2 ^ k))))) in
          let e : g ≡ b = ap (λ (z : ℕ). z * 2 ^ k) (at_bottom K l t) in
          let r : 2 ^ (23 + k) ≤ n / c = size_reaches (n / c) (23 + k) (used (size (n / c)) 24 (lit< tt) p) in
          let m : b * c ≤ n = (le-div_iff_mul-le C).0 (le_trans (le_of_eq (sym (pow-add 2 23 k))) r) in
          under (g * c) n (w * c) (le_trans (le_of_eq (ap (λ (z : ℕ). z * c) e)) m)
          (mul-le-mul_right c (le_trans (le_of_lt h) (le_of_eq (sym e))))
    ]
  ]
    where
      next : (a b : ℕ) → a * b + b ≡ suc a * b
      next a b = omega arith

      equal : (a b : ℕ) → a < suc b → b < suc a → a ≡ b
      equal a b x y = omega arith

      one_step : {a b s : ℕ} → a < b + s → s ≡ 1 → a < suc b
      one_step {a} {b} {s} x y = omega arith

      less : (w b s : ℕ) → w < b → w + s ≤ b + s
      less w b s h = omega arith

      at_bottom : (q : ℕ) → 2 ^ 23 ≤ q → q < suc (2 ^ 23) → q ≡ 2 ^ 23
      at_bottom q x y = omega arith

  nearest_cell : gap (g * c) n ≤ gap (w * c) n
  unfolding k g
  nearest_cell =
      let h = cell_near 24 n c C in
      let s = c * 2 ^ k in
      elim (le_or_lt (g + 2 ^ k) w) [
        | inl a ↦ step_above (g * c) n s (w * c) h.0 h.1 (wide g w a)
        | inr a ↦ elim (le_or_lt (w + 2 ^ k) g) [
          | inl b ↦ step_below (g * c) n s (w * c) h.0 h.1 (wide w g b)
          | inr b ↦ close a b
        ]
      ]

pub rounded_nearest : (a c w : ℕ) → 0 < c → Digits w → gap (rounded a c * c) (a * unity) ≤ gap (w * c) (a * unity)
unfolding k g
rounded_nearest a c w C d = nearest_cell (a * unity) c w C d
