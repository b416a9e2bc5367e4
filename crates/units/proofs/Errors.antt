-- How far f32 rounds, in numbers that `omega` takes: sums, products and quotients of a known size, with the error a power of two; and
-- any, within one part in 1024.
-- `omega` refuses numerals of 40 digits and more, and 1 is 2 ^ 149 units, so each law is first proved with a variable u for it, and then
-- taken at it.
use mathlib.Core.Path.{◌≡◌, ap, ◌∙◌}
use Prim.Native.Nat.{ℕ, ◌+◌, ◌*◌, ◌^◌, ◌≤◌, ◌<◌}
use native.Mathlib.Nat.{le_of_eq, lt_of_lt_of_le, mul-le-mul_right, mul-lt-mul_of_pos_right, le_of_mul-le-mul_right, mul-pos}
use native.Mathlib.Omega.{arith}
use lib.Dec.{lit<}
use lib.Pow.{pow_pos}
use lib.Ieee.{binary32}
use lib.Ieee.Order.{drop}
use Rattle.units.specs.Units.{unity, rounded}
use Rattle.units.proofs.Grid.{cell, cell_near, cell_abs, cell_le, drop_rel, grid_mono, grid_zero}

pub unity_pos : 0 < unity
unity_pos = pow_pos 149

pub rounded_mono : (a b : ℕ) → a ≤ b → rounded a unity ≤ rounded b unity
rounded_mono a b h = grid_mono binary32 a unity b unity unity_pos unity_pos (mul-le-mul_right unity h)

pub rounded_zero : (a : ℕ) → a ≡ 0 → rounded a unity ≡ 0
rounded_zero a e = ap (λ (k : ℕ). rounded k unity) e ∙ grid_zero binary32 unity unity_pos

-- ---- relative, with the underflow's term
up_of : (g n c k : ℕ) → 2 * g ≤ 2 * n + k → 8388608 * k ≤ n + 8388608 * c → 1024 * g ≤ 1025 * n + 512 * c
up_of g n c k a b = omega arith

low_of : (g n c k : ℕ) → 2 * n ≤ 2 * g + k → 8388608 * k ≤ n + 8388608 * c → 1023 * n ≤ 1024 * g + 512 * c
low_of g n c k a b = omega arith

rel_up : (n c : ℕ) → 0 < c → 1024 * (cell 24 n c * c) ≤ 1025 * n + 512 * c
rel_up n c C = up_of (cell 24 n c * c) n c (c * 2 ^ drop 24 n c) (cell_near 24 n c C).0 (drop_rel 24 n c (lit< tt) C)

rel_low : (n c : ℕ) → 0 < c → 1023 * n ≤ 1024 * (cell 24 n c * c) + 512 * c
rel_low n c C = low_of (cell 24 n c * c) n c (c * 2 ^ drop 24 n c) (cell_near 24 n c C).1 (drop_rel 24 n c (lit< tt) C)

-- a sum of x units
pub record Summed (g x : ℕ) : Type 0 where
  pub up : 1024 * g ≤ 1025 * x + 512
  pub low : 1023 * x ≤ 1024 * g + 512

sum_up : (g x u : ℕ) → 0 < u → 1024 * (g * u) ≤ 1025 * (x * u) + 512 * u → 1024 * g ≤ 1025 * x + 512
sum_up g x u h a = le_of_mul-le-mul_right {m = 1024 * g} {n = 1025 * x + 512} {k = u} (omega arith) h

sum_low : (g x u : ℕ) → 0 < u → 1023 * (x * u) ≤ 1024 * (g * u) + 512 * u → 1023 * x ≤ 1024 * g + 512
sum_low g x u h a = le_of_mul-le-mul_right {m = 1023 * x} {n = 1024 * g + 512} {k = u} (omega arith) h

pub summed : (x : ℕ) → Summed (rounded x unity) x
summed x = record {
  up = sum_up (rounded x unity) x unity (pow_pos 149) (rel_up (x * unity) unity (pow_pos 149));
  low = sum_low (rounded x unity) x unity (pow_pos 149) (rel_low (x * unity) unity (pow_pos 149));
}

-- a product of x and y units; xy stands for x * y
pub record Multiplied (g xy u : ℕ) : Type 0 where
  pub up : 1024 * (g * u) ≤ 1025 * xy + 512 * u
  pub low : 1023 * xy ≤ 1024 * (g * u) + 512 * u

mul_up : (g w u : ℕ) → 0 < u → 1024 * (g * (u * u)) ≤ 1025 * (w * u) + 512 * (u * u) → 1024 * (g * u) ≤ 1025 * w + 512 * u
mul_up g w u h a = le_of_mul-le-mul_right {m = 1024 * (g * u)} {n = 1025 * w + 512 * u} {k = u} (omega arith) h

mul_low : (g w u : ℕ) → 0 < u → 1023 * (w * u) ≤ 1024 * (g * (u * u)) + 512 * (u * u) → 1023 * w ≤ 1024 * (g * u) + 512 * u
mul_low g w u h a = le_of_mul-le-mul_right {m = 1023 * w} {n = 1024 * (g * u) + 512 * u} {k = u} (omega arith) h

pub multiplied : (w : ℕ) → Multiplied (rounded w (unity * unity)) w unity
multiplied w =
    let C : 0 < unity * unity = mul-pos (pow_pos 149) (pow_pos 149) in
    record {
      up = mul_up (rounded w (unity * unity)) w unity (pow_pos 149) (rel_up (w * unity) (unity * unity) C);
      low = mul_low (rounded w (unity * unity)) w unity (pow_pos 149) (rel_low (w * unity) (unity * unity) C);
    }

-- ---- absolute
pub record Within (g x e : ℕ) : Type 0 where
  pub up : g ≤ x + e
  pub low : x ≤ g + e

-- 2 ^ j is 2 * e
sum_within : (g x u e : ℕ) → 0 < u → 2 * (g * u) ≤ 2 * (x * u) + u * (2 * e) → 2 * (x * u) ≤ 2 * (g * u) + u * (2 * e) → Within g x e
sum_within g x u e h a b = record {
  up = le_of_mul-le-mul_right {m = g} {n = x + e} {k = u} (omega arith) h;
  low = le_of_mul-le-mul_right {m = x} {n = g + e} {k = u} (omega arith) h;
}

-- a sum below 32: within 2 ^ -20
pub sum_abs : (x : ℕ) → x < 2 ^ 154 → Within (rounded x unity) x (2 ^ 129)
sum_abs x h =
    let g = cell_abs 24 (x * unity) unity 130 (pow_pos 149) (mul-lt-mul_of_pos_right h (pow_pos 149)) in
    sum_within (rounded x unity) x unity (2 ^ 129) (pow_pos 149) g.0 g.1

pub sum_le : (x : ℕ) → x < 2 ^ 154 → rounded x unity ≤ 2 ^ 154
sum_le x h = cell_le 24 (x * unity) unity 130 (pow_pos 149) (mul-lt-mul_of_pos_right h (pow_pos 149))

-- a quotient x / q below 2: within 2 ^ -24, as a multiple of q
div_within : (g x q u e : ℕ) → 2 * (g * q) ≤ 2 * (x * u) + q * (2 * e) → 2 * (x * u) ≤ 2 * (g * q) + q * (2 * e)
    → Within (g * q) (x * u) (q * e)
div_within g x q u e a b = record { up = omega arith; low = omega arith }

pub div_abs : (x q : ℕ) → 0 < q → x < 2 * q → Within (rounded x q * q) (x * unity) (q * 2 ^ 125)
div_abs x q Q h =
    let g = cell_abs 24 (x * unity) q 126 Q (lt_of_lt_of_le (mul-lt-mul_of_pos_right h (pow_pos 149)) (le_of_eq (shuffle q unity))) in
    div_within (rounded x q) x q unity (2 ^ 125) g.0 g.1
  where
    shuffle : (q u : ℕ) → 2 * q * u ≡ 2 * u * q
    shuffle q u = omega arith

pub div_le : (x q : ℕ) → 0 < q → x < 2 * q → rounded x q ≤ 2 ^ 150
div_le x q Q h = cell_le 24 (x * unity) q 126 Q (lt_of_lt_of_le (mul-lt-mul_of_pos_right h (pow_pos 149)) (le_of_eq (shuffle q unity)))
  where
    shuffle : (q u : ℕ) → 2 * q * u ≡ 2 * u * q
    shuffle q u = omega arith

-- a product w of two below 4, w in units of 2 ^ -298: within 2 ^ -23
mul_within : (g w u e : ℕ) → 0 < u → 2 * (g * (u * u)) ≤ 2 * (w * u) + u * u * (2 * e) → 2 * (w * u) ≤ 2 * (g * (u * u)) + u * u * (2 * e)
    → Within (g * u) w (u * e)
mul_within g w u e h a b = record {
  up = le_of_mul-le-mul_right {m = g * u} {n = w + u * e} {k = u} (omega arith) h;
  low = le_of_mul-le-mul_right {m = w} {n = g * u + u * e} {k = u} (omega arith) h;
}

pub mul_abs : (w : ℕ) → w < 4 * (unity * unity) → Within (rounded w (unity * unity) * unity) w (unity * 2 ^ 126)
mul_abs w h =
    let C : 0 < unity * unity = mul-pos (pow_pos 149) (pow_pos 149) in
    let g = cell_abs 24 (w * unity) (unity * unity) 127 C (mul-lt-mul_of_pos_right h (pow_pos 149)) in
    mul_within (rounded w (unity * unity)) w unity (2 ^ 126) (pow_pos 149) g.0 g.1

pub mul_le : (w : ℕ) → w < 4 * (unity * unity) → rounded w (unity * unity) ≤ 2 ^ 151
mul_le w h = cell_le 24 (w * unity) (unity * unity) 127 (mul-pos (pow_pos 149) (pow_pos 149)) (mul-lt-mul_of_pos_right h (pow_pos 149))
