-- f32s beside each other, in units: the larger is above the smaller by one part in 2 ^ 24 at least. A quotient by more, times less, is no
-- more than what was divided. And of all f32s none is nearer to a sum than the rounded one.
use Rattle.std.specs.Prelude.{◌≡◌, ℕ, zero, suc, ◌+◌, ◌-◌, ◌*◌, ◌/◌, ◌^◌, ◌<◌, ◌≤◌}
use mathlib.Core.Path.{refl, sym, ap, ◌∙◌, subst}
use mathlib.Core.Logic.{inl, inr}
use Prim.Native.Nat.{zero-le}
use native.Mathlib.Nat.{add-mul, eq-zero-or-pos, eq-or-lt_of_le, lt_of_not-le, not-le_of_lt, le_trans, le_of_eq, lt_of_le_of_lt}
use native.Mathlib.Nat.{lt_of_lt_of_le, mul-le-mul, mul-le-mul_right, mul-pos, mul_assoc, le_of_mul-le-mul_right}
use native.Mathlib.Nat.{pow-succ', le-div_iff_mul-le, lt_of_mul-lt-mul_right, mul-lt-mul_of_pos_right}
use native.Mathlib.Omega.{arith}
use lib.Dec.{lit<}
use lib.Pow.{pow-add, pow_mono}
use lib.Ieee.{binary32, size}
use lib.Ieee.Digits.{size-lt, size_reaches}
use lib.Ieee.Order.{drop}
use Rattle.units.specs.Units.{unity, gap, rounded, Exact}
use Rattle.units.proofs.Grid.{cell_near, grid_mono, grid_zero, grid_abs, grid_le}
use Rattle.units.proofs.Digits.{Digits, multiple}
use Rattle.units.proofs.Nearest.{rounded_nearest}
use Rattle.units.proofs.Errors.{unity_pos}
use Rattle.walks.proofs.Coordinate.{total}

-- ---- the place of the last digit: 2 ^ k, for a w of 24 digits or more
pub record Placed (w k : ℕ) : Type 0 where
  pub low : 2 ^ 23 * 2 ^ k ≤ w
  pub high : w < 2 ^ 24 * 2 ^ k

pub placed : (w : ℕ) → 2 ^ 23 ≤ w → Placed w (size w - 24)
placed w h = record {
  low = le_trans (le_of_eq (sym (pow-add 2 23 (size w - 24)))) (size_reaches w (23 + (size w - 24)) (inside (size w) many));
  high = lt_of_lt_of_le (size-lt w) (le_of_eq (ap (λ (n : ℕ). 2 ^ n) (whole (size w) many) ∙ pow-add 2 24 (size w - 24)));
}
  where
    many : 24 ≤ size w
    many = lt_of_not-le (λ (g : size w ≤ 23). not-le_of_lt (lt_of_lt_of_le (size-lt w) (pow_mono g)) h)

    inside : (n : ℕ) → 24 ≤ n → 23 + (n - 24) < n
    inside n h = omega arith

    whole : (n : ℕ) → 24 ≤ n → n ≡ 24 + (n - 24)
    whole n h = omega arith

-- two multiples of p are p apart
pub place_more : (a b p v w : ℕ) → v ≡ a * p → w ≡ b * p → v < w → v + p ≤ w
place_more a b p v w e f h =
    let l : a < b = lt_of_mul-lt-mul_right p (lt_of_le_of_lt (le_of_eq (sym e)) (lt_of_lt_of_le h (le_of_eq f))) in
    let m : (a + 1) * p ≤ b * p = mul-le-mul_right p (next l) in
    omega arith
  where
    next : a < b → a + 1 ≤ b
    next l = omega arith

-- ---- the next f32 below
-- w is a multiple of p below 2 ^ 24 of them, v a smaller one
by_multiples : (a b p w v : ℕ) → w ≡ a * p → v ≡ b * p → v < w → w < 16777216 * p → 16777216 * v + w ≤ 16777216 * w
by_multiples a b p w v e f h g = let m : v + p ≤ w = place_more b a p v w f e h in omega arith

-- v lies in the binade below, where p is half as large
by_halves : (b p w v : ℕ) → v ≡ b * p → v < 16777216 * p → 16777216 * p ≤ w → 16777216 * v + w ≤ 16777216 * w
by_halves b p w v f h g = let m : v + p ≤ 16777216 * p = place_more b 16777216 p v (16777216 * p) f refl h in omega arith

small_below : (w v : ℕ) → v < w → w < 16777216 → 16777216 * v + w ≤ 16777216 * w
small_below w v h g = omega arith

pub next_below : (w v : ℕ) → Digits w → Digits v → v < w → 2 ^ 24 * v + w ≤ 2 ^ 24 * w
next_below w v dw dv h =
    elim (total (2 ^ 23) w) [ inr s ↦ small_below w v h (lt_of_le_of_lt s (lit< tt)) | inl big ↦ at (size w - 24) (placed w big) ]
  where
    lower : (k : ℕ) → Placed w k → v < 8388608 * 2 ^ k → 16777216 * v + w ≤ 16777216 * w
    lower zero p l = small_below w v h p.high
    lower (suc j) p l =
        let e : 2 ^ suc j ≡ 2 * 2 ^ j = pow-succ' 2 j in
        let a : v < 16777216 * 2 ^ j = half (2 ^ suc j) (2 ^ j) e l in
        let b : 16777216 * 2 ^ j ≤ w = double (2 ^ suc j) (2 ^ j) e p.low in
        elim (total (8388608 * 2 ^ j) v) [
          | inl t ↦ let n = multiple v j dv t in by_halves n.0 (2 ^ j) w v n.1 a b
          | inr t ↦ under t b
        ]
      where
        half : (x y : ℕ) → x ≡ 2 * y → v < 8388608 * x → v < 16777216 * y
        half x y e l = omega arith

        double : (x y : ℕ) → x ≡ 2 * y → 8388608 * x ≤ w → 16777216 * y ≤ w
        double x y e l = omega arith

        under : v ≤ 8388608 * 2 ^ j → 16777216 * 2 ^ j ≤ w → 16777216 * v + w ≤ 16777216 * w
        under = close (2 ^ j)
          where
            close : (y : ℕ) → v ≤ 8388608 * y → 16777216 * y ≤ w → 16777216 * v + w ≤ 16777216 * w
            close y l g = omega arith

    at : (k : ℕ) → Placed w k → 16777216 * v + w ≤ 16777216 * w
    at k p = elim (total (8388608 * 2 ^ k) v) [
      | inl t ↦ let n =
          multiple v k dv t in let o = multiple w k dw p.low in by_multiples o.0 n.0 (2 ^ k) w v o.1 n.1 h p.high
      | inr t ↦ elim (eq-or-lt_of_le t) [
        | inl e ↦ let n =
            multiple v k dv (le_of_eq (sym e)) in let o = multiple w k dw p.low in by_multiples o.0 n.0
            (2 ^ k) w v o.1 n.1 h p.high
        | inr l ↦ lower k p l
      ]
    ]

-- ---- divided by Q and multiplied by less: D / Q * M is D at most. u is the number 1; G is the rounded quotient
no_more : (D G M u : ℕ) → G * M ≤ D * u → G * M * u ≤ D * (u * u)
no_more D G M u h = le_trans (mul-le-mul_right u h) (le_of_eq (mul_assoc D u u))

-- a quotient of 24 digits: its error is one part in 2 ^ 24, as is the step from Q down to M
large : (gm gq du qp : ℕ) → 2 * gq ≤ 2 * du + qp → 8388608 * qp ≤ du → 16777216 * gm + gq ≤ 16777216 * gq → gm ≤ du
large gm gq du qp a b c = omega arith

-- a smaller quotient: its error is half a unit
small : (D G M Q u : ℕ) → 0 < D → 0 < u → 0 < Q → M < Q → M ≤ u → 2 * (G * Q) ≤ 2 * (D * u) + Q * 1 → 2 * (G * M) < 2 * (D * u) + u
small D G M Q u d p q l m h =
    let a : 2 * (G * Q) * M ≤ (2 * (D * u) + Q * 1) * M = mul-le-mul_right M h in
    let b : M * (D * u) < Q * (D * u) = mul-lt-mul_of_pos_right l (mul-pos d p) in
    let c : 2 * (G * M) * Q < (2 * (D * u) + M) * Q = omega arith in
    let e : 2 * (G * M) < 2 * (D * u) + M = lt_of_mul-lt-mul_right Q c in
    omega arith

small_fits : (D gm u : ℕ) → 0 < u → D < 16777216 → 2 * gm < 2 * (D * u) + u → gm < 16777216 * u
small_fits D gm u p d h = let a : (D + 1) * u ≤ 16777216 * u = mul-le-mul_right u (next d) in omega arith
  where
    next : D < 16777216 → D + 1 ≤ 16777216
    next d = omega arith

small_back : (D H gm u : ℕ) → 0 < u → 2 * gm < 2 * (D * u) + u → 2 * (H * (u * u)) ≤ 2 * (gm * u) + u * u * 1 → H ≤ D
small_back D H gm u p h g =
    let a : 2 * gm * u < (2 * (D * u) + u) * u = mul-lt-mul_of_pos_right h p in
    let b : H * (u * u) < (D + 1) * (u * u) = omega arith in
    let c : H < D + 1 = lt_of_mul-lt-mul_right (u * u) b in
    omega arith

module _ (D Q M : ℕ) (exact : Exact D) (dq : Digits Q) (dm : Digits M) (less : M < Q) (one : M ≤ unity) where
  positive : 0 < Q
  positive = lt_of_le_of_lt zero-le less

  abbrev G : ℕ
  G = rounded D Q

  from_product : G * M ≤ D * unity → rounded (G * M) (unity * unity) ≤ D
  from_product h =
      le_trans
      (grid_mono binary32 (G * M) (unity * unity) D unity (mul-pos unity_pos unity_pos) unity_pos (no_more D G M unity h))
      (le_of_eq exact)

  in_small : D * unity < 2 ^ 24 * Q → rounded (G * M) (unity * unity) ≤ D
  in_small h = elim (total (2 ^ 24) D) [
    | inl big ↦ from_product (mul-le-mul (le_trans (grid_le binary32 D Q 0 positive h) big) one)
    | inr s ↦ elim (eq-or-lt_of_le s) [
      | inl e ↦ from_product (mul-le-mul (le_trans (grid_le binary32 D Q 0 positive h) (le_of_eq (sym e))) one)
      | inr l ↦ elim (eq-zero-or-pos D) [
        | inl z ↦ from_product
            (mul-le-mul (le_trans (le_of_eq (ap (λ (d : ℕ). rounded d Q) z ∙ grid_zero binary32 Q positive)) zero-le) one)
        | inr d ↦
            let a = small D G M Q unity d unity_pos positive less one (grid_abs binary32 D Q 0 positive h).0 in
            let b : G * M * unity < 2 ^ 24 * (unity * unity) =
            lt_of_lt_of_le (mul-lt-mul_of_pos_right (small_fits D (G * M) unity unity_pos l a) unity_pos)
            (le_of_eq (mul_assoc (2 ^ 24) unity unity)) in
            small_back D (rounded (G * M) (unity * unity)) (G * M) unity unity_pos a
            (grid_abs binary32 (G * M) (unity * unity) 0 (mul-pos unity_pos unity_pos) b).0
      ]
    ]
  ]

  in_large : 2 ^ 24 * Q ≤ D * unity → rounded (G * M) (unity * unity) ≤ D
  in_large h =
      let n = D * unity in
      let z = n / Q in
      let k = drop 24 n Q in
      let big : 2 ^ 24 ≤ z = (le-div_iff_mul-le positive).1 h in
      let many : 24 < size z = lt_of_not-le (λ (g : size z ≤ 24). not-le_of_lt (lt_of_lt_of_le (size-lt z) (pow_mono g)) big) in
      let low : 2 ^ (23 + k) * Q ≤ n = (le-div_iff_mul-le positive).0 (size_reaches z (23 + k) (inside (size z) many)) in
      let qp : 8388608 * (Q * 2 ^ k) ≤ n = le_trans (le_of_eq (shuffle Q (2 ^ k) ∙ ap (λ (p : ℕ). p * Q) (sym (pow-add 2 23 k)))) low in
      let m : (16777216 * M + Q) * G ≤ 16777216 * Q * G = mul-le-mul_right G (next_below Q M dq dm less) in
      from_product (large (G * M) (G * Q) n (Q * 2 ^ k) (cell_near 24 n Q positive).0 qp (turn (G * M) (G * Q) G M Q refl refl m))
    where
      inside : (s : ℕ) → 24 < s → 23 + (s - 24) < s
      inside s h = omega arith

      shuffle : (q p : ℕ) → 8388608 * (q * p) ≡ 8388608 * p * q
      shuffle q p = omega arith

      turn : (gm gq g m q : ℕ) → gm ≡ g * m → gq ≡ g * q → (16777216 * m + q) * g ≤ 16777216 * q * g → 16777216 * gm + gq ≤ 16777216 * gq
      turn gm gq g m q a b h = omega arith

  pub back_at_most : rounded (rounded D Q * M) (unity * unity) ≤ D
  back_at_most = elim (total (2 ^ 24 * Q) (D * unity)) [
    | inl h ↦ in_large h
    | inr h ↦ elim (eq-or-lt_of_le h) [ inl e ↦ in_large (le_of_eq (sym e)) | inr l ↦ in_small l ]
  ]

-- ---- the rounded sum is the nearest f32
gap_times : (a b p : ℕ) → gap (a * p) (b * p) ≡ gap a b * p
gap_times a b p = elim (total b a) [ inl h ↦ above a b h | inr h ↦ flip (a * p) (b * p) ∙ above b a h ∙ ap (λ (g : ℕ). g * p) (flip b a) ]
  where
    flip : (x y : ℕ) → gap x y ≡ gap y x
    flip x y = omega arith

    above : (x y : ℕ) → y ≤ x → gap (x * p) (y * p) ≡ gap x y * p
    above x y h =
        let e : x ≡ y + (x - y) = omega arith in
        let f : x * p ≡ y * p + (x - y) * p = ap (λ (z : ℕ). z * p) e ∙ add-mul y (x - y) p in
        let g : gap x y ≡ x - y = omega arith in
        let k : gap x y * p ≡ (x - y) * p = ap (λ (z : ℕ). z * p) g in
        omega arith

pub sum_nearest : (x w : ℕ) → Digits w → gap (rounded x unity) x ≤ gap w x
sum_nearest x w d =
    le_of_mul-le-mul_right {m = gap (rounded x unity) x} {n = gap w x} {k = unity}
    (subst (λ (g : ℕ). g ≤ gap w x * unity) (gap_times (rounded x unity) x unity)
    (le_trans (rounded_nearest x unity w unity_pos d) (le_of_eq (gap_times w x unity)))) unity_pos
