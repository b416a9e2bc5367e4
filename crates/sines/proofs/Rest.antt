-- Cosine and sine of the rest: what `even` and `odd` compute is within 25 and within 4 of 2 ^ 32 C and 2 ^ 32 S there. Assumes nothing.
-- W is 2 ^ 32, x the square of the rest r, in whole numbers; the polynomials are compared once, on all rests.
use Rattle.std.specs.Prelude.{◌≡◌, ℕ, ◌+◌, ◌-◌, ◌*◌, ◌/◌, ◌<◌, ◌≤◌, T, List, [], ◌∷◌}
use mathlib.Core.Path.{refl, sym, ap, ap₂, ◌∙◌, subst₂}
use native.Mathlib.Nat.{le_trans, le_of_eq, mul_assoc, mul_comm, mul-add, mul-one}
use native.Mathlib.Nat.{mul-le-mul, mul-le-mul_left, mul-le-mul_right, le_of_mul-le-mul_left}
use native.Mathlib.Omega.{arith}
use lib.Dec.{lit<, lit≤}
use Rattle.series.proofs.Polynomials.{eval, add_p, scale, below, poly_le, ev_add, ev_scale}
use Rattle.series.proofs.Addition.{fsp, fsm, fcp, fcm, FD, sin_p', sin_m', cos_p', cos_m', sp_is, sm_is, cp_is, cm_is}
use Rattle.sines.specs.How.{square_factor, fourth_factor, line_factor, cube_factor, fifth_factor, rest_one, square, even, odd}

-- ---- the floors: q, i and h are what is left of x / W, q k / W and q (c - i) / W
pub record Floors (W x q i h t c k : ℕ) : Type 0 where
  pub q_low : W * q ≤ x
  pub q_high : x ≤ W * q + W
  pub q_le : q ≤ W
  pub i_low : W * i ≤ q * k
  pub i_high : q * k ≤ W * i + W
  pub t_is : t + i ≡ c
  pub h_low : W * h ≤ q * t
  pub h_high : q * t ≤ W * h + W
  pub c_le : c ≤ W
  pub k_le : 3 * k ≤ W
  pub w_pos : 1 ≤ W

module _ (W x q i h t c k : ℕ) (F : Floors W x q i h t c k) where
  product_t : q * t + q * i ≡ q * c
  product_t = sym (mul-add q t i) ∙ ap (λ (n : ℕ). q * n) F.t_is

  horner_up : W * W * (c * x) ≤ W * W * W * W * h + k * (x * x) + 2 * (W * W * W * W)
  horner_up =
      let h1 = mul-le-mul_left (W * W * c) F.q_high in
      let h2 = ap (λ (n : ℕ). W * W * W * n) product_t in
      let h3 = mul-le-mul_left (W * W * W) F.h_high in
      let h4 = mul-le-mul_left (W * W * q) F.i_low in
      let h5 = mul-le-mul_left k (mul-le-mul F.q_low F.q_low) in
      let h6 = mul-le-mul_left (W * W * W) F.c_le in
      omega arith

  horner_low : W * W * W * W * h + k * (x * x) ≤ W * W * (c * x) + 2 * (W * W * W * W)
  horner_low =
      whole (W * W * W * W * h) (k * (x * x)) (W * W * (c * x)) (W * W * W * (q * t)) (W * W * W * (q * i)) (W * W * W * (q * c))
      (W * W * (q * (q * k))) (W * W * W * q) (W * W * W * W)
      (k * (W * W * q)) (k * (W * W * W)) (k * (W * W))
      (le_trans (le_of_eq (first W h)) (mul-le-mul_left (W * W * W) F.h_low))
      (sym (mul-add (W * W * W) (q * t) (q * i)) ∙ ap (λ (n : ℕ). W * W * W * n) product_t)
      (le_trans (le_of_eq (second W q c)) (mul-le-mul_left (W * W) (mul-le-mul_left c F.q_low)))
      (le_trans (mul-le-mul_left (W * W) (mul-le-mul_left q F.i_high)) (le_of_eq (third W q i)))
      (le_trans (mul-le-mul_left k (mul-le-mul F.q_high F.q_high)) (le_of_eq (fourth W q k)))
      (mul-le-mul_left (W * W * W) F.q_le)
      (mul-le-mul_left k (mul-le-mul_left (W * W) F.q_le))
      (le_trans (le_of_eq (fifth W k)) (mul-le-mul_left (W * W * W) F.k_le))
      (mul-le-mul_left k (le_trans (le_of_eq (sym (mul-one (W * W)))) (mul-le-mul_left (W * W) F.w_pos)))
    where
      whole : (wh kx wcx qt qi qc qk wq w k1 k2 k3 : ℕ) → wh ≤ qt → qt + qi ≡ qc → qc ≤ wcx → qk ≤ qi + wq → kx ≤ qk + 2 * k1 + k3 → wq ≤ w
          → k1 ≤ k2 → 3 * k2 ≤ w → k3 ≤ k2 → wh + kx ≤ wcx + 2 * w
      whole wh kx wcx qt qi qc qk wq w k1 k2 k3 a b c d e f g i j = omega arith

      first : (W h : ℕ) → W * W * W * W * h ≡ W * W * W * (W * h)
      first W h = omega arith

      second : (W q c : ℕ) → W * W * W * (q * c) ≡ W * W * (c * (W * q))
      second W q c = omega arith

      third : (W q i : ℕ) → W * W * (q * (W * i + W)) ≡ W * W * W * (q * i) + W * W * W * q
      third W q i = omega arith

      fourth : (W q k : ℕ) → k * ((W * q + W) * (W * q + W)) ≡ W * W * (q * (q * k)) + 2 * (k * (W * W * q)) + k * (W * W)
      fourth W q k = omega arith

      fifth : (W k : ℕ) → 3 * (k * (W * W * W)) ≡ W * W * W * (3 * k)
      fifth W k = omega arith

-- ---- the polynomials: W^5 C against W^5 - W^2 c x + k x^2, and W^6 S against r times such a one
abbrev W4 : ℕ → ℕ
W4 W = W * W * W * W

even_low_test : T (below rest_one
    (add_p (scale (W4 rest_one * rest_one) cos_p') (0 ∷ 0 ∷ (FD * (rest_one * rest_one * square_factor)) ∷ []))
    (add_p (scale (W4 rest_one * rest_one) cos_m') (FD * (W4 rest_one * (rest_one + 23)) ∷ 0 ∷ 0 ∷ 0 ∷ (FD * fourth_factor) ∷ [])))
unfolding cos_p' cos_m' FD
even_low_test = tt

even_high_test : T (below rest_one
    (add_p (scale (W4 rest_one * rest_one) cos_m') (FD * (W4 rest_one * rest_one) ∷ 0 ∷ 0 ∷ 0 ∷ (FD * fourth_factor) ∷ []))
    (add_p (scale (W4 rest_one * rest_one) cos_p') (FD * (W4 rest_one * 23) ∷ 0 ∷ (FD * (rest_one * rest_one * square_factor)) ∷ [])))
unfolding cos_p' cos_m' FD
even_high_test = tt

odd_low_test : T (below rest_one
    (add_p (scale (W4 rest_one * rest_one * rest_one) sin_p') (0 ∷ 0 ∷ 0 ∷ (FD * (rest_one * rest_one * cube_factor)) ∷ []))
    (add_p (scale (W4 rest_one * rest_one * rest_one) sin_m')
    (FD * (W4 rest_one * rest_one) ∷ (FD * (W4 rest_one * line_factor)) ∷ 0 ∷ 0 ∷ 0 ∷ (FD * fifth_factor) ∷ [])))
unfolding sin_p' sin_m' FD
odd_low_test = tt

odd_high_test : T (below rest_one
    (add_p (scale (W4 rest_one * rest_one * rest_one) sin_m')
    (0 ∷ (FD * (W4 rest_one * line_factor)) ∷ 0 ∷ 0 ∷ 0 ∷ (FD * fifth_factor) ∷ []))
    (add_p (scale (W4 rest_one * rest_one * rest_one) sin_p')
    (FD * (W4 rest_one * rest_one) ∷ 0 ∷ 0 ∷ (FD * (rest_one * rest_one * cube_factor)) ∷ [])))
unfolding sin_p' sin_m' FD
odd_high_test = tt

-- what a test says, with the sums in place of their lists
sum_is : (k r : ℕ) (p l : List ℕ) (v : ℕ) → eval p r ≡ v → eval (add_p (scale k p) l) r ≡ k * v + eval l r
sum_is k r p l v e = ev_add (scale k p) l r ∙ ap (λ (n : ℕ). n + eval l r) (ev_scale k p r ∙ ap (λ (n : ℕ). k * n) e)

tested : (k r : ℕ) (p l p' l' : List ℕ) (v v' : ℕ) → eval p r ≡ v → eval p' r ≡ v' → r ≤ rest_one
    → T (below rest_one (add_p (scale k p) l) (add_p (scale k p') l')) → k * v + eval l r ≤ k * v' + eval l' r
tested k r p l p' l' v v' e e' h t =
    subst₂ (λ (m n : ℕ). m ≤ n) (sum_is k r p l v e) (sum_is k r p' l' v' e')
    (poly_le (add_p (scale k p) l) (add_p (scale k p') l') rest_one t r h)

-- ---- a number a in units of 1 / W is within e units of (p - m) / D
pub record Near (e W D a p m : ℕ) : Type 0 where
  pub low : D * a + W * m ≤ W * p + e * D
  pub high : W * p ≤ D * a + W * m + e * D

module _ (W D p m r a h c k : ℕ) (pos : 0 < W4 W) (is : a + h ≡ W)
    (up : W * W * (c * (r * r)) ≤ W4 W * h + k * (r * r * (r * r)) + 2 * W4 W)
    (down : W4 W * h + k * (r * r * (r * r)) ≤ W * W * (c * (r * r)) + 2 * W4 W) where
  same_a : D * W4 W * a + D * (W4 W * h) ≡ D * (W4 W * W)
  same_a = go (W4 W)
    where
      go : (w : ℕ) → D * w * a + D * (w * h) ≡ D * (w * W)
      go w = omega (arith, ap (λ (n : ℕ). D * w * n) is)

  pub even_low : W4 W * W * m + (D * (W4 W * W) + r * (0 + r * (0 + r * (0 + r * (D * k + r * 0)))))
      ≤ W4 W * W * p + (D * (W4 W * 23) + r * (0 + r * (D * (W * W * c) + r * 0)))
      → D * a + W * m ≤ W * p + 25 * D
  even_low t =
      le_of_mul-le-mul_left
      (last (W4 W)
      (sum (W4 W * W * m) (W4 W * W * p) (D * (W4 W * W)) (D * W4 W * a) (D * (W4 W * h)) (D * W4 W) (D * (W * W * (c * (r * r))))
      (D * (k * (r * r * (r * r)))) same_a
      (subst₂ (λ (i j : ℕ). i ≤ j) (ap (λ (n : ℕ). W4 W * W * m + (D * (W4 W * W) + n)) (one r (D * k) D k refl))
      (ap₂ (λ (i j : ℕ). W4 W * W * p + (i + j)) (two (W4 W)) (three W)) t)
      (le_trans (mul-le-mul_left D up) (le_of_eq (four (W4 W))))))
      pos
    where
      sum : (wm wp dw da dh d cx kx : ℕ) → da + dh ≡ dw → wm + (dw + kx) ≤ wp + (23 * d + cx) → cx ≤ dh + kx + 2 * d → da + wm ≤ wp + 25 * d
      sum wm wp dw da dh d cx kx e f g = omega arith

      one : (r dk D k : ℕ) → dk ≡ D * k → r * (0 + r * (0 + r * (0 + r * (dk + r * 0)))) ≡ D * (k * (r * r * (r * r)))
      one r dk D k e = rw e (omega arith)

      two : (w : ℕ) → D * (w * 23) ≡ 23 * (D * w)
      two w = omega arith

      three : (W : ℕ) → r * (0 + r * (D * (W * W * c) + r * 0)) ≡ D * (W * W * (c * (r * r)))
      three W = omega arith

      four : (w : ℕ) → D * (w * h + k * (r * r * (r * r)) + 2 * w) ≡ D * (w * h) + D * (k * (r * r * (r * r))) + 2 * (D * w)
      four w = omega arith

      last : (w : ℕ) → D * w * a + w * W * m ≤ w * W * p + 25 * (D * w) → w * (D * a + W * m) ≤ w * (W * p + 25 * D)
      last w l = omega arith

  pub even_high : W4 W * W * p + (0 + r * (0 + r * (D * (W * W * c) + r * 0)))
      ≤ W4 W * W * m + (D * (W4 W * (W + 23)) + r * (0 + r * (0 + r * (0 + r * (D * k + r * 0)))))
      → W * p ≤ D * a + W * m + 25 * D
  even_high t =
      le_of_mul-le-mul_left
      (last (W4 W)
      (sum (W4 W * W * m) (W4 W * W * p) (D * (W4 W * W)) (D * W4 W * a) (D * (W4 W * h)) (D * W4 W) (D * (W * W * (c * (r * r))))
      (D * (k * (r * r * (r * r)))) same_a
      (subst₂ (λ (i j : ℕ). i ≤ j) (ap (λ (n : ℕ). W4 W * W * p + n) (three W))
      (ap₂ (λ (i j : ℕ). W4 W * W * m + (i + j)) (two (W4 W)) (one r)) t)
      (le_trans (le_of_eq (four (W4 W))) (le_trans (mul-le-mul_left D down) (le_of_eq (five W (W4 W)))))))
      pos
    where
      sum : (wm wp dw da dh d cx kx : ℕ) → da + dh ≡ dw → wp + cx ≤ wm + (dw + 23 * d + kx) → dh + kx ≤ cx + 2 * d → wp ≤ da + wm + 25 * d
      sum wm wp dw da dh d cx kx e f g = omega arith

      one : (r : ℕ) → r * (0 + r * (0 + r * (0 + r * (D * k + r * 0)))) ≡ D * (k * (r * r * (r * r)))
      one r = omega arith

      two : (w : ℕ) → D * (w * (W + 23)) ≡ D * (w * W) + 23 * (D * w)
      two w = omega arith

      three : (W : ℕ) → 0 + r * (0 + r * (D * (W * W * c) + r * 0)) ≡ D * (W * W * (c * (r * r)))
      three W = omega arith

      four : (w : ℕ) → D * (w * h) + D * (k * (r * r * (r * r))) ≡ D * (w * h + k * (r * r * (r * r)))
      four w = omega arith

      five : (W w : ℕ) → D * (W * W * (c * (r * r)) + 2 * w) ≡ D * (W * W * (c * (r * r))) + 2 * (D * w)
      five W w = omega arith

      last : (w : ℕ) → w * W * p ≤ D * w * a + w * W * m + 25 * (D * w) → w * (W * p) ≤ w * (D * a + W * m + 25 * D)
      last w l = omega arith

module _ (W D p m r a u h k1 c k : ℕ) (pos : 0 < W4 W * W) (is : u + h ≡ k1) (r_le : r ≤ W) (a_low : W * a ≤ r * u)
    (a_high : r * u ≤ W * a + W)
    (up : W * W * (c * (r * r)) ≤ W4 W * h + k * (r * r * (r * r)) + 2 * W4 W)
    (down : W4 W * h + k * (r * r * (r * r)) ≤ W * W * (c * (r * r)) + 2 * W4 W) where
  -- the product with D and r, in these names
  abbrev Dh : ℕ
  Dh = D * (r * (W4 W * h))

  abbrev Du : ℕ
  Du = D * (W4 W * (r * u))

  abbrev Dc : ℕ
  Dc = D * (r * (W * W * (c * (r * r))))

  abbrev Dk : ℕ
  Dk = D * (r * (k * (r * r * (r * r))))

  same_u : Du + Dh ≡ D * (W4 W * (r * k1))
  same_u = go (W4 W)
    where
      go : (w : ℕ) → D * (w * (r * u)) + D * (r * (w * h)) ≡ D * (w * (r * k1))
      go w = omega (arith, ap (λ (n : ℕ). D * w * r * n) is)

  r_part : 2 * (D * (r * W4 W)) ≤ 2 * (D * (W4 W * W))
  r_part = mul-le-mul_left 2 (mul-le-mul_left D (le_trans (mul-le-mul_right (W4 W) r_le) (le_of_eq (mul_comm W (W4 W)))))

  up_r : Dc ≤ Dh + Dk + 2 * (D * (r * W4 W))
  up_r = le_trans (mul-le-mul_left D (mul-le-mul_left r up)) (le_of_eq (go (W4 W)))
    where
      go : (w : ℕ) → D * (r * (w * h + k * (r * r * (r * r)) + 2 * w))
          ≡ D * (r * (w * h)) + D * (r * (k * (r * r * (r * r)))) + 2 * (D * (r * w))
      go w = omega arith

  down_r : Dh + Dk ≤ Dc + 2 * (D * (r * W4 W))
  down_r = le_trans (le_of_eq (go (W4 W))) (le_trans (mul-le-mul_left D (mul-le-mul_left r down)) (le_of_eq (back W (W4 W))))
    where
      go : (w : ℕ) → D * (r * (w * h)) + D * (r * (k * (r * r * (r * r)))) ≡ D * (r * (w * h + k * (r * r * (r * r))))
      go w = omega arith

      back : (W w : ℕ) → D * (r * (W * W * (c * (r * r)) + 2 * w)) ≡ D * (r * (W * W * (c * (r * r)))) + 2 * (D * (r * w))
      back W w = omega arith

  a_low' : D * (W4 W * W * a) ≤ Du
  a_low' = mul-le-mul_left D (le_trans (le_of_eq (mul_assoc (W4 W) W a)) (mul-le-mul_left (W4 W) a_low))

  a_high' : Du ≤ D * (W4 W * W * a) + D * (W4 W * W)
  a_high' = le_trans (mul-le-mul_left D (mul-le-mul_left (W4 W) a_high)) (le_of_eq (go (W4 W)))
    where
      go : (w : ℕ) → D * (w * (W * a + W)) ≡ D * (w * W * a) + D * (w * W)
      go w = omega arith

  pub odd_low : W4 W * W * W * m + (0 + r * (D * (W4 W * k1) + r * (0 + r * (0 + r * (0 + r * (D * k + r * 0))))))
      ≤ W4 W * W * W * p + (D * (W4 W * W) + r * (0 + r * (0 + r * (D * (W * W * c) + r * 0))))
      → D * a + W * m ≤ W * p + 4 * D
  odd_low t =
      le_of_mul-le-mul_left
      (last (W4 W * W)
      (sum (W4 W * W * W * m) (W4 W * W * W * p) (D * (W4 W * W * a)) (D * (W4 W * W)) Du Dh Dc Dk (D * (W4 W * (r * k1)))
      (2 * (D * (r * W4 W))) same_u a_low' up_r r_part
      (subst₂ (λ (i j : ℕ). i ≤ j) (ap (λ (n : ℕ). W4 W * W * W * m + n) (one (W4 W)))
      (ap (λ (n : ℕ). W4 W * W * W * p + (D * (W4 W * W) + n)) (two W)) t)))
      pos
    where
      sum : (wm wp da d u h c k l s : ℕ) → u + h ≡ l → da ≤ u → c ≤ h + k + s → s ≤ 2 * d → wm + (l + k) ≤ wp + (d + c)
          → da + wm ≤ wp + 4 * d
      sum wm wp da d u h c k l s e f g i j = omega arith

      one : (w : ℕ) → 0 + r * (D * (w * k1) + r * (0 + r * (0 + r * (0 + r * (D * k + r * 0)))))
          ≡ D * (w * (r * k1)) + D * (r * (k * (r * r * (r * r))))
      one w = omega arith

      two : (W : ℕ) → r * (0 + r * (0 + r * (D * (W * W * c) + r * 0))) ≡ D * (r * (W * W * (c * (r * r))))
      two W = omega arith

      last : (w : ℕ) → D * (w * a) + w * W * m ≤ w * W * p + 4 * (D * w) → w * (D * a + W * m) ≤ w * (W * p + 4 * D)
      last w l = omega arith

  pub odd_high : W4 W * W * W * p + (0 + r * (0 + r * (0 + r * (D * (W * W * c) + r * 0))))
      ≤ W4 W * W * W * m + (D * (W4 W * W) + r * (D * (W4 W * k1) + r * (0 + r * (0 + r * (0 + r * (D * k + r * 0))))))
      → W * p ≤ D * a + W * m + 4 * D
  odd_high t =
      le_of_mul-le-mul_left
      (last (W4 W * W)
      (sum (W4 W * W * W * m) (W4 W * W * W * p) (D * (W4 W * W * a)) (D * (W4 W * W)) Du Dh Dc Dk (D * (W4 W * (r * k1)))
      (2 * (D * (r * W4 W))) same_u a_high' down_r r_part
      (subst₂ (λ (i j : ℕ). i ≤ j) (ap (λ (n : ℕ). W4 W * W * W * p + n) (two W))
      (ap (λ (n : ℕ). W4 W * W * W * m + (D * (W4 W * W) + n)) (one (W4 W))) t)))
      pos
    where
      sum : (wm wp da d u h c k l s : ℕ) → u + h ≡ l → u ≤ da + d → h + k ≤ c + s → s ≤ 2 * d → wp + c ≤ wm + (d + (l + k))
          → wp ≤ da + wm + 4 * d
      sum wm wp da d u h c k l s e f g i j = omega arith

      one : (w : ℕ) → r * (D * (w * k1) + r * (0 + r * (0 + r * (0 + r * (D * k + r * 0)))))
          ≡ D * (w * (r * k1)) + D * (r * (k * (r * r * (r * r))))
      one w = omega arith

      two : (W : ℕ) → 0 + r * (0 + r * (0 + r * (D * (W * W * c) + r * 0))) ≡ D * (r * (W * W * (c * (r * r))))
      two W = omega arith

      last : (w : ℕ) → w * W * p ≤ D * (w * a) + w * W * m + 4 * (D * w) → w * (W * p) ≤ w * (D * a + W * m + 4 * D)
      last w l = omega arith

-- ---- the code's own floors
div_low : (n : ℕ) → rest_one * (n / rest_one) ≤ n
div_low n = omega arith

div_high : (n : ℕ) → n ≤ rest_one * (n / rest_one) + rest_one
div_high n = omega arith

div_le : (n m : ℕ) → n ≤ rest_one * m → n / rest_one ≤ m
div_le n m h = omega arith

pub square_le : (r : ℕ) → r ≤ rest_one → square r ≤ rest_one
square_le r h = div_le (r * r) rest_one (mul-le-mul h h)

floors : (r c k : ℕ) → r ≤ rest_one → k ≤ c → c ≤ rest_one → 3 * k ≤ rest_one
    → Floors rest_one (r * r) (square r) (square r * k / rest_one) (square r * (c - square r * k / rest_one) / rest_one)
    (c - square r * k / rest_one) c k
floors r c k hr hk hc h3 =
    let q = square r in
    let i = q * k / rest_one in
    let few : i ≤ k = div_le (q * k) k (mul-le-mul_right k (square_le r hr)) in
    record {
      q_low = div_low (r * r);
      q_high = div_high (r * r);
      q_le = square_le r hr;
      i_low = div_low (q * k);
      i_high = div_high (q * k);
      t_is = back c i (le_trans few hk);
      h_low = div_low (q * (c - i));
      h_high = div_high (q * (c - i));
      c_le = hc;
      k_le = h3;
      w_pos = lit≤ {m = 1} {n = rest_one} tt;
    }
  where
    back : (c i : ℕ) → i ≤ c → c - i + i ≡ c
    back c i h = omega arith

-- q (c - i) / W stays below c
pub part_le : (q c i : ℕ) → q ≤ rest_one → q * (c - i) / rest_one ≤ c
part_le q c i h = div_le (q * (c - i)) c (mul-le-mul h (less c i))
  where
    less : (c i : ℕ) → c - i ≤ c
    less c i = omega arith

pub even_near : (r : ℕ) → r ≤ rest_one → Near 25 rest_one FD (even (square r)) (fcp r) (fcm r)
unfolding even
even_near r h =
    let F = floors r square_factor fourth_factor h (lit≤ tt) (lit≤ tt) (lit≤ tt) in
    let q = square r in
    let i = q * fourth_factor / rest_one in
    let g = q * (square_factor - i) / rest_one in
    let up = horner_up rest_one (r * r) q i g (square_factor - i) square_factor fourth_factor F in
    let down = horner_low rest_one (r * r) q i g (square_factor - i) square_factor fourth_factor F in
    let is = back g (part_le q square_factor i (square_le r h)) in
    record {
      low = even_low rest_one FD (fcp r) (fcm r) r (rest_one - g) g square_factor fourth_factor (lit< tt) is up down
          (tested (W4 rest_one * rest_one) r cos_m' _ cos_p' _ (fcm r) (fcp r) (cm_is r) (cp_is r) h even_high_test);
      high = even_high rest_one FD (fcp r) (fcm r) r (rest_one - g) g square_factor fourth_factor (lit< tt) is up down
          (tested (W4 rest_one * rest_one) r cos_p' _ cos_m' _ (fcp r) (fcm r) (cp_is r) (cm_is r) h even_low_test);
    }
  where
    back : (g : ℕ) → g ≤ square_factor → rest_one - g + g ≡ rest_one
    back g l = omega arith

pub odd_near : (r : ℕ) → r ≤ rest_one → Near 4 rest_one FD (odd r (square r)) (fsp r) (fsm r)
unfolding odd
odd_near r h =
    let F = floors r cube_factor fifth_factor h (lit≤ tt) (lit≤ tt) (lit≤ tt) in
    let q = square r in
    let i = q * fifth_factor / rest_one in
    let g = q * (cube_factor - i) / rest_one in
    let u = line_factor - g in
    let up = horner_up rest_one (r * r) q i g (cube_factor - i) cube_factor fifth_factor F in
    let down = horner_low rest_one (r * r) q i g (cube_factor - i) cube_factor fifth_factor F in
    let is = back g (part_le q cube_factor i (square_le r h)) in
    record {
      low = odd_low rest_one FD (fsp r) (fsm r) r (r * u / rest_one) u g line_factor cube_factor fifth_factor (lit< tt) is h
          (div_low (r * u))
          (div_high (r * u)) up down
          (tested (W4 rest_one * rest_one * rest_one) r sin_m' _ sin_p' _ (fsm r) (fsp r) (sm_is r) (sp_is r) h odd_high_test);
      high = odd_high rest_one FD (fsp r) (fsm r) r (r * u / rest_one) u g line_factor cube_factor fifth_factor (lit< tt) is h
          (div_low (r * u))
          (div_high (r * u)) up down
          (tested (W4 rest_one * rest_one * rest_one) r sin_p' _ sin_m' _ (fsp r) (fsm r) (sp_is r) (sm_is r) h odd_low_test);
    }
  where
    back : (g : ℕ) → g ≤ cube_factor → line_factor - g + g ≡ line_factor
    back g l = omega arith

pub even_le : (q : ℕ) → even q ≤ rest_one
unfolding even
even_le q = less (q * (square_factor - q * fourth_factor / rest_one) / rest_one)
  where
    less : (g : ℕ) → rest_one - g ≤ rest_one
    less g = omega arith

pub odd_le : (r q : ℕ) → r ≤ rest_one → odd r q ≤ line_factor
unfolding odd
odd_le r q h = div_le (r * (line_factor - g)) line_factor (mul-le-mul h (less g))
  where
    g : ℕ
    g = q * (cube_factor - q * fifth_factor / rest_one) / rest_one

    less : (g : ℕ) → line_factor - g ≤ line_factor
    less g = omega arith
