-- |S| and |C| are at most 1 + 2 ^ -38 at every whole multiple of 2 ^ -35 up to 16: the circle at whole eighths and at what is left of them,
-- and the sums of two angles. Assumes nothing.
use Prim.Native.Nat.{ℕ, suc, ◌+◌, ◌*◌, ◌^◌, ◌-◌, ◌/◌, ◌%◌, ◌≤◌, ◌<◌}
use mathlib.Core.Path.{◌≡◌, refl, ap, ap₂, ◌∙◌, subst, subst₂}
use mathlib.Core.Bool.{Bool}
use mathlib.Core.List.{List, [], ◌∷◌}
use mathlib.Core.Logic.{inl, inr}
use native.Mathlib.Nat.{le_trans, le_of_eq, le_of_lt, add_comm, mul-le-mul, mul-le-mul_left, le_of_mul-le-mul_left}
use native.Mathlib.Omega.{arith}
use lib.Dec.{T, leb, leb→le, lit<}
use lib.ListN.{replicate}
use Rattle.series.specs.Series.{factorial}
use Rattle.series.specs.Working.{pw, ev, sin_p, sin_m, cos_p, cos_m, denominator}
use Rattle.series.proofs.Order.{here_or_on, squares}
use Rattle.series.proofs.Tables.{every, at}
use Rattle.series.proofs.Polynomials.{eval, add_p, scale, below, poly_le, ev_add}
use Rattle.series.proofs.Polynomials.{ev_scale, squares_p, products_p, ev_squares, ev_products}
use Rattle.series.proofs.Addition.{fsp, fsm, fcp, fcm, FD, FD_pos, FD_eighths, K, at_eighths, sin_p'}
use Rattle.series.proofs.Addition.{sin_m', cos_p', cos_m', sp_is, sm_is, cp_is, cm_is, Added, sine_sum_lem, cosine_sum_lem}

-- ---- (p - m)^2 + (p' - m')^2 is at most D^2, but for one part in k
pub Circle : ℕ → ℕ → ℕ → ℕ → ℕ → ℕ → Type 0
Circle k D p m p' m' = k * (p * p + m * m + (p' * p' + m' * m')) ≤ k * (2 * (p * m) + 2 * (p' * m')) + (k + 1) * (D * D)

-- the rest, below 1/8
unfoldable left : List ℕ
left = squares_p cos_p' cos_m' sin_p' sin_m'

unfoldable right : List ℕ
right = products_p cos_p' cos_m' sin_p' sin_m'

rest_test : T (below (2 ^ 32) (scale (2 ^ 40) left) (add_p (((2 ^ 40 + 1) * (FD * FD)) ∷ []) (scale (2 ^ 40) right)))
unfolding left right cos_p' cos_m' sin_p' sin_m' FD
rest_test = tt

left_is : (n : ℕ) → eval left n ≡ fcp n * fcp n + fcm n * fcm n + (fsp n * fsp n + fsm n * fsm n)
unfolding left
left_is n = rw (← cp_is n, ← cm_is n, ← sp_is n, ← sm_is n) (ev_squares cos_p' cos_m' sin_p' sin_m' n)

right_is : (n : ℕ) → eval right n ≡ 2 * (fcp n * fcm n) + 2 * (fsp n * fsm n)
unfolding right
right_is n = rw (← cp_is n, ← cm_is n, ← sp_is n, ← sm_is n) (ev_products cos_p' cos_m' sin_p' sin_m' n)

rest_circle : (n : ℕ) → n ≤ 2 ^ 32 → Circle (2 ^ 40) FD (fcp n) (fcm n) (fsp n) (fsm n)
unfolding Circle
rest_circle n h =
    subst₂ (λ (x y : ℕ). x ≤ y) (ev_scale (2 ^ 40) left n ∙ ap (λ (x : ℕ). 2 ^ 40 * x) (left_is n))
    (ev_add (((2 ^ 40 + 1) * (FD * FD)) ∷ []) (scale (2 ^ 40) right) n
    ∙ ap (λ (x : ℕ). (2 ^ 40 + 1) * (FD * FD) + n * 0 + x) (ev_scale (2 ^ 40) right n ∙ ap (λ (x : ℕ). 2 ^ 40 * x) (right_is n))
    ∙ go ((2 ^ 40 + 1) * (FD * FD)) (2 ^ 40 * (2 * (fcp n * fcm n) + 2 * (fsp n * fsm n))))
    (poly_le (scale (2 ^ 40) left) (add_p (((2 ^ 40 + 1) * (FD * FD)) ∷ []) (scale (2 ^ 40) right)) (2 ^ 32) rest_test n h)
  where
    go : (d x : ℕ) → d + n * 0 + x ≡ x + d
    go d x = omega arith

-- whole eighths
on : (p m p' m' d : ℕ) → Bool
on p m p' m' d = leb (2 ^ 36 * (p * p + m * m + (p' * p' + m' * m'))) (2 ^ 36 * (2 * (p * m) + 2 * (p' * m')) + (2 ^ 36 + 1) * (d * d))

at_eighth : ℕ → ℕ → Bool
at_eighth j e = on (ev 8 j cos_p) (ev 8 j cos_m) (ev 8 j sin_p) (ev 8 j sin_m) (denominator 8)

all_eighths : T (every at_eighth 0 (replicate 129 0))
unfolding at_eighth on ev pw sin_p sin_m cos_p cos_m denominator factorial
all_eighths = tt

circle_widen : (k K D p m p' m' : ℕ) → Circle k D p m p' m' → Circle k (K * D) (K * p) (K * m) (K * p') (K * m')
unfolding Circle
circle_widen k K D p m p' m' h =
    subst₂ (λ (x y : ℕ). x ≤ y) (one K (p * p + m * m + (p' * p' + m' * m')) ∙ ap (λ (x : ℕ). k * x) (parts p m p' m'))
    (two K (2 * (p * m) + 2 * (p' * m')) (D * D) ∙ ap₂ (λ (x y : ℕ). k * x + (k + 1) * y) (twice p m p' m') (pair D))
    (mul-le-mul_left (K * K) h)
  where
    one : (K x : ℕ) → K * K * (k * x) ≡ k * (K * K * x)
    one K x = omega arith

    two : (K x y : ℕ) → K * K * (k * x + (k + 1) * y) ≡ k * (K * K * x) + (k + 1) * (K * K * y)
    two K x y = omega arith

    pair : (D : ℕ) → K * K * (D * D) ≡ K * D * (K * D)
    pair D = omega arith

    parts : (p m q n : ℕ)
        → K * K * (p * p + m * m + (q * q + n * n)) ≡ K * p * (K * p) + K * m * (K * m) + (K * q * (K * q) + K * n * (K * n))
    parts p m q n = omega arith

    twice : (p m q n : ℕ) → K * K * (2 * (p * m) + 2 * (q * n)) ≡ 2 * (K * p * (K * m)) + 2 * (K * q * (K * n))
    twice p m q n = omega arith

eighth : (j : ℕ) → j < 129 → Circle (2 ^ 36) (denominator 8) (ev 8 j cos_p) (ev 8 j cos_m) (ev 8 j sin_p) (ev 8 j sin_m)
unfolding Circle at_eighth on
eighth j h = leb→le _ _ (at at_eighth (replicate 129 0) all_eighths j h)

place_circle : (j : ℕ) → j < 129 → Circle (2 ^ 36) FD (fcp (2 ^ 32 * j)) (fcm (2 ^ 32 * j)) (fsp (2 ^ 32 * j)) (fsm (2 ^ 32 * j))
place_circle j h =
    rw (
      FD_eighths,
      at_eighths j cos_p (unfold cos_p in refl),
      at_eighths j cos_m (unfold cos_m in refl),
      at_eighths j sin_p (unfold sin_p in refl),
      at_eighths j sin_m (unfold sin_m in refl),
    )
    (circle_widen (2 ^ 36) K (denominator 8) (ev 8 j cos_p) (ev 8 j cos_m) (ev 8 j sin_p) (ev 8 j sin_m) (eighth j h))

-- ---- how far apart two numbers are
dist : ℕ → ℕ → ℕ
dist p m = (p - m) + (m - p)

square_up : (m w : ℕ) → w * w + 2 * ((m + w) * m) ≡ (m + w) * (m + w) + m * m
square_up m w = omega arith

dist_square : (p m : ℕ) → dist p m * dist p m + 2 * (p * m) ≡ p * p + m * m
unfolding dist
dist_square p m =
    elim (here_or_on p m) [
      | inl h ↦ subst (λ (d : ℕ). d * d + 2 * (p * m) ≡ p * p + m * m) (first h)
          (subst (λ (n : ℕ). (m - p) * (m - p) + 2 * (p * n) ≡ p * p + n * n) (back p m (le_of_lt h)) (turned p (m - p)))
      | inr h ↦ subst (λ (d : ℕ). d * d + 2 * (p * m) ≡ p * p + m * m) (second h)
          (subst (λ (n : ℕ). (p - m) * (p - m) + 2 * (n * m) ≡ n * n + m * m) (back m p h) (square_up m (p - m)))
    ]
  where
    back : (i j : ℕ) → i ≤ j → i + (j - i) ≡ j
    back i j h = omega arith

    first : p < m → m - p ≡ p - m + (m - p)
    first h = omega arith

    second : m ≤ p → p - m ≡ p - m + (m - p)
    second h = omega arith

    turned : (p w : ℕ) → w * w + 2 * (p * (p + w)) ≡ p * p + (p + w) * (p + w)
    turned p w = omega arith

-- (p - m) (q - n) is at most the product of the distances
dist_product : (p m q n : ℕ) → p * q + m * n ≤ p * n + m * q + dist p m * dist q n
unfolding dist
dist_product p m q n = go (p - m) (m - p) (q - n) (n - q) (omega arith) (omega arith)
  where
    -- p + u = m + w and q + t = n + v
    go : (w u v t : ℕ) → p + u ≡ m + w → q + t ≡ n + v → p * q + m * n ≤ p * n + m * q + (w + u) * (v + t)
    go w u v t e f = omega (arith, ap (λ (x : ℕ). x * q) e, ap (λ (x : ℕ). x * n) e, ap (λ (x : ℕ). w * x) f, ap (λ (x : ℕ). u * x) f)

dist_swap : (q n : ℕ) → dist n q ≡ dist q n
unfolding dist
dist_swap q n = omega arith

circle_dist : (k D p m p' m' : ℕ) → Circle k D p m p' m' → k * (dist p m * dist p m + dist p' m' * dist p' m') ≤ (k + 1) * (D * D)
unfolding Circle
circle_dist k D p m p' m' h =
    go (dist p m * dist p m) (dist p' m' * dist p' m') (p * p + m * m) (p' * p' + m' * m') (2 * (p * m)) (2 * (p' * m')) (dist_square p m)
    (dist_square p' m') h
  where
    go : (d e a b x y : ℕ) → d + x ≡ a → e + y ≡ b → k * (a + b) ≤ k * (x + y) + (k + 1) * (D * D) → k * (d + e) ≤ (k + 1) * (D * D)
    go d e a b x y f g i = omega (arith, ap (λ (n : ℕ). k * n) f, ap (λ (n : ℕ). k * n) g)

lagrange : (w v u t : ℕ) → (w * v + u * t) * (w * v + u * t) ≤ (w * w + u * u) * (v * v + t * t)
lagrange w v u t = omega (arith, squares (w * t) (u * v))

root_le : (x y : ℕ) → x * x ≤ y * y → x ≤ y
root_le x y h = elim (here_or_on y x) [ inl l ↦ absurd (go (mul-le-mul l l)) | inr l ↦ l ]
  where
    go : suc y * suc y ≤ x * x → ⊥
    go g = omega arith

-- |(p - m) (q - n) + (p' - m') (q' - n')| is at most D^2, but for 2 ^ -36 of it
bounded : (D w v u t : ℕ) → 2 ^ 36 * (w * w + u * u) ≤ (2 ^ 36 + 1) * (D * D) → 2 ^ 40 * (v * v + t * t) ≤ (2 ^ 40 + 1) * (D * D)
    → 2 ^ 36 * (w * v + u * t) ≤ (2 ^ 36 + 1) * (D * D)
bounded D w v u t h k =
    root_le (2 ^ 36 * (w * v + u * t)) ((2 ^ 36 + 1) * (D * D))
    (le_of_mul-le-mul_left (go (w * v + u * t) (w * w + u * u) (v * v + t * t) (D * D) (lagrange w v u t) (mul-le-mul h k))
    (lit< {m = 0} {n = 16} tt))
  where
    one : (l : ℕ) → 16 * (2 ^ 36 * l * (2 ^ 36 * l)) ≡ 2 ^ 76 * (l * l)
    one l = omega arith

    two : (a b : ℕ) → 2 ^ 76 * (a * b) ≡ 2 ^ 36 * a * (2 ^ 40 * b)
    two a b = omega arith

    more : (q : ℕ) → (2 ^ 40 + 1) * q ≤ 16 * ((2 ^ 36 + 1) * q)
    more q = omega arith

    three : (x : ℕ) → x * (16 * x) ≡ 16 * (x * x)
    three x = omega arith

    go : (l a b q : ℕ) → l * l ≤ a * b → 2 ^ 36 * a * (2 ^ 40 * b) ≤ (2 ^ 36 + 1) * q * ((2 ^ 40 + 1) * q)
        → 16 * (2 ^ 36 * l * (2 ^ 36 * l)) ≤ 16 * ((2 ^ 36 + 1) * q * ((2 ^ 36 + 1) * q))
    go l a b q e f =
        le_trans (le_of_eq (one l))
        (le_trans (mul-le-mul_left (2 ^ 76) e)
        (le_trans (le_of_eq (two a b))
        (le_trans f (le_trans (mul-le-mul_left ((2 ^ 36 + 1) * q) (more q)) (le_of_eq (three ((2 ^ 36 + 1) * q)))))))

module _ (a b : ℕ) (ca : Circle (2 ^ 36) FD (fcp a) (fcm a) (fsp a) (fsm a)) (cb : Circle (2 ^ 40) FD (fcp b) (fcm b) (fsp b) (fsm b)) where
  sine_length : 2 ^ 36 * (dist (fsp a) (fsm a) * dist (fcp b) (fcm b) + dist (fcp a) (fcm a) * dist (fsp b) (fsm b))
      ≤ (2 ^ 36 + 1) * (FD * FD)
  sine_length =
      bounded FD (dist (fsp a) (fsm a)) (dist (fcp b) (fcm b)) (dist (fcp a) (fcm a)) (dist (fsp b) (fsm b))
      (le_trans (le_of_eq (ap (λ (n : ℕ). 2 ^ 36 * n) (add_comm _ _))) (circle_dist (2 ^ 36) FD (fcp a) (fcm a) (fsp a) (fsm a) ca))
      (circle_dist (2 ^ 40) FD (fcp b) (fcm b) (fsp b) (fsm b) cb)

  cosine_length : 2 ^ 36 * (dist (fcp a) (fcm a) * dist (fcp b) (fcm b) + dist (fsp a) (fsm a) * dist (fsp b) (fsm b))
      ≤ (2 ^ 36 + 1) * (FD * FD)
  cosine_length =
      bounded FD (dist (fcp a) (fcm a)) (dist (fcp b) (fcm b)) (dist (fsp a) (fsm a)) (dist (fsp b) (fsm b))
      (circle_dist (2 ^ 36) FD (fcp a) (fcm a) (fsp a) (fsm a) ca) (circle_dist (2 ^ 40) FD (fcp b) (fcm b) (fsp b) (fsm b) cb)

-- ---- p - m is at most 1, nearly
pub record AtMostOne (p m : ℕ) : Type 0 where
  pub up : 2 ^ 35 * p ≤ 2 ^ 35 * m + (2 ^ 35 + 1) * FD
  pub down : 2 ^ 35 * m ≤ 2 ^ 35 * p + (2 ^ 35 + 1) * FD

from_sum : (x y l p m : ℕ) → x ≤ y + l → y ≤ x + l → 2 ^ 36 * l ≤ (2 ^ 36 + 1) * (FD * FD) → Added x y p m → AtMostOne p m
from_sum x y l p m h k b s = record {
  up = le_of_mul-le-mul_left (one FD p m (first (FD * p) (FD * m) (FD * FD) h b s.high)) FD_pos;
  down = le_of_mul-le-mul_left (one FD m p (second (FD * p) (FD * m) (FD * FD) k b s.low)) FD_pos;
}
  where
    one : (D p m : ℕ) → 2 ^ 35 * (D * p) ≤ 2 ^ 35 * (D * m) + (2 ^ 35 + 1) * (D * D)
        → D * (2 ^ 35 * p) ≤ D * (2 ^ 35 * m + (2 ^ 35 + 1) * D)
    one D p m e = omega arith

    first : (P M Q : ℕ) → x ≤ y + l → 2 ^ 36 * l ≤ (2 ^ 36 + 1) * Q → 2 ^ 40 * (y + P) ≤ 2 ^ 40 * (x + M) + 2 * Q
        → 2 ^ 35 * P ≤ 2 ^ 35 * M + (2 ^ 35 + 1) * Q
    first P M Q e f g = omega arith

    second : (P M Q : ℕ) → y ≤ x + l → 2 ^ 36 * l ≤ (2 ^ 36 + 1) * Q → 2 ^ 40 * (x + M) ≤ 2 ^ 40 * (y + P) + 2 * Q
        → 2 ^ 35 * M ≤ 2 ^ 35 * P + (2 ^ 35 + 1) * Q
    second P M Q e f g = omega arith

module _ (n : ℕ) (h : n ≤ 2 ^ 39) where
  abbrev a : ℕ
  a = 2 ^ 32 * (n / 2 ^ 32)

  abbrev b : ℕ
  b = n % (2 ^ 32)

  whole : a + b ≡ n
  whole = omega arith

  a_le : a ≤ 2 ^ 39
  a_le = omega arith

  b_le : b ≤ 2 ^ 32
  b_le = omega arith

  ca : Circle (2 ^ 36) FD (fcp a) (fcm a) (fsp a) (fsm a)
  ca = place_circle (n / 2 ^ 32) (omega arith)

  cb : Circle (2 ^ 40) FD (fcp b) (fcm b) (fsp b) (fsm b)
  cb = rest_circle b b_le

  two_products : (p m q n p' m' q' n' : ℕ)
      → p * q + m * n + (p' * q' + m' * n') ≤ p * n + m * q + (p' * n' + m' * q') + (dist p m * dist q n + dist p' m' * dist q' n')
  two_products p m q n p' m' q' n' = go (dist p m * dist q n) (dist p' m' * dist q' n') (dist_product p m q n) (dist_product p' m' q' n')
    where
      go : (d e : ℕ) → p * q + m * n ≤ p * n + m * q + d → p' * q' + m' * n' ≤ p' * n' + m' * q' + e
          → p * q + m * n + (p' * q' + m' * n') ≤ p * n + m * q + (p' * n' + m' * q') + (d + e)
      go d e f g = omega arith

  turned : (p m q n p' m' q' n' : ℕ)
      → p * n + m * q + (p' * n' + m' * q') ≤ p * q + m * n + (p' * q' + m' * n') + (dist p m * dist q n + dist p' m' * dist q' n')
  turned p m q n p' m' q' n' =
      subst₂ (λ (d e : ℕ). p * n + m * q + (p' * n' + m' * q') ≤ p * q + m * n + (p' * q' + m' * n') + (dist p m * d + dist p' m' * e))
      (dist_swap q n) (dist_swap q' n')
      (two_products p m n q p' m' n' q')

  pub S_at_most_one : AtMostOne (fsp n) (fsm n)
  S_at_most_one =
      subst (λ (k : ℕ). AtMostOne (fsp k) (fsm k)) whole
      (from_sum _ _ (dist (fsp a) (fsm a) * dist (fcp b) (fcm b) + dist (fcp a) (fcm a) * dist (fsp b) (fsm b)) (fsp (a + b)) (fsm (a + b))
      (two_products (fsp a) (fsm a) (fcp b) (fcm b) (fcp a) (fcm a) (fsp b) (fsm b))
      (turned (fsp a) (fsm a) (fcp b) (fcm b) (fcp a) (fcm a) (fsp b) (fsm b))
      (sine_length a b ca cb) (sine_sum_lem a b a_le b_le))

  pub C_at_most_one : AtMostOne (fcp n) (fcm n)
  C_at_most_one =
      subst (λ (k : ℕ). AtMostOne (fcp k) (fcm k)) whole
      (from_sum _ _ (dist (fcp a) (fcm a) * dist (fcp b) (fcm b) + dist (fsp a) (fsm a) * dist (fsp b) (fsm b)) (fcp (a + b)) (fcm (a + b))
      (minus_up (fcp a) (fcm a) (fcp b) (fcm b) (fsp a) (fsm a) (fsp b) (fsm b))
      (minus_down (fcp a) (fcm a) (fcp b) (fcm b) (fsp a) (fsm a) (fsp b) (fsm b))
      (cosine_length a b ca cb) (cosine_sum_lem a b a_le b_le))
    where
      minus_up : (p m q n p' m' q' n' : ℕ)
          → p * q + m * n + (p' * n' + m' * q') ≤ p * n + m * q + (p' * q' + m' * n') + (dist p m * dist q n + dist p' m' * dist q' n')
      minus_up p m q n p' m' q' n' =
          subst (λ (e : ℕ). p * q + m * n + (p' * n' + m' * q')
          ≤ p * n + m * q + (p' * q' + m' * n') + (dist p m * dist q n + dist p' m' * e)) (dist_swap q' n')
          (two_products p m q n p' m' n' q')

      minus_down : (p m q n p' m' q' n' : ℕ)
          → p * n + m * q + (p' * q' + m' * n') ≤ p * q + m * n + (p' * n' + m' * q') + (dist p m * dist q n + dist p' m' * dist q' n')
      minus_down p m q n p' m' q' n' =
          subst (λ (e : ℕ). p * n + m * q + (p' * q' + m' * n')
          ≤ p * q + m * n + (p' * n' + m' * q') + (dist p m * dist q n + dist p' m' * e)) (dist_swap q' n') (turned p m q n p' m' n' q')
