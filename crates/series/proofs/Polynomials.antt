-- Polynomials with natural coefficients, lowest first: sums, products, moving the argument on and back, and the order of two from one
-- computed test. Assumes nothing.
use Prim.Native.Nat.{ℕ, ◌+◌, ◌*◌, ◌-◌, ◌≤◌}
use mathlib.Core.Path.{◌≡◌, refl, sym, ap, ◌∙◌}
use mathlib.Core.Bool.{Bool}
use mathlib.Core.List.{List, [], ◌∷◌}
use native.Mathlib.Nat.{mul_assoc, mul_left_comm, add-mul, mul-add, zero-mul, mul-zero, zero-add, add-zero, le_refl, mul-le-mul, add-le-add}
use native.Mathlib.Omega.{arith}
use lib.Dec.{T, leb, leb→le}
use Rattle.series.specs.Working.{pw, ev}

abbrev pub eval : List ℕ → ℕ → ℕ
eval [] n = 0
eval (a ∷ ps) n = a + n * eval ps n

abbrev pub add_p : List ℕ → List ℕ → List ℕ
add_p [] q = q
add_p (a ∷ ps) [] = a ∷ ps
add_p (a ∷ ps) (b ∷ qs) = (a + b) ∷ add_p ps qs

abbrev pub scale : ℕ → List ℕ → List ℕ
scale k [] = []
scale k (a ∷ ps) = k * a ∷ scale k ps

abbrev pub mul_p : List ℕ → List ℕ → List ℕ
mul_p [] q = []
mul_p (a ∷ ps) q = add_p (scale a q) (0 ∷ mul_p ps q)

pub ev_add : (p q : List ℕ) (n : ℕ) → eval (add_p p q) n ≡ eval p n + eval q n
ev_add [] q n = sym (zero-add (eval q n))
ev_add (a ∷ ps) [] n = sym (add-zero (a + n * eval ps n))
ev_add (a ∷ ps) (b ∷ qs) n = rw (ev_add ps qs n, mul-add n (eval ps n) (eval qs n)) (omega arith)

pub ev_scale : (k : ℕ) (p : List ℕ) (n : ℕ) → eval (scale k p) n ≡ k * eval p n
ev_scale k [] n = sym (mul-zero k)
ev_scale k (a ∷ ps) n = rw (ev_scale k ps n, mul-add k a (n * eval ps n), mul_left_comm n k (eval ps n)) refl

pub ev_mul : (p q : List ℕ) (n : ℕ) → eval (mul_p p q) n ≡ eval p n * eval q n
ev_mul [] q n = sym (zero-mul (eval q n))
ev_mul (a ∷ ps) q n =
    rw (
      ev_add (scale a q) (0 ∷ mul_p ps q) n,
      ev_scale a q n,
      ev_mul ps q n,
      add-mul a (n * eval ps n) (eval q n),
      mul_assoc n (eval ps n) (eval q n),
      zero-add (n * (eval ps n * eval q n)),
    ) refl

-- the two sides of (c - d)^2 + (s - t)^2: what is added, and what is taken away
abbrev pub squares_p : List ℕ → List ℕ → List ℕ → List ℕ → List ℕ
squares_p c d s t = add_p (add_p (mul_p c c) (mul_p d d)) (add_p (mul_p s s) (mul_p t t))

abbrev pub products_p : List ℕ → List ℕ → List ℕ → List ℕ → List ℕ
products_p c d s t = add_p (scale 2 (mul_p c d)) (scale 2 (mul_p s t))

module _ (c d s t : List ℕ) (n : ℕ) where
  pub ev_squares : eval (squares_p c d s t) n ≡ eval c n * eval c n + eval d n * eval d n + (eval s n * eval s n + eval t n * eval t n)
  ev_squares = rw (
    ev_add (add_p (mul_p c c) (mul_p d d)) (add_p (mul_p s s) (mul_p t t)) n,
    ev_add (mul_p c c) (mul_p d d) n,
    ev_add (mul_p s s) (mul_p t t) n,
    ev_mul c c n,
    ev_mul d d n,
    ev_mul s s n,
    ev_mul t t n,
  ) refl

  pub ev_products : eval (products_p c d s t) n ≡ 2 * (eval c n * eval d n) + 2 * (eval s n * eval t n)
  ev_products = rw (
    ev_add (scale 2 (mul_p c d)) (scale 2 (mul_p s t)) n,
    ev_scale 2 (mul_p c d) n,
    ev_scale 2 (mul_p s t) n,
    ev_mul c d n,
    ev_mul s t n,
  ) refl

pub ev_mono : (p : List ℕ) {m n : ℕ} → m ≤ n → eval p m ≤ eval p n
ev_mono [] h = le_refl 0
ev_mono (a ∷ ps) h = add-le-add (le_refl a) (mul-le-mul h (ev_mono ps h))

-- ---- the order of two polynomials
abbrev pub less : List ℕ → List ℕ → List ℕ
less [] q = []
less (a ∷ ps) [] = a ∷ ps
less (a ∷ ps) (b ∷ qs) = (a - b) ∷ less ps qs

pub balance : (p q : List ℕ) (n : ℕ) → eval p n + eval (less q p) n ≡ eval q n + eval (less p q) n
balance [] [] n = refl
balance [] (b ∷ qs) n = omega arith
balance (a ∷ ps) [] n = omega arith
balance (a ∷ ps) (b ∷ qs) n =
    let i : n * (eval ps n + eval (less qs ps) n) ≡ n * (eval qs n + eval (less ps qs) n) = ap (λ (m : ℕ). n * m) (balance ps qs n) in
    let l : n * (eval ps n + eval (less qs ps) n) ≡ n * eval ps n + n * eval (less qs ps) n = mul-add n (eval ps n) (eval (less qs ps) n) in
    let r : n * (eval qs n + eval (less ps qs) n) ≡ n * eval qs n + n * eval (less ps qs) n = mul-add n (eval qs n) (eval (less ps qs) n) in
    omega arith

-- the test that p is at most q on 0 .. W
abbrev pub below : ℕ → List ℕ → List ℕ → Bool
below W p q = leb (eval (less p q) W) (eval (less q p) 0)

pub poly_le : (p q : List ℕ) (W : ℕ) → T (below W p q) → (w : ℕ) → w ≤ W → eval p w ≤ eval q w
poly_le p q W t w h =
    let a : eval (less p q) w ≤ eval (less p q) W = ev_mono (less p q) h in
    let b : eval (less p q) W ≤ eval (less q p) 0 = leb→le _ _ t in
    let c : eval (less q p) 0 ≤ eval (less q p) w = ev_mono (less q p) (omega arith) in
    let e : eval p w + eval (less q p) w ≡ eval q w + eval (less p q) w = balance p q w in
    omega arith

-- ---- p at t + w
abbrev times : ℕ → List ℕ → List ℕ
times t q = add_p (scale t q) (0 ∷ q)

abbrev pub shift : ℕ → List ℕ → List ℕ
shift t [] = []
shift t (a ∷ ps) = add_p (a ∷ []) (times t (shift t ps))

pub ev_shift : (t : ℕ) (p : List ℕ) (w : ℕ) → eval (shift t p) w ≡ eval p (t + w)
ev_shift t [] w = refl
ev_shift t (a ∷ ps) w =
    rw (
      ev_add (a ∷ []) (times t (shift t ps)) w,
      ev_add (scale t (shift t ps)) (0 ∷ shift t ps) w,
      ev_scale t (shift t ps) w,
      ev_shift t ps w,
      mul-zero w,
      add-zero a,
      zero-add (w * eval ps (t + w)),
      add-mul t w (eval ps (t + w)),
    ) refl

-- ---- p at t - w: the first list less the second, at w
abbrev step : ℕ → ℕ → List ℕ × List ℕ → List ℕ × List ℕ
step t a r = (add_p (a ∷ []) (add_p (scale t r.0) (0 ∷ r.1)), add_p (scale t r.1) (0 ∷ r.0))

abbrev pub back : ℕ → List ℕ → List ℕ × List ℕ
back t [] = ([], [])
back t (a ∷ ps) = step t a (back t ps)

step_0 : (t a w : ℕ) (r : List ℕ × List ℕ) → eval (step t a r).0 w ≡ a + w * 0 + (t * eval r.0 w + (0 + w * eval r.1 w))
step_0 t a w r =
    ev_add (a ∷ []) (add_p (scale t r.0) (0 ∷ r.1)) w
    ∙ ap (λ (n : ℕ). a + w * 0 + n)
    (ev_add (scale t r.0) (0 ∷ r.1) w ∙ ap (λ (n : ℕ). n + (0 + w * eval r.1 w)) (ev_scale t r.0 w))

step_1 : (t a w : ℕ) (r : List ℕ × List ℕ) → eval (step t a r).1 w ≡ t * eval r.1 w + (0 + w * eval r.0 w)
step_1 t a w r = ev_add (scale t r.1) (0 ∷ r.0) w ∙ ap (λ (n : ℕ). n + (0 + w * eval r.0 w)) (ev_scale t r.1 w)

pub ev_back : (p : List ℕ) (t m w : ℕ) → m + w ≡ t → eval p m + eval (back t p).1 w ≡ eval (back t p).0 w
ev_back [] t m w h = refl
ev_back (a ∷ ps) t m w h =
    let E : ℕ = eval (back t ps).0 w in
    let O : ℕ = eval (back t ps).1 w in
    let P : ℕ = eval ps m in
    let i : P + O ≡ E = ev_back ps t m w h in
    let e0 : eval (step t a (back t ps)).0 w ≡ a + w * 0 + (t * E + (0 + w * O)) = step_0 t a w (back t ps) in
    let e1 : eval (step t a (back t ps)).1 w ≡ t * O + (0 + w * E) = step_1 t a w (back t ps) in
    let z : w * 0 ≡ 0 = mul-zero w in
    let j : m * (P + O) ≡ m * E = ap (λ (n : ℕ). m * n) i in
    let j' : m * (P + O) ≡ m * P + m * O = mul-add m P O in
    let t_o : (m + w) * O ≡ t * O = ap (λ (n : ℕ). n * O) h in
    let t_e : (m + w) * E ≡ t * E = ap (λ (n : ℕ). n * E) h in
    let t_o' : (m + w) * O ≡ m * O + w * O = add-mul m w O in
    let t_e' : (m + w) * E ≡ m * E + w * E = add-mul m w E in
    omega arith

-- ---- the sums of `Series` over a fixed denominator
abbrev pub spread : ℕ → List ℕ → List ℕ
spread n [] = []
spread n (c ∷ p) = c * pw n p ∷ spread n p

pub ev_spread : (n : ℕ) (p : List ℕ) (r : ℕ) → eval (spread n p) r ≡ ev n r p
unfolding ev
ev_spread n [] r = refl
ev_spread n (c ∷ p) r = ap (λ (x : ℕ). c * pw n p + r * x) (ev_spread n p r)
