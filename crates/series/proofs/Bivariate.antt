-- Polynomials in two variables, as lists of coefficients in a of polynomials in b: a product of one in a and one in b, one at a + b, and
-- how far two are apart, from one computed test. Assumes nothing.
use Prim.Native.Nat.{ℕ, ◌+◌, ◌*◌, ◌≤◌, zero-le}
use mathlib.Core.Path.{◌≡◌, refl, sym, ap, ap₂, ◌∙◌}
use mathlib.Core.List.{List, [], ◌∷◌}
use native.Mathlib.Nat.{mul_assoc, mul_left_comm, add-mul, mul-add, zero-mul, mul-zero, zero-add, add-zero, le_refl, mul-le-mul, add-le-add}
use native.Mathlib.Omega.{arith}
use lib.Dec.{T, leb, leb→le}
use Rattle.series.proofs.Polynomials.{eval, add_p, scale, less, ev_add, ev_scale, ev_mono, balance}

abbrev pub eval2 : List (List ℕ) → ℕ → ℕ → ℕ
eval2 [] a b = 0
eval2 (p ∷ ps) a b = eval p b + a * eval2 ps a b

abbrev pub add2 : List (List ℕ) → List (List ℕ) → List (List ℕ)
add2 [] q = q
add2 (p ∷ ps) [] = p ∷ ps
add2 (p ∷ ps) (q ∷ qs) = add_p p q ∷ add2 ps qs

abbrev pub scale2 : ℕ → List (List ℕ) → List (List ℕ)
scale2 k [] = []
scale2 k (p ∷ ps) = scale k p ∷ scale2 k ps

-- p at a times q at b
abbrev pub outer : List ℕ → List ℕ → List (List ℕ)
outer [] q = []
outer (c ∷ ps) q = scale c q ∷ outer ps q

-- b times
abbrev raise : List (List ℕ) → List (List ℕ)
raise [] = []
raise (p ∷ ps) = (0 ∷ p) ∷ raise ps

-- p at a + b
abbrev pub joined : List ℕ → List (List ℕ)
joined [] = []
joined (c ∷ p) = add2 ((c ∷ []) ∷ []) (add2 ([] ∷ joined p) (raise (joined p)))

pub eval2_add : (p q : List (List ℕ)) (a b : ℕ) → eval2 (add2 p q) a b ≡ eval2 p a b + eval2 q a b
eval2_add [] q a b = sym (zero-add (eval2 q a b))
eval2_add (p ∷ ps) [] a b = sym (add-zero (eval p b + a * eval2 ps a b))
eval2_add (p ∷ ps) (q ∷ qs) a b = rw (ev_add p q b, eval2_add ps qs a b, mul-add a (eval2 ps a b) (eval2 qs a b)) (omega arith)

pub eval2_scale : (k : ℕ) (p : List (List ℕ)) (a b : ℕ) → eval2 (scale2 k p) a b ≡ k * eval2 p a b
eval2_scale k [] a b = sym (mul-zero k)
eval2_scale k (p ∷ ps) a b =
    rw (ev_scale k p b, eval2_scale k ps a b, mul-add k (eval p b) (a * eval2 ps a b), mul_left_comm a k (eval2 ps a b)) refl

pub eval2_outer : (p q : List ℕ) (a b : ℕ) → eval2 (outer p q) a b ≡ eval p a * eval q b
eval2_outer [] q a b = sym (zero-mul (eval q b))
eval2_outer (c ∷ p) q a b =
    rw (ev_scale c q b, eval2_outer p q a b, add-mul c (a * eval p a) (eval q b), mul_assoc a (eval p a) (eval q b)) refl

eval2_raise : (p : List (List ℕ)) (a b : ℕ) → eval2 (raise p) a b ≡ b * eval2 p a b
eval2_raise [] a b = sym (mul-zero b)
eval2_raise (p ∷ ps) a b =
    rw (eval2_raise ps a b, zero-add (b * eval p b), mul-add b (eval p b) (a * eval2 ps a b), mul_left_comm a b (eval2 ps a b)) refl

pub eval2_joined : (p : List ℕ) (a b : ℕ) → eval2 (joined p) a b ≡ eval p (a + b)
eval2_joined [] a b = refl
eval2_joined (c ∷ p) a b =
    eval2_add ((c ∷ []) ∷ []) (add2 ([] ∷ joined p) (raise (joined p))) a b
    ∙ ap (λ (x : ℕ). c + b * 0 + a * 0 + x)
    (eval2_add ([] ∷ joined p) (raise (joined p)) a b
    ∙ ap₂ (λ (x y : ℕ). 0 + a * x + y) (eval2_joined p a b) (eval2_raise (joined p) a b ∙ ap (λ (x : ℕ). b * x) (eval2_joined p a b)))
    ∙ go (eval p (a + b))
  where
    go : (x : ℕ) → c + b * 0 + a * 0 + (0 + a * x + b * x) ≡ c + (a + b) * x
    go x = omega arith

-- ---- how far apart
abbrev pub less2 : List (List ℕ) → List (List ℕ) → List (List ℕ)
less2 [] q = []
less2 (p ∷ ps) [] = p ∷ ps
less2 (p ∷ ps) (q ∷ qs) = less p q ∷ less2 ps qs

under : (p q : List (List ℕ)) (a b : ℕ) → eval2 p a b ≤ eval2 q a b + eval2 (less2 p q) a b
under [] q a b = zero-le
under (p ∷ ps) [] a b = omega arith
under (p ∷ ps) (q ∷ qs) a b = go (eval2 ps a b) (eval2 qs a b) (eval2 (less2 ps qs) a b) (under ps qs a b)
  where
    go : (x y z : ℕ) → x ≤ y + z → eval p b + a * x ≤ eval q b + a * y + (eval (less p q) b + a * z)
    go x y z h = omega (arith, mul-le-mul (le_refl a) h, balance p q b)

mono2 : (p : List (List ℕ)) {a b A B : ℕ} → a ≤ A → b ≤ B → eval2 p a b ≤ eval2 p A B
mono2 [] h k = le_refl 0
mono2 (p ∷ ps) h k = add-le-add (ev_mono p k) (mul-le-mul h (mono2 ps h k))

pub apart_le : (p q : List (List ℕ)) (A B E : ℕ) → T (leb (eval2 (less2 p q) A B) E) → (a b : ℕ) → a ≤ A → b ≤ B
    → eval2 p a b ≤ eval2 q a b + E
apart_le p q A B E t a b h k =
    go (eval2 p a b) (eval2 q a b) (eval2 (less2 p q) a b) (eval2 (less2 p q) A B) (under p q a b) (mono2 (less2 p q) h k) (leb→le _ _ t)
  where
    go : (x y z w : ℕ) → x ≤ y + z → z ≤ w → w ≤ E → x ≤ y + E
    go x y z w i j l = omega arith
