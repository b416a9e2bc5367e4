-- Straight distances on whole numbers, by their squares: three differences a, b, c span no more than P where the sum of their squares is
-- at most P's. Nothing here is about floats.
use Rattle.std.specs.Prelude.{◌≡◌, ℕ, ◌+◌, ◌-◌, ◌*◌, ◌<◌, ◌≤◌}
use mathlib.Core.Path.{ap, subst}
use mathlib.Core.Logic.{inl, inr}
use native.Mathlib.Nat.{le_trans, le_of_eq, mul-le-mul, mul-le-mul_left, le_of_mul-le-mul_right, mul-pos}
use native.Mathlib.Omega.{arith}
use Rattle.units.proofs.Whole.{le_or_lt}

-- ---- squares
twice_product : (a b : ℕ) → 2 * (a * b) ≤ a * a + b * b
twice_product a b = elim (le_or_lt a b) [
  | inl h ↦ ordered a b h
  | inr h ↦ turned (ordered b a (less h))
]
  where
    ordered : (a b : ℕ) → a ≤ b → 2 * (a * b) ≤ a * a + b * b
    ordered a b h =
        let d = b - a in
        let e : a + d ≡ b = omega arith in
        let f : (a + d) * (a + d) ≡ b * b = ap (λ (x : ℕ). x * x) e in
        let g : a * (a + d) ≡ a * b = ap (λ (x : ℕ). a * x) e in
        omega arith

    less : b < a → b ≤ a
    less h = omega arith

    turned : 2 * (b * a) ≤ b * b + a * a → 2 * (a * b) ≤ a * a + b * b
    turned h = omega arith

pub root_le : (x y : ℕ) → x * x ≤ y * y → x ≤ y
root_le x y h = elim (le_or_lt x y) [
  | inl g ↦ g
  | inr g ↦ absurd (let k : (y + 1) * (y + 1) ≤ x * x = mul-le-mul (more g) (more g) in omega arith)
]
  where
    more : y < x → y + 1 ≤ x
    more g = omega arith

-- three differences span no more than P
abbrev pub Spans : ℕ → ℕ → ℕ → ℕ → Type 0
Spans a b c P = a * a + b * b + c * c ≤ P * P

sum_at_most_twice : (a b c P : ℕ) → Spans a b c P → a + b + c ≤ 2 * P
sum_at_most_twice a b c P h =
    let x = twice_product a b in
    let y = twice_product b c in
    let z = twice_product a c in
    root_le (a + b + c) (2 * P) (all x y z)
  where
    all : 2 * (a * b) ≤ a * a + b * b → 2 * (b * c) ≤ b * b + c * c → 2 * (a * c) ≤ a * a + c * c
        → (a + b + c) * (a + b + c) ≤ 2 * P * (2 * P)
    all x y z = omega arith

-- each larger by h: the span is larger by 2 * h at most
pub wider : (a b c P h : ℕ) → Spans a b c P → Spans (a + h) (b + h) (c + h) (P + 2 * h)
wider a b c P h s =
    let k : h * (a + b + c) ≤ h * (2 * P) = mul-le-mul_left h (sum_at_most_twice a b c P s) in
    omega arith

pub spans_less : (a b c a' b' c' P : ℕ) → a ≤ a' → b ≤ b' → c ≤ c' → Spans a' b' c' P → Spans a b c P
spans_less a b c a' b' c' P x y z h =
    let k : a * a ≤ a' * a' = mul-le-mul x x in
    let l : b * b ≤ b' * b' = mul-le-mul y y in
    let m : c * c ≤ c' * c' = mul-le-mul z z in
    omega arith

-- all times r, and back
times : (a b c P r : ℕ) → Spans a b c P → Spans (r * a) (r * b) (r * c) (r * P)
times a b c P r h =
    let k : r * r * (a * a + b * b + c * c) ≤ r * r * (P * P) = mul-le-mul_left (r * r) h in
    omega arith

pub through : (a b c P r : ℕ) → 0 < r → Spans (r * a) (r * b) (r * c) (r * P) → Spans a b c P
through a b c P r p h =
    le_of_mul-le-mul_right {m = a * a + b * b + c * c} {n = P * P} {k = r * r} (omega arith) (mul-pos p p)

-- THE SHRINKING: each difference falls by M parts in Q of itself, but for e; the span falls by N
pub shrunk : (a b c a' b' c' P M N Q e : ℕ) → 0 < Q → M ≤ Q → N ≤ P
    → Q * a' + M * a ≤ Q * a + Q * e → Q * b' + M * b ≤ Q * b + Q * e → Q * c' + M * c ≤ Q * c + Q * e
    → Q * (N + 2 * e) ≤ M * P → Spans a b c P → Spans a' b' c' (P - N)
shrunk a b c a' b' c' P M N Q e QP MQ NP x y z room s =
    let R = Q - M in
    let k : R + M ≡ Q = omega arith in
    let w : Spans (R * a + Q * e) (R * b + Q * e) (R * c + Q * e) (R * P + 2 * (Q * e)) =
    wider (R * a) (R * b) (R * c) (R * P) (Q * e) (times a b c P R s) in
    let v : Spans (Q * a') (Q * b') (Q * c') (R * P + 2 * (Q * e)) =
    spans_less (Q * a') (Q * b') (Q * c') (R * a + Q * e) (R * b + Q * e) (R * c + Q * e) (R * P + 2 * (Q * e))
    (side a a' R k x) (side b b' R k y) (side c c' R k z) w in
    through a' b' c' (P - N) Q QP (le_trans v (mul-le-mul (last R k) (last R k)))
  where
    side : (a a' R : ℕ) → R + M ≡ Q → Q * a' + M * a ≤ Q * a + Q * e → Q * a' ≤ R * a + Q * e
    side a a' R k h = let l : (R + M) * a ≡ Q * a = ap (λ (q : ℕ). q * a) k in omega arith

    last : (R : ℕ) → R + M ≡ Q → R * P + 2 * (Q * e) ≤ Q * (P - N)
    last R k =
        let l : (R + M) * P ≡ Q * P = ap (λ (q : ℕ). q * P) k in
        let D = P - N in
        let f : D + N ≡ P = omega arith in
        let g : Q * (D + N) ≡ Q * P = ap (λ (q : ℕ). Q * q) f in
        omega arith

-- r times something, and q times it, together
added : (r q s A B : ℕ) → r * r * s ≤ A * A → q * q * s ≤ B * B → (r + q) * (r + q) * s ≤ (A + B) * (A + B)
added r q s A B x y =
    let z : r * r * s * (q * q * s) ≤ A * A * (B * B) = mul-le-mul x y in
    let w : r * q * s ≤ A * B = root_le (r * q * s) (A * B) (turned z) in
    omega arith
  where
    turned : r * r * s * (q * q * s) ≤ A * A * (B * B) → r * q * s * (r * q * s) ≤ A * B * (A * B)
    turned z = omega arith

-- THE OTHER WAY: where each difference falls by no more than M parts in Q of itself, but for e, the span falls by N at most; T is what it
-- spans at most at first
pub grown : (a b c a' b' c' P T M N Q e : ℕ) → 0 < Q → M ≤ Q
    → Q * a ≤ Q * a' + M * a + Q * e → Q * b ≤ Q * b' + M * b + Q * e → Q * c ≤ Q * c' + M * c + Q * e
    → M * T + Q * (2 * e) ≤ Q * N → Spans a b c T → Spans a' b' c' P → Spans a b c (P + N)
grown a b c a' b' c' P T M N Q e QP MQ x y z room t s =
    let R = Q - M in
    let k : R + M ≡ Q = omega arith in
    let w : Spans (Q * a' + Q * e) (Q * b' + Q * e) (Q * c' + Q * e) (Q * P + 2 * (Q * e)) =
    wider (Q * a') (Q * b') (Q * c') (Q * P) (Q * e) (times a' b' c' P Q s) in
    let v : Spans (R * a) (R * b) (R * c) (Q * P + 2 * (Q * e)) =
    spans_less (R * a) (R * b) (R * c) (Q * a' + Q * e) (Q * b' + Q * e) (Q * c' + Q * e) (Q * P + 2 * (Q * e))
    (side a a' R k x) (side b b' R k y) (side c c' R k z) w in
    let f : (R + M) * (R + M) * (a * a + b * b + c * c) ≤ (Q * P + 2 * (Q * e) + M * T) * (Q * P + 2 * (Q * e) + M * T) =
    added R M (a * a + b * b + c * c) (Q * P + 2 * (Q * e)) (M * T) (out R v) (squared t) in
    through a b c (P + N) Q QP (le_trans (in_parts R k f) (mul-le-mul last last))
  where
    side : (a a' R : ℕ) → R + M ≡ Q → Q * a ≤ Q * a' + M * a + Q * e → R * a ≤ Q * a' + Q * e
    side a a' R k h = let l : (R + M) * a ≡ Q * a = ap (λ (q : ℕ). q * a) k in omega arith

    out : (R : ℕ) → Spans (R * a) (R * b) (R * c) (Q * P + 2 * (Q * e))
        → R * R * (a * a + b * b + c * c) ≤ (Q * P + 2 * (Q * e)) * (Q * P + 2 * (Q * e))
    out R h = le_trans (le_of_eq (apart_squares R)) h
      where
        apart_squares : (R : ℕ) → R * R * (a * a + b * b + c * c) ≡ R * a * (R * a) + R * b * (R * b) + R * c * (R * c)
        apart_squares R = omega arith

    squared : Spans a b c T → M * M * (a * a + b * b + c * c) ≤ M * T * (M * T)
    squared h = let g : M * M * (a * a + b * b + c * c) ≤ M * M * (T * T) = mul-le-mul_left (M * M) h in omega arith

    in_parts : (R : ℕ) → R + M ≡ Q
        → (R + M) * (R + M) * (a * a + b * b + c * c) ≤ (Q * P + 2 * (Q * e) + M * T) * (Q * P + 2 * (Q * e) + M * T)
        → Q * a * (Q * a) + Q * b * (Q * b) + Q * c * (Q * c) ≤ (Q * P + 2 * (Q * e) + M * T) * (Q * P + 2 * (Q * e) + M * T)
    in_parts R k h =
        le_trans (le_of_eq (same_squares Q)) (subst (λ (q : ℕ). q * q * (a * a + b * b + c * c)
        ≤ (Q * P + 2 * (Q * e) + M * T) * (Q * P + 2 * (Q * e) + M * T)) k h)
      where
        same_squares : (q : ℕ) → q * a * (q * a) + q * b * (q * b) + q * c * (q * c) ≡ q * q * (a * a + b * b + c * c)
        same_squares q = omega arith

    last : Q * P + 2 * (Q * e) + M * T ≤ Q * (P + N)
    last = omega arith
