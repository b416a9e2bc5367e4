-- What `round` makes of a / c, in units, is `grid f a c`: its error, absolute and relative, its order, and its bound by powers of two,
-- for either format.
-- Every fact is linear in the three products grid * c, a * one and c, so that `omega` takes it as it stands.
use mathlib.Core.Path.{◌≡◌, refl, sym, ap, ◌∙◌, subst}
use mathlib.Core.Logic.{◌⊎◌, inl, inr}
use Prim.Native.Nat.{ℕ, zero, suc, ◌+◌, ◌-◌, ◌*◌, ◌/◌, ◌%◌, ◌^◌, ◌≤◌, ◌<◌, zero-le, compare}
use native.Mathlib.Nat.{le_antisymm, mul_right_comm, lt_of_le_of_lt, eq-or-lt_of_le, div-div-eq-div-mul, le_trans, le_of_eq, mul_comm}
use native.Mathlib.Nat.{mul_assoc, mul_left_comm, mul-le-mul_left, mul-le-mul_right, mul-pos, le-div_iff_mul-le, div-lt_iff_lt-mul}
use native.Mathlib.Nat.{eq-zero-or-pos, mul-one, zero-mul}
use native.Mathlib.Omega.{arith}
use lib.Pow.{pow-add, pow_pos, pow_mono}
use lib.Ieee.{Format, prec, low, size, hid}
use lib.Ieee.Digits.{size-lt, size-le, size_reaches}
use lib.Ieee.Fits.{two, two-le_pos, kept-lt, nearest-le}
use lib.Ieee.Nearest.{closest, closest_mono, div_mono, nearest-ge}
use lib.Ieee.Order.{drop, kept}
use lib.Ieee.Scale.{grid}
use Rattle.units.specs.Units.{one}
use Rattle.units.proofs.Half.{closest_near}

-- ---- p digits are kept of n / c

abbrev pub cell : ℕ → ℕ → ℕ → ℕ
cell p n c = kept p n c * 2 ^ drop p n c

-- the error is at most half of 2 ^ drop units
pub cell_near : (p n c : ℕ) → 0 < c
    → (2 * (cell p n c * c) ≤ 2 * n + c * 2 ^ drop p n c) × (2 * n ≤ 2 * (cell p n c * c) + c * 2 ^ drop p n c)
cell_near p n c C =
    let k = drop p n c in
    let h = closest_near n (c * 2 ^ k) (mul-pos C (pow_pos k)) in
    let e : kept p n c * (c * 2 ^ k) ≡ cell p n c * c = simp (mul_assoc, mul_comm, mul_left_comm) in
    (subst (λ (x : ℕ). 2 * x ≤ 2 * n + c * 2 ^ k) e h.above, subst (λ (x : ℕ). 2 * n ≤ 2 * x + c * 2 ^ k) e h.below)

-- n / c below 2 ^ (p + j): at most j digits are dropped
few : (z p j : ℕ) → z ≤ p + j → z - p ≤ j
few z p j h = omega arith

pub drop_le : (p n c j : ℕ) → 0 < c → n < 2 ^ (p + j) * c → drop p n c ≤ j
drop_le p n c j C h = few (size (n / c)) p j (size-le (n / c) (p + j) ((div-lt_iff_lt-mul C).1 h))

pub cell_abs : (p n c j : ℕ) → 0 < c → n < 2 ^ (p + j) * c
    → (2 * (cell p n c * c) ≤ 2 * n + c * 2 ^ j) × (2 * n ≤ 2 * (cell p n c * c) + c * 2 ^ j)
cell_abs p n c j C h =
    let g = cell_near p n c C in
    let m : c * 2 ^ drop p n c ≤ c * 2 ^ j = mul-le-mul_left c (pow_mono (drop_le p n c j C h)) in
    (omega arith, omega arith)

-- c * 2 ^ drop is c, or at most n / 2 ^ (p - 1)
pub used : (z p : ℕ) → 0 < p → 0 < z - p → p - 1 + (z - p) < z
used z p P h = omega arith

pub drop_rel : (p n c : ℕ) → 0 < p → 0 < c → 2 ^ (p - 1) * (c * 2 ^ drop p n c) ≤ n + 2 ^ (p - 1) * c
drop_rel p n c P C = go (drop p n c) refl (eq-zero-or-pos (drop p n c))
  where
    go : (k : ℕ) → drop p n c ≡ k → (k ≡ 0) ⊎ (0 < k) → 2 ^ (p - 1) * (c * 2 ^ k) ≤ n + 2 ^ (p - 1) * c
    go k e (inl z) =
        let w : c * 2 ^ k ≡ c = ap (λ (x : ℕ). c * 2 ^ x) z ∙ mul-one c in
        let v : 2 ^ (p - 1) * (c * 2 ^ k) ≡ 2 ^ (p - 1) * c = ap (λ (x : ℕ). 2 ^ (p - 1) * x) w in
        omega arith
    go k e (inr K) =
        let l : 2 ^ (p - 1 + k) ≤ n / c =
        size_reaches (n / c) (p - 1 + k)
        (subst (λ (x : ℕ). p - 1 + x < size (n / c)) e (used (size (n / c)) p P (subst (λ (x : ℕ). 0 < x) (sym e) K))) in
        let m : 2 ^ (p - 1 + k) * c ≤ n = (le-div_iff_mul-le C).0 l in
        let q : 2 ^ (p - 1) * (c * 2 ^ k) ≡ 2 ^ (p - 1 + k) * c = simp (pow-add, mul_assoc, mul_comm, mul_left_comm) in
        omega arith

-- ---- the order
size_mono : (a b : ℕ) → a ≤ b → size a ≤ size b
size_mono a b h = size-le a (size b) (lt_of_le_of_lt h (size-lt b))

same_drop : (k a b c d : ℕ) → 0 < b → 0 < d → a * d ≤ c * b → closest a (b * 2 ^ k) * 2 ^ k ≤ closest c (d * 2 ^ k) * 2 ^ k
same_drop k a b c d B D h =
    mul-le-mul_right (2 ^ k)
    (closest_mono a (b * 2 ^ k) c (d * 2 ^ k) (mul-pos B (pow_pos k)) (mul-pos D (pow_pos k))
    (le_trans (le_of_eq (sym (mul_assoc a d (2 ^ k)))) (le_trans (mul-le-mul_right (2 ^ k) h) (le_of_eq (mul_assoc c b (2 ^ k))))))

kept_le : (p n den : ℕ) → kept p n den ≤ 2 ^ p
kept_le p n den =
    let k = drop p n den in
    let u = den * 2 ^ k in
    le_trans (nearest-le (n / u) (compare (n % u * 2) u))
    (subst (λ (x : ℕ). x < 2 ^ p) (div-div-eq-div-mul n den (2 ^ k)) (kept-lt p (n / den)))

pub kept_ge : (p n den : ℕ) → 0 < p → 0 < drop p n den → 2 ^ (p - 1) ≤ kept p n den
kept_ge p n den P K =
    let k = drop p n den in
    let u = den * 2 ^ k in
    let w = n / den in
    let a : 2 ^ (p - 1) * 2 ^ k ≤ w = le_trans (le_of_eq (sym (pow-add 2 (p - 1) k))) (size_reaches w (p - 1 + k) (used (size w) p P K)) in
    le_trans (subst (λ (x : ℕ). 2 ^ (p - 1) ≤ x) (div-div-eq-div-mul n den (2 ^ k)) ((le-div_iff_mul-le (pow_pos k)).1 a))
    (nearest-ge (n / u) (compare (n % u * 2) u))

fewer : (x y p : ℕ) → x ≤ y → x - p ≤ y - p
fewer x y p h = omega arith

room : (p j k : ℕ) → 0 < p → j < k → p + j ≤ p - 1 + k
room p j k P h = omega arith

pub cell_mono : (p a b c d : ℕ) → 0 < p → 0 < b → 0 < d → a * d ≤ c * b → cell p a b ≤ cell p c d
cell_mono p a b c d P B D h =
    let j = drop p a b in
    let k = drop p c d in
    elim (eq-or-lt_of_le (fewer (size (a / b)) (size (c / d)) p (size_mono (a / b) (c / d) (div_mono a b c d B D h)))) [
      | inl e ↦ subst (λ (x : ℕ). closest a (b * 2 ^ x) * 2 ^ x ≤ kept p c d * 2 ^ k) (sym e) (same_drop k a b c d B D h)
      | inr l ↦
          le_trans (mul-le-mul_right (2 ^ j) (kept_le p a b))
          (le_trans (le_of_eq (sym (pow-add 2 p j)))
          (le_trans (pow_mono (room p j k P l))
          (le_trans (le_of_eq (pow-add 2 (p - 1) k)) (mul-le-mul_right (2 ^ k) (kept_ge p c d P (lt_of_le_of_lt zero-le l))))))
    ]

-- n / c below 2 ^ (p + j): the result is no more
pub cell_le : (p n c j : ℕ) → 0 < c → n < 2 ^ (p + j) * c → cell p n c ≤ 2 ^ (p + j)
cell_le p n c j C h =
    le_trans (mul-le-mul_right (2 ^ drop p n c) (kept_le p n c))
    (le_trans (le_of_eq (sym (pow-add 2 p (drop p n c)))) (pow_mono (grows p (drop p n c) j (drop_le p n c j C h))))
  where
    grows : (p x j : ℕ) → x ≤ j → p + x ≤ p + j
    grows p x j h = omega arith

-- ---- for a format
digits : (f : Format) → 0 < prec f
digits f = two-le_pos (prec f) (two f)

pub grid_mono : (f : Format) (a b c d : ℕ) → 0 < b → 0 < d → a * d ≤ c * b → grid f a b ≤ grid f c d
grid_mono f a b c d B D h =
    let l = 2 ^ low f in
    let x : a * l * d ≤ c * l * b =
    le_trans (le_of_eq (mul_right_comm a l d)) (le_trans (mul-le-mul_right l h) (le_of_eq (mul_right_comm c b l))) in
    cell_mono (prec f) (a * l) b (c * l) d (digits f) B D x

pub grid_same : (f : Format) (a b c d : ℕ) → 0 < b → 0 < d → a * d ≡ c * b → grid f a b ≡ grid f c d
grid_same f a b c d B D e = le_antisymm (grid_mono f a b c d B D (le_of_eq e)) (grid_mono f c d a b D B (le_of_eq (sym e)))

zero_of : (g c : ℕ) → 0 < c → 2 * (g * c) ≤ c → g ≡ 0
zero_of zero c C h = refl
zero_of (suc g) c C h = absurd (omega arith)

pub grid_zero : (f : Format) (c : ℕ) → 0 < c → grid f 0 c ≡ 0
grid_zero f c C =
    let k : 0 * 2 ^ low f < 2 ^ (prec f + 0) * c =
    subst (λ (x : ℕ). x < 2 ^ (prec f + 0) * c) (sym (zero-mul (2 ^ low f))) (mul-pos (pow_pos (prec f + 0)) C) in
    let h = (cell_abs (prec f) (0 * 2 ^ low f) c 0 C k).0 in
    let z : 0 * 2 ^ low f ≡ 0 = zero-mul (2 ^ low f) in
    zero_of (grid f 0 c) c C (omega arith)

-- ---- the error of `grid`: absolute, for a fraction a / c below 2 ^ (prec + j) units; and relative, one part in 2 ^ prec and half a unit
pub grid_abs : (f : Format) (a c j : ℕ) → 0 < c → a * one f < 2 ^ (prec f + j) * c
    → (2 * (grid f a c * c) ≤ 2 * (a * one f) + c * 2 ^ j) × (2 * (a * one f) ≤ 2 * (grid f a c * c) + c * 2 ^ j)
grid_abs f a c j C h = cell_abs (prec f) (a * one f) c j C h

pub grid_le : (f : Format) (a c j : ℕ) → 0 < c → a * one f < 2 ^ (prec f + j) * c → grid f a c ≤ 2 ^ (prec f + j)
grid_le f a c j C h = cell_le (prec f) (a * one f) c j C h

above_rel : (g n c k w : ℕ) → 2 * g ≤ 2 * n + k → w * k ≤ n + w * c → 2 * w * g ≤ (2 * w + 1) * n + w * c
above_rel g n c k w a b = let d : w * (2 * g) ≤ w * (2 * n + k) = mul-le-mul_left w a in omega arith

below_rel : (g n c k w : ℕ) → 2 * n ≤ 2 * g + k → w * k ≤ n + w * c → 2 * w * n ≤ 2 * w * g + n + w * c
below_rel g n c k w a b = let d : w * (2 * n) ≤ w * (2 * g + k) = mul-le-mul_left w a in omega arith

pub grid_rel : (f : Format) (a c : ℕ) → 0 < c
    → (2 * hid f * (grid f a c * c) ≤ (2 * hid f + 1) * (a * one f) + hid f * c)
    × (2 * hid f * (a * one f) ≤ 2 * hid f * (grid f a c * c) + a * one f + hid f * c)
grid_rel f a c C =
    let n = a * one f in
    let h = cell_near (prec f) n c C in
    let k = c * 2 ^ drop (prec f) n c in
    let r = drop_rel (prec f) n c (digits f) C in
    (above_rel (grid f a c * c) n c k (hid f) h.0 r, below_rel (grid f a c * c) n c k (hid f) h.1 r)
