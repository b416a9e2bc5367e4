-- Sums and differences in parts: the result of `add` and `sub` is `grid` of the exact sum, part by part.
use mathlib.Core.Path.{◌≡◌, sym, ap, ◌∙◌, subst}
use Prim.Native.Nat.{ℕ, ◌+◌, ◌-◌, ◌*◌, ◌≤◌, ◌<◌}
use native.Mathlib.Nat.{mul_comm, mul_assoc, mul_right_comm, mul-le-mul_right, mul-pos, zero-mul, mul-sub, add-le-add}
use native.Mathlib.Omega.{arith}
use mathlib.Core.Bool.{Bool, true, false, not, cond, true≢false}
use lib.IntN.{ℤ}
use lib.Dec.{T, ltb, ltb→lt, nltb→le}
use lib.Pow.{pow_pos}
use lib.Ieee.{Float, nan, inf, fin, Format, low, up, down, round, sum, add, sub, neg}
use lib.Ieee.Fits.{down_pos}
use lib.Ieee.Exact.{HasValue}
use lib.Ieee.Scale.{grid, overflow}
use Rattle.units.specs.Units.{one, Part}
use Rattle.units.proofs.Grid.{grid_same, grid_mono}
use Rattle.units.proofs.Values.{rounded_plus, rounded_minus, round_at}

-- the part of ±a that a sign leaves, and the part that it takes
abbrev pub plus_of : Bool → ℕ → ℕ
plus_of false a = a
plus_of true a = 0

abbrev pub minus_of : Bool → ℕ → ℕ
minus_of false a = 0
minus_of true a = a

-- the sum of ±a / c and ±b / c
pub sum_part : (f : Format) (s : Bool) (a : ℕ) (t : Bool) (b c : ℕ) → 0 < c
    → grid f (plus_of s a + plus_of t b - (minus_of s a + minus_of t b)) c < overflow f
    → grid f (minus_of s a + minus_of t b - (plus_of s a + plus_of t b)) c < overflow f
    → Part f (sum f s a t b c) (grid f (plus_of s a + plus_of t b - (minus_of s a + minus_of t b)) c)
    (grid f (minus_of s a + minus_of t b - (plus_of s a + plus_of t b)) c)
unfolding sum
sum_part f false a false b c C h k = rounded_plus f (a + b) c (a + b - 0) (0 - (a + b)) C (omega arith) (omega arith) h
sum_part f true a true b c C h k = rounded_minus f (a + b) c (0 - (a + b)) (a + b - 0) C (omega arith) (omega arith) k
sum_part f false a true b c C h k = go (ltb a b) (ltb→lt a b) (nltb→le a b)
  where
    go : (x : Bool) → (T x → a < b) → (T (not x) → b ≤ a)
        → Part f (cond x (round f true (b - a) c) (round f false (a - b) c)) (grid f (a + 0 - (0 + b)) c) (grid f (0 + b - (a + 0)) c)
    go true l g = let w : a < b = l tt in rounded_minus f (b - a) c (a + 0 - (0 + b)) (0 + b - (a + 0)) C (omega arith) (omega arith) k
    go false l g = let w : b ≤ a = g tt in rounded_plus f (a - b) c (a + 0 - (0 + b)) (0 + b - (a + 0)) C (omega arith) (omega arith) h
sum_part f true a false b c C h k = go (ltb a b) (ltb b a) (ltb→lt a b) (nltb→le a b) (ltb→lt b a) (nltb→le b a)
  where
    go : (x y : Bool) → (T x → a < b) → (T (not x) → b ≤ a) → (T y → b < a) → (T (not y) → a ≤ b)
        → Part f (cond x (round f false (b - a) c) (round f y (a - b) c)) (grid f (0 + b - (a + 0)) c) (grid f (a + 0 - (0 + b)) c)
    go true y l g i j = let w : a < b = l tt in rounded_plus f (b - a) c (0 + b - (a + 0)) (a + 0 - (0 + b)) C (omega arith) (omega arith) h
    go false true l g i j = let w : b ≤ a = g tt in
        rounded_minus f (a - b) c (0 + b - (a + 0)) (a + 0 - (0 + b)) C (omega arith) (omega arith) k
    go false false l g i j = let w : b ≤ a = g tt in let v : a ≤ b = j tt in
        rounded_plus f (a - b) c (0 + b - (a + 0)) (a + 0 - (0 + b)) C (omega arith) (omega arith) h

-- ---- over a common denominator
over_sub : (A B P N c u : ℕ) → A * u ≡ P * c → B * u ≡ N * c → (A - B) * u ≡ (P - N) * c
over_sub A B P N c u p q = mul_comm (A - B) u ∙ mul-sub u A B ∙ both ∙ sym (mul_comm (P - N) c ∙ mul-sub c P N)
  where
    both : u * A - u * B ≡ c * P - c * N
    both = let x : u * A ≡ c * P = mul_comm u A ∙ p ∙ mul_comm P c in let y : u * B ≡ c * N = mul_comm u B ∙ q ∙ mul_comm N c in omega arith

pub over_add : (A B P N c u : ℕ) → A * u ≡ P * c → B * u ≡ N * c → (A + B) * u ≡ (P + N) * c
over_add A B P N c u p q = omega arith

-- over a common denominator c = down e * d
pub widened : (m v u p w d : ℕ) → m * v * u ≡ p * w → m * v * d * u ≡ p * (w * d)
widened m v u p w d h = mul_right_comm (m * v) d u ∙ ap (λ (x : ℕ). x * d) h ∙ mul_assoc p w d

pub pos_wide : (f : Format) (s : Bool) (m : ℕ) (e : ℤ) (p n d : ℕ) → Part f (fin s m e) p n
    → plus_of s (m * up e * d) * one f ≡ p * (down e * d)
pos_wide f false m e p n d h = widened m (up e) (one f) p (down e) d h.0
pos_wide f true m e p n d h = zero-mul (one f) ∙ sym (ap (λ (x : ℕ). x * (down e * d)) h.1 ∙ zero-mul (down e * d))

pub neg_wide : (f : Format) (s : Bool) (m : ℕ) (e : ℤ) (p n d : ℕ) → Part f (fin s m e) p n
    → minus_of s (m * up e * d) * one f ≡ n * (down e * d)
neg_wide f true m e p n d h = widened m (up e) (one f) n (down e) d h.0
neg_wide f false m e p n d h = zero-mul (one f) ∙ sym (ap (λ (x : ℕ). x * (down e * d)) h.1 ∙ zero-mul (down e * d))

sum_units : (f : Format) (s : Bool) (m : ℕ) (e : ℤ) (t : Bool) (k : ℕ) (d : ℤ) (p n q r : ℕ) → Part f (fin s m e) p n
    → Part f (fin t k d) q r
    → grid f (p + q - (n + r)) (one f) < overflow f → grid f (n + r - (p + q)) (one f) < overflow f
    → Part f (sum f s (m * up e * down d) t (k * up d * down e) (down e * down d)) (grid f (p + q - (n + r)) (one f))
    (grid f (n + r - (p + q)) (one f))
sum_units f s m e t k d p n q r x y h g =
    let a = m * up e * down d in
    let b = k * up d * down e in
    let c = down e * down d in
    let u = one f in
    let C : 0 < c = mul-pos (down_pos e) (down_pos d) in
    let U : 0 < u = pow_pos (low f) in
    let flip : down d * down e ≡ c = mul_comm (down d) (down e) in
    let P : (plus_of s a + plus_of t b) * u ≡ (p + q) * c =
    over_add (plus_of s a) (plus_of t b) p q c u (pos_wide f s m e p n (down d) x)
    (pos_wide f t k d q r (down e) y ∙ ap (λ (w : ℕ). q * w) flip) in
    let N : (minus_of s a + minus_of t b) * u ≡ (n + r) * c =
    over_add (minus_of s a) (minus_of t b) n r c u (neg_wide f s m e p n (down d) x)
    (neg_wide f t k d q r (down e) y ∙ ap (λ (w : ℕ). r * w) flip) in
    let E : grid f (plus_of s a + plus_of t b - (minus_of s a + minus_of t b)) c ≡ grid f (p + q - (n + r)) u =
    grid_same f (plus_of s a + plus_of t b - (minus_of s a + minus_of t b)) c (p + q - (n + r)) u C U
    (over_sub (plus_of s a + plus_of t b) (minus_of s a + minus_of t b) (p + q) (n + r) c u P N) in
    let F : grid f (minus_of s a + minus_of t b - (plus_of s a + plus_of t b)) c ≡ grid f (n + r - (p + q)) u =
    grid_same f (minus_of s a + minus_of t b - (plus_of s a + plus_of t b)) c (n + r - (p + q)) u C U
    (over_sub (minus_of s a + minus_of t b) (plus_of s a + plus_of t b) (n + r) (p + q) c u N P) in
    subst (λ (w : ℕ). Part f (sum f s a t b c) w (grid f (n + r - (p + q)) u)) E
    (subst (λ (w : ℕ). Part f (sum f s a t b c) (grid f (plus_of s a + plus_of t b - (minus_of s a + minus_of t b)) c) w) F
    (sum_part f s a t b c C (subst (λ (w : ℕ). w < overflow f) (sym E) h) (subst (λ (w : ℕ). w < overflow f) (sym F) g)))

pub add_part : (f : Format) (x y : Float) (p n q r : ℕ) → Part f x p n → Part f y q r
    → grid f (p + q - (n + r)) (one f) < overflow f → grid f (n + r - (p + q)) (one f) < overflow f
    → Part f (add f x y) (grid f (p + q - (n + r)) (one f)) (grid f (n + r - (p + q)) (one f))
unfolding add
add_part f nan y p n q r a b h g = absurd a
add_part f (inf s) y p n q r a b h g = absurd a
add_part f (fin s m e) nan p n q r a b h g = absurd b
add_part f (fin s m e) (inf t) p n q r a b h g = absurd b
add_part f (fin s m e) (fin t k d) p n q r a b h g = sum_units f s m e t k d p n q r a b h g

pub neg_part : (f : Format) (x : Float) (p n : ℕ) → Part f x p n → Part f (neg x) n p
unfolding neg
neg_part f nan p n h = absurd h
neg_part f (inf s) p n h = absurd h
neg_part f (fin false m e) p n h = h
neg_part f (fin true m e) p n h = h

pub sub_part : (f : Format) (x y : Float) (p n q r : ℕ) → Part f x p n → Part f y q r
    → grid f (p + r - (n + q)) (one f) < overflow f → grid f (n + q - (p + r)) (one f) < overflow f
    → Part f (sub f x y) (grid f (p + r - (n + q)) (one f)) (grid f (n + q - (p + r)) (one f))
unfolding sub
sub_part f x y p n q r a b h g = add_part f x (neg y) p n r q a (neg_part f y q r b) h g

-- two that are not negative
pub add_value : (f : Format) (x y : Float) (a b : ℕ) → HasValue x false a (one f) → HasValue y false b (one f)
    → grid f (a + b) (one f) < overflow f
    → HasValue (add f x y) false (grid f (a + b) (one f)) (one f)
unfolding add sum
add_value f nan y a b p q h = absurd p
add_value f (inf s) y a b p q h = absurd p
add_value f (fin true m e) y a b p q h = absurd (true≢false p.0)
add_value f (fin false m e) nan a b p q h = absurd q
add_value f (fin false m e) (inf t) a b p q h = absurd q
add_value f (fin false m e) (fin true k d) a b p q h = absurd (true≢false q.0)
add_value f (fin false m e) (fin false k d) a b p q h =
    let c = down e * down d in
    let u = one f in
    let x = m * up e * down d in
    let y = k * up d * down e in
    let X : (x + y) * u ≡ (a + b) * c =
    over_add x y a b c u (widened m (up e) u a (down e) (down d) p.1)
    (widened k (up d) u b (down d) (down e) q.1 ∙ ap (λ (w : ℕ). b * w) (mul_comm (down d) (down e))) in
    round_at f (x + y) c (a + b) u (mul-pos (down_pos e) (down_pos d)) (pow_pos (low f)) X h

-- ---- a rounded sum keeps the order of the exact sums p - n and p' - n'
pub sum_mono : (f : Format) (p n p' n' : ℕ) → p + n' ≤ p' + n
    → grid f (p - n) (one f) + grid f (n' - p') (one f) ≤ grid f (p' - n') (one f) + grid f (n - p) (one f)
sum_mono f p n p' n' h = add-le-add (mono (p - n) (p' - n') (omega arith)) (mono (n' - p') (n - p) (omega arith))
  where
    mono : (a b : ℕ) → a ≤ b → grid f a (one f) ≤ grid f b (one f)
    mono a b h = grid_mono f a (one f) b (one f) (pow_pos (low f)) (pow_pos (low f)) (mul-le-mul_right (one f) h)
