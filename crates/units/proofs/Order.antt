-- The order and the equality of two finite floats are those of their parts: where x is p - n and y is q - r units, x < y says p + r < n +
-- q, x <= y says
-- p + r ≤ n + q, and x == y says p + r ≡ n + q.
use mathlib.Core.Path.{◌≡◌, refl, sym, ap, ◌∙◌, subst}
use mathlib.Core.Logic.{◌⊎◌, inl, inr}
use Prim.Native.Nat.{ℕ, ◌+◌, ◌*◌, ◌≤◌, ◌<◌}
use native.Mathlib.Nat.{le_of_lt, le_of_eq, lt_of_not-le, eq-or-lt_of_le, mul_comm, mul-pos, mul-lt-mul_of_pos_right}
use native.Mathlib.Nat.{lt_of_mul-lt-mul_right, eq_of_mul-eq-mul_right}
use native.Mathlib.Omega.{arith}
use mathlib.Core.Bool.{Bool, true, false, not, ◌&&◌, ◌||◌}
use lib.IntN.{ℤ}
use lib.Dec.{T, T_not, ltb→lt, lt→ltb, eqb, eqb→eq}
use lib.Pow.{pow_pos}
use lib.Ieee.{Float, nan, inf, fin, Format, low, up, down, lt, eq, le, below, level, binary32}
use lib.Ieee.Fits.{down_pos, and_i, and_l, and_r, eq→eqb}
use lib.Ieee.Exact.{HasValue}
use Rattle.units.specs.Units.{one, Part, hi, lo, Units, gap, apart}
use Rattle.units.proofs.Values.{plus_part}
use Rattle.units.proofs.Add.{plus_of, minus_of, pos_wide, neg_wide, over_add}

-- ±a < ±b
below→ : (s : Bool) (a : ℕ) (t : Bool) (b : ℕ) → T (below s a t b) → plus_of s a + minus_of t b < minus_of s a + plus_of t b
below→ false a false b h = let z = ltb→lt a b h in omega arith
below→ false a true b h = absurd h
below→ true a false b h = let z = ltb→lt 0 (a + b) h in omega arith
below→ true a true b h = let z = ltb→lt b a h in omega arith

below← : (s : Bool) (a : ℕ) (t : Bool) (b : ℕ) → plus_of s a + minus_of t b < minus_of s a + plus_of t b → T (below s a t b)
below← false a false b h = lt→ltb a b (omega arith)
below← false a true b h = absurd (none a b h)
  where
    none : (a b : ℕ) → a + b < 0 + 0 → ⊥
    none a b h = omega arith
below← true a false b h = lt→ltb 0 (a + b) (omega arith)
below← true a true b h = lt→ltb b a (omega arith)

-- ±a = ±b
level→ : (s : Bool) (a : ℕ) (t : Bool) (b : ℕ) → T (level s a t b) → plus_of s a + minus_of t b ≡ minus_of s a + plus_of t b
level→ false a false b h = let z = eqb→eq a b (and_l (eqb a b) true h) in omega arith
level→ true a true b h = let z = eqb→eq a b (and_l (eqb a b) true h) in omega arith
level→ false a true b h = let z = eqb→eq a b (and_l (eqb a b) (eqb a 0) h) in let y = eqb→eq a 0 (and_r (eqb a b) (eqb a 0) h) in
    omega arith
level→ true a false b h = let z = eqb→eq a b (and_l (eqb a b) (eqb a 0) h) in let y = eqb→eq a 0 (and_r (eqb a b) (eqb a 0) h) in
    omega arith

both_i : (a b c d : ℕ) → a ≡ b → c ≡ d → T (eqb a b && eqb c d)
both_i a b c d p q = and_i (eqb a b) (eqb c d) (eq→eqb p) (eq→eqb q)

level← : (s : Bool) (a : ℕ) (t : Bool) (b : ℕ) → plus_of s a + minus_of t b ≡ minus_of s a + plus_of t b → T (level s a t b)
level← false a false b h = and_i (eqb a b) true (eq→eqb {a = a} {b = b} (omega arith)) tt
level← true a true b h = and_i (eqb a b) true (eq→eqb {a = a} {b = b} (omega arith)) tt
level← false a true b h = both_i a b a 0 (omega arith) (omega arith)
level← true a false b h = both_i a b a 0 (omega arith) (omega arith)

module _ (f : Format) (s : Bool) (m : ℕ) (e : ℤ) (t : Bool) (k : ℕ) (d : ℤ) (p n q r : ℕ) (x : Part f (fin s m e) p n)
    (y : Part f (fin t k d) q r) where
  left : (plus_of s (m * up e * down d) + minus_of t (k * up d * down e)) * one f ≡ (p + r) * (down e * down d)
  left =
      over_add (plus_of s (m * up e * down d)) (minus_of t (k * up d * down e)) p r (down e * down d) (one f)
      (pos_wide f s m e p n (down d) x) (neg_wide f t k d q r (down e) y ∙ ap (λ (w : ℕ). r * w) (mul_comm (down d) (down e)))

  right : (minus_of s (m * up e * down d) + plus_of t (k * up d * down e)) * one f ≡ (n + q) * (down e * down d)
  right =
      over_add (minus_of s (m * up e * down d)) (plus_of t (k * up d * down e)) n q (down e * down d) (one f)
      (neg_wide f s m e p n (down d) x) (pos_wide f t k d q r (down e) y ∙ ap (λ (w : ℕ). q * w) (mul_comm (down d) (down e)))

  fin_lt→ : T (lt (fin s m e) (fin t k d)) → p + r < n + q
  unfolding lt
  fin_lt→ h =
      let z = below→ s (m * up e * down d) t (k * up d * down e) h in
      lt_of_mul-lt-mul_right (down e * down d)
      (subst (λ (w : ℕ). w < (n + q) * (down e * down d)) left
      (subst (λ (w : ℕ). (plus_of s (m * up e * down d) + minus_of t (k * up d * down e)) * one f < w) right
      (mul-lt-mul_of_pos_right z (pow_pos (low f)))))

  fin_lt← : p + r < n + q → T (lt (fin s m e) (fin t k d))
  unfolding lt
  fin_lt← h =
      below← s (m * up e * down d) t (k * up d * down e)
      (lt_of_mul-lt-mul_right (one f)
      (subst (λ (w : ℕ). w < (minus_of s (m * up e * down d) + plus_of t (k * up d * down e)) * one f) (sym left)
      (subst (λ (w : ℕ). (p + r) * (down e * down d) < w) (sym right)
      (mul-lt-mul_of_pos_right h (mul-pos (down_pos e) (down_pos d))))))

  fin_eq→ : T (eq (fin s m e) (fin t k d)) → p + r ≡ n + q
  unfolding eq
  fin_eq→ h =
      eq_of_mul-eq-mul_right (down e * down d) (mul-pos (down_pos e) (down_pos d)) (p + r) (n + q)
      (sym left ∙ ap (λ (w : ℕ). w * one f) (level→ s (m * up e * down d) t (k * up d * down e) h) ∙ right)

  fin_eq← : p + r ≡ n + q → T (eq (fin s m e) (fin t k d))
  unfolding eq
  fin_eq← h =
      level← s (m * up e * down d) t (k * up d * down e)
      (eq_of_mul-eq-mul_right (one f) (pow_pos (low f)) (plus_of s (m * up e * down d) + minus_of t (k * up d * down e))
      (minus_of s (m * up e * down d) + plus_of t (k * up d * down e))
      (left ∙ ap (λ (w : ℕ). w * (down e * down d)) h ∙ sym right))

or_split : (a b : Bool) → T (a || b) → T a ⊎ T b
or_split true b t = inl tt
or_split false b t = inr t

or_l : (a b : Bool) → T a → T (a || b)
or_l true b t = tt
or_l false b t = absurd t

or_r : (a b : Bool) → T b → T (a || b)
or_r true b t = tt
or_r false b t = t

le_is : (x y : Float) → le x y ≡ (lt x y || eq x y)
unfolding le
le_is x y = refl

module _ (f : Format) (x y : Float) (p n q r : ℕ) (a : Part f x p n) (b : Part f y q r) where
  pub lt_part : (T (lt x y) → p + r < n + q) × (p + r < n + q → T (lt x y))
  lt_part = go x y a b
    where
      go : (x y : Float) → Part f x p n → Part f y q r → (T (lt x y) → p + r < n + q) × (p + r < n + q → T (lt x y))
      go nan y a b = absurd a
      go (inf s) y a b = absurd a
      go (fin s m e) nan a b = absurd b
      go (fin s m e) (inf t) a b = absurd b
      go (fin s m e) (fin t k d) a b = (fin_lt→ f s m e t k d p n q r a b, fin_lt← f s m e t k d p n q r a b)

  pub eq_part : (T (eq x y) → p + r ≡ n + q) × (p + r ≡ n + q → T (eq x y))
  eq_part = go x y a b
    where
      go : (x y : Float) → Part f x p n → Part f y q r → (T (eq x y) → p + r ≡ n + q) × (p + r ≡ n + q → T (eq x y))
      go nan y a b = absurd a
      go (inf s) y a b = absurd a
      go (fin s m e) nan a b = absurd b
      go (fin s m e) (inf t) a b = absurd b
      go (fin s m e) (fin t k d) a b = (fin_eq→ f s m e t k d p n q r a b, fin_eq← f s m e t k d p n q r a b)

  pub le_part : (T (le x y) → p + r ≤ n + q) × (p + r ≤ n + q → T (le x y))
  le_part = (there, back)
    where
      there : T (le x y) → p + r ≤ n + q
      there h =
          elim (or_split (lt x y) (eq x y) (subst T (le_is x y) h)) [ inl l ↦ le_of_lt (lt_part.0 l) | inr e ↦ le_of_eq (eq_part.0 e) ]

      back : p + r ≤ n + q → T (le x y)
      back h =
          subst T (sym (le_is x y))
          (elim (eq-or-lt_of_le h) [ inl e ↦ or_r (lt x y) (eq x y) (eq_part.1 e) | inr l ↦ or_l (lt x y) (eq x y) (lt_part.1 l) ])

  -- the tests that fail
  pub not_le_part : T (not (le x y)) → n + q < p + r
  not_le_part t = lt_of_not-le (λ (h : p + r ≤ n + q). T_not (le x y) t (le_part.1 h))

  pub not_lt_part : T (not (lt x y)) → n + q ≤ p + r
  not_lt_part t = le_of_not (λ (h : p + r < n + q). T_not (lt x y) t (lt_part.1 h))
    where
      le_of_not : {a b : ℕ} → (b < a → ⊥) → a ≤ b
      le_of_not {a} {b} k = omega arith

-- ---- by values: two that are not negative
pub le_values : (f : Format) (x y : Float) (a b : ℕ) → HasValue x false a (one f) → HasValue y false b (one f)
    → (T (le x y) → a ≤ b) × (a ≤ b → T (le x y))
le_values f x y a b p q =
    let w = le_part f x y a 0 b 0 (plus_part f x a p) (plus_part f y b q) in
    (λ h. less (w.0 h), λ h. w.1 (more h))
  where
    less : a + 0 ≤ 0 + b → a ≤ b
    less h = omega arith

    more : a ≤ b → a + 0 ≤ 0 + b
    more h = omega arith

pub not_le_values : (f : Format) (x y : Float) (a b : ℕ) → HasValue x false a (one f) → HasValue y false b (one f) → T (not (le x y))
    → b < a
not_le_values f x y a b p q t = lt_of_not-le (λ (h : a ≤ b). T_not (le x y) t ((le_values f x y a b p q).1 h))

-- ---- for f32: no unit apart is equal
level_gap : (a b c d : ℕ) → gap (a + b) (c + d) ≡ 0 → a + b ≡ c + d
level_gap a b c d h = omega arith

gap_level : (a b c d : ℕ) → a + b ≡ c + d → gap (a + b) (c + d) ≡ 0
gap_level a b c d h = omega arith

pub eq_of_apart : (x y : Float) → Units x → Units y → apart x y ≡ 0 → T (eq x y)
eq_of_apart x y a b h = (eq_part binary32 x y (hi x) (lo x) (hi y) (lo y) a b).1 (level_gap (hi x) (lo y) (lo x) (hi y) h)

pub apart_of_eq : (x y : Float) → Units x → Units y → T (eq x y) → apart x y ≡ 0
apart_of_eq x y a b h = gap_level (hi x) (lo y) (lo x) (hi y) ((eq_part binary32 x y (hi x) (lo x) (hi y) (lo y) a b).0 h)

pub apart_comm : (x y : Float) → apart x y ≡ apart y x
apart_comm x y = turn (hi x) (lo y) (lo x) (hi y)
  where
    turn : (a b c d : ℕ) → gap (a + b) (c + d) ≡ gap (d + c) (b + a)
    turn a b c d = omega arith
