-- Whole bounds through f32 operations: what lies from -n to p keeps whole bounds through a sum, a difference, a product, a quotient, a
-- square, a root, a
-- magnitude and a sign flip.
use mathlib.Core.Path.{◌≡◌, refl, sym, ap, ◌∙◌, subst}
use mathlib.Core.Logic.{◌⊎◌, inl, inr}
use mathlib.Core.Bool.{true, false}
use Prim.Native.Nat.{ℕ, zero, suc, ◌+◌, ◌-◌, ◌*◌, ◌^◌, ◌≤◌, ◌<◌, zero-le}
use native.Mathlib.Nat.{le_trans, le_refl, le_of_eq, lt_of_le_of_lt, lt_of_lt_of_le, mul_assoc, mul_left_comm, mul-le-mul, mul-le-mul_right}
use native.Mathlib.Nat.{mul-lt-mul_of_pos_right, mul-pos}
use native.Mathlib.Omega.{arith}
use lib.Dec.{T, lit≤}
use lib.Ieee.{Float, nan, inf, fin, binary32, down, add, sub, mul, div, neg, le, fits}
use lib.Ieee.Exact.{HasValue}
use lib.Ieee.Fits.{add-fits, sub-fits, mul-fits, div-fits, neg-fits}
use lib.Ieee.Scale.{overflow}
use Rattle.numbers.specs.Door.{finite, permits}
use Rattle.numbers.specs.Finite.{magnitude}
use Rattle.numbers.specs.declared.door.Limit.{Limit}
use Rattle.units.specs.Units.{unity, Part, hi, lo, mag, rounded}
use Rattle.units.proofs.Grid.{grid_mono}
use Rattle.units.proofs.Values.{hi_is, lo_is, units_of, one_side, plus_part, mag_parts, part_finite}
use Rattle.units.proofs.Add.{add_part, sub_part, neg_part}
use Rattle.units.proofs.Multiply.{sq_value}
use Rattle.units.proofs.Held.{grid_exact}
use Rattle.units.proofs.Errors.{unity_pos, rounded_mono, rounded_zero}
use Rattle.units.proofs.Order.{le_part}
use Rattle.units.proofs.Whole.{total}
use Rattle.units.proofs.Door.{finite_is, Ends, permitted, permits_part}
use Rattle.units.proofs.Values.{Signed, signed, plus, minus}
use Rattle.units.proofs.Bounds.{Result, mul_most, div_most}
use Rattle.roots.specs.Root.{square_root}
use Rattle.roots.proofs.Laws.{root_fits, root_units, root_lo, root_most}
use Rattle.bounds.specs.Between.{Between}

-- x has the parts i and j
pub made : (n p : ℕ) (x : Float) (i j : ℕ) → T (fits binary32 x) → Part binary32 x i j → j ≤ n * unity → i ≤ p * unity → Between n p x
made n p x i j F h l u =
    record {
      held = F;
      ok = units_of x i j h;
      low = subst (λ (w : ℕ). w ≤ n * unity) (sym (lo_is x i j h)) l;
      high = subst (λ (w : ℕ). w ≤ p * unity) (sym (hi_is x i j h)) u;
    }

pub wider : {n p m q : ℕ} {x : Float} → Between n p x → n ≤ m → p ≤ q → Between m q x
wider {n} {p} {m} {q} {x} b l u =
    record {
      held = b.held;
      ok = b.ok;
      low = le_trans b.low (mul-le-mul_right unity l);
      high = le_trans b.high (mul-le-mul_right unity u);
    }

-- it is a number
pub between_finite : {n p : ℕ} {x : Float} → Between n p x → T (finite x)
between_finite {n} {p} {x} b = subst T (sym (finite_is x)) (part_finite binary32 x (hi x) (lo x) b.ok)

-- ---- rounding keeps a whole bound, and whole numbers of 24 digits do not overflow
small : (k : ℕ) → k < 2 ^ 24 → k * unity < overflow binary32
small k h = lt_of_lt_of_le (mul-lt-mul_of_pos_right h unity_pos) (lit≤ tt)

kept : (a k : ℕ) → k < 2 ^ 24 → a ≤ k * unity → rounded a unity ≤ k * unity
kept a k h l = le_trans (rounded_mono a (k * unity) l) (le_of_eq (grid_exact binary32 k 149 h (small k h)))

fine : (a k : ℕ) → k < 2 ^ 24 → a ≤ k * unity → rounded a unity < overflow binary32
fine a k h l = lt_of_le_of_lt (kept a k h l) (small k h)

-- ---- sums and differences
less : (u a b j p q : ℕ) → a ≤ p * u → b ≤ q * u → a + b - j ≤ (p + q) * u
less u a b j p q h k = omega arith

module _ {n p m q : ℕ} {x y : Float} (a : Between n p x) (b : Between m q y) where
  pub sum_between : n + m < 2 ^ 24 → p + q < 2 ^ 24 → Between (n + m) (p + q) (add binary32 x y)
  sum_between N P =
      let i = hi x + hi y in
      let j = lo x + lo y in
      let I : i - j ≤ (p + q) * unity = less unity (hi x) (hi y) j p q a.high b.high in
      let J : j - i ≤ (n + m) * unity = less unity (lo x) (lo y) i n m a.low b.low in
      made (n + m) (p + q) (add binary32 x y) (rounded (i - j) unity) (rounded (j - i) unity) (add-fits binary32 x y)
      (add_part binary32 x y (hi x) (lo x) (hi y) (lo y) a.ok b.ok (fine (i - j) (p + q) P I) (fine (j - i) (n + m) N J))
      (kept (j - i) (n + m) N J)
      (kept (i - j) (p + q) P I)

  pub difference_between : n + q < 2 ^ 24 → p + m < 2 ^ 24 → Between (n + q) (p + m) (sub binary32 x y)
  difference_between N P =
      let i = hi x + lo y in
      let j = lo x + hi y in
      let I : i - j ≤ (p + m) * unity = less unity (hi x) (lo y) j p m a.high b.low in
      let J : j - i ≤ (n + q) * unity = less unity (lo x) (hi y) i n q a.low b.high in
      made (n + q) (p + m) (sub binary32 x y) (rounded (i - j) unity) (rounded (j - i) unity) (sub-fits binary32 x y)
      (sub_part binary32 x y (hi x) (lo x) (hi y) (lo y) a.ok b.ok (fine (i - j) (p + m) P I) (fine (j - i) (n + q) N J))
      (kept (j - i) (n + q) N J)
      (kept (i - j) (p + m) P I)

-- ---- what is not negative has no lower part
nothing : (i u : ℕ) → i ≤ 0 * u → i ≡ 0
nothing i u h = omega arith

-- ---- the two parts together: one of them is nothing
together : (i j k : ℕ) → (i ≡ 0) ⊎ (j ≡ 0) → i ≤ k → j ≤ k → i + j ≤ k
together i j k (inl e) h g = omega arith
together i j k (inr e) h g = omega arith

both_parts : {k : ℕ} {x : Float} → Between k k x → hi x + lo x ≤ k * unity
both_parts {k} {x} b = together (hi x) (lo x) (k * unity) (one_side binary32 x (hi x) (lo x) b.ok) b.high b.low

-- ---- products and quotients
pub result_between : (k a : ℕ) (x : Float) → T (fits binary32 x) → a ≤ k * unity → Result binary32 x a → Between k k x
result_between k a x F h r =
    made k k x r.p r.n F r.part (second r.p r.n a (k * unity) r.most h) (first r.p r.n a (k * unity) r.most h)
  where
    first : (i j m u : ℕ) → i + j ≤ m → m ≤ u → i ≤ u
    first i j m u h k = omega arith

    second : (i j m u : ℕ) → i + j ≤ m → m ≤ u → j ≤ u
    second i j m u h k = omega arith

module _ {k j : ℕ} {x y : Float} (a : Between k k x) (b : Between j j y) (K : k * j < 2 ^ 24) where
  pub product_between : Between (k * j) (k * j) (mul binary32 x y)
  product_between = by_sign (signed binary32 y (hi y) (lo y) b.ok)
    where
      exact : rounded (k * j * unity) unity ≡ k * j * unity
      exact = grid_exact binary32 (k * j) 149 K (small (k * j) K)

      regrouped : (k j u : ℕ) → k * u * (j * u) ≡ k * j * u * u
      regrouped k j u = simp (mul_assoc, mul_left_comm)

      by_sign : Signed binary32 y (hi y) (lo y) → Between (k * j) (k * j) (mul binary32 x y)
      by_sign (plus v e) =
          result_between (k * j) (k * j * unity) (mul binary32 x y) (mul-fits binary32 x y) (le_refl (k * j * unity))
          (mul_most binary32 x y false (hi x) (lo x) (hi y) (k * unity) (j * unity) (k * j * unity) a.ok v (both_parts a) b.high exact
          (small (k * j) K) (le_of_eq (regrouped k j unity)))
      by_sign (minus v e) =
          result_between (k * j) (k * j * unity) (mul binary32 x y) (mul-fits binary32 x y) (le_refl (k * j * unity))
          (mul_most binary32 x y true (hi x) (lo x) (lo y) (k * unity) (j * unity) (k * j * unity) a.ok v (both_parts a) b.low exact
          (small (k * j) K) (le_of_eq (regrouped k j unity)))

-- k times d, divided by d
module _ (k d : ℕ) {x : Float} (y : Float) (a : Between (k * d) (k * d) x) (v : HasValue y false (d * unity) unity) (D : 0 < d)
    (K : k < 2 ^ 24) where
  pub share_between : Between k k (div binary32 x y)
  share_between =
      result_between k (k * unity) (div binary32 x y) (div-fits binary32 x y) (le_refl (k * unity))
      (div_most binary32 x y false (hi x) (lo x) (d * unity) (k * d * unity) (k * unity) a.ok v (mul-pos D unity_pos) (both_parts a)
      (grid_exact binary32 k 149 K (small k K)) (small k K) (le_of_eq (regrouped k d unity)))
    where
      regrouped : (k d u : ℕ) → k * d * u * u ≡ k * u * (d * u)
      regrouped k d u = simp (mul_assoc, mul_left_comm)

-- ---- a square is not negative
module _ {k : ℕ} {x : Float} (b : Between k k x) (K : k * k < 2 ^ 24) where
  pub square_between : Between 0 (k * k) (mul binary32 x x)
  square_between =
      let w = hi x + lo x in
      let W : w * w ≤ k * unity * (k * unity) = mul-le-mul (both_parts b) (both_parts b) in
      let L : w * w * unity ≤ k * k * unity * (unity * unity) = le_trans (mul-le-mul_right unity W) (le_of_eq (regrouped k unity)) in
      let G : rounded (w * w) (unity * unity) ≤ k * k * unity =
      le_trans (grid_mono binary32 (w * w) (unity * unity) (k * k * unity) unity (mul-pos unity_pos unity_pos) unity_pos L)
      (le_of_eq (grid_exact binary32 (k * k) 149 K (small (k * k) K))) in
      let v = sq_value binary32 x (hi x) (lo x) b.ok (lt_of_le_of_lt G (small (k * k) K)) in
      made 0 (k * k) (mul binary32 x x) (rounded (w * w) (unity * unity)) 0 (mul-fits binary32 x x)
      (plus_part binary32 (mul binary32 x x) (rounded (w * w) (unity * unity)) v) zero-le G
    where
      regrouped : (k u : ℕ) → k * u * (k * u) * u ≡ k * k * u * (u * u)
      regrouped k u = simp (mul_assoc, mul_left_comm)

-- ---- without its sign, and with the other
magnitude_fits : (x : Float) → T (fits binary32 x) → T (fits binary32 (magnitude x))
unfolding fits magnitude
magnitude_fits nan F = tt
magnitude_fits (inf s) F = tt
magnitude_fits (fin s zero e) F = F
magnitude_fits (fin s (suc m) e) F = F

magnitude_part : (x : Float) (p n : ℕ) → Part binary32 x p n → Part binary32 (magnitude x) (p + n) 0
unfolding magnitude
magnitude_part nan p n h = absurd h
magnitude_part (inf s) p n h = absurd h
magnitude_part (fin false m e) p n h = let z : n ≡ 0 = h.1 in (h.0 ∙ ap (λ (w : ℕ). w * down e) (sym (right p n z)), refl)
  where
    right : (p n : ℕ) → n ≡ 0 → p + n ≡ p
    right p n z = omega arith
magnitude_part (fin true m e) p n h = let z : p ≡ 0 = h.1 in (h.0 ∙ ap (λ (w : ℕ). w * down e) (sym (left p n z)), refl)
  where
    left : (p n : ℕ) → p ≡ 0 → p + n ≡ n
    left p n z = omega arith

pub magnitude_between : {k : ℕ} {x : Float} → Between k k x → Between 0 k (magnitude x)
magnitude_between {k} {x} b =
    made 0 k (magnitude x) (hi x + lo x) 0 (magnitude_fits x b.held) (magnitude_part x (hi x) (lo x) b.ok) zero-le (both_parts b)

pub flip_between : {n p : ℕ} {x : Float} → Between n p x → Between p n (neg x)
flip_between {n} {p} {x} b =
    made p n (neg x) (lo x) (hi x) (neg-fits binary32 x b.held) (neg_part binary32 x (hi x) (lo x) b.ok) b.high b.low

-- ---- of two that are not negative, the magnitude of the difference is at most the sum
-- the larger less the smaller, rounded, and nothing besides
less_below_more : (A B k l : ℕ) → k ≡ 0 → l ≡ 0
    → rounded (A + l - (k + B)) unity + rounded (k + B - (A + l)) unity + rounded (k + l - (A + B)) unity
    ≤ 0 + rounded (A + B - (k + l)) unity
less_below_more A B k l e d = by_order (total (A + l) (k + B))
  where
    none : rounded (k + l - (A + B)) unity ≡ 0
    none = rounded_zero (k + l - (A + B)) (omega (arith, e, d))

    first : (u v w z : ℕ) → u ≡ 0 → v ≤ z → w ≡ 0 → u + v + w ≤ 0 + z
    first u v w z a b c = omega arith

    second : (u v w z : ℕ) → u ≤ z → v ≡ 0 → w ≡ 0 → u + v + w ≤ 0 + z
    second u v w z a b c = omega arith

    by_order : (A + l ≤ k + B) ⊎ (k + B ≤ A + l)
        → rounded (A + l - (k + B)) unity + rounded (k + B - (A + l)) unity + rounded (k + l - (A + B)) unity
        ≤ 0 + rounded (A + B - (k + l)) unity
    by_order (inl h) =
        first _ _ _ _ (rounded_zero (A + l - (k + B)) (omega (arith, h)))
        (rounded_mono (k + B - (A + l)) (A + B - (k + l)) (omega (arith, e, d, h))) none
    by_order (inr h) =
        second _ _ _ _ (rounded_mono (A + l - (k + B)) (A + B - (k + l)) (omega (arith, e, d, h)))
        (rounded_zero (k + B - (A + l)) (omega (arith, h))) none

module _ {p q : ℕ} {x y : Float} (a : Between 0 p x) (b : Between 0 q y) (K : p + q < 2 ^ 24) where
  pub difference_below_sum : T (le (magnitude (sub binary32 x y)) (add binary32 x y))
  difference_below_sum =
      let k = nothing (lo x) unity a.low in
      let l = nothing (lo y) unity b.low in
      (le_part binary32 (magnitude (sub binary32 x y)) (add binary32 x y) _ 0 _ _
      (magnitude_part (sub binary32 x y) _ _
      (sub_part binary32 x y (hi x) (lo x) (hi y) (lo y) a.ok b.ok
      (held (hi x + lo y - (lo x + hi y)) (one (hi x) (hi y) (lo x) (lo y) unity p q a.high l))
      (held (lo x + hi y - (hi x + lo y)) (other (hi x) (hi y) (lo x) (lo y) unity p q b.high k))))
      (add_part binary32 x y (hi x) (lo x) (hi y) (lo y) a.ok b.ok
      (held (hi x + hi y - (lo x + lo y)) (less unity (hi x) (hi y) (lo x + lo y) p q a.high b.high))
      (held (lo x + lo y - (hi x + hi y)) (neither (hi x) (hi y) (lo x) (lo y) unity p q k l)))
      ).1 (less_below_more (hi x) (hi y) (lo x) (lo y) k l)
    where
      held : (w : ℕ) → w ≤ (p + q) * unity → rounded w unity < overflow binary32
      held w = fine w (p + q) K

      one : (A B k l u p q : ℕ) → A ≤ p * u → l ≡ 0 → A + l - (k + B) ≤ (p + q) * u
      one A B k l u p q h e = omega arith

      other : (A B k l u p q : ℕ) → B ≤ q * u → k ≡ 0 → k + B - (A + l) ≤ (p + q) * u
      other A B k l u p q h e = omega arith

      neither : (A B k l u p q : ℕ) → k ≡ 0 → l ≡ 0 → k + l - (A + B) ≤ (p + q) * u
      neither A B k l u p q e d = omega arith

-- ---- a root: z is the f32 b, and a is at most its square
module _ {a : ℕ} {x : Float} (h : Between 0 a x) (b : ℕ) (z : Float) (Z : T (fits binary32 z)) (is : mag z ≡ b * unity)
    (enough : a ≤ b * b) where
  pub root_between : Between 0 b (square_root x)
  root_between =
      let l : lo x ≡ 0 = nothing (lo x) unity h.low in
      let m : mag x ≤ a * unity = le_trans (le_of_eq (mag_parts x)) (alone (hi x) (lo x) (a * unity) l h.high) in
      let s : mag x * unity ≤ b * unity * (b * unity) =
      le_trans (mul-le-mul_right unity m)
      (le_trans (mul-le-mul_right unity (mul-le-mul_right unity enough)) (le_of_eq (regrouped b unity))) in
      let r : mag (square_root x) ≤ mag z = root_most x z h.held l Z (subst (λ (w : ℕ). mag x * unity ≤ w * w) (sym is) s) in
      record {
        held = root_fits x h.held;
        ok = root_units x h.held (between_finite h);
        low = le_trans (le_of_eq (root_lo x h.held l)) zero-le;
        high =
            le_trans (part (hi (square_root x)) (lo (square_root x)) (mag (square_root x)) (mag_parts (square_root x)))
            (le_trans r (le_of_eq is));
      }
    where
      alone : (i j k : ℕ) → j ≡ 0 → i ≤ k → i + j ≤ k
      alone i j k e h = omega arith

      regrouped : (b u : ℕ) → b * b * u * u ≡ b * u * (b * u)
      regrouped b u = simp (mul_assoc, mul_left_comm)

      part : (i j m : ℕ) → m ≡ i + j → i ≤ m
      part i j m e = omega arith

-- ---- from the door, and back to a table
module _ (l : Limit) (p n q : ℕ) (e : Ends l p n q 0) (N Q : ℕ) (below : n ≤ N * unity) (above : q ≤ Q * unity) (x : Float) where
  pub through_the_door : T (fits binary32 x) → T (permits l x) → Between N Q x
  through_the_door F h =
      let w = permitted l p n q 0 e x F h in
      let s = one_side binary32 x (hi x) (lo x) w.single.ok in
      record {
        held = F;
        ok = w.single.ok;
        low = le_trans (lower (hi x) (lo x) s w.from) below;
        high = le_trans (upper (hi x) (lo x) s w.to) above;
      }
    where
      lower : (i j : ℕ) → (i ≡ 0) ⊎ (j ≡ 0) → p + j ≤ n + i → j ≤ n
      lower i j (inl z) h = omega arith
      lower i j (inr z) h = omega arith

      upper : (i j : ℕ) → (i ≡ 0) ⊎ (j ≡ 0) → i + 0 ≤ j + q → i ≤ q
      upper i j (inl z) h = omega arith
      upper i j (inr z) h = omega arith

module _ (l : Limit) (n q : ℕ) (e : Ends l 0 n q 0) {N Q : ℕ} (below : N * unity ≤ n) (above : Q * unity ≤ q) {x : Float} where
  pub in_the_table : Between N Q x → T (permits l x)
  in_the_table b =
      permits_part l 0 n q 0 e x (hi x) (lo x) b.ok
      (from (hi x) (lo x) (le_trans b.low below)) (to (hi x) (lo x) (le_trans b.high above))
    where
      from : (i j : ℕ) → j ≤ n → 0 + j ≤ n + i
      from i j h = omega arith

      to : (i j : ℕ) → i ≤ q → i + 0 ≤ j + q
      to i j h = omega arith
