-- A rounded fraction's parts, at either sign; the parts, the magnitude and the value of a float, each from the other.
use mathlib.Core.Path.{◌≡◌, refl, sym, ap, ◌∙◌, subst}
use mathlib.Core.Logic.{◌⊎◌, inl, inr}
use Prim.Native.Nat.{ℕ, ◌+◌, ◌*◌, ◌/◌, ◌^◌, ◌<◌}
use native.Mathlib.Nat.{mul-div_cancel, mul_right_comm, eq_of_mul-eq-mul_right, add-zero, zero-add}
use native.Mathlib.Omega.{arith}
use mathlib.Core.Bool.{Bool, true, false, true≢false}
use lib.Dec.{T}
use lib.Ieee.{Float, nan, inf, fin, Format, binary32, prec, low, up, down, round}
use lib.Ieee.Fits.{round_is, down_pos}
use lib.Ieee.Exact.{HasValue, units_val}
use lib.Ieee.Order.{drop, kept}
use lib.Ieee.Scale.{grid, overflow, finite}
use Rattle.units.specs.Units.{one, unity, Part, hi, lo, mag, Units}
use Rattle.units.proofs.Grid.{grid_zero, grid_same}

-- the value of `round` at either sign
pub round_value : (f : Format) (s : Bool) (a c : ℕ) → grid f a c < overflow f → HasValue (round f s a c) s (grid f a c) (2 ^ low f)
round_value f s a c h =
    subst (λ (z : Float). HasValue z s (grid f a c) (2 ^ low f)) (sym (round_is f s a c))
    (units_val f s (kept (prec f) (a * 2 ^ low f) c) (drop (prec f) (a * 2 ^ low f) c) h)

-- what has a value is finite, and has it over every denominator
pub value_finite : (x : Float) (s : Bool) (a c : ℕ) → HasValue x s a c → T (finite x)
value_finite nan s a c h = absurd h
value_finite (inf t) s a c h = absurd h
value_finite (fin t m e) s a c h = tt

pub value_over : (x : Float) (s : Bool) (a c b d : ℕ) → 0 < c → a * d ≡ b * c → HasValue x s a c → HasValue x s b d
value_over nan s a c b d p h v = v
value_over (inf t) s a c b d p h v = v
value_over (fin t m e) s a c b d p h v = (
  v.0,
  eq_of_mul-eq-mul_right c p (m * up e * d) (b * down e)
      (mul_right_comm (m * up e) d c
      ∙ ap (λ (z : ℕ). z * d) v.1
      ∙ mul_right_comm a (down e) d
      ∙ ap (λ (z : ℕ). z * down e) h
      ∙ mul_right_comm b c (down e)),
)

pub plus_part : (f : Format) (x : Float) (a : ℕ) → HasValue x false a (2 ^ low f) → Part f x a 0
plus_part f nan a h = h
plus_part f (inf s) a h = h
plus_part f (fin false m e) a h = (h.1, refl)
plus_part f (fin true m e) a h = absurd (true≢false h.0)

pub minus_part : (f : Format) (x : Float) (a : ℕ) → HasValue x true a (2 ^ low f) → Part f x 0 a
minus_part f nan a h = h
minus_part f (inf s) a h = h
minus_part f (fin true m e) a h = (h.1, refl)
minus_part f (fin false m e) a h = absurd (true≢false (sym h.0))

-- a rounded positive or negative fraction d / c, where the two parts are x / c and y / c
pub rounded_plus : (f : Format) (d c x y : ℕ) → 0 < c → x ≡ d → y ≡ 0 → grid f x c < overflow f
    → Part f (round f false d c) (grid f x c) (grid f y c)
rounded_plus f d c x y C p q h =
    let z : grid f y c ≡ 0 = ap (λ (w : ℕ). grid f w c) q ∙ grid_zero f c C in
    subst (λ (w : ℕ). Part f (round f false d c) (grid f x c) w) (sym z)
    (subst (λ (w : ℕ). Part f (round f false w c) (grid f x c) 0) p
    (plus_part f (round f false x c) (grid f x c) (round_value f false x c h)))

pub rounded_minus : (f : Format) (d c x y : ℕ) → 0 < c → x ≡ 0 → y ≡ d → grid f y c < overflow f
    → Part f (round f true d c) (grid f x c) (grid f y c)
rounded_minus f d c x y C p q h =
    let z : grid f x c ≡ 0 = ap (λ (w : ℕ). grid f w c) p ∙ grid_zero f c C in
    subst (λ (w : ℕ). Part f (round f true d c) w (grid f y c)) (sym z)
    (subst (λ (w : ℕ). Part f (round f true w c) 0 (grid f y c)) q
    (minus_part f (round f true y c) (grid f y c) (round_value f true y c h)))

-- the same, where a / c is x / v
pub round_at : (f : Format) (a c x v : ℕ) → 0 < c → 0 < v → a * v ≡ x * c → grid f x v < overflow f
    → HasValue (round f false a c) false (grid f x v) (one f)
round_at f a c x v C W p h =
    let E : grid f a c ≡ grid f x v = grid_same f a c x v C W p in
    subst (λ (w : ℕ). HasValue (round f false a c) false w (one f)) E
    (round_value f false a c (subst (λ (w : ℕ). w < overflow f) (sym E) h))

-- the size a / c of a product or quotient, where its parts are x / v and y / v
pub sized_plus : (f : Format) (a c x v y : ℕ) → 0 < c → 0 < v → a * v ≡ x * c → y ≡ 0 → grid f x v < overflow f
    → Part f (round f false a c) (grid f x v) (grid f y v)
sized_plus f a c x v y C W p z h =
    let E : grid f a c ≡ grid f x v = grid_same f a c x v C W p in
    let Z : 0 ≡ grid f y v = sym (ap (λ (w : ℕ). grid f w v) z ∙ grid_zero f v W) in
    subst (λ (w : ℕ). Part f (round f false a c) w (grid f y v)) E
    (subst (λ (w : ℕ). Part f (round f false a c) (grid f a c) w) Z
    (plus_part f (round f false a c) (grid f a c) (round_value f false a c (subst (λ (w : ℕ). w < overflow f) (sym E) h))))

pub sized_minus : (f : Format) (a c x v y : ℕ) → 0 < c → 0 < v → a * v ≡ y * c → x ≡ 0 → grid f y v < overflow f
    → Part f (round f true a c) (grid f x v) (grid f y v)
sized_minus f a c x v y C W p z h =
    let E : grid f a c ≡ grid f y v = grid_same f a c y v C W p in
    let Z : 0 ≡ grid f x v = sym (ap (λ (w : ℕ). grid f w v) z ∙ grid_zero f v W) in
    subst (λ (w : ℕ). Part f (round f true a c) (grid f x v) w) E
    (subst (λ (w : ℕ). Part f (round f true a c) w (grid f a c)) Z
    (minus_part f (round f true a c) (grid f a c) (round_value f true a c (subst (λ (w : ℕ). w < overflow f) (sym E) h))))

-- ---- the parts as functions
pub hi_is : (x : Float) (p n : ℕ) → Part binary32 x p n → hi x ≡ p
unfolding hi
hi_is nan p n h = absurd h
hi_is (inf s) p n h = absurd h
hi_is (fin false m e) p n h = ap (λ (w : ℕ). w / down e) h.0 ∙ mul-div_cancel p (down_pos e)
hi_is (fin true m e) p n h = sym h.1

pub lo_is : (x : Float) (p n : ℕ) → Part binary32 x p n → lo x ≡ n
unfolding lo
lo_is nan p n h = absurd h
lo_is (inf s) p n h = absurd h
lo_is (fin true m e) p n h = ap (λ (w : ℕ). w / down e) h.0 ∙ mul-div_cancel n (down_pos e)
lo_is (fin false m e) p n h = sym h.1

pub units_of : (x : Float) (p n : ℕ) → Part binary32 x p n → Units x
units_of x p n h =
    subst (λ (w : ℕ). Part binary32 x w (lo x)) (sym (hi_is x p n h)) (subst (λ (w : ℕ). Part binary32 x p w) (sym (lo_is x p n h)) h)

pub one_side : (f : Format) (x : Float) (p n : ℕ) → Part f x p n → (p ≡ 0) ⊎ (n ≡ 0)
one_side f nan p n h = absurd h
one_side f (inf s) p n h = absurd h
one_side f (fin false m e) p n h = inr h.1
one_side f (fin true m e) p n h = inl h.1

pub mag_is : (x : Float) (s : Bool) (a : ℕ) → HasValue x s a unity → mag x ≡ a
unfolding mag
mag_is nan s a h = absurd h
mag_is (inf t) s a h = absurd h
mag_is (fin t m e) s a h = ap (λ (z : ℕ). z / down e) h.1 ∙ mul-div_cancel a (down_pos e)

-- the magnitude is the two parts together
pub mag_parts : (x : Float) → mag x ≡ hi x + lo x
unfolding mag hi lo
mag_parts nan = refl
mag_parts (inf s) = refl
mag_parts (fin false m e) = sym (add-zero (m * up e * unity / down e))
mag_parts (fin true m e) = sym (zero-add (m * up e * unity / down e))

-- ---- a float by its sign and its parts
pub data Signed (f : Format) (x : Float) (p n : ℕ) : Type 0 where
  plus : HasValue x false p (one f) → n ≡ 0 → Signed f x p n
  minus : HasValue x true n (one f) → p ≡ 0 → Signed f x p n

pub signed : (f : Format) (x : Float) (p n : ℕ) → Part f x p n → Signed f x p n
signed f nan p n h = absurd h
signed f (inf s) p n h = absurd h
signed f (fin false m e) p n h = plus (refl, h.0) h.1
signed f (fin true m e) p n h = minus (refl, h.0) h.1

-- what has a positive part is not negative
pub positive_value : (f : Format) (x : Float) (p n : ℕ) → Part f x p n → 0 < p → HasValue x false p (one f)
positive_value f nan p n h g = absurd h
positive_value f (inf s) p n h g = absurd h
positive_value f (fin false m e) p n h g = (refl, h.0)
positive_value f (fin true m e) p n h g = absurd (none p h.1 g)
  where
    none : (a : ℕ) → a ≡ 0 → 0 < a → ⊥
    none a e g = omega arith

pub part_finite : (f : Format) (x : Float) (p n : ℕ) → Part f x p n → T (finite x)
part_finite f nan p n h = absurd h
part_finite f (inf s) p n h = absurd h
part_finite f (fin s m e) p n h = tt
