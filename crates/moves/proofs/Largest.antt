-- The largest of six roots is the root of the largest: the root keeps the order, and of equal roots there is one. So a longest distance
-- takes one root.
-- It holds of every float that is not below zero, NaN and infinity included, and no sum of squares is below zero.
use Rattle.std.specs.Prelude.{◌≡◌, ℕ, zero, suc, ◌+◌, ◌*◌, ◌^◌, ◌<◌, ◌≤◌, Bool, true, false, cond, not, T, ltb, List, [], ◌∷◌, ℤ}
use mathlib.Core.Path.{refl, sym, ap, ap₂, ◌∙◌, subst}
use native.Mathlib.Nat.{le_trans, le_of_eq, le_antisymm}
use native.Mathlib.Omega.{arith}
use lib.Ieee.{Float, nan, inf, fin, binary32, Format, prec, emax, low, up, down, odd, units, round, sum, add, sub, mul, lt, fits}
use lib.Ieee.Fits.{round_is, add-fits}
use lib.Ieee.Exact.{HasValue}
use Rattle.numbers.specs.Told.{choose}
use Rattle.legs.specs.Legs.{Leg, left_front, right_front, left_middle, right_middle, left_rear, right_rear, row, point}
use Rattle.legs.specs.declared.Point.{Point}
use Rattle.legs.specs.Legs.{Points}
use Rattle.moves.specs.Distance.{apart², square_sum, horizontal_sum, distance, horizontal_distance}
use Rattle.moves.specs.Distance.{largest_from, largest, longest_distance, max_horizontal_distance}
use Rattle.numbers.specs.Finite.{greater}
use Rattle.units.specs.Units.{unity, hi}
use Rattle.units.proofs.Values.{plus_part, lo_is, mag_is}
use Rattle.units.proofs.Order.{lt_part, not_lt_part}
use Rattle.units.proofs.Patterns.{one_value}
use Rattle.units.proofs.Held.{single}
use Rattle.roots.specs.Root.{square_root}
use Rattle.roots.proofs.Laws.{Rooted, rooted, root_fits, root_mag_mono}

-- not below zero
abbrev pub upward : Float → Bool
upward nan = true
upward (inf s) = not s
upward (fin s m e) = not s

-- ---- sums of squares
odd_upward : (d q k l : ℕ) → T (upward (odd d false q k l))
unfolding odd
odd_upward d zero k l = tt
odd_upward d (suc q) k l = tt

either_upward : (b : Bool) (x y : Float) → T (upward x) → T (upward y) → T (upward (cond b x y))
either_upward true x y p q = p
either_upward false x y p q = q

units_upward : (f : Format) (q k : ℕ) → T (upward (units f false q k))
unfolding units
units_upward f q k =
    either_upward (ltb (q * 2 ^ k) (2 ^ (low f + suc (emax f)))) (odd (suc (prec f)) false q k (low f)) (inf false)
    (odd_upward (suc (prec f)) q k (low f)) tt

round_upward : (f : Format) (a c : ℕ) → T (upward (round f false a c))
round_upward f a c = subst (λ (x : Float). T (upward x)) (sym (round_is f false a c)) (units_upward f _ _)

pub square_upward : (x : Float) → T (upward (mul binary32 x x))
unfolding mul
square_upward nan = tt
square_upward (inf true) = tt
square_upward (inf false) = tt
square_upward (fin true m e) = round_upward binary32 (m * up e * (m * up e)) (down e * down e)
square_upward (fin false m e) = round_upward binary32 (m * up e * (m * up e)) (down e * down e)

pub add_upward : (x y : Float) → T (upward x) → T (upward y) → T (upward (add binary32 x y))
unfolding add sum
add_upward nan y p q = tt
add_upward (inf true) y p q = absurd p
add_upward (inf false) nan p q = tt
add_upward (inf false) (inf true) p q = absurd q
add_upward (inf false) (inf false) p q = tt
add_upward (inf false) (fin t n d) p q = tt
add_upward (fin true m e) y p q = absurd p
add_upward (fin false m e) nan p q = tt
add_upward (fin false m e) (inf t) p q = q
add_upward (fin false m e) (fin true n d) p q = absurd q
add_upward (fin false m e) (fin false n d) p q = round_upward binary32 (m * up e * down d + n * up d * down e) (down e * down d)

-- ---- two roots
own_value : (m : ℕ) (e : ℤ) → T (fits binary32 (fin false m e)) → HasValue (fin false m e) false (hi (fin false m e)) unity
own_value m e F = (refl, (single (fin false m e) tt F).ok.0)

module _ (x y : Float) (a b : ℕ) (F : T (fits binary32 x)) (G : T (fits binary32 y)) (v : HasValue x false a unity)
    (w : HasValue y false b unity) where
  -- the order, by the test
  above : lt x y ≡ true → a ≤ b
  above e = less ((lt_part binary32 x y a 0 b 0 (plus_part binary32 x a v) (plus_part binary32 y b w)).0 (subst T (sym e) tt))
    where
      less : a + 0 < 0 + b → a ≤ b
      less h = omega arith

  not_above : lt x y ≡ false → b ≤ a
  not_above e =
      more
      (not_lt_part binary32 x y a 0 b 0 (plus_part binary32 x a v) (plus_part binary32 y b w)
      (subst (λ (c : Bool). T (not c)) (sym e) tt))
    where
      more : 0 + b ≤ a + 0 → b ≤ a
      more h = omega arith

  -- one f32 has this value
  level : a ≡ b → x ≡ y
  level e = one_value x y false b F G (subst (λ (c : ℕ). HasValue x false c unity) e v) w

module _ (x y : Float) (a b : ℕ) (F : T (fits binary32 x)) (G : T (fits binary32 y)) (v : HasValue x false a unity)
    (w : HasValue y false b unity) where
  root_mono : a ≤ b → (rooted x a F v).q ≤ (rooted y b G w).q
  root_mono h =
      let r = rooted x a F v in
      let s = rooted y b G w in
      le_trans (le_of_eq (sym (mag_is (square_root x) false r.q r.value)))
      (le_trans
      (root_mag_mono x y F G (lo_is x a 0 (plus_part binary32 x a v)) (lo_is y b 0 (plus_part binary32 y b w))
      (le_trans (le_of_eq (mag_is x false a v)) (le_trans h (le_of_eq (sym (mag_is y false b w))))))
      (le_of_eq (mag_is (square_root y) false s.q s.value)))

module _ (x y : Float) (a b : ℕ) (F : T (fits binary32 x)) (G : T (fits binary32 y)) (v : HasValue x false a unity)
    (w : HasValue y false b unity) where
  abbrev r : Rooted (square_root x) a
  r = rooted x a F v

  abbrev s : Rooted (square_root y) b
  s = rooted y b G w

  finite_greater : square_root (greater x y) ≡ greater (square_root x) (square_root y)
  finite_greater = by_tests (lt x y) (lt (square_root x) (square_root y)) (above x y a b F G v w) (not_above x y a b F G v w)
      (above (square_root x) (square_root y) r.q s.q (root_fits x F) (root_fits y G) r.value s.value)
      (not_above (square_root x) (square_root y) r.q s.q (root_fits x F) (root_fits y G) r.value s.value)
    where
      same : r.q ≤ s.q → s.q ≤ r.q → square_root x ≡ square_root y
      same h k = level (square_root x) (square_root y) r.q s.q (root_fits x F) (root_fits y G) r.value s.value (le_antisymm h k)

      by_tests : (p q : Bool) → (p ≡ true → a ≤ b) → (p ≡ false → b ≤ a) → (q ≡ true → r.q ≤ s.q) → (q ≡ false → s.q ≤ r.q)
          → square_root (choose p y x) ≡ choose q (square_root y) (square_root x)
      by_tests true true f g h k = refl
      by_tests true false f g h k = sym (same (root_mono x y a b F G v w (f refl)) (k refl))
      by_tests false true f g h k = same (h refl) (root_mono y x b a G F w v (g refl))
      by_tests false false f g h k = refl

root_nan : square_root nan ≡ nan
unfolding square_root
root_nan = refl

root_inf : (s : Bool) → square_root (inf s) ≡ inf s
unfolding square_root
root_inf s = refl

-- an infinity is above what has a value, and a NaN is never chosen
below_inf : (x : Float) (a : ℕ) → HasValue x false a unity → greater x (inf false) ≡ inf false
unfolding lt
below_inf nan a v = absurd v
below_inf (inf s) a v = absurd v
below_inf (fin s m e) a v = refl

inf_above : (x : Float) (a : ℕ) → HasValue x false a unity → greater (inf false) x ≡ inf false
unfolding lt
inf_above nan a v = absurd v
inf_above (inf s) a v = absurd v
inf_above (fin s m e) a v = refl

first_nan : (y : Float) → greater nan y ≡ nan
unfolding lt
first_nan y = refl

second_nan : (x : Float) → greater x nan ≡ x
unfolding lt
second_nan nan = refl
second_nan (inf s) = refl
second_nan (fin s m e) = refl

two_infs : greater (inf false) (inf false) ≡ inf false
unfolding lt
two_infs = refl

pub root_of_greater : (x y : Float) → T (fits binary32 x) → T (fits binary32 y) → T (upward x) → T (upward y)
    → square_root (greater x y) ≡ greater (square_root x) (square_root y)
root_of_greater nan y F G p q =
    ap square_root (first_nan y) ∙ root_nan ∙ sym (ap (λ (z : Float). greater z (square_root y)) root_nan ∙ first_nan (square_root y))
root_of_greater (inf true) y F G p q = absurd p
root_of_greater (inf false) nan F G p q =
    ap square_root (second_nan (inf false)) ∙ sym (ap (greater (square_root (inf false))) root_nan ∙ second_nan (square_root (inf false)))
root_of_greater (inf false) (inf true) F G p q = absurd q
root_of_greater (inf false) (inf false) F G p q =
    ap square_root two_infs ∙ root_inf false ∙ sym (ap₂ greater (root_inf false) (root_inf false) ∙ two_infs)
root_of_greater (inf false) (fin true n d) F G p q = absurd q
root_of_greater (inf false) (fin false n d) F G p q =
    let w = own_value n d G in
    let s = rooted (fin false n d) (hi (fin false n d)) G w in
    ap square_root (inf_above (fin false n d) (hi (fin false n d)) w) ∙ root_inf false
    ∙ sym
    (ap (λ (z : Float). greater z (square_root (fin false n d))) (root_inf false)
    ∙ inf_above (square_root (fin false n d)) s.q s.value)
root_of_greater (fin true m e) y F G p q = absurd p
root_of_greater (fin false m e) nan F G p q =
    ap square_root (second_nan (fin false m e))
    ∙ sym (ap (greater (square_root (fin false m e))) root_nan ∙ second_nan (square_root (fin false m e)))
root_of_greater (fin false m e) (inf true) F G p q = absurd q
root_of_greater (fin false m e) (inf false) F G p q =
    let v = own_value m e F in
    let r = rooted (fin false m e) (hi (fin false m e)) F v in
    ap square_root (below_inf (fin false m e) (hi (fin false m e)) v) ∙ root_inf false
    ∙ sym (ap (greater (square_root (fin false m e))) (root_inf false) ∙ below_inf (square_root (fin false m e)) r.q r.value)
root_of_greater (fin false m e) (fin true n d) F G p q = absurd q
root_of_greater (fin false m e) (fin false n d) F G p q =
    finite_greater (fin false m e) (fin false n d) (hi (fin false m e)) (hi (fin false n d)) F G (own_value m e F) (own_value n d G)

-- ---- a row of them
pub record Rootable (x : Float) : Type 0 where
  pub held : T (fits binary32 x)
  pub from_zero : T (upward x)

greater_rootable : (x y : Float) → Rootable x → Rootable y → Rootable (greater x y)
greater_rootable x y p q = by_test (lt x y)
  where
    by_test : (b : Bool) → Rootable (choose b y x)
    by_test true = q
    by_test false = p

-- a row of numbers, and the row of their roots
data Roots : List Float → List Float → Type 0 where
  none : Roots [] []
  more : {y : Float} {ys zs : List Float} → Rootable y → Roots ys zs → Roots (y ∷ ys) (square_root y ∷ zs)

root_of_row : (x : Float) → Rootable x → {ys zs : List Float} → Roots ys zs →
    square_root (largest_from x ys) ≡ largest_from (square_root x) zs
root_of_row x p none = refl
root_of_row x p (more {y = y} {zs = zs} q r) =
    root_of_row (greater x y) (greater_rootable x y p q) r
    ∙ ap (λ (w : Float). largest_from w zs) (root_of_greater x y p.held q.held p.from_zero q.from_zero)

pub root_of_largest : (g : Leg → Float) → ((l : Leg) → Rootable (g l))
    → square_root (largest (row g)) ≡ largest (row (λ l. square_root (g l)))
root_of_largest g p =
    root_of_row (g left_front) (p left_front)
    (more (p right_front) (more (p left_middle) (more (p right_middle) (more (p left_rear) (more (p right_rear) none)))))

-- ---- the two sums
pub square_sum_rootable : (a b : Point) → Rootable (square_sum a b)
unfolding square_sum
square_sum_rootable a b =
    let x = apart² a.x b.x in
    let y = apart² a.y b.y in
    let z = apart² a.z b.z in
    record {
      held = add-fits binary32 (add binary32 x y) z;
      from_zero =
          add_upward (add binary32 x y) z
          (add_upward x y (square_upward (sub binary32 b.x a.x)) (square_upward (sub binary32 b.y a.y)))
          (square_upward (sub binary32 b.z a.z));
    }

pub horizontal_sum_rootable : (a b : Point) → Rootable (horizontal_sum a b)
unfolding horizontal_sum
horizontal_sum_rootable a b =
    let x = apart² a.x b.x in
    let y = apart² a.y b.y in
    record {
      held = add-fits binary32 x y;
      from_zero = add_upward x y (square_upward (sub binary32 b.x a.x)) (square_upward (sub binary32 b.y a.y));
    }

pub longest_is_one_root : (a b : Points) → square_root (largest (row (λ l. square_sum (point a l) (point b l)))) ≡ longest_distance a b
unfolding longest_distance distance
longest_is_one_root a b = root_of_largest (λ l. square_sum (point a l) (point b l)) (λ l. square_sum_rootable (point a l) (point b l))

pub horizontal_is_one_root : (a b : Points)
    → square_root (largest (row (λ l. horizontal_sum (point a l) (point b l)))) ≡ max_horizontal_distance a b
unfolding max_horizontal_distance horizontal_distance
horizontal_is_one_root a b =
    root_of_largest (λ l. horizontal_sum (point a l) (point b l)) (λ l. horizontal_sum_rootable (point a l) (point b l))
