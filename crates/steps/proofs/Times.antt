-- Times as f32: never below zero, never a NaN; of two that are at most 3600 s the later is no less; and a permitted period is a number
-- above zero, so that it can divide.
use Rattle.std.specs.Prelude.{◌≡◌, ℕ, zero, suc, ◌+◌, ◌*◌, ◌^◌, ◌<◌, ◌≤◌, Bool, true, false, cond, ◌&&◌, eqb, ltb, leb, ◌⊎◌}
use mathlib.Core.Path.{refl, sym, ap, ◌∙◌, subst}
use mathlib.Core.Logic.{inl, inr}
use mathlib.Core.Bool.{true≢false}
use native.Mathlib.Nat.{le_trans, le_of_eq, eq-or-lt_of_le, lt_of_le_of_lt, lt_of_lt_of_le, lt_irrefl}
use native.Mathlib.Nat.{mul-le-mul_right, mul_right_comm, mul-one, one-mul, mul-pos, zero-mul}
use native.Mathlib.Omega.{arith}
use borrow.Author.Tests.{ltb-true, leb-true, eqb-true}
use lib.Dec.{lit<, lit≤}
use lib.Ieee.{Float, nan, inf, fin, Format, binary32, prec, emax, low, up, down, odd, units, round, sum, add, div}
use lib.Ieee.Exact.{HasValue}
use lib.Ieee.Back.{round_whole}
use lib.Ieee.Fits.{round_is, down_pos}
use lib.Ieee.Scale.{grid, overflow}
use Rattle.units.specs.Units.{unity, Part}
use Rattle.units.proofs.Whole.{le_or_lt}
use Rattle.units.proofs.Grid.{grid_mono, grid_zero}
use Rattle.units.proofs.Values.{round_value, plus_part, signed, Signed, plus, minus}
use Rattle.units.proofs.Add.{add_value}
use Rattle.units.proofs.Multiply.{div_part}
use Rattle.units.proofs.Held.{grid_exact}
use Rattle.units.proofs.Errors.{unity_pos}
use Rattle.commands.specs.Times.{elapsed_permitted, period_permitted, whole_number, in_seconds, in_nanoseconds}
use Rattle.numbers.proofs.OnePass.{and_left, and_right}
use Rattle.commands.specs.declared.Time.{Time}

-- ---- not below zero, and a number or an infinity
abbrev pub FromZero : Float → Type 0
FromZero nan = ⊥
FromZero (inf s) = s ≡ false
FromZero (fin s m e) = s ≡ false

odd_from_zero : (d q k l : ℕ) → FromZero (odd d false q k l)
unfolding odd
odd_from_zero d zero k l = refl
odd_from_zero d (suc q) k l = refl

units_from_zero : (f : Format) (q k : ℕ) → FromZero (units f false q k)
unfolding units
units_from_zero f q k = by_test (ltb (q * 2 ^ k) (2 ^ (low f + suc (emax f))))
  where
    by_test : (b : Bool) → FromZero (cond b (odd (suc (prec f)) false q k (low f)) (inf false))
    by_test true = odd_from_zero (suc (prec f)) q k (low f)
    by_test false = refl

pub round_from_zero : (a c : ℕ) → FromZero (round binary32 false a c)
round_from_zero a c = subst FromZero (sym (round_is binary32 false a c)) (units_from_zero binary32 _ _)

pub add_from_zero : (x y : Float) → FromZero x → FromZero y → FromZero (add binary32 x y)
unfolding add sum
add_from_zero nan y p q = absurd p
add_from_zero (inf true) y p q = absurd (true≢false p)
add_from_zero (inf false) nan p q = absurd q
add_from_zero (inf false) (inf true) p q = absurd (true≢false q)
add_from_zero (inf false) (inf false) p q = refl
add_from_zero (inf false) (fin t n d) p q = refl
add_from_zero (fin true m e) y p q = absurd (true≢false p)
add_from_zero (fin false m e) nan p q = absurd q
add_from_zero (fin false m e) (inf t) p q = q
add_from_zero (fin false m e) (fin true n d) p q = absurd (true≢false q)
add_from_zero (fin false m e) (fin false n d) p q = round_from_zero (m * up e * down d + n * up d * down e) (down e * down d)

-- a number above zero
pub record Above (x : Float) : Type 0 where
  pub q : ℕ
  pub value : HasValue x false q unity
  pub more : 0 < q

pub div_from_zero : (x y : Float) → FromZero x → Above y → FromZero (div binary32 x y)
unfolding div
div_from_zero nan y p a = absurd p
div_from_zero (inf s) nan p a = absurd a.value
div_from_zero (inf s) (inf t) p a = absurd a.value
div_from_zero (inf true) (fin t n d) p a = absurd (true≢false p)
div_from_zero (inf false) (fin true n d) p a = absurd (true≢false a.value.0)
div_from_zero (inf false) (fin false n d) p a = refl
div_from_zero (fin true m e) y p a = absurd (true≢false p)
div_from_zero (fin false m e) nan p a = absurd a.value
div_from_zero (fin false m e) (inf t) p a = absurd a.value
div_from_zero (fin false m e) (fin true n d) p a = absurd (true≢false a.value.0)
div_from_zero (fin false m e) (fin false n d) p a = by_test (eqb n 0) (eqb-true n 0)
  where
    none : n ≡ 0 → ⊥
    none z =
        let e : 0 ≡ a.q * down d =
        sym (zero-mul unity) ∙ ap (λ (w : ℕ). w * unity) (sym (zero-mul (up d))) ∙ ap (λ (w : ℕ). w * up d * unity) (sym z) ∙ a.value.1 in
        lt_irrefl 0 (subst (λ (w : ℕ). 0 < w) (sym e) (mul-pos a.more (down_pos d)))

    by_test : (b : Bool) → (b ≡ true → n ≡ 0)
        → FromZero
        (cond b
        (cond (eqb m 0) nan (inf false))
        (round binary32 false (m * up e * down d) (n * up d * down e)))
    by_test true z = absurd (none (z refl))
    by_test false z = round_from_zero (m * up e * down d) (n * up d * down e)

from_zero_value : (x : Float) (p n : ℕ) → FromZero x → Part binary32 x p n → HasValue x false p unity
from_zero_value x p n z h = by_sign x z (signed binary32 x p n h)
  where
    by_sign : (y : Float) → FromZero y → Signed binary32 y p n → HasValue y false p unity
    by_sign y z (plus v e) = v
    by_sign nan z (minus v e) = absurd v
    by_sign (inf s) z (minus v e) = absurd v
    by_sign (fin s m d) z (minus v e) = absurd (true≢false (sym v.0 ∙ z))

-- ---- any time
billion : HasValue (whole_number 1000000000) false (1000000000 * unity) unity
unfolding whole_number round
billion = (refl, refl)

billion_above : Above (whole_number 1000000000)
billion_above = record { q = 1000000000 * unity; value = billion; more = lit< tt }

whole_from_zero : (n : ℕ) → FromZero (whole_number n)
unfolding whole_number
whole_from_zero n = round_from_zero n 1

pub seconds_from_zero : (t : Time) → FromZero (in_seconds t)
unfolding in_seconds
seconds_from_zero t =
    add_from_zero
    (whole_number t.seconds)
    (div binary32 (whole_number t.nanoseconds) (whole_number 1000000000))
    (whole_from_zero t.seconds)
    (div_from_zero (whole_number t.nanoseconds) (whole_number 1000000000) (whole_from_zero t.nanoseconds) billion_above)

-- ---- seconds and nanoseconds, in units
-- a whole number of them
seconds_value : (n : ℕ) → n ≤ 2 ^ 24 → HasValue (whole_number n) false (n * unity) unity
unfolding whole_number
seconds_value n h = in_units (round binary32 false n 1) (round_whole binary32 false n h)
  where
    in_units : (x : Float) → HasValue x false n 1 → HasValue x false (n * unity) unity
    in_units nan v = v
    in_units (inf s) v = v
    in_units (fin s m e) v =
        (v.0, ap (λ (w : ℕ). w * unity) (sym (mul-one (m * up e)) ∙ v.1) ∙ mul_right_comm n (down e) unity)

abbrev units_of_nanoseconds : ℕ → ℕ
units_of_nanoseconds n = grid binary32 n 1

at_most_a_billion : (n : ℕ) → n < 1000000000 → units_of_nanoseconds n ≤ 1000000000 * unity
at_most_a_billion n h =
    le_trans
    (grid_mono binary32 n 1 (1000000000 * unity) unity (lit< tt) unity_pos
    (le_trans (mul-le-mul_right unity (less n h)) (le_of_eq (sym (mul-one (1000000000 * unity))))))
    (le_of_eq (grid_exact binary32 1953125 158 (lit< tt) (lit< tt)))
  where
    less : (n : ℕ) → n < 1000000000 → n ≤ 1000000000
    less n h = omega arith

at_least_a_million : (n : ℕ) → 1000000 ≤ n → 1000000 * unity ≤ units_of_nanoseconds n
at_least_a_million n h =
    le_trans (le_of_eq (sym (grid_exact binary32 1000000 149 (lit< tt) (lit< tt))))
    (grid_mono binary32 (1000000 * unity) unity n 1 unity_pos (lit< tt)
    (le_trans (le_of_eq (mul-one (1000000 * unity))) (mul-le-mul_right unity h)))

-- that many nanoseconds, divided by 10^9: at most 1 and, from a millisecond on, at least 2^-10
abbrev part_of_a_second : ℕ → ℕ
part_of_a_second n = grid binary32 (units_of_nanoseconds n) (1000000000 * unity)

at_most_a_second : (n : ℕ) → n < 1000000000 → part_of_a_second n ≤ unity
at_most_a_second n h =
    le_trans
    (grid_mono binary32 (units_of_nanoseconds n) (1000000000 * unity) unity unity (lit< tt) unity_pos
    (le_trans (mul-le-mul_right unity (at_most_a_billion n h)) (lit≤ tt)))
    (le_of_eq (grid_exact binary32 1 149 (lit< tt) (lit< tt)))

at_least_a_millisecond : (n : ℕ) → 1000000 ≤ n → 2 ^ 139 ≤ part_of_a_second n
at_least_a_millisecond n h =
    le_trans (le_of_eq (sym (grid_exact binary32 1 139 (lit< tt) (lit< tt))))
    (grid_mono binary32 (2 ^ 139) unity (units_of_nanoseconds n) (1000000000 * unity) unity_pos (lit< tt)
    (le_trans (lit≤ tt) (mul-le-mul_right unity (at_least_a_million n h))))

whole_value : (n : ℕ) → n < 1000000000 → HasValue (whole_number n) false (units_of_nanoseconds n) unity
unfolding whole_number
whole_value n h = round_value binary32 false n 1 (lt_of_le_of_lt (at_most_a_billion n h) (lit< tt))

part_value : (n : ℕ) → n < 1000000000 → HasValue (div binary32 (whole_number n) (whole_number 1000000000)) false (part_of_a_second n) unity
part_value n h =
    from_zero_value (div binary32 (whole_number n) (whole_number 1000000000)) (part_of_a_second n) _
    (div_from_zero (whole_number n) (whole_number 1000000000) (whole_from_zero n) billion_above)
    (div_part binary32 (whole_number n) (whole_number 1000000000) false (units_of_nanoseconds n) 0 (1000000000 * unity)
    (plus_part binary32 (whole_number n) (units_of_nanoseconds n) (whole_value n h)) billion (lit< tt)
    (lt_of_le_of_lt (at_most_a_second n h) (lit< tt))
    (subst (λ (w : ℕ). w < overflow binary32) (sym (grid_zero binary32 (1000000000 * unity) (lit< tt))) (lit< tt)))

-- ---- a time of at most 3600 s: its two parts in units, and their sum as an f32
abbrev pub whole : Time → ℕ
whole t = t.seconds * unity + part_of_a_second t.nanoseconds

abbrev pub time_units : Time → ℕ
time_units t = grid binary32 (whole t) unity

module _ (t : Time) (few : t.seconds ≤ 3600) (below : t.nanoseconds < 1000000000) where
  whole_most : whole t ≤ 3601 * unity
  whole_most = sum t.seconds (part_of_a_second t.nanoseconds) unity few (at_most_a_second t.nanoseconds below)
    where
      sum : (s b u : ℕ) → s ≤ 3600 → b ≤ u → s * u + b ≤ 3601 * u
      sum s b u h k = let m : s * u ≤ 3600 * u = mul-le-mul_right u h in omega arith

  pub time_most : time_units t ≤ 3601 * unity
  time_most =
      le_trans
      (grid_mono binary32 (whole t) unity (3601 * unity) unity unity_pos unity_pos (mul-le-mul_right unity whole_most))
      (le_of_eq (grid_exact binary32 3601 149 (lit< tt) (lit< tt)))

  pub time_value : HasValue (in_seconds t) false (time_units t) unity
  unfolding in_seconds
  time_value =
      add_value binary32
      (whole_number t.seconds)
      (div binary32 (whole_number t.nanoseconds) (whole_number 1000000000))
      (t.seconds * unity)
      (part_of_a_second t.nanoseconds)
      (seconds_value t.seconds (le_trans few (lit≤ tt)))
      (part_value t.nanoseconds below)
      (lt_of_le_of_lt time_most (lit< tt))

-- ---- the later of two is no less
part_mono : (n m : ℕ) → n ≤ m → part_of_a_second n ≤ part_of_a_second m
part_mono n m h =
    grid_mono binary32 (units_of_nanoseconds n) (1000000000 * unity) (units_of_nanoseconds m) (1000000000 * unity) (lit< tt) (lit< tt)
    (mul-le-mul_right (1000000000 * unity) (grid_mono binary32 n 1 m 1 (lit< tt) (lit< tt) (mul-le-mul_right 1 h)))

module _ (t r : Time) (below : t.nanoseconds < 1000000000) (less : r.nanoseconds < 1000000000)
    (h : in_nanoseconds t ≤ in_nanoseconds r) where
  whole_mono : whole t ≤ whole r
  whole_mono = by_seconds (le_or_lt r.seconds t.seconds)
    where
      in_that_second : (s z n m : ℕ) → s ≡ z → z * 1000000000 + n ≤ s * 1000000000 + m → n ≤ m
      in_that_second s z n m e h = omega (arith, h, e)

      no_earlier : (s z n m : ℕ) → s < z → m < 1000000000 → z * 1000000000 + n ≤ s * 1000000000 + m → ⊥
      no_earlier s z n m g k h = omega (arith, h, k, g)

      later : (s z b c u : ℕ) → z < s → b ≤ u → z * u + b ≤ s * u + c
      later s z b c u g k = let m : (1 + z) * u ≤ s * u = mul-le-mul_right u (omega (arith, g)) in omega (arith, m, k)

      level : (s z b c u : ℕ) → s ≡ z → b ≤ c → z * u + b ≤ s * u + c
      level s z b c u e k = omega (arith, k, ap (λ (w : ℕ). w * u) e)

      by_order : (r.seconds ≡ t.seconds) ⊎ (r.seconds < t.seconds) → whole t ≤ whole r
      by_order (inl e) =
          level r.seconds t.seconds _ _ unity e
          (part_mono t.nanoseconds r.nanoseconds
          (in_that_second r.seconds t.seconds t.nanoseconds r.nanoseconds e h))
      by_order (inr g) = absurd (no_earlier r.seconds t.seconds t.nanoseconds r.nanoseconds g less h)

      by_seconds : (r.seconds ≤ t.seconds) ⊎ (t.seconds < r.seconds) → whole t ≤ whole r
      by_seconds (inl l) = by_order (eq-or-lt_of_le l)
      by_seconds (inr g) =
          later r.seconds t.seconds _ _ unity g (at_most_a_second t.nanoseconds below)

  pub time_mono : time_units t ≤ time_units r
  time_mono = grid_mono binary32 (whole t) unity (whole r) unity unity_pos unity_pos (mul-le-mul_right unity whole_mono)

-- ---- a permitted elapsed time
module _ (t : Time) (h : elapsed_permitted t ≡ true) where
  pub elapsed_few : t.seconds ≤ 3600
  unfolding elapsed_permitted
  elapsed_few = leb-true _ _ (and_left (leb t.seconds 3600) (ltb t.nanoseconds 1000000000) h)

  pub elapsed_below : t.nanoseconds < 1000000000
  unfolding elapsed_permitted
  elapsed_below = ltb-true _ _ (and_right (leb t.seconds 3600) (ltb t.nanoseconds 1000000000) h)

-- ---- a permitted period
module _ (t : Time) (h : period_permitted t ≡ true) where
  record Parts : Type 0 where
    below : t.nanoseconds < 1000000000
    least : 1000000 ≤ t.seconds * 1000000000 + t.nanoseconds
    most : t.seconds * 1000000000 + t.nanoseconds ≤ 60000000000

  parts : Parts
  unfolding period_permitted
  parts =
      let below = ltb t.nanoseconds 1000000000 in
      let least = leb 1000000 (in_nanoseconds t) in
      let most = leb (in_nanoseconds t) 60000000000 in
      let a = and_left (below && least) most h in
      record {
        below = ltb-true _ _ (and_left below least a);
        least = leb-true _ _ (and_right below least a);
        most = leb-true _ _ (and_right (below && least) most h);
      }

  pub period_below : t.nanoseconds < 1000000000
  period_below = parts.below

  seconds_few : t.seconds ≤ 60
  seconds_few = let p = parts in few t.seconds t.nanoseconds p.most
    where
      few : (s n : ℕ) → s * 1000000000 + n ≤ 60000000000 → s ≤ 60
      few s n h = omega arith

  pub period_few : t.seconds ≤ 3600
  period_few = le_trans seconds_few (lit≤ tt)

  whole_least : 2 ^ 139 ≤ whole t
  whole_least = by_seconds t.seconds refl
    where
      more : (b c d : ℕ) → b ≤ c → b ≤ c + d
      more b c d h = omega arith

      also : (a b c : ℕ) → b ≤ c → b ≤ a + c
      also a b c h = omega arith

      by_seconds : (s : ℕ) → t.seconds ≡ s → 2 ^ 139 ≤ s * unity + part_of_a_second t.nanoseconds
      by_seconds zero e =
          also (0 * unity) (2 ^ 139) (part_of_a_second t.nanoseconds)
          (at_least_a_millisecond t.nanoseconds (none t.seconds t.nanoseconds e parts.least))
        where
          none : (s n : ℕ) → s ≡ 0 → 1000000 ≤ s * 1000000000 + n → 1000000 ≤ n
          none s n e h = omega arith
      by_seconds (suc s) e =
          more (2 ^ 139) (suc s * unity) (part_of_a_second t.nanoseconds)
          (le_trans (lit≤ tt) (le_trans (le_of_eq (sym (one-mul unity))) (mul-le-mul_right unity (one_more s))))
        where
          one_more : (s : ℕ) → 1 ≤ suc s
          one_more s = omega arith

  pub period_least : 2 ^ 139 ≤ time_units t
  period_least =
      le_trans
      (le_of_eq (sym (grid_exact binary32 1 139 (lit< tt) (lit< tt))))
      (grid_mono binary32 (2 ^ 139) unity (whole t) unity unity_pos unity_pos (mul-le-mul_right unity whole_least))

  pub period_above : Above (in_seconds t)
  period_above =
      record {
        q = time_units t;
        value = time_value t period_few period_below;
        more = lt_of_lt_of_le (lit< tt) period_least;
      }
