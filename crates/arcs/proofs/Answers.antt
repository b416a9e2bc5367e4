-- What the functions on f32 answer is what `How` says, inside the table and outside it. Assumes nothing.
use Rattle.std.specs.Prelude.{◌≡◌, ℕ, ◌<◌, ◌≤◌, Bool, true, false, cond, ◌&&◌, T, ltb, leb}
use mathlib.Core.Path.{refl, sym, ap, ap₂, ◌∙◌, subst, subst₂}
use mathlib.Core.Bool.{true≢false}
use native.Mathlib.Omega.{arith}
use lib.Dec.{leb→le, le→leb}
use lib.Ieee.{Float, binary32, units, fits, of_bits, to_bits}
use lib.Ieee.Exact.{HasValue}
use lib.Ieee.Fits.{and_i, and_l, and_r}
use Rattle.numbers.specs.Door.{finite, permits}
use Rattle.numbers.specs.Limits.{arc_cosine_argument}
use Rattle.numbers.specs.Told.{choose}
use Rattle.units.specs.Units.{mag, unity}
use Rattle.units.specs.Patterns.{val, sign_set, bare}
use Rattle.units.proofs.Values.{mag_is}
use Rattle.units.proofs.Patterns.{bits_val}
use Rattle.units.proofs.PatternOrder.{val_lt, val_le, val_le_back, val_ltb}
use Rattle.units.proofs.Bits.{mag_bare, bare_lt}
use Rattle.arcs.specs.How.{Sorted, angle, smaller, larger, ratio, angle_of, in_radians, side, inside_arc_cosine, arc_cosine, finite_atan2}
use Rattle.arcs.specs.How.{Proper, digits, upright, upright_most, atan2}
use Rattle.arcs.specs.Wedges.{sign_bit, ArcCosineOf, Atan2Of}
use Rattle.arcs.proofs.SignBits.{sign_bits}
use Rattle.arcs.proofs.Ratios.{smaller_le, larger_x, larger_y}
use Rattle.arcs.proofs.ArcBand.{permitted_finite, at_most_one, side_finite, few_digits}
use Rattle.arcs.proofs.Atan2Band.{zero_angle}
use Rattle.arcs.proofs.Bands.{chosen, inside_is, finite_atan2_is, arc_cosine_band, atan2_band}

-- ---- atan2: two sides, sorted
sorted_of : (u v : Float) (m n : ℕ) → HasValue u false m unity → HasValue v false n unity → m ≤ n → 0 < n → Sorted u v
sorted_of u v m n hu hv l p =
    let eu = mag_is u false m hu in
    let ev = mag_is v false n hv in
    record {
      first = subst (λ (k : ℕ). HasValue u false k unity) (sym eu) hu;
      second = subst (λ (k : ℕ). HasValue v false k unity) (sym ev) hv;
      order = subst₂ ◌≤◌ (sym eu) (sym ev) l;
      some = subst (λ (k : ℕ). 0 < k) (sym ev) p;
    }

-- the patterns have the order of their numbers
bits_mag : (b : ℕ) → b < 2139095040 → mag (of_bits binary32 b) ≡ val b
bits_mag b h = mag_is (of_bits binary32 b) false (val b) (bits_val b h)

in_units : (s : Bool) (i j : ℕ) → angle (ltb i j) s (ratio (val (smaller i j)) (val (larger i j))) ≡ angle_of s (val i) (val j)
in_units s i j = go (ltb i j) (ltb (val i) (val j)) (sym (val_ltb i j))
  where
    go : (p q : Bool) → p ≡ q
        → angle p s (ratio (val (cond p i j)) (val (cond p j i))) ≡ angle q s (ratio (cond q (val i) (val j)) (cond q (val j) (val i)))
    go true true e = refl
    go false false e = refl
    go true false e = absurd (true≢false e)
    go false true e = absurd (true≢false (sym e))

pub patterns_lt : (i j : ℕ) → i < 2139095040 → j < 2139095040 → (smaller i j < 2139095040) × (larger i j < 2139095040)
patterns_lt i j h k = go (ltb i j)
  where
    go : (b : Bool) → (cond b i j < 2139095040) × (cond b j i < 2139095040)
    go true = (h, k)
    go false = (k, h)

pub patterns_sorted : (i j u v : ℕ) → i < 2139095040 → j < 2139095040 → 0 < v → u ≡ smaller i j → v ≡ larger i j
    → Sorted (of_bits binary32 u) (of_bits binary32 v)
patterns_sorted i j u v h k p eu ev =
    let l = patterns_lt i j h k in
    subst₂ (λ (m n : ℕ). Sorted (of_bits binary32 m) (of_bits binary32 n)) (sym eu) (sym ev)
    (sorted_of (of_bits binary32 (smaller i j)) (of_bits binary32 (larger i j)) (val (smaller i j)) (val (larger i j))
    (bits_val (smaller i j) l.0) (bits_val (larger i j) l.1) (val_le (smaller i j) (larger i j) (smaller_le i j))
    (val_lt 0 (larger i j) (subst (λ (n : ℕ). 0 < n) ev p)))

module _ (y x : Float) (fy : T (fits binary32 y)) (fx : T (fits binary32 x)) (h : T (finite y && finite x)) where
  abbrev bx : ℕ
  bx = to_bits binary32 x

  abbrev by : ℕ
  by = to_bits binary32 y

  of_bits_lem : atan2 y x ≡ in_radians (sign_set by) (angle_of (sign_set bx) (val (bare bx)) (val (bare by)))
  unfolding finite_atan2
  of_bits_lem =
      let hy = and_l (finite y) (finite x) h in
      let hx = and_r (finite y) (finite x) h in
      finite_atan2_is y x h
      ∙ ap₂ (λ (m n : ℕ). in_radians (sign_bit y) (angle_of (sign_bit x) m n)) (mag_bare x fx hx) (mag_bare y fy hy)
      ∙ ap₂ (λ (s t : Bool). in_radians s (angle_of t (val (bare bx)) (val (bare by)))) (sign_bits y fy hy) (sign_bits x fx hx)

  pub atan2_is : (u v w a : ℕ) (r : Float) → u ≡ smaller (bare bx) (bare by) → v ≡ larger (bare bx) (bare by) → u < 2139095040
      → v < 2139095040 → w ≡ ratio (mag (of_bits binary32 u)) (mag (of_bits binary32 v))
      → a ≡ angle (ltb (bare bx) (bare by)) (sign_set bx) w → r ≡ in_radians (sign_set by) a → r ≡ atan2 y x
  atan2_is u v w a r eu ev lu lv ew ea er =
      er
      ∙ ap (in_radians (sign_set by))
      (ea ∙ ap (angle (ltb (bare bx) (bare by)) (sign_set bx)) (ew ∙ ap₂ ratio (bits_mag u lu ∙ ap val eu) (bits_mag v lv ∙ ap val ev))
      ∙ in_units (sign_set bx) (bare bx) (bare by))
      ∙ sym of_bits_lem

  pub atan2_zero : (v a : ℕ) (r : Float) → v ≡ larger (bare bx) (bare by) → v ≡ 0 → a ≡ cond (sign_set bx) 13176795 0
      → r ≡ in_radians (sign_set by) a → r ≡ atan2 y x
  atan2_zero v a r ev z ea er =
      let i : bare bx ≡ 0 = none (bare bx) (larger_x (bare bx) (bare by)) in
      let j : bare by ≡ 0 = none (bare by) (larger_y (bare bx) (bare by)) in
      er ∙ ap (in_radians (sign_set by))
      (ea ∙ sym (zero_angle (sign_set bx)) ∙ sym (ap₂ (λ (m n : ℕ). angle_of (sign_set bx) (val m) (val n)) i j)) ∙ sym of_bits_lem
    where
      none : (n : ℕ) → n ≤ larger (bare bx) (bare by) → n ≡ 0
      none n h = let e : larger (bare bx) (bare by) ≡ 0 = sym ev ∙ z in omega arith

-- ---- arc cosine
pub root_finite : (q s : Float) → T (fits binary32 q) → T (permits arc_cosine_argument q) → s ≡ side q → T (finite s && finite q)
root_finite q s f h e = and_i (finite s) (finite q) (subst (λ (z : Float). T (finite z)) (sym e) (side_finite q f h)) (permitted_finite q h)

not_chosen : (b : Bool) (x y : Float) → (T b → ⊥) → choose b x y ≡ y
not_chosen true x y n = absurd (n tt)
not_chosen false x y n = refl

-- i is q's pattern without its sign, p the number of that pattern
module _ (q : Float) (f : T (fits binary32 q)) (h : T (permits arc_cosine_argument q)) where
  abbrev i : ℕ
  i = bare (to_bits binary32 q)

  abbrev p : Float
  p = of_bits binary32 i

  i_lt : i < 2139095040
  i_lt = bare_lt q f (permitted_finite q h)

  pub pattern_mag : mag p ≡ mag q
  pattern_mag = bits_mag i i_lt ∙ sym (mag_bare q f (permitted_finite q h))

  pub pattern_proper : Proper p
  pattern_proper = record {
    has = subst (λ (n : ℕ). HasValue p false n unity) (sym (bits_mag i i_lt)) (bits_val i i_lt);
    most = subst (λ (n : ℕ). n ≤ unity) (sym pattern_mag) (at_most_one q f h);
  }

  -- 1060372480 is the pattern of 45/64
  pub pattern_few : i ≤ 1060372480 → mag q ≤ upright_most
  pattern_few l = subst (λ (n : ℕ). n ≤ upright_most) (sym (mag_bare q f (permitted_finite q h))) (val_le i 1060372480 l)

  pub upright_lt : (w : ℕ) → i ≤ 1060372480 → w ≡ digits (mag p) → w < 23855104
  upright_lt w l e = subst (λ (n : ℕ). n < 23855104) (sym (e ∙ ap digits pattern_mag)) (few_digits (mag q) (pattern_few l))

  abbrev short : Float
  short = in_radians false (upright (sign_bit q) (digits (mag q)))

  pub upright_is : (w a : ℕ) (r : Float) → i ≤ 1060372480 → w ≡ digits (mag p) → a ≡ upright (sign_set (to_bits binary32 q)) w
      → r ≡ in_radians false a → r ≡ arc_cosine q
  unfolding inside_arc_cosine
  upright_is w a r l ew ea er =
      er ∙ ap (in_radians false) (ea ∙ ap₂ upright (sym (sign_bits q f (permitted_finite q h))) (ew ∙ ap digits pattern_mag))
      ∙ sym (chosen (leb (mag q) upright_most) short (finite_atan2 (side q) q) (le→leb (mag q) upright_most (pattern_few l)))
      ∙ sym (inside_is q h)

  pub root_is : (s r : Float) → 1060372480 < i → s ≡ side q → r ≡ atan2 s q → r ≡ arc_cosine q
  unfolding inside_arc_cosine
  root_is s r l e k =
      k ∙ finite_atan2_is s q (root_finite q s f h e) ∙ ap (λ (z : Float). finite_atan2 z q) e
      ∙ sym (not_chosen (leb (mag q) upright_most) short (finite_atan2 (side q) q) (λ t. no l (back (leb→le (mag q) upright_most t))))
      ∙ sym (inside_is q h)
    where
      no : 1060372480 < i → i ≤ 1060372480 → ⊥
      no a b = omega arith

      back : mag q ≤ upright_most → i ≤ 1060372480
      back g = val_le_back i 1060372480 (subst (λ (n : ℕ). n ≤ upright_most) (mag_bare q f (permitted_finite q h)) g)

pub either_le : (s : Bool) {a b k : ℕ} → a ≤ k → b ≤ k → cond s a b ≤ k
either_le true h g = h
either_le false h g = g

-- ---- the cores
pub zero_is : of_bits binary32 0 ≡ in_radians false 0
unfolding of_bits in_radians units
zero_is = refl

otherwise : (b : Bool) (x y : Float) → b ≡ false → choose b x y ≡ y
otherwise b x y e = ap (λ (t : Bool). choose t x y) e

pub outside_is : (q : Float) → permits arc_cosine_argument q ≡ false → of_bits binary32 0 ≡ arc_cosine q
unfolding arc_cosine
outside_is q e = zero_is ∙ sym (otherwise (permits arc_cosine_argument q) (inside_arc_cosine q) (in_radians false 0) e)

pub not_finite_is : (y x : Float) → (finite y && finite x) ≡ false → of_bits binary32 0 ≡ atan2 y x
unfolding atan2
not_finite_is y x e = zero_is ∙ sym (otherwise (finite y && finite x) (finite_atan2 y x) (in_radians false 0) e)

pub arc_cosine_both : (q r : Float) → T (fits binary32 q) → r ≡ arc_cosine q
    → (r ≡ arc_cosine q) × (T (permits arc_cosine_argument q) → ArcCosineOf q r)
arc_cosine_both q r f e = (e, λ h. subst (λ (a : Float). ArcCosineOf q a) (sym e) (arc_cosine_band q f h))

pub atan2_both : (y x r : Float) → T (fits binary32 y) → T (fits binary32 x) → r ≡ atan2 y x
    → (r ≡ atan2 y x) × (T (finite y && finite x) → Atan2Of y x r)
atan2_both y x r fy fx e = (e, λ h. subst (λ (t : Float). Atan2Of y x t) (sym e) (atan2_band y x fy fx h))
