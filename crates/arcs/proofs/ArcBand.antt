-- `inside_arc_cosine` meets document 01's rule for arc cosine, at any e of F * 2 ^ -22 with F from 4 to 16. Assumes nothing.
use Rattle.std.specs.Prelude.{◌≡◌, ℕ, ◌+◌, ◌*◌, ◌^◌, ◌<◌, ◌≤◌, Bool, true, false, T, leb, pos}
use mathlib.Core.Path.{refl, sym, ap, ap₂, ◌∙◌, subst}
use native.Mathlib.Nat.{le_of_eq, le_trans, le_of_mul-le-mul_right, lt_of_mul-lt-mul_right, zero-add, add-zero}
use native.Mathlib.Omega.{arith}
use lib.Dec.{leb→le, lit<, lit≤}
use lib.Ieee.{Float, fin, binary32, size, units, fits}
use Rattle.numbers.specs.Door.{finite, permits}
use Rattle.numbers.specs.Limits.{arc_cosine_argument}
use Rattle.numbers.specs.Told.{choose}
use Rattle.units.specs.Units.{mag, unity}
use Rattle.units.proofs.Errors.{unity_pos}
use Rattle.units.proofs.Door as door
use Rattle.units.proofs.Table.{arc_cosine_argument_ends}
use Rattle.series.specs.Fractions.{Fraction, ◌÷◌, whole, signed, ◌≋◌, value}
use Rattle.series.proofs.Fractions.{same_sym, same_trans}
use Rattle.series.proofs.Values.{value_is, value_over, signed_over}
use Rattle.arc_rows.specs.ArcTangent.{arc_tangent}
use Rattle.arcs.specs.How.{angle, wide, sharp, slope, lean, ratio, angle_of, in_radians, finite_atan2, side, digits, upright}
use Rattle.arcs.specs.How.{upright_most, inside_arc_cosine}
use Rattle.arcs.specs.Wedges.{sign_bit, ArcCosine}
use Rattle.arcs.proofs.Places.{G, G_pos}
use Rattle.arcs.proofs.RootNear.{side_value, side_root, side_none}
use Rattle.arcs.proofs.ArcRule.{Sides, sides, low_side, high_side}
use Rattle.arcs.proofs.Ratios.{digits_near}
use Rattle.arcs.proofs.Upright.{Digit, upright_sides, upright_le}
use Rattle.arcs.proofs.SignBits.{sign_is, in_units}
use Rattle.arcs.proofs.Results.{radians_value}
use Rattle.arcs.proofs.Atan2Band.{few, radians_is, radians_le, any_le}

pub permitted_finite : (q : Float) → T (permits arc_cosine_argument q) → T (finite q)
permitted_finite q h = door.permitted_finite arc_cosine_argument 0 unity unity 0 arc_cosine_argument_ends q h

pub at_most_one : (q : Float) → T (fits binary32 q) → T (permits arc_cosine_argument q) → mag q ≤ unity
at_most_one q f h =
    door.permitted_mag arc_cosine_argument 0 unity unity 0 arc_cosine_argument_ends unity
    (le_of_eq (zero-add unity)) (le_of_eq (add-zero unity)) q f h

-- the digits of a number up to 45/64
pub few_digits : (n : ℕ) → n ≤ upright_most → digits n < 23855104
few_digits n h =
    lt_of_mul-lt-mul_right (2 ^ 124) {m = digits n} {n = 23855104}
    (go (digits n) (2 ^ 124) (lit< tt) h (digits_near n (le_trans h (lit≤ {m = upright_most} {n = unity} tt))).up)
  where
    go : (w m : ℕ) → 0 < m → n ≤ 23592960 * m → w * m ≤ n + 2 * m → w * m < 23855104 * m
    go w m p i j = omega arith

digit_of : (n : ℕ) → n ≤ unity → Digit n unity (digits n)
digit_of n h = let s = digits_near n h in record { up = up (digits n) (2 ^ 124) s.up; low = low (digits n) (2 ^ 124) s.low }
  where
    up : (w m : ℕ) → w * m ≤ n + 2 * m → 64 * w * (33554432 * m) ≤ 2147483648 * n + 128 * (33554432 * m)
    up w m i = omega arith

    low : (w m : ℕ) → n ≤ w * m + 3 * m → 2147483648 * n ≤ 64 * w * (33554432 * m) + 192 * (33554432 * m)
    low w m i = omega arith

at_one : in_radians false (angle_of false (2 ^ 149) 0) ≡ fin false 0 (pos 0)
unfolding ratio angle wide sharp slope lean arc_tangent in_radians units size
at_one = refl

module _ (q : Float) (f : T (fits binary32 q)) (h : T (permits arc_cosine_argument q)) where
  is_finite : T (finite q)
  is_finite = permitted_finite q h

  abbrev Y : ℕ
  Y = mag (side q)

  abbrev B : ℕ
  B = angle_of (sign_bit q) (mag q) Y

  pub side_finite : T (finite (side q))
  side_finite = door.finite_of (side q) false Y unity (side_value q f is_finite (at_most_one q f h))

  -- the root is not negative, so no sign is put on the angle
  root_radians : finite_atan2 (side q) q ≡ in_radians false B
  unfolding finite_atan2
  root_radians = ap (λ (s : Bool). in_radians s B) (sign_is (side q) false Y unity (side_value q f is_finite (at_most_one q f h)))

  -- q in units of 2 ^ -149
  abbrev q₀ : Fraction
  q₀ = signed (sign_bit q) (mag q ÷ 2 ^ 149)

  q_is : value q ≋ q₀
  q_is = value_is q (sign_bit q) (mag q) (2 ^ 149) (in_units q f is_finite)

  q_over : 0 < q₀.over
  q_over = signed_over (sign_bit q) (mag q ÷ 2 ^ 149) unity_pos

  one_is : value q ≋ whole 1 → (sign_bit q ≡ false) × (mag q ≡ 2 ^ 149)
  one_is e =
      go (sign_bit q) (mag q) (2 ^ 149) (lit< {m = 0} {n = 2 ^ 149} tt)
      (same_trans q₀ (value q) (whole 1) (value_over q) (same_sym (value q) q₀ q_is) e)
    where
      go : (s : Bool) (n u : ℕ) → 0 < u → signed s (n ÷ u) ≋ whole 1 → (s ≡ false) × (n ≡ u)
      go true n u p k = absurd (impossible p k)
        where
          impossible : 0 < u → 0 * 1 + 0 * u ≡ 1 * u + n * 1 → ⊥
          impossible g i = omega arith
      go false n u p k = (refl, plain k)
        where
          plain : n * 1 + 0 * u ≡ 1 * u + 0 * 1 → n ≡ u
          plain i = omega arith

  module _ (e : Fraction) (F : ℕ) (F_low : 4 ≤ F) (F_high : F ≤ 16) (e_is : e ≋ (256 * F) ÷ G) (e_pos : 0 < e.over) where
    -- any angle whose two sides are right
    rule : (A : ℕ) → A ≤ 13176795 → Sides (256 * F) q₀ (256 * A) → (value q ≋ whole 1 → in_radians false A ≡ fin false 0 (pos 0))
        → ArcCosine e q (in_radians false A)
    rule A l s one =
        let a = in_radians false A in
        let i : q₀ ≋ value q = same_sym (value q) q₀ q_is in
        let j : value a ≋ (256 * A) ÷ G = radians_is false A l in
        record {
          is_number = door.finite_of a false (A * 2 ^ 127) (2 ^ 149) (radians_value false A (few l));
          least = not_below (value a) (256 * A) (radians_is false A l);
          most = (radians_le false A l).1;
          low = low_side e (256 * F) e_is e_pos (value q) q₀ (value a) (256 * A) i q_over j (value_over a) s;
          high = high_side e (256 * F) e_is e_pos (value q) q₀ (value a) (256 * A) i q_over j (value_over a) s;
          of_one = one;
        }
      where
        not_below : (v : Fraction) (n : ℕ) → v ≋ n ÷ G → 0 * v.over + v.minus * 1 ≤ v.plus * 1 + 0 * v.over
        not_below v n k = go v.plus v.minus v.over G G_pos k
          where
            go : (p m o g : ℕ) → 0 < g → p * g + 0 * o ≡ n * o + m * g → 0 * o + m * 1 ≤ p * 1 + 0 * o
            go p m o g i k = let l : m ≤ p = le_of_mul-le-mul_right {m = m} {n = p} {k = g} (omega arith) i in omega arith

    -- by the root
    root_rule : ArcCosine e q (finite_atan2 (side q) q)
    root_rule =
        subst (λ (z : Float). ArcCosine e q z) (sym root_radians)
        (rule B (any_le (sign_bit q) (mag q) Y)
        (sides F F_low F_high unity (mag q) Y unity_pos (at_most_one q f h) (side_root q f is_finite (at_most_one q f h)) (sign_bit q))
        (λ k.
        let m = (one_is k).1 in
        ap₂ (λ (t : Bool) (n : ℕ). in_radians false (angle_of t n Y)) (one_is k).0 m
        ∙ ap (λ (n : ℕ). in_radians false (angle_of false (2 ^ 149) n))
        (side_none q f is_finite (at_most_one q f h) (le_of_eq (sym m))) ∙ at_one))

    -- by the arc sine
    upright_rule : mag q ≤ upright_most → ArcCosine e q (in_radians false (upright (sign_bit q) (digits (mag q))))
    upright_rule g =
        rule (upright (sign_bit q) (digits (mag q))) (upright_le (sign_bit q) (digits (mag q)) (few_digits (mag q) g))
        (upright_sides F F_low F_high unity (mag q) (digits (mag q)) (digit_of (mag q) (at_most_one q f h)) (few_digits (mag q) g)
        (sign_bit q))
        (λ k. absurd (no (2 ^ 143) (lit< tt) (one_is k).1 g))
      where
        no : (m : ℕ) → 0 < m → mag q ≡ 64 * m → mag q ≤ 45 * m → ⊥
        no m i j l = omega arith

    pub arc_rule : ArcCosine e q (inside_arc_cosine q)
    unfolding inside_arc_cosine
    arc_rule = go (leb (mag q) upright_most) (leb→le (mag q) upright_most)
      where
        go : (b : Bool) → (T b → mag q ≤ upright_most)
            → ArcCosine e q (choose b (in_radians false (upright (sign_bit q) (digits (mag q)))) (finite_atan2 (side q) q))
        go true g = upright_rule (g tt)
        go false g = root_rule
