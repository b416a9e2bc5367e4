-- `finite_atan2` meets document 01's rule for atan2, at any e of F * 2 ^ -22 with F from 4 to 16. Assumes nothing.
use Rattle.std.specs.Prelude.{◌≡◌, ℕ, ◌+◌, ◌*◌, ◌^◌, ◌<◌, ◌≤◌, Bool, true, false, cond, T, ◌⊎◌}
use mathlib.Core.Path.{refl, sym, ap, ap₂, ◌∙◌, subst, subst₂}
use mathlib.Core.Logic.{inl, inr}
use native.Mathlib.Nat.{eq-zero-or-pos}
use native.Mathlib.Omega.{arith}
use lib.Dec.{lit<}
use lib.Ieee.{Float, binary32, size, fits}
use lib.Ieee.Exact.{HasValue}
use Rattle.numbers.specs.Door.{finite}
use Rattle.units.specs.Units.{mag}
use Rattle.units.proofs.Patterns.{one_value}
use Rattle.units.proofs.Door.{finite_of}
use Rattle.units.proofs.Errors.{unity_pos}
use Rattle.series.specs.Fractions.{Fraction, ◌÷◌, whole, negative, signed, ◌≋◌, ◌≼◌, value}
use Rattle.series.proofs.Fractions.{same_sym, same_trans, negative_same, le_same}
use Rattle.series.proofs.Values.{value_is, value_over, signed_over, signed_same}
use Rattle.arc_rows.specs.ArcTangent.{arc_tangent}
use Rattle.arcs.specs.How.{angle, wide, sharp, slope, lean, ratio, angle_of, in_radians, finite_atan2}
use Rattle.arcs.specs.Wedges.{P, sign_bit, IsZero, Angle, Atan2}
use Rattle.arcs.proofs.Places.{G, G_pos}
use Rattle.arcs.proofs.Turn.{Fine, upper, angle_le}
use Rattle.arcs.proofs.Atan2Rule.{angle_of_lem, mirror}
use Rattle.arcs.proofs.Ratios.{larger_pos}
use Rattle.arcs.proofs.SignBits.{sign_is, in_units}
use Rattle.arcs.proofs.Results.{radians_value, radians_fits}

-- ---- a result as a fraction
pub few : {n : ℕ} → n ≤ 13176795 → n < 16777216
few g = omega arith

in_grid : (A : ℕ) → (A * 2 ^ 127) ÷ 2 ^ 149 ≋ (256 * A) ÷ G
in_grid A = go A (2 ^ 127)
  where
    go : (A h : ℕ) → A * h * 1073741824 + 0 * (4194304 * h) ≡ 256 * A * (4194304 * h) + 0 * 1073741824
    go A h = omega arith

pub radians_is : (s : Bool) (A : ℕ) → A ≤ 13176795 → value (in_radians s A) ≋ signed s ((256 * A) ÷ G)
radians_is s A h =
    same_trans (value (in_radians s A)) (signed s ((A * 2 ^ 127) ÷ 2 ^ 149)) (signed s ((256 * A) ÷ G))
    (signed_over s ((A * 2 ^ 127) ÷ 2 ^ 149) unity_pos)
    (value_is (in_radians s A) s (A * 2 ^ 127) (2 ^ 149) (radians_value s A (few h)))
    (signed_same s ((A * 2 ^ 127) ÷ 2 ^ 149) ((256 * A) ÷ G) (in_grid A))

-- at most P on either side
pub radians_le : (s : Bool) (A : ℕ) → A ≤ 13176795 → (negative P ≼ value (in_radians s A)) × (value (in_radians s A) ≼ P)
radians_le s A h = (
  le_same (negative P) (negative P) (signed s ((256 * A) ÷ G)) (value (in_radians s A)) (lit< {m = 0} {n = 2 ^ 22} tt) over refl (back s)
      (low s),
  le_same (signed s ((256 * A) ÷ G)) (value (in_radians s A)) P P over (lit< {m = 0} {n = 2 ^ 22} tt) (back s) refl (high s),
)
  where
    over : 0 < (signed s ((256 * A) ÷ G)).over
    over = signed_over s ((256 * A) ÷ G) G_pos

    back : (s : Bool) → signed s ((256 * A) ÷ G) ≋ value (in_radians s A)
    back s = same_sym (value (in_radians s A)) (signed s ((256 * A) ÷ G)) (radians_is s A h)

    low : (s : Bool) → negative P ≼ signed s ((256 * A) ÷ G)
    low true = omega arith
    low false = omega arith

    high : (s : Bool) → signed s ((256 * A) ÷ G) ≼ P
    high true = omega arith
    high false = omega arith

-- ---- zero
no_units : (x : Float) → T (fits binary32 x) → T (finite x) → mag x ≡ 0 → IsZero x
no_units x f h e =
    same_trans (value x) (signed (sign_bit x) (mag x ÷ 2 ^ 149)) (whole 0) (signed_over (sign_bit x) (mag x ÷ 2 ^ 149) unity_pos)
    (value_is x (sign_bit x) (mag x) (2 ^ 149) (in_units x f h))
    (subst (λ (n : ℕ). signed (sign_bit x) (n ÷ 2 ^ 149) ≋ whole 0) (sym e) (go (sign_bit x)))
  where
    go : (s : Bool) → signed s (0 ÷ 2 ^ 149) ≋ whole 0
    go true = refl
    go false = refl

zero_units : (x : Float) → T (fits binary32 x) → T (finite x) → IsZero x → mag x ≡ 0
zero_units x f h e =
    go (sign_bit x) (mag x) (2 ^ 149)
    (same_trans (signed (sign_bit x) (mag x ÷ 2 ^ 149)) (value x) (whole 0) (value_over x)
    (same_sym (value x) (signed (sign_bit x) (mag x ÷ 2 ^ 149)) (value_is x (sign_bit x) (mag x) (2 ^ 149) (in_units x f h))) e)
  where
    go : (s : Bool) (n u : ℕ) → signed s (n ÷ u) ≋ whole 0 → n ≡ 0
    go true n u h = plain h
      where
        plain : 0 * 1 + 0 * u ≡ 0 * u + n * 1 → n ≡ 0
        plain g = omega arith
    go false n u h = plain h
      where
        plain : n * 1 + 0 * u ≡ 0 * u + 0 * 1 → n ≡ 0
        plain g = omega arith

pub zero_angle : (s : Bool) → angle_of s 0 0 ≡ cond s 13176795 0
unfolding angle wide sharp slope lean arc_tangent ratio size
zero_angle true = refl
zero_angle false = refl

pub any_le : (s : Bool) (x y : ℕ) → angle_of s x y ≤ 13176795
any_le s x y = elim (eq-zero-or-pos x) [
  | inl p ↦ elim (eq-zero-or-pos y) [
    | inl q ↦ subst₂ (λ (m n : ℕ). angle_of s m n ≤ 13176795) (sym p) (sym q) (subst (λ (n : ℕ). n ≤ 13176795) (sym (zero_angle s)) (go s))
    | inr q ↦ angle_le s x y (larger_pos x y (inr q))
  ]
  | inr p ↦ angle_le s x y (larger_pos x y (inl p))
]
  where
    go : (s : Bool) → cond s 13176795 0 ≤ 13176795
    go true = omega arith
    go false = omega arith

-- ---- the rule
module _ (e : Fraction) (F : ℕ) (F_low : 4 ≤ F) (F_high : F ≤ 16) (e_is : e ≋ (256 * F) ÷ G) (e_pos : 0 < e.over) (y x : Float)
    (fy : T (fits binary32 y)) (fx : T (fits binary32 x)) (hy : T (finite y)) (hx : T (finite x)) where
  abbrev A : ℕ
  A = angle_of (sign_bit x) (mag x) (mag y)

  U : ℕ
  U = 2 ^ 149

  U_pos : 0 < U
  unfolding U
  U_pos = unity_pos

  abbrev x₀ : Fraction
  x₀ = signed (sign_bit x) (mag x ÷ U)

  abbrev y₀ : Fraction
  y₀ = mag y ÷ U

  x_over : 0 < x₀.over
  x_over = signed_over (sign_bit x) (mag x ÷ U) U_pos

  x_is : x₀ ≋ value x
  unfolding U
  x_is = same_sym (value x) x₀ (value_is x (sign_bit x) (mag x) (2 ^ 149) (in_units x fx hx))

  y_is : value y ≋ signed (sign_bit y) y₀
  unfolding U
  y_is = value_is y (sign_bit y) (mag y) (2 ^ 149) (in_units y fy hy)

  fine : (0 < mag x) ⊎ (0 < mag y) → Fine (256 * F) y₀ x₀ (256 * A)
  fine p = upper (256 * F) (omega arith) (omega arith) U U_pos (mag x) (mag y) (larger_pos (mag x) (mag y) p) (sign_bit x)

  -- y and t with the same sign
  signed_angle : (s : Bool) (v t : Fraction) → 0 < v.over → 0 < t.over → v ≋ signed s y₀ → t ≋ signed s ((256 * A) ÷ G)
      → Fine (256 * F) y₀ x₀ (256 * A) → Angle e v (value x) t
  signed_angle false v t pv pt hv ht f =
      angle_of_lem e (256 * F) e_is e_pos v (value x) t y₀ x₀ (256 * A) (same_sym v y₀ hv) x_is ht pv (value_over x) pt U_pos x_over f
  signed_angle true v t pv pt hv ht f =
      mirror e (negative v) (value x) (negative t)
      (angle_of_lem e (256 * F) e_is e_pos (negative v) (value x) (negative t) y₀ x₀ (256 * A)
      (same_sym (negative v) y₀ (negative_same v (negative y₀) hv)) x_is (negative_same t (negative ((256 * A) ÷ G)) ht) pv
      (value_over x) pt U_pos x_over f)

  some : (IsZero y → IsZero x → ⊥) → (0 < mag x) ⊎ (0 < mag y)
  some never = elim (eq-zero-or-pos (mag x)) [
    | inl p ↦ elim (eq-zero-or-pos (mag y)) [ inl q ↦ absurd (never (no_units y fy hy q) (no_units x fx hx p)) | inr q ↦ inr q ]
    | inr p ↦ inl p
  ]

  abbrev t : Float
  t = in_radians (sign_bit y) A

  t_value : HasValue t (sign_bit y) (A * 2 ^ 127) (2 ^ 149)
  t_value = radians_value (sign_bit y) A (few (any_le (sign_bit x) (mag x) (mag y)))

  at_zeros : IsZero y → IsZero x → A ≡ cond (sign_bit x) 13176795 0
  at_zeros p q = ap₂ (λ (a b : ℕ). angle_of (sign_bit x) a b) (zero_units x fx hx q) (zero_units y fy hy p) ∙ zero_angle (sign_bit x)

  itself : IsZero y → IsZero x → sign_bit x ≡ false → t ≡ y
  itself p q s =
      let none : A ≡ 0 = at_zeros p q ∙ ap (λ (b : Bool). cond {A = ℕ} b 13176795 0) s in
      one_value t y (sign_bit y) 0 (radians_fits (sign_bit y) A (few (any_le (sign_bit x) (mag x) (mag y)))) fy
      (subst (λ (n : ℕ). HasValue t (sign_bit y) (n * 2 ^ 127) (2 ^ 149)) none t_value)
      (subst (λ (n : ℕ). HasValue y (sign_bit y) n (2 ^ 149)) (zero_units y fy hy p) (in_units y fy hy))

  half_turn : IsZero y → IsZero x → sign_bit x ≡ true → value t ≋ signed (sign_bit y) P
  half_turn p q s =
      let all : A ≡ 13176795 = at_zeros p q ∙ ap (λ (b : Bool). cond {A = ℕ} b 13176795 0) s in
      same_trans (value t) (signed (sign_bit y) ((256 * A) ÷ G)) (signed (sign_bit y) P) (signed_over (sign_bit y) ((256 * A) ÷ G) G_pos)
      (radians_is (sign_bit y) A (any_le (sign_bit x) (mag x) (mag y)))
      (subst (λ (n : ℕ). signed (sign_bit y) ((256 * n) ÷ G) ≋ signed (sign_bit y) P) (sym all)
      (signed_same (sign_bit y) ((256 * 13176795) ÷ G) P refl))

  pub atan2_rule : Atan2 e y x (finite_atan2 y x)
  unfolding finite_atan2
  atan2_rule = record {
    is_number = finite_of t (sign_bit y) (A * 2 ^ 127) (2 ^ 149) t_value;
    least = (radians_le (sign_bit y) A (any_le (sign_bit x) (mag x) (mag y))).0;
    most = (radians_le (sign_bit y) A (any_le (sign_bit x) (mag x) (mag y))).1;
    sign = sign_is t (sign_bit y) (A * 2 ^ 127) (2 ^ 149) t_value;
    angle =
        λ never. signed_angle (sign_bit y) (value y) (value t) (value_over y) (value_over t) y_is
        (radians_is (sign_bit y) A (any_le (sign_bit x) (mag x) (mag y))) (fine (some never));
    zero_right = itself;
    zero_left = half_turn;
  }
