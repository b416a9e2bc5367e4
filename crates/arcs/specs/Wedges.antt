-- Document 01, "Numbers with bounds": the rules of arc cosine and atan2. Each is stated for any e; document 01's is 2 ^ -18.
use Rattle.std.specs.Prelude.{◌≡◌, ◌^◌, Bool, true, false, T, pos}
use Rattle.std.specs.Prelude.{Float}
use Rattle.std.specs.Float.{nan, inf, fin}
use Rattle.numbers.specs.Door.{finite}
use Rattle.series.specs.Fractions.{Fraction, ◌÷◌, whole, negative, signed, ◌⊕◌, ◌⊖◌, ◌⊗◌, ◌≋◌, ◌≼◌, ◌≺◌, value}
use Rattle.series.specs.Series.{S, C}

-- P is Rust's f32 PI
abbrev pub P : Fraction
P = 13176795 ÷ 2 ^ 22

abbrev pub e : Fraction
e = 1 ÷ 2 ^ 18

-- an a in [0, P]: C(a - e) >= q unless a - e <= 0, and C(a + e) <= q unless a + e >= P. Of 1 it is exactly 0
pub record ArcCosine (e : Fraction) (q a : Float) : Type 0 where
  pub is_number : T (finite a)
  pub least : whole 0 ≼ value a
  pub most : value a ≼ P
  pub low : whole 0 ≺ value a ⊖ e → value q ≼ C (value a ⊖ e)
  pub high : value a ⊕ e ≺ P → C (value a ⊕ e) ≼ value q
  pub of_one : value q ≋ whole 1 → a ≡ fin false 0 (pos 0)

abbrev pub ArcCosineOf : Float → Float → Type 0
ArcCosineOf q a = ArcCosine e q a

-- the sign bit: that of a zero too
unfoldable pub sign_bit : Float → Bool
sign_bit nan = false
sign_bit (inf s) = s
sign_bit (fin s m d) = s

abbrev pub IsZero : Float → Type 0
IsZero x = value x ≋ whole 0

-- x S(t - e) <= y C(t - e), y C(t + e) <= x S(t + e), and x C(t) + y S(t) > 0
pub record Angle (e y x t : Fraction) : Type 0 where
  pub low : x ⊗ S (t ⊖ e) ≼ y ⊗ C (t ⊖ e)
  pub high : y ⊗ C (t ⊕ e) ≼ x ⊗ S (t ⊕ e)
  pub ahead : whole 0 ≺ x ⊗ C t ⊕ y ⊗ S t

-- a t in [-P, P] with y's sign bit. If not both are zero, the three above. Both zero: y itself when x is +0, P with y's sign when x is -0
pub record Atan2 (e : Fraction) (y x t : Float) : Type 0 where
  pub is_number : T (finite t)
  pub least : negative P ≼ value t
  pub most : value t ≼ P
  pub sign : sign_bit t ≡ sign_bit y
  pub angle : (IsZero y → IsZero x → ⊥) → Angle e (value y) (value x) (value t)
  pub zero_right : IsZero y → IsZero x → sign_bit x ≡ false → t ≡ y
  pub zero_left : IsZero y → IsZero x → sign_bit x ≡ true → value t ≋ signed (sign_bit y) P

abbrev pub Atan2Of : Float → Float → Float → Type 0
Atan2Of y x t = Atan2 e y x t
