-- Fractions of whole numbers, as document 01 speaks of them: (plus - minus) / over, with `over` positive. One fraction may be written in
-- many ways: `◌≋◌` says that two
-- are the same number.
use Rattle.std.specs.Prelude.{ℕ, ◌+◌, ◌*◌, ◌≤◌, ◌<◌, ◌≡◌, Bool, true, false, Float}
use Rattle.std.specs.Float.{nan, inf, fin}
use Rattle.std.specs.Float.Ieee.{up, down}

pub record Fraction : Type 0 where
  pub plus : ℕ
  pub minus : ℕ
  pub over : ℕ

-- n / d, n and -a
abbrev pub ◌÷◌ : ℕ → ℕ → Fraction
n ÷ d = record { plus = n; minus = 0; over = d }

abbrev pub whole : ℕ → Fraction
whole n = n ÷ 1

abbrev pub negative : Fraction → Fraction
negative a = record { plus = a.minus; minus = a.plus; over = a.over }

-- sum, difference and product
abbrev pub ◌⊕◌ : Fraction → Fraction → Fraction
a ⊕ b = record { plus = a.plus * b.over + b.plus * a.over; minus = a.minus * b.over + b.minus * a.over; over = a.over * b.over }

abbrev pub ◌⊖◌ : Fraction → Fraction → Fraction
a ⊖ b = a ⊕ negative b

abbrev pub ◌⊗◌ : Fraction → Fraction → Fraction
a ⊗ b = record { plus = a.plus * b.plus + a.minus * b.minus; minus = a.plus * b.minus + a.minus * b.plus; over = a.over * b.over }

-- the same number, at most, and less
abbrev pub ◌≋◌ : Fraction → Fraction → Type 0
a ≋ b = a.plus * b.over + b.minus * a.over ≡ b.plus * a.over + a.minus * b.over

abbrev pub ◌≼◌ : Fraction → Fraction → Type 0
a ≼ b = a.plus * b.over + b.minus * a.over ≤ b.plus * a.over + a.minus * b.over

abbrev pub ◌≺◌ : Fraction → Fraction → Type 0
a ≺ b = a.plus * b.over + b.minus * a.over < b.plus * a.over + a.minus * b.over

infixl 65 ◌⊕◌
infixl 65 ◌⊖◌
infixl 70 ◌⊗◌
infixl 72 ◌÷◌
infix 50 ◌≋◌
infix 50 ◌≼◌
infix 50 ◌≺◌
-- a and b are at most e apart
abbrev pub Within : Fraction → Fraction → Fraction → Type 0
Within e a b = (a ≼ b ⊕ e) × (b ≼ a ⊕ e)

-- the number that an f32 is; 0 for a NaN and an infinity, which are none
abbrev pub signed : Bool → Fraction → Fraction
signed true a = negative a
signed false a = a

abbrev pub value : Float → Fraction
value nan = whole 0
value (inf s) = whole 0
value (fin s m e) = signed s ((m * up e) ÷ down e)
