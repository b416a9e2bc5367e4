-- The two sides of a coxa's limit: what a leg's refusal says of its angle, and that no float is past both. Assumes nothing.
use Rattle.std.specs.Prelude.{◌≡◌, ℕ, ◌*◌, ◌<◌, Bool, true, false, ◌&&◌, ◌||◌, eqb}
use mathlib.Core.Path.{refl, sym, ◌∙◌}
use mathlib.Core.Bool.{true≢false}
use native.Mathlib.Nat.{mul-pos}
use native.Mathlib.Omega.{arith}
use lib.Dec.{lit<}
use lib.Ieee.{Float, nan, inf, fin, of_bits, lt, eq, le, up, down}
use lib.Ieee.Fits.{down_pos}
use borrow.Author.Tests.{eqb-true}
use Rattle.joints.specs.Degrees.{ninety, minus_ninety}
use Rattle.joints.specs.Inverse.{past_positive, past_negative, past_refusal}
use Rattle.joints.proofs.TwoTests.{Says, Neither, says, neither, refused_by, passed_by}

-- past the limit on the side that the number says: 6 at 90 degrees or more, 8 at -90 degrees or less
abbrev pub PastSide : ℕ → Float → Type 0
PastSide n a = Says 6 8 n (past_positive a) (past_negative a)

-- on neither side
abbrev pub Short : Float → Type 0
Short a = Neither (past_positive a) (past_negative a)

-- ---- no float is past both: what is not negative is not at -90 degrees or less, what is negative is not at 90 degrees or more
never_level : (x y : ℕ) (a b : Bool) → eqb x y ≡ a → eqb x 0 ≡ b → (x ≡ y → x ≡ 0 → ⊥) → (a && (false || b)) ≡ false
never_level x y false b e d h = refl
never_level x y true false e d h = refl
never_level x y true true e d h = absurd (h (eqb-true x y e) (eqb-true x 0 d))

left_some : (x y : ℕ) → 0 < x → (eqb x y && (false || eqb x 0)) ≡ false
left_some x y p = never_level x y (eqb x y) (eqb x 0) refl refl (λ e z. omega (arith, p, z))

right_some : (x y : ℕ) → 0 < y → (eqb x y && (false || eqb x 0)) ≡ false
right_some x y p = never_level x y (eqb x y) (eqb x 0) refl refl (λ e z. omega (arith, p, e, z))

pub never_both_sides : (a : Float) → past_positive a ≡ true → past_negative a ≡ false
unfolding ninety minus_ninety of_bits le lt eq
never_both_sides nan h = refl
never_both_sides (inf false) h = refl
never_both_sides (inf true) h = absurd (true≢false (sym h))
never_both_sides (fin false m e) h = right_some (m * up e * _) (_ * down e) (mul-pos (lit< tt) (down_pos e))
never_both_sides (fin true m e) h = absurd (true≢false (sym h ∙ left_some (_ * down e) (m * up e * _) (mul-pos (lit< tt) (down_pos e))))

-- ---- a leg's refusal and its angle
module _ (a : Float) where
  pub past_side : (past_refusal a ≡ 0 → ⊥) → PastSide (past_refusal a) a
  unfolding past_refusal
  past_side = says 6 8 refl refl (past_positive a) (past_negative a)

  pub short : past_refusal a ≡ 0 → Short a
  unfolding past_refusal
  short = neither 6 8 refl refl (past_positive a) (past_negative a)

  -- and back
  pub refused_at : (n : ℕ) → PastSide n a → past_refusal a ≡ n
  unfolding past_refusal
  refused_at n = refused_by 6 8 refl refl n (past_positive a) (past_negative a) (never_both_sides a)

  pub passed_at : Short a → past_refusal a ≡ 0
  unfolding past_refusal
  passed_at = passed_by 6 8 refl refl (past_positive a) (past_negative a)
