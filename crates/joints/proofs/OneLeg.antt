-- One leg before others, by its coxa's angle: past its limit it is the first that is refused, with its own refusal and number; short of it
-- the legs after it say. And an entry tells what its core tells, where the door lets the feet and the configuration in. Over the contracts
-- of what the code goes through (`admit_angle`, `of_leg`, `admit_angles`, the entries and their cores). Assumes nothing.
use Rattle.std.specs.Prelude.{◌≡◌, ℕ, suc, Bool, true, false, ◌||◌, List, ◌∷◌, Result}
use mathlib.Core.Path.{refl, sym, ap, ◌∙◌}
use mathlib.Core.Bool.{true≢false}
use lib.Ieee.{Float}
use Rattle.numbers.specs.Told.{Told, answer, choose}
use Rattle.legs.specs.Legs.{Feet, Joints}
use Rattle.joints.specs.Answers.{leg_refused, first_leg, told}
use Rattle.joints.specs.Inverse.{past_positive, past_negative, past_refusal, ik_refusal, legs_told, ik_told}
use Rattle.joints.specs.Strict.{strict_legs_told, strict_told}
use Rattle.joints.specs.declared.configuration.Configuration.{Configuration}
use Rattle.joints.specs.declared.refusal.SolverRefusal.{SolverRefusal}
use Rattle.joints.proofs.TwoTests.{refusal}
use Rattle.joints.proofs.calculate_ik.Reads as entry
use Rattle.joints.proofs.unchecked.calculate_ik.Reads as core
use Rattle.joints.proofs.calculate_ik_strict.Reads as strict_entry
use Rattle.joints.proofs.unchecked.calculate_ik_strict.Reads as strict_core

-- ---- the refusal of one angle: past its limit that of the side that it is on, short of it none
-- at 90 degrees or more, and at -90 degrees or less
abbrev pub positive : ℕ
positive = 6

abbrev pub negative : ℕ
negative = 8

pub positive_number : (a : Float) → past_positive a ≡ true → positive ≡ past_refusal a
unfolding past_refusal
positive_number a p = by_side (past_positive a) (past_negative a) p
  where
    by_side : (u w : Bool) → u ≡ true → positive ≡ refusal positive negative u w
    by_side true w h = refl
    by_side false w h = absurd (true≢false (sym h))

pub negative_number : (a : Float) → (past_positive a || past_negative a) ≡ true → past_positive a ≡ false → negative ≡ past_refusal a
unfolding past_refusal
negative_number a past p = by_side (past_positive a) (past_negative a) past p
  where
    by_side : (u w : Bool) → (u || w) ≡ true → u ≡ false → negative ≡ refusal positive negative u w
    by_side true w h s = absurd (true≢false s)
    by_side false true h s = refl
    by_side false false h s = absurd (true≢false (sym h))

pub short_number : (a : Float) → (past_positive a || past_negative a) ≡ false → 0 ≡ past_refusal a
unfolding past_refusal
short_number a = by_sides (past_positive a) (past_negative a)
  where
    by_sides : (u w : Bool) → (u || w) ≡ false → 0 ≡ refusal positive negative u w
    by_sides true w h = absurd (true≢false h)
    by_sides false true h = absurd (true≢false h)
    by_sides false false h = refl

-- all three, for the test of a leg
pub ruleset one_angle = (positive_number, negative_number, short_number)

-- ---- of legs in row order, this one the k-th: where it is past its limit it is the first, with its refusal; else the legs after it say
module _ (k : ℕ) (later : List ℕ) (t : Told) where
  pub past_leg : (a : Float) → (past_positive a || past_negative a) ≡ true
      → leg_refused (choose (past_positive a) positive negative) k ≡ first_leg (past_refusal a ∷ later) k t
  unfolding past_refusal
  past_leg a = by_sides (past_positive a) (past_negative a)
    where
      by_sides : (u w : Bool) → (u || w) ≡ true
          → leg_refused (choose u positive negative) k ≡ first_leg (refusal positive negative u w ∷ later) k t
      by_sides true w h = refl
      by_sides false true h = refl
      by_sides false false h = absurd (true≢false (sym h))

  pub short_leg : (a : Float) → (past_positive a || past_negative a) ≡ false
      → first_leg later (suc k) t ≡ first_leg (past_refusal a ∷ later) k t
  short_leg a h = ap (λ (n : ℕ). first_leg (n ∷ later) k t) (short_number a h)

-- ---- the entries and their cores, each by its own contract (`Post`): where the door lets all in, an entry tells what its core tells
let_in : (n : ℕ) (t : Told) → n ≡ 0 → answer n t ≡ t
let_in n t none = ap (λ (k : ℕ). answer k t) none

module _ (f : Feet) (c : Configuration) (a b : Result Joints SolverRefusal) (none : ik_refusal f c ≡ 0) where
  pub told_answered : entry.Post tt (f, (c, tt)) a (f, (c, tt)) → core.Post tt (f, (c, tt)) b (f, (c, tt)) → told a ≡ told b
  unfolding ik_told
  told_answered p q = p ∙ let_in (ik_refusal f c) (legs_told f c) none ∙ sym q

  pub strict_answered : strict_entry.Post tt (f, (c, tt)) a (f, (c, tt)) → strict_core.Post tt (f, (c, tt)) b (f, (c, tt)) → told a ≡ told b
  unfolding strict_told
  strict_answered p q = p ∙ let_in (ik_refusal f c) (strict_legs_told f c) none ∙ sym q
