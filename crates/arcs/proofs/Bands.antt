-- The wedges of document 01 for what the cores compute: at its e, whatever its definition says from 2 ^ -20 to 2 ^ -18, and at
-- 2 ^ -20, the sharpest that is shown here. Assumes nothing.
use Rattle.std.specs.Prelude.{◌≡◌, ℕ, ◌*◌, ◌/◌, ◌^◌, ◌<◌, ◌≤◌, Bool, true, false, ◌&&◌, T}
use mathlib.Core.Path.{refl, sym, subst}
use native.Mathlib.Omega.{arith}
use lib.Dec.{lit<, lit≤}
use lib.Ieee.{Float, binary32, fits}
use lib.Ieee.Fits.{and_l, and_r}
use Rattle.numbers.specs.Door.{finite, permits}
use Rattle.numbers.specs.Limits.{arc_cosine_argument}
use Rattle.numbers.specs.Told.{choose}
use Rattle.series.specs.Fractions.{Fraction, ◌÷◌, ◌≋◌}
use Rattle.arcs.specs.How.{in_radians, inside_arc_cosine, arc_cosine, finite_atan2, atan2}
use Rattle.arcs.specs.Wedges.{e, ArcCosine, ArcCosineOf, Atan2, Atan2Of}
use Rattle.arcs.proofs.ArcBand.{arc_rule}
use Rattle.arcs.proofs.Atan2Band.{atan2_rule}

pub chosen : (b : Bool) (x y : Float) → T b → choose b x y ≡ x
chosen true x y t = refl
chosen false x y t = absurd t

pub inside_is : (q : Float) → T (permits arc_cosine_argument q) → arc_cosine q ≡ inside_arc_cosine q
unfolding arc_cosine
inside_is q h = chosen (permits arc_cosine_argument q) (inside_arc_cosine q) (in_radians false 0) h

pub finite_atan2_is : (y x : Float) → T (finite y && finite x) → atan2 y x ≡ finite_atan2 y x
unfolding atan2
finite_atan2_is y x h = chosen (finite y && finite x) (finite_atan2 y x) (in_radians false 0) h

-- document 01's e in units of 2 ^ -22, read from its definition: the wedges are shown from 4 of them to 16
abbrev width : ℕ
width = e.plus * 2 ^ 22 / e.over

width_least : 4 ≤ width
width_least = lit≤ {m = 4} {n = width} tt

width_most : width ≤ 16
width_most = lit≤ {m = width} {n = 16} tt

width_is : e ≋ (256 * width) ÷ 2 ^ 30
width_is = refl

e_over : 0 < e.over
e_over = lit< {m = 0} {n = e.over} tt

module _ (q : Float) (f : T (fits binary32 q)) (h : T (permits arc_cosine_argument q)) where
  rule_arc : (w : Fraction) (F : ℕ) → 4 ≤ F → F ≤ 16 → w ≋ (256 * F) ÷ 2 ^ 30 → 0 < w.over → ArcCosine w q (arc_cosine q)
  rule_arc w F i j k l = subst (λ (a : Float). ArcCosine w q a) (sym (inside_is q h)) (arc_rule q f h w F i j k l)

  pub arc_cosine_band : ArcCosineOf q (arc_cosine q)
  arc_cosine_band = rule_arc e width width_least width_most width_is e_over

  pub arc_cosine_sharp : ArcCosine (1 ÷ 2 ^ 20) q (arc_cosine q)
  arc_cosine_sharp = rule_arc (1 ÷ 2 ^ 20) 4 (omega arith) (omega arith) refl (lit< {m = 0} {n = 2 ^ 20} tt)

module _ (y x : Float) (fy : T (fits binary32 y)) (fx : T (fits binary32 x)) (h : T (finite y && finite x)) where
  rule_atan2 : (w : Fraction) (F : ℕ) → 4 ≤ F → F ≤ 16 → w ≋ (256 * F) ÷ 2 ^ 30 → 0 < w.over → Atan2 w y x (atan2 y x)
  rule_atan2 w F i j k l =
      subst (λ (t : Float). Atan2 w y x t) (sym (finite_atan2_is y x h))
      (atan2_rule w F i j k l y x fy fx (and_l (finite y) (finite x) h) (and_r (finite y) (finite x) h))

  pub atan2_band : Atan2Of y x (atan2 y x)
  atan2_band = rule_atan2 e width width_least width_most width_is e_over

  pub atan2_sharp : Atan2 (1 ÷ 2 ^ 20) y x (atan2 y x)
  atan2_sharp = rule_atan2 (1 ÷ 2 ^ 20) 4 (omega arith) (omega arith) refl (lit< {m = 0} {n = 2 ^ 20} tt)
