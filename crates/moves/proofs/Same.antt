-- A number that is finite equals itself, and so does a point whose coordinates are finite. Assumes nothing.
use Rattle.std.specs.Prelude.{◌≡◌, ◌*◌, true, false, eqb}
use mathlib.Core.Path.{sym}
use mathlib.Core.Bool.{true≢false}
use lib.Dec.{eqb_refl}
use lib.Ieee.{Float, nan, inf, fin, up, down, eq}
use lib.Ieee.Bits.{is_true}
use Rattle.numbers.specs.Door.{finite}
use Rattle.numbers.proofs.OnePass.{both}
use Rattle.legs.specs.Legs.{finite_point}
use Rattle.legs.specs.declared.Point.{Point}
use Rattle.moves.specs.Distance.{same}

eq_itself : (x : Float) → finite x ≡ true → eq x x ≡ true
unfolding finite eq
eq_itself nan h = h
eq_itself (inf s) h = absurd (true≢false (sym h))
eq_itself (fin true m e) h = simp (is_true (eqb (m * up e * down e) (m * up e * down e)) (eqb_refl (m * up e * down e)))
eq_itself (fin false m e) h = simp (is_true (eqb (m * up e * down e) (m * up e * down e)) (eqb_refl (m * up e * down e)))

pub same_itself : (p : Point) → finite_point p ≡ true → same p p ≡ true
unfolding finite_point same
same_itself p = both (both (eq_itself p.x) (eq_itself p.y)) (eq_itself p.z)
