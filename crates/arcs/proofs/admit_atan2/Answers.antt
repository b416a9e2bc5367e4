-- `arcs::admit_atan2` meets its contract: what the first pass lets through is finite too.
use Rattle.std.specs.Prelude.{◌≡◌, true, ◌&&◌}
use mathlib.Core.Path.{refl}
use lib.Ieee.{Float}
use Rattle.numbers.specs.Door.{finite, permits}
use Rattle.numbers.specs.Limits.{atan2_argument}
use Rattle.numbers.proofs.OnePass.{let_through, kept_out, in_row, both}
use Rattle.arcs.proofs.admit_atan2.Goals as goal

within : (x : Float) → permits atan2_argument x ≡ true → finite x ≡ true
unfolding atan2_argument finite
within = in_row atan2_argument (refl, refl)

pub returns-then-y_permitted-x_permitted : goal.returns-then-y_permitted-x_permitted
returns-then-y_permitted-x_permitted c =
    let a = c.args in
    let p =
    simp (
      c.is_permitted-x_permitted.ensures,
      c.atan2_argument-2.ensures,
      c.is_permitted-y_permitted.ensures,
      c.atan2_argument.ensures,
    ) at c.if-y_permitted-x_permitted.true in
    let_through (both (within a.y) (within a.x) p) p

pub returns-else-y_permitted-x_permitted : goal.returns-else-y_permitted-x_permitted
returns-else-y_permitted-x_permitted c =
    let a = c.args in
    let p =
    simp (
      c.is_permitted-x_permitted.ensures,
      c.atan2_argument-2.ensures,
      c.is_permitted-y_permitted.ensures,
      c.atan2_argument.ensures,
    ) at c.if-y_permitted-x_permitted.false in
    simp (c.outside.ensures, c.is_finite-else-y_permitted-x_permitted.ensures, c.is_finite.ensures)
    (kept_out (finite a.y && finite a.x) (permits atan2_argument a.y && permits atan2_argument a.x) p)
