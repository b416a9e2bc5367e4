-- `arcs::digits::angle_unit` meets its contract.
use mathlib.Core.Path.{◌∙◌, sym, ap}
use Rattle.std.specs.Prelude.{Bool, negsuc}
use lib.Ieee.{fin}
use Rattle.arcs.proofs.Results.{angle_unit_plus, angle_unit_minus}
use Rattle.arcs.proofs.digits.angle_unit.Goals as goal

pub returns-then-below : goal.returns-then-below
returns-then-below c = angle_unit_minus ∙ ap (λ (s : Bool). fin s 1 (negsuc 21)) (sym c.if-below.true)

pub returns-else-below : goal.returns-else-below
returns-else-below c = angle_unit_plus ∙ ap (λ (s : Bool). fin s 1 (negsuc 21)) (sym c.if-below.false)
