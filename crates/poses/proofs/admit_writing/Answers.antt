-- `poses::admit_writing` meets its contract: what is permitted is finite, so that one pass tells.
use Rattle.std.specs.Prelude.{Bool}
use mathlib.Core.Path.{sym, ap, ◌∙◌}
use Rattle.numbers.specs.Told.{choose}
use Rattle.poses.proofs.WritingDoor.{room_alone, coordinates_alone}
use Rattle.poses.proofs.admit_writing.Goals as goal

pub returns-then-pose_permitted : goal.returns-then-pose_permitted
returns-then-pose_permitted c =
    c.ensure.ensures
    ∙ room_alone c.args.p c.args.n (sym c.pose_permitted.ensures ∙ c.if-pose_permitted.true)

pub returns-else-pose_permitted : goal.returns-else-pose_permitted
returns-else-pose_permitted c =
    c.outside.ensures
    ∙ ap (λ (b : Bool). choose b 2 1) c.pose_finite.ensures
    ∙ coordinates_alone c.args.p c.args.n (sym c.pose_permitted.ensures ∙ c.if-pose_permitted.false)
