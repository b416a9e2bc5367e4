-- `legs::unchecked::point_permitted` meets its contract, coordinate by coordinate.
use Rattle.legs.specs.Legs.{permitted_point}
use Rattle.legs.proofs.unchecked.point_permitted.Goals as goal

pub returns : goal.returns
unfolding permitted_point
returns c = simp (
  c.is_permitted-3.ensures,
  c.is_permitted-2.ensures,
  c.is_permitted.ensures,
)
