-- `legs::unchecked::point_in_limits` meets its contract, coordinate by coordinate, with the foot's limit in the limit's place.
use Rattle.legs.specs.Legs.{permitted_point}
use Rattle.legs.proofs.unchecked.point_in_limits.Goals as goal

pub returns : goal.returns
unfolding permitted_point
returns c = simp (
  c.is_permitted-3.ensures,
  c.is_permitted-2.ensures,
  c.is_permitted.ensures,
  c.foot_limit-limit.ensures,
)
