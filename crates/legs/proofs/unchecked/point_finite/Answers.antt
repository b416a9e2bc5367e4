-- `legs::unchecked::point_finite` meets its contract, coordinate by coordinate.
use Rattle.legs.specs.Legs.{finite_point}
use Rattle.legs.proofs.unchecked.point_finite.Goals as goal

pub returns : goal.returns
unfolding finite_point
returns c = simp (
  c.is_finite-3.ensures,
  c.is_finite-2.ensures,
  c.is_finite.ensures,
)
