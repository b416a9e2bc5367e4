-- What the machine knows of the feet that it owns, and of six points: every coordinate is an f32. Assumes nothing.
use Rattle.std.specs.Prelude.{[], ◌∷◌}
use denote.Laws.{Is}
use denote.Struct.Declared.{row}
use denote.Struct.Laws.{val}
use Rattle.legs.specs.contracts.six.HexapodTypes as six
use Rattle.legs.proofs.six.HexapodTypes.TheLaws as six_laws
use Rattle.legs.specs.contracts.Point as a_point
use Rattle.legs.proofs.Point.TheLaws as point_laws
use Rattle.legs.specs.contracts.Foot as a_foot
use Rattle.legs.proofs.Foot.TheLaws as foot_laws
use Rattle.legs.specs.Legs.{Leg, left_front, right_front, left_middle, right_middle, left_rear, right_rear, point, foot}
use Rattle.legs.specs.Legs.{Points}
use Rattle.legs.specs.Legs.{Feet}
use Rattle.units.proofs.Door.{holds}
use Rattle.moves.specs.Distance.{Each}
use Rattle.walks.proofs.Aim.{Fit}

module _ (p : Points)
    (owned : Is (row (six.the_type a_point.the_row)) p
    (val (six.the_type a_point.the_row) (six_laws.the_laws a_point.the_row point_laws.the_row_laws point_laws.the_told) p ∷ [])) where
  pub points_fit : (l : Leg) → Each Fit (point p l)
  points_fit left_front =
      let g = owned.1.1.0.1.1 in
      (holds g.0.1, holds g.1.0.1, holds g.1.1.0.1)
  points_fit left_middle =
      let g = owned.1.1.1.0.1.1 in
      (holds g.0.1, holds g.1.0.1, holds g.1.1.0.1)
  points_fit left_rear =
      let g = owned.1.1.1.1.0.1.1 in
      (holds g.0.1, holds g.1.0.1, holds g.1.1.0.1)
  points_fit right_front =
      let g = owned.1.1.1.1.1.0.1.1 in
      (holds g.0.1, holds g.1.0.1, holds g.1.1.0.1)
  points_fit right_middle =
      let g = owned.1.1.1.1.1.1.0.1.1 in
      (holds g.0.1, holds g.1.0.1, holds g.1.1.0.1)
  points_fit right_rear =
      let g = owned.1.1.1.1.1.1.1.0.1.1 in
      (holds g.0.1, holds g.1.0.1, holds g.1.1.0.1)

module _ (f : Feet)
    (owned : Is (row (six.the_type a_foot.the_row)) f
    (val (six.the_type a_foot.the_row) (six_laws.the_laws a_foot.the_row foot_laws.the_row_laws foot_laws.the_told) f ∷ [])) where
  pub feet_fit : (l : Leg) → Each Fit (foot f l)
  feet_fit left_front =
      let g = owned.1.1.0.1.1.0.1.1 in
      (holds g.0.1, holds g.1.0.1, holds g.1.1.0.1)
  feet_fit left_middle =
      let g = owned.1.1.1.0.1.1.0.1.1 in
      (holds g.0.1, holds g.1.0.1, holds g.1.1.0.1)
  feet_fit left_rear =
      let g = owned.1.1.1.1.0.1.1.0.1.1 in
      (holds g.0.1, holds g.1.0.1, holds g.1.1.0.1)
  feet_fit right_front =
      let g = owned.1.1.1.1.1.0.1.1.0.1.1 in
      (holds g.0.1, holds g.1.0.1, holds g.1.1.0.1)
  feet_fit right_middle =
      let g = owned.1.1.1.1.1.1.0.1.1.0.1.1 in
      (holds g.0.1, holds g.1.0.1, holds g.1.1.0.1)
  feet_fit right_rear =
      let g = owned.1.1.1.1.1.1.1.0.1.1.0.1.1 in
      (holds g.0.1, holds g.1.0.1, holds g.1.1.0.1)
