-- Points and feet that are permitted are finite, where the row's ends are. Assumes nothing.
use Rattle.std.specs.Prelude.{◌≡◌, Bool, true, ◌&&◌, T}
use mathlib.Core.Path.{refl, sym, subst}
use lib.Ieee.Bits.{is_true}
use Rattle.numbers.specs.Door.{finite}
use Rattle.numbers.specs.Limits.{foot_limit}
use Rattle.numbers.specs.declared.door.Limit.{Limit}
use Rattle.numbers.proofs.OnePass.{FiniteEnds, in_row, both}
use Rattle.legs.specs.Legs.{Leg, left_front, right_front, left_middle, right_middle, left_rear, right_rear}
use Rattle.legs.specs.Legs.{every, foot, finite_point, permitted_point, finite_feet, permitted_feet}
use Rattle.legs.proofs.Laws.{each_of_every}
use Rattle.legs.specs.declared.Point.{Point}
use Rattle.legs.specs.Legs.{Feet}

pub all_six : (s t : Leg → Bool) → ((l : Leg) → s l ≡ true → t l ≡ true) → every s ≡ true → every t ≡ true
all_six s t f =
    both (both (both (both (both (f left_front) (f right_front)) (f left_middle)) (f right_middle)) (f left_rear)) (f right_rear)

-- what every leg passes, each passes, and back
pub each_true : (t : Leg → Bool) → every t ≡ true → (l : Leg) → t l ≡ true
each_true t e l = is_true (t l) (each_of_every t (subst T (sym e) tt) l)

pub every_true : (t : Leg → Bool) → ((l : Leg) → t l ≡ true) → every t ≡ true
every_true t h = all_six (λ l. true) t (λ l e. h l) refl

module _ (l : Limit) (e : FiniteEnds l) where
  pub point_finite : (p : Point) → permitted_point l p ≡ true → finite_point p ≡ true
  unfolding permitted_point finite_point
  point_finite p = both (both (in_row l e p.x) (in_row l e p.y)) (in_row l e p.z)

  pub feet_finite : (f : Feet) → permitted_feet l f ≡ true → finite_feet f ≡ true
  feet_finite f = all_six (λ k. permitted_point l (foot f k)) (λ k. finite_point (foot f k)) (λ k. point_finite (foot f k))

-- ---- in document 01's row of foot coordinates
pub in_foot_row : (p : Point) → permitted_point foot_limit p ≡ true → finite_point p ≡ true
unfolding foot_limit finite
in_foot_row = point_finite foot_limit (refl, refl)

pub in_feet_row : (f : Feet) → permitted_feet foot_limit f ≡ true → finite_feet f ≡ true
unfolding foot_limit finite
in_feet_row = feet_finite foot_limit (refl, refl)

pub two_feet : (a b : Feet) →
    (permitted_feet foot_limit a && permitted_feet foot_limit b) ≡ true → (finite_feet a && finite_feet b) ≡ true
two_feet a b = both (in_feet_row a) (in_feet_row b)
