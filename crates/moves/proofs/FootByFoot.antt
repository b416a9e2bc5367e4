-- Six feet move as six single ones: refusals apart, changing one foot changes only its own answer and the shared flag. The laws hold of
-- any six single steps that go together; those of a move are theirs, and so are those of a step in the room above. Over points; marks
-- stand in Marks.
use Rattle.std.specs.Prelude.{◌≡◌, Bool, true, false}
use mathlib.Core.Path.{refl, sym, ap, ap₂, ◌∙◌}
use lib.Ieee.{Float}
use Rattle.numbers.specs.Told.{choose}
use Rattle.legs.specs.Legs.{Leg, point, six_points, some}
use Rattle.legs.proofs.Laws.{point_of_six}
use Rattle.legs.specs.declared.Point.{Point}
use Rattle.legs.specs.Legs.{Points}
use Rattle.moves.specs.Moving.{MoveStep, move_towards, place_of, point_of, has_moved, together, move_points_towards, points_of, one_moved}
use Rattle.moves.specs.declared.Step.TheVariants.{Moved, Arrived}

-- the flag does not change the points
same_points : (b : Bool) (p : Points) → points_of (choose b (Moved p) (Arrived p)) ≡ p
unfolding place_of
same_points true p = refl
same_points false p = refl

same_flag : (b : Bool) (p : Points) → one_moved (choose b (Moved p) (Arrived p)) ≡ b
unfolding has_moved
same_flag true p = refl
same_flag false p = refl

-- any six single steps
pub each_together : (g : Leg → MoveStep) (l : Leg) → point (points_of (together g)) l ≡ point_of (g l)
each_together g l =
    ap (λ (p : Points). point p l) (same_points (some (λ k. has_moved (g k))) (six_points (λ k. point_of (g k))))
    ∙ point_of_six (λ k. point_of (g k)) l

pub flag_together : (g : Leg → MoveStep) → one_moved (together g) ≡ some (λ l. has_moved (g l))
flag_together g = same_flag (some (λ k. has_moved (g k))) (six_points (λ k. point_of (g k)))

-- a leg whose single steps agree has the same answer, whatever the other five do
pub one_together : (g h : Leg → MoveStep) (l : Leg) → g l ≡ h l → point (points_of (together g)) l ≡ point (points_of (together h)) l
one_together g h l e = each_together g l ∙ ap point_of e ∙ sym (each_together h l)

-- the six of a move
module _ (a t : Points) (m : Float) where
  pub each_foot : (l : Leg) → point (points_of (move_points_towards a t m)) l ≡ point_of (move_towards (point a l) (point t l) m)
  unfolding move_points_towards
  each_foot = each_together (λ k. move_towards (point a k) (point t k) m)

  pub shared_flag : one_moved (move_points_towards a t m) ≡ some (λ l. has_moved (move_towards (point a l) (point t l) m))
  unfolding move_points_towards
  shared_flag = flag_together (λ k. move_towards (point a k) (point t k) m)

-- a foot that has the same last point and the same target has the same answer, whatever the other five do
pub one_foot_alone : (a a' t t' : Points) (m : Float) (l : Leg) → point a l ≡ point a' l → point t l ≡ point t' l
    → point (points_of (move_points_towards a t m)) l ≡ point (points_of (move_points_towards a' t' m)) l
unfolding move_points_towards
one_foot_alone a a' t t' m l e g =
    one_together (λ k. move_towards (point a k) (point t k) m) (λ k. move_towards (point a' k) (point t' k) m) l
    (ap₂ (λ (p q : Point). move_towards p q m) e g)
