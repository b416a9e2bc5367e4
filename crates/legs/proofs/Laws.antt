-- What upper rooms may cite of six legs: a leg of the record made of six is that leg, of points and of feet with their marks; `as_legs`
-- and `from_legs` undo each other.
-- Assumes nothing.
use Rattle.std.specs.Prelude.{◌≡◌, Bool, ◌&&◌, T, List, [], ◌∷◌, length}
use mathlib.Core.Path.{refl, ap}
use native.Mathlib.Omega.{arith}
use lib.Ieee.Fits.{and_i, and_l, and_r}
use Rattle.legs.specs.Legs.{Leg, left_front, right_front, left_middle, right_middle, left_rear, right_rear}
use Rattle.legs.specs.Legs.{row, at, six_of_row, every, point, six_points, points, foot, lifted, whole, feet, marked, from_row}
use Rattle.legs.specs.declared.Point.{Point}
use Rattle.legs.specs.Legs.{Points}
use Rattle.legs.specs.declared.Foot.{Foot}
use Rattle.legs.specs.declared.six.HexapodTypes.{HexapodTypes}
use Rattle.legs.specs.Legs.{Feet}

pub point_of_six : (g : Leg → Point) (l : Leg) → point (six_points g) l ≡ g l
point_of_six g left_front = refl
point_of_six g right_front = refl
point_of_six g left_middle = refl
point_of_six g right_middle = refl
point_of_six g left_rear = refl
point_of_six g right_rear = refl

-- a foot of six is the foot that it was made of
pub whole_of_feet : (g : Leg → Foot) (l : Leg) → whole (feet g) l ≡ g l
whole_of_feet g left_front = refl
whole_of_feet g right_front = refl
whole_of_feet g left_middle = refl
whole_of_feet g right_middle = refl
whole_of_feet g left_rear = refl
whole_of_feet g right_rear = refl

-- points that were marked are those points, with those marks; and feet are their points, with their marks
pub points_of_marked : (b : Leg → Bool) (p : Points) → points (marked b p) ≡ p
points_of_marked b p = refl

pub foot_of_marked : (b : Leg → Bool) (p : Points) (l : Leg) → foot (marked b p) l ≡ point p l
foot_of_marked b p l = refl

pub lifted_of_marked : (b : Leg → Bool) (p : Points) (l : Leg) → lifted (marked b p) l ≡ b l
lifted_of_marked b p l = ap (λ (g : Foot). g.lifted) (whole_of_feet (λ k. record { point = point p k; lifted = b k }) l)

pub marked_again : (f : Feet) → marked (lifted f) (points f) ≡ f
marked_again f = refl

-- the feet of their own row, and the row of a row's feet
pub from_row_of : (f : Feet) → from_row (row (whole f)) ≡ f
from_row_of f = refl

pub row_of_from : (ps : List Foot) → length ps ≡ 6 → row (whole (from_row ps)) ≡ ps
row_of_from (a ∷ b ∷ c ∷ d ∷ e ∷ g ∷ []) h = refl
row_of_from (a ∷ b ∷ c ∷ d ∷ e ∷ g ∷ p ∷ ps) h = absurd (omega arith)
row_of_from [] h = absurd (omega arith)
row_of_from (a ∷ []) h = absurd (omega arith)
row_of_from (a ∷ b ∷ []) h = absurd (omega arith)
row_of_from (a ∷ b ∷ c ∷ []) h = absurd (omega arith)
row_of_from (a ∷ b ∷ c ∷ d ∷ []) h = absurd (omega arith)
row_of_from (a ∷ b ∷ c ∷ d ∷ e ∷ []) h = absurd (omega arith)

-- any six are settled by their row; and feet, leg by leg, are what the record holds, so that `as_legs` and `from_legs` of any type say of
-- feet what these definitions say
pub six_by_row : {A : Type 0} (g h : HexapodTypes A) → row (at g) ≡ row (at h) → g ≡ h
six_by_row g h e = ap (six_of_row g.left_front) e

pub whole_is_at : (f : Feet) → row (whole f) ≡ row (at f)
whole_is_at f = refl

pub from_row_is : (f : Feet) (ps : List Foot) → row (at f) ≡ ps → f ≡ from_row ps
from_row_is f ps e = ap from_row e

-- what every leg passes, each passes
pub each_of_every : (b : Leg → Bool) → T (every b) → (l : Leg) → T (b l)
each_of_every b h =
    let five = and_l (b left_front && b right_front && b left_middle && b right_middle && b left_rear) (b right_rear) h in
    let four = and_l (b left_front && b right_front && b left_middle && b right_middle) (b left_rear) five in
    let three = and_l (b left_front && b right_front && b left_middle) (b right_middle) four in
    let two = and_l (b left_front && b right_front) (b left_middle) three in
    at (and_l (b left_front) (b right_front) two) (and_r (b left_front) (b right_front) two)
    (and_r (b left_front && b right_front) (b left_middle) three)
    (and_r (b left_front && b right_front && b left_middle) (b right_middle) four)
    (and_r (b left_front && b right_front && b left_middle && b right_middle) (b left_rear) five)
    (and_r (b left_front && b right_front && b left_middle && b right_middle && b left_rear) (b right_rear) h)
  where
    at : T (b left_front) → T (b right_front) → T (b left_middle) → T (b right_middle) → T (b left_rear) → T (b right_rear) → (l : Leg) →
        T (b l)
    at lf rf lm rm lr rr left_front = lf
    at lf rf lm rm lr rr right_front = rf
    at lf rf lm rm lr rr left_middle = lm
    at lf rf lm rm lr rr right_middle = rm
    at lf rf lm rm lr rr left_rear = lr
    at lf rf lm rm lr rr right_rear = rr

-- and back
pub every_of_each : (b : Leg → Bool) → ((l : Leg) → T (b l)) → T (every b)
every_of_each b h =
    and_i (b left_front && b right_front && b left_middle && b right_middle && b left_rear) (b right_rear)
    (and_i (b left_front && b right_front && b left_middle && b right_middle) (b left_rear)
    (and_i (b left_front && b right_front && b left_middle) (b right_middle)
    (and_i (b left_front && b right_front) (b left_middle)
    (and_i (b left_front) (b right_front) (h left_front) (h right_front)) (h left_middle)) (h right_middle)) (h left_rear)) (h right_rear)
