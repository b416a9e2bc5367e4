-- Document 01: "A walk feeds each answer back until none moves; it reports the steps that moved."
-- "Every finite f32 is a whole multiple of 2^-149; in that unit m and S are whole numbers, and demand 3's bound reads count * m <= 2S + m."
use Rattle.std.specs.Prelude.{◌≡◌, ℕ, zero, suc, ◌+◌, ◌*◌, ◌<◌, ◌≤◌, Bool, not, T, List, [], ◌∷◌, nat_lt}
use Rattle.std.specs.Prelude.{Float}
use Rattle.numbers.specs.Told.{choose}
use Rattle.units.specs.Units.{apart, mag}
use Rattle.legs.specs.Legs.{Leg, row, point, every}
use Rattle.legs.specs.declared.Point.{Point}
use Rattle.legs.specs.Legs.{Points}
use Rattle.legs.specs.Legs.{Feet}
use Rattle.moves.specs.Distance.{same}
use Rattle.moves.specs.Moving.{move_towards, point_of, move_points_towards, points_of, move_feet_towards, feet_of}

-- where the walk of max move m from s to t is after so many steps
unfoldable pub point_after : Float → Point → Point → ℕ → Point
point_after m s t zero = s
point_after m s t (suc k) = point_of (move_towards (point_after m s t k) t m)

unfoldable pub points_after : Float → Points → Points → ℕ → Points
points_after m s t zero = s
points_after m s t (suc k) = points_of (move_points_towards (points_after m s t k) t m)

-- the same of feet, which keep their marks on the way (request K12; proofs/Marks)
unfoldable pub feet_after : Float → Feet → Feet → ℕ → Feet
feet_after m s t zero = s
feet_after m s t (suc k) = feet_of (move_feet_towards (feet_after m s t k) t m)

-- S: the sum of the three absolute differences, exact, in units of 2^-149
abbrev pub spread : Point → Point → ℕ
spread l t = apart t.x l.x + apart t.y l.y + apart t.z l.z

-- demand 3: after k steps the walk is at its target, equal in each coordinate; after fewer it is not; and k is bounded
pub record Walk (m : Float) (s t : Point) (k : ℕ) : Type 0 where
  pub arrives : T (same (point_after m s t k) t)
  pub least : (j : ℕ) → j < k → T (not (same (point_after m s t j) t))
  pub bound : k * mag m ≤ 2 * spread s t + mag m

-- the largest of a row of counts
abbrev pub larger : ℕ → ℕ → ℕ
larger a b = choose (nat_lt a b) b a

abbrev pub largest_from : ℕ → List ℕ → ℕ
largest_from a [] = a
largest_from a (b ∷ bs) = largest_from (larger a b) bs

abbrev pub largest : List ℕ → ℕ
largest [] = 0
largest (a ∷ as') = largest_from a as'

-- whether every foot is at its target after k steps of the six
unfoldable pub all_arrived : Float → Points → Points → ℕ → Bool
all_arrived m s t k = every (λ l. same (point (points_after m s t k) l) (point t l))

-- six feet, by their points: the count is the largest of the six feet's own; after so many steps every foot has arrived, after fewer
-- not every one
pub record WalkFeet (m : Float) (s t : Points) (k : ℕ) : Type 0 where
  pub counts : Leg → ℕ
  pub walks : (l : Leg) → Walk m (point s l) (point t l) (counts l)
  pub most : k ≡ largest (row counts)
  pub arrives : T (all_arrived m s t k)
  pub least : (j : ℕ) → j < k → T (not (all_arrived m s t j))
