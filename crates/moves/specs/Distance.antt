-- Document 01, "Moving towards" and "Steps": equality of points, distances, and the longest of six.
use Rattle.std.specs.Prelude.{Bool, ◌&&◌, List, [], ◌∷◌}
use Rattle.std.specs.Prelude.{Float}
use Rattle.std.specs.Float.{nan, binary32}
use Rattle.std.specs.Float.Ieee.{add, sub, mul, eq}
use Rattle.numbers.specs.Finite.{greater}
use Rattle.roots.specs.Root.{square_root}
use Rattle.legs.specs.Legs.{row, point}
use Rattle.legs.specs.declared.Point.{Point}
use Rattle.legs.specs.Legs.{Points}

-- what holds of all three coordinates
abbrev pub Each : (Float → Type 0) → Point → Type 0
Each P p = P p.x × P p.y × P p.z

-- "points equal in every component as numbers"
unfoldable pub same : Point → Point → Bool
same a b = eq a.x b.x && eq a.y b.y && eq a.z b.z

abbrev pub square : Float → Float
square x = mul binary32 x x

-- the square of the way from one number to another
abbrev pub apart² : Float → Float → Float
apart² a b = square (sub binary32 b a)

-- "x², y², z² summed in that order", and x² and y² alone
unfoldable pub square_sum : Point → Point → Float
square_sum a b = add binary32 (add binary32 (apart² a.x b.x) (apart² a.y b.y)) (apart² a.z b.z)

unfoldable pub horizontal_sum : Point → Point → Float
horizontal_sum a b = add binary32 (apart² a.x b.x) (apart² a.y b.y)

-- "the distance is the root of" that sum, or "taken in x and y only"
unfoldable pub distance : Point → Point → Float
distance a b = square_root (square_sum a b)

unfoldable pub horizontal_distance : Point → Point → Float
horizontal_distance a b = square_root (horizontal_sum a b)

-- the largest of a row of numbers; of none it is NaN, from which the source's fold begins
abbrev pub largest_from : Float → List Float → Float
largest_from x [] = x
largest_from x (y ∷ ys) = largest_from (greater x y) ys

abbrev pub largest : List Float → Float
largest [] = nan
largest (x ∷ xs) = largest_from x xs

-- "`longest_distance` of 001 is the largest of the six in x, y and z"
unfoldable pub longest_distance : Points → Points → Float
longest_distance a b = largest (row (λ l. distance (point a l) (point b l)))

-- "longest means the largest of the six distances taken in x and y only, as in 000"
unfoldable pub max_horizontal_distance : Points → Points → Float
max_horizontal_distance a b = largest (row (λ l. horizontal_distance (point a l) (point b l)))
