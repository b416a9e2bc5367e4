-- Document 01, "Steps": "A turn is a rotation matrix of three rows of three numbers about z: (c, 0 - s, 0), (s, c, 0), (0, 0, 1), our
-- cosine and sine; products sum left to right. The angle of `rotation_between` is here atan2(x1 y2 - y1 x2, x1 x2 + y1 y2) of the two
-- vectors as they stand, start first, 0 if either is zero."
use Rattle.commands.specs.Constants.{nought, one}
use Rattle.std.specs.Prelude.{Bool, ◌&&◌, ◌||◌, List, [], ◌∷◌, slice_index_or}
use Rattle.std.specs.Prelude.{Float}
use Rattle.std.specs.Float.{nan, binary32}
use Rattle.std.specs.Float.Ieee.{add, sub, mul, eq}
use Rattle.numbers.specs.Told.{choose}
use Rattle.legs.specs.declared.Point.{Point}
use Rattle.sines.specs.How.{sine, cosine}
use Rattle.arcs.specs.How.{atan2}

unfoldable pub turn : Float → List (List Float)
turn angle =
    (cosine angle ∷ sub binary32 nought (sine angle) ∷ nought ∷ [])
    ∷ (sine angle ∷ cosine angle ∷ nought ∷ [])
    ∷ (nought ∷ nought ∷ one ∷ [])
    ∷ []

-- a row's product with a point, summed left to right
unfoldable pub dot : List Float → Point → Float
dot r p =
    add binary32
    (add binary32 (mul binary32 (slice_index_or r 0 nan) p.x) (mul binary32 (slice_index_or r 1 nan) p.y))
    (mul binary32 (slice_index_or r 2 nan) p.z)

unfoldable pub applied : List (List Float) → Point → Point
applied m p = record { x = dot (slice_index_or m 0 []) p; y = dot (slice_index_or m 1 []) p; z = dot (slice_index_or m 2 []) p }

abbrev pub is_zero : Point → Bool
is_zero v = eq v.x nought && eq v.y nought

-- x1 y2 - y1 x2, and x1 x2 + y1 y2
abbrev pub across : Point → Point → Float
across a b = sub binary32 (mul binary32 a.x b.y) (mul binary32 a.y b.x)

abbrev pub inner : Point → Point → Float
inner a b = add binary32 (mul binary32 a.x b.x) (mul binary32 a.y b.y)

unfoldable pub rotation_between : Point → Point → Float
rotation_between a b = choose (is_zero a || is_zero b) nought (atan2 (across a b) (inner a b))
