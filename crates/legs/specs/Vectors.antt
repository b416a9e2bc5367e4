-- Points as vectors: sum and difference, coordinate by coordinate, each rounded to f32.
use Rattle.std.specs.Float.{binary32}
use Rattle.std.specs.Float.Ieee.{add, sub}
use Rattle.legs.specs.declared.Point.{Point}

unfoldable pub plus : Point → Point → Point
plus p v = record { x = add binary32 p.x v.x; y = add binary32 p.y v.y; z = add binary32 p.z v.z }

unfoldable pub minus : Point → Point → Point
minus p v = record { x = sub binary32 p.x v.x; y = sub binary32 p.y v.y; z = sub binary32 p.z v.z }
