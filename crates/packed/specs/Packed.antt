-- Numbers, floats, points and feet in lent bytes, lowest byte first. A float stands by its bit pattern; six feet are six marks in row
-- order, 0 standing and 1 lifted, then six points in row order, x y z each: 78 bytes.
use Rattle.std.specs.Prelude.{ℕ, ◌+◌, ◌*◌, ◌/◌, ◌%◌, List, [], ◌∷◌, ◌++◌, eqb, get_or, Float}
use Rattle.std.specs.Float.{binary32}
use Rattle.std.specs.Float.Ieee.{of_bits, to_bits}
use Rattle.legs.specs.Legs.{left_front, right_front, left_middle, right_middle, left_rear, right_rear, foot}
use Rattle.legs.specs.Answers.{lifts}
use Rattle.legs.specs.declared.Point.{Point}
use Rattle.legs.specs.declared.Foot.{Foot}
use Rattle.legs.specs.Legs.{Feet}

-- ---- read from a place on: two bytes and four as a number, four as a float, twelve as a point
abbrev pub pair : ℕ → ℕ → ℕ
pair a b = a + b * 256

abbrev pub word : ℕ → ℕ → ℕ → ℕ → ℕ
word a b c d = a + b * 256 + c * 65536 + d * 16777216

unfoldable pub pair_at : List ℕ → ℕ → ℕ
pair_at l at = pair (get_or l at 0) (get_or l (at + 1) 0)

unfoldable pub word_at : List ℕ → ℕ → ℕ
word_at l at = word (get_or l at 0) (get_or l (at + 1) 0) (get_or l (at + 2) 0) (get_or l (at + 3) 0)

-- and eight
unfoldable pub long_at : List ℕ → ℕ → ℕ
long_at l at = word_at l at + word_at l (at + 4) * 4294967296

unfoldable pub float_at : List ℕ → ℕ → Float
unfolding word_at
float_at l at = of_bits binary32 (word_at l at)

unfoldable pub point_at : List ℕ → ℕ → Point
unfolding float_at
point_at l at = record { x = float_at l at; y = float_at l (at + 4); z = float_at l (at + 8) }

-- a foot whose mark stands at one place and whose point at another, and six feet
abbrev pub foot_at : List ℕ → ℕ → ℕ → Foot
foot_at l mark at = record { point = point_at l at; lifted = eqb (get_or l mark 0) 1 }

unfoldable pub feet_at : List ℕ → ℕ → Feet
unfolding point_at
feet_at l at =
    record {
      left_front = foot_at l at (at + 6);
      right_front = foot_at l (at + 1) (at + 18);
      left_middle = foot_at l (at + 2) (at + 30);
      right_middle = foot_at l (at + 3) (at + 42);
      left_rear = foot_at l (at + 4) (at + 54);
      right_rear = foot_at l (at + 5) (at + 66);
    }

-- six feet whose marks stand from one place on and whose points from another, both in row order
unfoldable pub feet_in : List ℕ → ℕ → ℕ → Feet
unfolding point_at
feet_in l marks at =
    record {
      left_front = foot_at l marks at;
      right_front = foot_at l (marks + 1) (at + 12);
      left_middle = foot_at l (marks + 2) (at + 24);
      right_middle = foot_at l (marks + 3) (at + 36);
      left_rear = foot_at l (marks + 4) (at + 48);
      right_rear = foot_at l (marks + 5) (at + 60);
    }

-- ---- the bytes that say them
abbrev pub pair_bytes : ℕ → List ℕ
pair_bytes n = n % 256 ∷ n / 256 % 256 ∷ []

abbrev pub word_bytes : ℕ → List ℕ
word_bytes n = n % 256 ∷ n / 256 % 256 ∷ n / 65536 % 256 ∷ n / 16777216 % 256 ∷ []

abbrev pub long_bytes : ℕ → List ℕ
long_bytes n = word_bytes (n % 4294967296) ++ word_bytes (n / 4294967296)

abbrev pub float_bytes : Float → List ℕ
float_bytes x = word_bytes (to_bits binary32 x)

abbrev pub point_bytes : Point → List ℕ
point_bytes p = float_bytes p.x ++ (float_bytes p.y ++ float_bytes p.z)

abbrev pub points_bytes : Feet → List ℕ
points_bytes f =
    point_bytes (foot f left_front)
    ++ (point_bytes (foot f right_front)
    ++ (point_bytes (foot f left_middle)
    ++ (point_bytes (foot f right_middle)
    ++ (point_bytes (foot f left_rear)
    ++ point_bytes (foot f right_rear)))))

abbrev pub feet_bytes : Feet → List ℕ
feet_bytes f = lifts f ++ points_bytes f
