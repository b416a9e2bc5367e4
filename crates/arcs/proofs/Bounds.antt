-- What callers may take for granted of every answer of `atan2` and of arc cosine: the format holds it, and it is at most P either way.
-- Assumes nothing.
use Rattle.std.specs.Prelude.{ℕ, ◌*◌, ◌^◌, ◌≤◌, Bool, true, false, ◌&&◌, T, leb}
use native.Mathlib.Nat.{le_of_eq, le_trans, add-zero, zero-add, mul-le-mul_right}
use native.Mathlib.Omega.{arith}
use lib.Dec.{leb→le}
use lib.Ieee.{Float, binary32, fits}
use Rattle.numbers.specs.Door.{finite, permits}
use Rattle.numbers.specs.Limits.{arc_cosine_argument}
use Rattle.numbers.specs.Told.{choose}
use Rattle.units.specs.Units.{mag}
use Rattle.units.proofs.Values.{plus_part, minus_part}
use Rattle.units.proofs.Bounds.{Result}
use Rattle.arcs.specs.How.{in_radians, finite_atan2, atan2, angle_of, side, digits, upright, upright_most, inside_arc_cosine, arc_cosine}
use Rattle.arcs.specs.Wedges.{sign_bit}
use Rattle.arcs.proofs.Results.{radians_value, radians_fits}
use Rattle.arcs.proofs.Atan2Band.{few, any_le}
use Rattle.arcs.proofs.Upright.{upright_le}
use Rattle.arcs.proofs.ArcBand.{few_digits}

-- P in units
abbrev pub pi_units : ℕ
pi_units = 13176795 * 2 ^ 127

-- a result from -P to P
pub record AtMostP (r : Float) : Type 0 where
  pub held : T (fits binary32 r)
  pub units : Result binary32 r pi_units

at_most : (s : Bool) (A : ℕ) → A ≤ 13176795 → AtMostP (in_radians s A)
at_most s A h = record { held = radians_fits s A (few h); units = by_sign s }
  where
    most : A * 2 ^ 127 ≤ pi_units
    most = mul-le-mul_right (2 ^ 127) h

    by_sign : (s : Bool) → Result binary32 (in_radians s A) pi_units
    by_sign false = record {
      p = A * 2 ^ 127;
      n = 0;
      part = plus_part binary32 (in_radians false A) (A * 2 ^ 127) (radians_value false A (few h));
      most = le_trans (le_of_eq (add-zero (A * 2 ^ 127))) most;
    }
    by_sign true = record {
      p = 0;
      n = A * 2 ^ 127;
      part = minus_part binary32 (in_radians true A) (A * 2 ^ 127) (radians_value true A (few h));
      most = le_trans (le_of_eq (zero-add (A * 2 ^ 127))) most;
    }

-- of any two numbers, and +0 where they are turned away
any_bounds : (y x : Float) → AtMostP (finite_atan2 y x)
unfolding finite_atan2
any_bounds y x = at_most (sign_bit y) (angle_of (sign_bit x) (mag x) (mag y)) (any_le (sign_bit x) (mag x) (mag y))

or_nought : (b : Bool) (r : Float) → AtMostP r → AtMostP (choose b r (in_radians false 0))
or_nought true r h = h
or_nought false r h = at_most false 0 (omega arith)

pub atan2_bounds : (y x : Float) → AtMostP (atan2 y x)
unfolding atan2
atan2_bounds y x = or_nought (finite y && finite x) (finite_atan2 y x) (any_bounds y x)

pub arc_cosine_bounds : (q : Float) → AtMostP (arc_cosine q)
unfolding arc_cosine inside_arc_cosine
arc_cosine_bounds q =
    or_nought (permits arc_cosine_argument q) (inside_arc_cosine q) (go (leb (mag q) upright_most) (leb→le (mag q) upright_most))
  where
    go : (b : Bool) → (T b → mag q ≤ upright_most)
        → AtMostP (choose b (in_radians false (upright (sign_bit q) (digits (mag q)))) (finite_atan2 (side q) q))
    go true h = at_most false (upright (sign_bit q) (digits (mag q))) (upright_le (sign_bit q) (digits (mag q)) (few_digits (mag q) (h tt)))
    go false h = any_bounds (side q) q
