-- Moves by computation, by either distance: request K6's two, a zero to the other zero and a piece that is lost in rounding; and one
-- straight up, which a distance in x and y alone would end at once.
use Rattle.std.specs.Prelude.{◌≡◌, ℕ, [], ◌∷◌}
use mathlib.Core.Path.{refl}
use lib.Ieee.{Float, binary32, of_bits, add, sub, mul, div, le, eq}
use Rattle.numbers.specs.Told.{Told, given}
use Rattle.numbers.specs.Door.{finite}
use Rattle.numbers.specs.Limits.{over, minus, foot_limit, max_move}
use Rattle.roots.specs.Root.{square_root}
use Rattle.legs.specs.Legs.{finite_point, permitted_point}
use Rattle.legs.specs.declared.Point.{Point}
use Rattle.moves.specs.Distance.{same, square_sum, distance}
use Rattle.moves.specs.Moving.{component, along, nearer, step_at, move_towards}
use Rattle.moves.specs.Refusals.{move_refusal}
use Rattle.moves.specs.Entries.{move_told}
use Rattle.moves.proofs.OneMove.{move_vector_towards, move_vector_told}

-- (x, 0, z), by the bits of x and z; moved there (1), or arrived (0)
abbrev at : ℕ → ℕ → Point
at x z = record { x = of_bits binary32 x; y = of_bits binary32 0; z = of_bits binary32 z }

abbrev is_at : ℕ → ℕ → ℕ → Told
is_at moved x z = given (moved ∷ []) (of_bits binary32 x ∷ of_bits binary32 0 ∷ of_bits binary32 z ∷ [])

-- x from -0 to 0 by 0: arrived, at the target's +0; from 3f800001 to 3f800000 by 2 ^ -25: moved, and where it was; z from 0 to 1/4 by 1/8:
-- half the way
abbrev Tells : (Point → Point → Float → Told) → Type 0
Tells tell = (tell (at 0x8000_0000 0) (at 0 0) (of_bits binary32 0) ≡ is_at 0 0 0)
    × (tell (at 0x3f80_0001 0) (at 0x3f80_0000 0) (of_bits binary32 0x3300_0000) ≡ is_at 1 0x3f80_0001 0)
    × (tell (at 0 0) (at 0 0x3e80_0000) (of_bits binary32 0x3e00_0000) ≡ is_at 1 0 0x3e00_0000)

pub by_either_distance : Tells move_told × Tells move_vector_told
unfolding move_told move_vector_told move_refusal finite_point permitted_point foot_limit max_move over minus finite move_towards
    move_vector_towards
    step_at nearer along component same distance square_sum square_root of_bits add sub mul div le eq
by_either_distance = ((refl, refl, refl), (refl, refl, refl))
