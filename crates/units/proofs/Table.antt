-- Document 01's table in units: what the two ends of each row are that a law speaks of. The rows are opened here and nowhere else.
use mathlib.Core.Path.{refl}
use Prim.Native.Nat.{◌*◌, ◌^◌}
use Rattle.numbers.specs.Limits as rows
use Rattle.units.specs.Units.{unity}
use Rattle.units.proofs.Door.{Ends}

pub foot_ends : Ends rows.foot_limit 0 (4 * unity) (4 * unity) 0
unfolding rows.foot_limit
foot_ends = record { from = (refl, refl); to = (refl, refl) }

pub walk_foot_ends : Ends rows.walk_foot 0 (3 * unity) (3 * unity) 0
unfolding rows.walk_foot
walk_foot_ends = record { from = (refl, refl); to = (refl, refl) }

pub direction_ends : Ends rows.direction 0 unity unity 0
unfolding rows.direction
direction_ends = record { from = (refl, refl); to = (refl, refl) }

pub rotation_ends : Ends rows.rotation 0 (4 * unity) (4 * unity) 0
unfolding rows.rotation
rotation_ends = record { from = (refl, refl); to = (refl, refl) }

pub correction_ends : Ends rows.correction 0 (6 * unity) (6 * unity) 0
unfolding rows.correction
correction_ends = record { from = (refl, refl); to = (refl, refl) }

pub offset_ends : Ends rows.offset 0 (2 * unity) (2 * unity) 0
unfolding rows.offset
offset_ends = record { from = (refl, refl); to = (refl, refl) }

pub leg_length_ends : Ends rows.leg_length (2 ^ 141) 0 unity 0
unfolding rows.leg_length
leg_length_ends = record { from = (refl, refl); to = (refl, refl) }

pub motor_angle_ends : Ends rows.motor_angle 0 0 (8 * unity) 0
unfolding rows.motor_angle
motor_angle_ends = record { from = (refl, refl); to = (refl, refl) }

pub max_move_ends : Ends rows.max_move 0 0 unity 0
unfolding rows.max_move
max_move_ends = record { from = (refl, refl); to = (refl, refl) }

pub walk_move_ends : Ends rows.walk_move (2 ^ 137) 0 unity 0
unfolding rows.walk_move
walk_move_ends = record { from = (refl, refl); to = (refl, refl) }

pub sine_argument_ends : Ends rows.sine_argument 0 (16 * unity) (16 * unity) 0
unfolding rows.sine_argument
sine_argument_ends = record { from = (refl, refl); to = (refl, refl) }

pub root_argument_ends : Ends rows.root_argument 0 0 (65536 * unity) 0
unfolding rows.root_argument
root_argument_ends = record { from = (refl, refl); to = (refl, refl) }

pub arc_cosine_argument_ends : Ends rows.arc_cosine_argument 0 unity unity 0
unfolding rows.arc_cosine_argument
arc_cosine_argument_ends = record { from = (refl, refl); to = (refl, refl) }

pub atan2_argument_ends : Ends rows.atan2_argument 0 (128 * unity) (128 * unity) 0
unfolding rows.atan2_argument
atan2_argument_ends = record { from = (refl, refl); to = (refl, refl) }
