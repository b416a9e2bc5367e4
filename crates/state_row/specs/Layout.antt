-- Request K10: "for C the state is a row of bytes whose layout stands in docs/, read on entry and written back". All numbers lowest byte
-- first. 506 bytes: 117 floats (from 0, 72, 144 and 216 the points of start, last, target and relaxed feet in row order, x y z each; from
-- 288 the command's direction x and y, rotation and step height; from 304 the configuration), at 468 the nanoseconds of the command's step
-- time, at 472 its seconds, from 480 the marks of the four sets of feet, 0 standing and 1 lifted, at 504 the lifted tripod, 0 LRL and 1
-- RLR, at 505 the command's flag.
-- "the joints of the last feet .. as 72 bytes of f32 bits, little endian, in row order, coxa, femur, tibia".
use Rattle.std.specs.Prelude.{ℕ, zero, suc, ◌+◌, Bool, true, false, ◌&&◌, List, [], ◌∷◌, ◌++◌, length, ◌==◌, nat_le, slice_index}
use Rattle.std.specs.Prelude.{Float}
use Rattle.numbers.specs.Told.{mark, choose}
use Rattle.legs.specs.Legs.{row, foot, angles, marked, coordinates, joints_of, values}
use Rattle.legs.specs.Answers.{lifts}
use Rattle.legs.specs.Legs.{Feet}
use Rattle.legs.specs.Legs.{Joints}
use Rattle.commands.specs.Answers.{tripod_mark, command_values}
use Rattle.commands.specs.declared.MoveCommand.{MoveCommand}
use Rattle.commands.specs.declared.Time.{Time}
use Rattle.commands.specs.declared.Tripod.{Tripod}
use Rattle.commands.specs.declared.Tripod.TheVariants.{LRL, RLR}
use Rattle.joints.specs.Configured.{leg}
use Rattle.joints.specs.declared.configuration.Body.{Body}
use Rattle.joints.specs.declared.configuration.LegConfiguration.{LegConfiguration}
use Rattle.joints.specs.declared.configuration.Configuration.{Configuration}
use Rattle.packed.specs.Packed.{word_at, long_at, float_at, point_at, feet_in, word_bytes, long_bytes, float_bytes}
use Rattle.conductor.specs.declared.State.{State}

-- ---- the bytes of a state
-- the floats of a configuration, of feet, and of a state, in the row's order
abbrev pub body_values : Body → List Float
body_values b =
    b.coxa_length ∷ b.femur_length ∷ b.tibia_length ∷ b.femur_offset ∷ b.tibia_offset ∷ []

abbrev pub leg_values : LegConfiguration → List Float
leg_values l = coordinates l.position ++ (l.angle_offset ∷ l.femur_correction ∷ l.tibia_correction ∷ [])

abbrev pub configuration_values : Configuration → List Float
configuration_values c = body_values c.body ++ values leg_values (row (leg c))

abbrev pub point_values : Feet → List Float
point_values f = values coordinates (row (foot f))

abbrev pub state_values : State → List Float
state_values s =
    point_values s.start
    ++ (point_values s.last
    ++ (point_values s.target
    ++ (point_values s.relaxed
    ++ (command_values s.command
    ++ configuration_values s.configuration))))

abbrev pub floats_bytes : List Float → List ℕ
floats_bytes [] = []
floats_bytes (x ∷ xs) = float_bytes x ++ floats_bytes xs

abbrev pub time_bytes : Time → List ℕ
time_bytes t = word_bytes t.nanoseconds ++ long_bytes t.seconds

abbrev pub flag_bytes : State → List ℕ
flag_bytes s =
    lifts s.start
    ++ (lifts s.last
    ++ (lifts s.target
    ++ (lifts s.relaxed
    ++ (tripod_mark s.lifted ∷ mark s.command.aggressive_leg_lift ∷ []))))

unfoldable pub state_bytes : State → List ℕ
state_bytes s = floats_bytes (state_values s) ++ (time_bytes s.command.step_time ++ flag_bytes s)

-- and of joints
unfoldable pub joint_bytes : Joints → List ℕ
joint_bytes j = floats_bytes (values joints_of (row (angles j)))

-- ---- the state of a row
-- what is read of a configuration's 164 bytes, from a place on
unfoldable pub leg_of : List ℕ → ℕ → LegConfiguration
leg_of l at =
    record {
      position = point_at l at;
      angle_offset = float_at l (at + 12);
      femur_correction = float_at l (at + 16);
      tibia_correction = float_at l (at + 20);
    }

unfoldable pub body_of : List ℕ → ℕ → Body
body_of l at =
    record {
      coxa_length = float_at l at;
      femur_length = float_at l (at + 4);
      tibia_length = float_at l (at + 8);
      femur_offset = float_at l (at + 12);
      tibia_offset = float_at l (at + 16);
    }

unfoldable pub configuration_of : List ℕ → ℕ → Configuration
configuration_of l at =
    record {
      body = body_of l at;
      legs =
          record {
            left_front = leg_of l (at + 20);
            right_front = leg_of l (at + 44);
            left_middle = leg_of l (at + 68);
            right_middle = leg_of l (at + 92);
            left_rear = leg_of l (at + 116);
            right_rear = leg_of l (at + 140);
          };
    }

-- six points of 72 bytes, in row order, of feet that all stand
unfoldable pub standing_of : List ℕ → Feet
standing_of l =
    marked (λ k. false)
    (record {
      left_front = point_at l 0;
      right_front = point_at l 12;
      left_middle = point_at l 24;
      right_middle = point_at l 36;
      left_rear = point_at l 48;
      right_rear = point_at l 60;
    })

-- a byte that is 1 stands for the second of two
abbrev pub flag : ℕ → Bool
flag b = b == 1

abbrev pub tripod_of : ℕ → Tripod
tripod_of b = choose (flag b) RLR LRL

unfoldable pub command_of : List ℕ → MoveCommand
command_of l =
    record {
      direction_x = float_at l 288;
      direction_y = float_at l 292;
      rotation = float_at l 296;
      step_height = float_at l 300;
      step_time = record { seconds = long_at l 472; nanoseconds = word_at l 468 };
      aggressive_leg_lift = flag (slice_index l 505);
    }

unfoldable pub state_of : List ℕ → State
state_of l =
    record {
      start = feet_in l 480 0;
      last = feet_in l 486 72;
      target = feet_in l 492 144;
      relaxed = feet_in l 498 216;
      lifted = tripod_of (slice_index l 504);
      command = command_of l;
      configuration = configuration_of l 304;
    }

-- ---- "a state row of the wrong length or with a mark that is no tripod or flag"
abbrev pub state_length : ℕ
state_length = 506

-- whether n bytes from a place on are 0 or 1
abbrev pub flags : ℕ → List ℕ → ℕ → Bool
flags zero l at = true
flags (suc n) l at = flags n l at && nat_le (slice_index l (at + n)) 1

unfoldable pub is_state : List ℕ → Bool
is_state l = length l == state_length && flags 26 l 480
