-- What is stored of a finite state, and of finite joints, is finite, part by part. Assumes nothing.
use Rattle.std.specs.Prelude.{◌≡◌, Bool, true, ◌&&◌}
use Rattle.numbers.specs.Door.{finite}
use Rattle.numbers.proofs.OnePass.{and_left, and_right}
use Rattle.legs.specs.Legs.{Leg, angles, every, finite_point, finite_feet}
use Rattle.legs.specs.declared.LegAngles.{LegAngles}
use Rattle.legs.specs.Legs.{Joints}
use Rattle.legs.proofs.OnePass.{each_true}
use Rattle.commands.specs.Command.{finite_command}
use Rattle.commands.specs.declared.MoveCommand.{MoveCommand}
use Rattle.joints.specs.Configured.{leg, finite_leg, finite_body, finite_configuration, finite_angles, finite_joints}
use Rattle.joints.specs.declared.configuration.Body.{Body}
use Rattle.joints.specs.declared.configuration.LegConfiguration.{LegConfiguration}
use Rattle.joints.specs.declared.configuration.Configuration.{Configuration}
use Rattle.conductor.specs.States.{finite_state}
use Rattle.conductor.specs.declared.State.{State}

-- ---- tests that all hold
three_hold : (a b c : Bool) → (a && b && c) ≡ true → (a ≡ true) × (b ≡ true) × (c ≡ true)
three_hold a b c h =
    let two = and_left (a && b) c h in (and_left a b two, and_right a b two, and_right (a && b) c h)

four_hold : (a b c d : Bool) → (a && b && c && d) ≡ true → (a ≡ true) × (b ≡ true) × (c ≡ true) × (d ≡ true)
four_hold a b c d h =
    let three = three_hold a b c (and_left (a && b && c) d h) in (three.0, three.1, three.2, and_right (a && b && c) d h)

five_hold : (a b c d e : Bool) → (a && b && c && d && e) ≡ true → (a ≡ true) × (b ≡ true) × (c ≡ true) × (d ≡ true) × (e ≡ true)
five_hold a b c d e h =
    let four = four_hold a b c d (and_left (a && b && c && d) e h) in
    (four.0, four.1, four.2, four.3, and_right (a && b && c && d) e h)

six_hold : (a b c d e f : Bool) → (a && b && c && d && e && f) ≡ true
    → (a ≡ true) × (b ≡ true) × (c ≡ true) × (d ≡ true) × (e ≡ true) × (f ≡ true)
six_hold a b c d e f h =
    let five = five_hold a b c d e (and_left (a && b && c && d && e) f h) in
    (five.0, five.1, five.2, five.3, five.4, and_right (a && b && c && d && e) f h)

-- ---- a leg's angles, each leg's; what is a leg's own, what all legs share; a command
pub of_angles : (a : LegAngles) → finite_angles a ≡ true
    → (finite a.coxa ≡ true) × (finite a.femur ≡ true) × (finite a.tibia ≡ true)
unfolding finite_angles
of_angles a = three_hold (finite a.coxa) (finite a.femur) (finite a.tibia)

pub its_angles : (j : Joints) → finite_joints j ≡ true → (l : Leg) → finite_angles (angles j l) ≡ true
its_angles j = each_true (λ l. finite_angles (angles j l))

pub of_leg : (l : LegConfiguration) → finite_leg l ≡ true
    → (finite_point l.position ≡ true) × (finite l.angle_offset ≡ true) × (finite l.femur_correction ≡ true)
    × (finite l.tibia_correction ≡ true)
unfolding finite_leg
of_leg l =
    four_hold (finite_point l.position) (finite l.angle_offset) (finite l.femur_correction) (finite l.tibia_correction)

pub of_body : (b : Body) → finite_body b ≡ true
    → (finite b.coxa_length ≡ true) × (finite b.femur_length ≡ true) × (finite b.tibia_length ≡ true)
    × (finite b.femur_offset ≡ true) × (finite b.tibia_offset ≡ true)
unfolding finite_body
of_body b =
    five_hold (finite b.coxa_length) (finite b.femur_length) (finite b.tibia_length) (finite b.femur_offset)
    (finite b.tibia_offset)

pub of_command : (c : MoveCommand) → finite_command c ≡ true
    → (finite c.direction_x ≡ true) × (finite c.direction_y ≡ true) × (finite c.rotation ≡ true)
    × (finite c.step_height ≡ true)
unfolding finite_command
of_command c =
    four_hold (finite c.direction_x) (finite c.direction_y) (finite c.rotation) (finite c.step_height)

-- ---- a configuration's body, and each of its legs
module _ (c : Configuration) (h : finite_configuration c ≡ true) where
  pub its_body : finite_body c.body ≡ true
  unfolding finite_configuration
  its_body = and_right (every (λ l. finite_leg (leg c l))) (finite_body c.body) h

  pub its_leg : (l : Leg) → finite_leg (leg c l) ≡ true
  unfolding finite_configuration
  its_leg = each_true (λ l. finite_leg (leg c l)) (and_left (every (λ l. finite_leg (leg c l))) (finite_body c.body) h)

-- ---- a state's feet, its command, its configuration
pub of_state : (s : State) → finite_state s ≡ true
    → (finite_feet s.start ≡ true) × (finite_feet s.last ≡ true) × (finite_feet s.target ≡ true) × (finite_feet s.relaxed ≡ true)
    × (finite_command s.command ≡ true) × (finite_configuration s.configuration ≡ true)
unfolding finite_state
of_state s =
    six_hold (finite_feet s.start) (finite_feet s.last) (finite_feet s.target) (finite_feet s.relaxed) (finite_command s.command)
    (finite_configuration s.configuration)
