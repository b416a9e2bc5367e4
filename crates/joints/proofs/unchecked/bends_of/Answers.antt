-- `joints::unchecked::bends_of` meets its contract, call by call.
use Rattle.joints.specs.Forward.{base_angle, femur_turn, tibia_turn}
use Rattle.joints.specs.Degrees.{ninety, one_fifty}
use Rattle.joints.specs.How.{bends_of}
use Rattle.joints.proofs.unchecked.bends_of.Goals as goal

pub returns : goal.returns
unfolding base_angle femur_turn tibia_turn ninety one_fifty bends_of
returns c = simp (c.from_motor-tibia_angle.ensures, c.from_motor-femur_angle.ensures)
