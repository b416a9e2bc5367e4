-- Document 01's number and values for each case of an answer on commands.
use Rattle.std.specs.Prelude.{ℕ, Bool, List, [], ◌∷◌, Float, Result}
use Rattle.numbers.specs.Told.{Told, given, mark}
use Rattle.numbers.specs.Answers.{told_by}
use Rattle.numbers.specs.declared.refusal.Refusal.{Refusal}
use Rattle.commands.specs.declared.Tripod.{Tripod}
use Rattle.commands.specs.declared.Tripod.TheVariants.{LRL, RLR}
use Rattle.commands.specs.declared.MoveCommand.{MoveCommand}

-- a tripod is 0 for LRL, 1 for RLR
abbrev pub tripod_mark : Tripod → ℕ
tripod_mark LRL = 0
tripod_mark RLR = 1

abbrev pub told_tripod : Tripod → Told
told_tripod t = given (tripod_mark t ∷ []) []

-- a command's marks: step time in seconds and nanoseconds, the flag; its values: direction, rotation, step height
abbrev pub command_marks : MoveCommand → List ℕ
command_marks c = c.step_time.seconds ∷ c.step_time.nanoseconds ∷ mark c.aggressive_leg_lift ∷ []

abbrev pub command_values : MoveCommand → List Float
command_values c = c.direction_x ∷ c.direction_y ∷ c.rotation ∷ c.step_height ∷ []

abbrev pub given_command : MoveCommand → Told
given_command c = given (command_marks c) (command_values c)

abbrev pub told : Result MoveCommand Refusal → Told
told r = told_by given_command r

-- yes is 1, no is 0
abbrev pub given_flag : Bool → Told
given_flag b = given (mark b ∷ []) []

abbrev pub told_should : Result Bool Refusal → Told
told_should r = told_by given_flag r
