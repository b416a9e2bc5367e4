-- `told` loses nothing of an answer on commands, so no second answer fits a contract stated by it.
use Rattle.std.specs.Prelude.{◌≡◌, ℕ, Bool, eqb, List, get_or, Result}
use mathlib.Core.Path.{refl, sym, ap, ap₂, ◌∙◌}
use lib.Ieee.{Float, nan}
use Rattle.numbers.specs.Told.{Told, choose}
use Rattle.numbers.proofs.OneAnswer.{undone, flag_of_mark, told_by_loses_nothing}
use Rattle.commands.specs.Answers.{tripod_mark, command_marks, command_values, given_command, given_flag, told_tripod, told, told_should}
use Rattle.commands.specs.Command.{command}
use Rattle.numbers.specs.declared.refusal.Refusal.{Refusal}
use Rattle.commands.specs.declared.Tripod.{Tripod}
use Rattle.commands.specs.declared.Tripod.TheVariants.{LRL, RLR}
use Rattle.commands.specs.declared.MoveCommand.{MoveCommand}

-- a tripod is settled by its mark
pub tripod_of_mark : ℕ → Tripod
tripod_of_mark n = choose (eqb n 1) RLR LRL

pub tripod_back : (t : Tripod) → tripod_of_mark (tripod_mark t) ≡ t
unfolding tripod_of_mark
tripod_back LRL = refl
tripod_back RLR = refl

pub told_tripod_loses_nothing : (a b : Tripod) → told_tripod a ≡ told_tripod b → a ≡ b
told_tripod_loses_nothing = undone told_tripod (λ t. tripod_of_mark (get_or t.marks 0 0)) tripod_back

-- the command that these marks and values tell of
from_told : List ℕ → List Float → MoveCommand
from_told ks xs =
    command (get_or xs 0 nan) (get_or xs 1 nan) (get_or xs 2 nan)
    (record { seconds = get_or ks 0 0; nanoseconds = get_or ks 1 0 })
    (get_or xs 3 nan)
    (eqb (get_or ks 2 0) 1)

back : (c : MoveCommand) → from_told (command_marks c) (command_values c) ≡ c
unfolding from_told
back c =
    ap (λ (b : Bool). command c.direction_x c.direction_y c.rotation c.step_time c.step_height b)
    (flag_of_mark c.aggressive_leg_lift)

pub command_from_told : (a b : MoveCommand) → command_marks a ≡ command_marks b → command_values a ≡ command_values b → a ≡ b
command_from_told a b m v = sym (back a) ∙ ap₂ from_told m v ∙ back b

pub told_loses_nothing : (a b : Result MoveCommand Refusal) → told a ≡ told b → a ≡ b
told_loses_nothing =
    told_by_loses_nothing given_command
    (λ a b e. command_from_told a b (ap (λ (t : Told). t.marks) e) (ap (λ (t : Told). t.values) e))
    (λ a. refl)

pub told_should_loses_nothing : (a b : Result Bool Refusal) → told_should a ≡ told_should b → a ≡ b
told_should_loses_nothing =
    told_by_loses_nothing given_flag
    (λ a b e. sym (flag_of_mark a) ∙ ap (λ (t : Told). eqb (get_or t.marks 0 0) 1) e ∙ flag_of_mark b)
    (λ a. refl)
