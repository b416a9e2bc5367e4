-- What each entry tells: the first refusal that applies, else its values.
use Rattle.std.specs.Prelude.{[], ◌∷◌}
use Rattle.std.specs.Prelude.{Float}
use Rattle.numbers.specs.Told.{Told, given, answer}
use Rattle.legs.specs.Legs.{points}
use Rattle.legs.specs.declared.Point.{Point}
use Rattle.legs.specs.Legs.{Feet}
use Rattle.moves.specs.Distance.{longest_distance}
use Rattle.moves.specs.Moving.{move_towards, move_feet_towards}
use Rattle.moves.specs.Answers.{told_step, told_feet_step}
use Rattle.moves.specs.Refusals.{move_refusal, move_feet_refusal, longest_refusal}

unfoldable pub move_told : Point → Point → Float → Told
move_told l t m = answer (move_refusal l t m) (told_step (move_towards l t m))

unfoldable pub move_feet_told : Feet → Feet → Float → Told
move_feet_told l t m = answer (move_feet_refusal l t m) (told_feet_step (move_feet_towards l t m))

unfoldable pub longest_told : Feet → Feet → Told
longest_told a b = answer (longest_refusal a b) (given [] (longest_distance (points a) (points b) ∷ []))
