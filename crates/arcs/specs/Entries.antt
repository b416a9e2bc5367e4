-- What the entries answer: document 01's refusals 1 and 2, else the number.
use Rattle.std.specs.Prelude.{ℕ, ◌&&◌, [], ◌∷◌}
use Rattle.std.specs.Prelude.{Float}
use Rattle.numbers.specs.Door.{finite, permits, unless, first_of}
use Rattle.numbers.specs.Limits.{arc_cosine_argument, atan2_argument}
use Rattle.numbers.specs.Told.{Told, given, answer}
use Rattle.arcs.specs.How.{arc_cosine, atan2}

-- 1: q is NaN or infinite; 2: q is outside -1 to 1
abbrev pub arc_cosine_refusal : Float → ℕ
arc_cosine_refusal q = first_of (unless (finite q) 1 ∷ unless (permits arc_cosine_argument q) 2 ∷ [])

abbrev pub arc_cosine_told : Float → Told
arc_cosine_told q = answer (arc_cosine_refusal q) (given [] (arc_cosine q ∷ []))

-- 1: y or x is NaN or infinite; 2: y or x is outside -128 to 128
abbrev pub atan2_refusal : Float → Float → ℕ
atan2_refusal y x = first_of (unless (finite y && finite x) 1 ∷ unless (permits atan2_argument y && permits atan2_argument x) 2 ∷ [])

abbrev pub atan2_told : Float → Float → Told
atan2_told y x = answer (atan2_refusal y x) (given [] (atan2 y x ∷ []))
