-- What the entries answer: document 01's refusals 1 and 2, else the number.
use Rattle.std.specs.Prelude.{ℕ, [], ◌∷◌}
use Rattle.std.specs.Prelude.{Float}
use Rattle.numbers.specs.Door.{finite, permits, unless, first_of}
use Rattle.numbers.specs.Limits.{sine_argument}
use Rattle.numbers.specs.Told.{Told, given, answer}
use Rattle.sines.specs.How.{sine, cosine}

-- 1: x is NaN or infinite; 2: x is outside -16 to 16
abbrev pub refusal : Float → ℕ
refusal x = first_of (unless (finite x) 1 ∷ unless (permits sine_argument x) 2 ∷ [])

abbrev pub sine_told : Float → Told
sine_told x = answer (refusal x) (given [] (sine x ∷ []))

abbrev pub cosine_told : Float → Told
cosine_told x = answer (refusal x) (given [] (cosine x ∷ []))
