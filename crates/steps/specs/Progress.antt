-- Document 01, "Steps": how far a step is, from 0 at its start to 1 where it is done.
use Rattle.std.specs.Prelude.{Float}
use Rattle.std.specs.Float.{binary32}
use Rattle.std.specs.Float.Ieee.{add, div}
use Rattle.numbers.specs.Finite.{lesser}
use Rattle.commands.specs.Times.{in_seconds}
use Rattle.commands.specs.declared.Time.{Time}

-- "progress = min(longest(last, start) + max move, full) / full": over longest(last, start), max move and full
unfoldable pub step_progress : Float → Float → Float → Float
step_progress gone move full = div binary32 (lesser (add binary32 gone move) full) full

-- even pace: elapsed divided by the period once
unfoldable pub even_progress : Time → Time → Float
even_progress elapsed period = div binary32 (in_seconds elapsed) (in_seconds period)

-- "The source divides by the period twice; so do we."
unfoldable pub timed_progress : Time → Time → Float
timed_progress elapsed period =
    div binary32 (div binary32 (in_seconds elapsed) (in_seconds period)) (in_seconds period)
