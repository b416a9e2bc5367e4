-- 0 and 1 as f32, which the default command, the steps and the planner name.
use Rattle.std.specs.Prelude.{Float}
use Rattle.numbers.specs.Limits.{over}

unfoldable pub nought : Float
nought = over 0 1

unfoldable pub one : Float
one = over 1 1
