-- `taught::look::used` meets its contract: the places behind us and those before us come to the same all along.
use Rattle.std.specs.Prelude.{◌≡◌, ◌+◌, ◌-◌, ◌*◌, drop}
use Rattle.taught.specs.Room.{used_from, used, most}
use Rattle.taught.proofs.look.used.Given as goal

abbrev pub invariant-loop-n : goal.invariant-loop-n
invariant-loop-n l = l.n + used_from (most - l.n) l.last (drop (80 * l.n) l.room) ≡ used l.room
