-- `taught::look::place_of` meets its contract: the places behind us and those before us come to the same all along.
use Rattle.std.specs.Prelude.{◌≡◌, ◌+◌, ◌-◌, ◌*◌, drop}
use Rattle.taught.specs.Room.{place_from}
use Rattle.taught.proofs.look.place_of.Given as goal

abbrev pub invariant-loop-k : goal.invariant-loop-k
invariant-loop-k l = l.k + place_from (l.n - l.k) l.id (drop (80 * l.k) l.room) ≡ place_from l.n l.id l.room
