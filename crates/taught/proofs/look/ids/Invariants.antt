-- `taught::look::ids` meets its contract: after so many places, their ids and then zeros.
use Rattle.std.specs.Prelude.{◌≡◌, ◌-◌, ◌*◌, ◌++◌}
use Rattle.taught.specs.Room.{ids_from, zeros, most}
use Rattle.taught.proofs.look.ids.Given as goal

abbrev pub invariant-loop-id : goal.invariant-loop-id
invariant-loop-id l = (l.id-items ≡ ids_from l.id-index l.room ++ zeros (most - l.id-index)) × (l.at ≡ 80 * l.id-index)
