-- `taught::look::all_zero` meets its contract: what is seen and what is left come to the same all along.
use Rattle.std.specs.Prelude.{◌≡◌, ◌&&◌, drop}
use Rattle.taught.specs.Room.{all_zero}
use Rattle.taught.proofs.look.all_zero.Given as goal

abbrev pub invariant-loop-b : goal.invariant-loop-b
invariant-loop-b l = (l.good && all_zero (drop l.b-index l.bytes)) ≡ all_zero l.bytes
