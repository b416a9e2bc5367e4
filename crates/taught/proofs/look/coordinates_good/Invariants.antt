-- `taught::look::coordinates_good` meets its contract: after i words, whether they all are low.
use Rattle.std.specs.Prelude.{◌≡◌}
use Rattle.taught.specs.How.{words_low}
use Rattle.taught.proofs.look.coordinates_good.Given as goal

abbrev pub invariant-loop-i : goal.invariant-loop-i
invariant-loop-i l = l.good ≡ words_low l.i l.room l.at
