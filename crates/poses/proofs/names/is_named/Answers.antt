-- `poses::names::is_named` meets its contract.
use mathlib.Core.Path.{ap, ◌∙◌}
use Rattle.poses.specs.Names.{same}
use Rattle.poses.proofs.Named.{same_pointwise}
use Rattle.poses.proofs.names.is_named.Goals as goal

pub returns : goal.returns
returns c = c.eq.ensures ∙ same_pointwise c.args.name.now c.name_of.result.now ∙ ap (same c.args.name.now) c.name_of.ensures
