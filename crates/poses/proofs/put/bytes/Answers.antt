-- `poses::put::bytes` meets its contract.
use mathlib.Core.Path.{refl}
use Rattle.poses.proofs.InOrder.{copied}
use Rattle.poses.proofs.put.bytes.Goals as goal

pub returns : goal.returns
returns c = record { place = refl; bytes = copied c.args.row.now c.args.text.now _ c.args.at c.copy_from_slice.ensures.after c.requires }
