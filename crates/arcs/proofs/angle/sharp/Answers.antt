-- `arcs::angle::sharp` meets its contract: a quarter turn less the angle where the vector is steep.
use Rattle.arcs.proofs.Ranges.{sharp_is}
use Rattle.arcs.proofs.angle.sharp.Goals as goal

pub returns : goal.returns
returns c =
    let s = c.args in
    let t = c.slope-t in
    sharp_is s.steep s.w t.result c.chosen.result t.ensures.0 t.ensures.1 c.chosen.ensures
