-- `lines::listed::three_tabbed` meets its contract. The places are nine bytes apart.
use mathlib.Core.Path.{sym, ap}
use mathlib.Core.Bool.{true}
use Rattle.lines.specs.Parts.{all_good}
use Rattle.lines.proofs.Places.{fields_three}
use Rattle.lines.proofs.listed.three_tabbed.Goals as goal

pub returns : goal.returns
unfolding all_good
returns c = simp (c.is_tabbed.ensures, c.is_tabbed-2.ensures, c.is_tabbed-3.ensures)
    (sym (ap (all_good true) (fields_three c.args.s.now c.args.at)))
