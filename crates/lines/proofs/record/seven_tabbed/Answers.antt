-- `lines::record::seven_tabbed` meets its contract. The places are nine bytes apart.
use mathlib.Core.Path.{sym, ap}
use mathlib.Core.Bool.{true}
use Rattle.lines.specs.Parts.{all_good}
use Rattle.lines.proofs.Places.{fields_seven}
use Rattle.lines.proofs.record.seven_tabbed.Goals as goal

pub returns : goal.returns
unfolding all_good
returns c = simp (
  c.is_tabbed.ensures,
  c.is_tabbed-2.ensures,
  c.is_tabbed-3.ensures,
  c.is_tabbed-4.ensures,
  c.is_tabbed-5.ensures,
  c.is_tabbed-6.ensures,
  c.is_tabbed-7.ensures,
) (sym (ap (all_good true) (fields_seven c.args.s.now)))
