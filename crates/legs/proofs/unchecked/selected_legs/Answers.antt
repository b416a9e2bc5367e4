-- `legs::unchecked::selected_legs` meets its contract: six places, filled from the last leg to the first, hold the legs that the mask
-- names.
use Rattle.legs.proofs.Filling.{filled}
use Rattle.legs.proofs.unchecked.selected_legs.Goals as goal

pub returns : goal.returns
returns c = simp (
  c.headed_by.ensures,
  c.headed_by-s-5.ensures,
  c.headed_by-s-4.ensures,
  c.headed_by-s-3.ensures,
  c.headed_by-s-2.ensures,
  c.headed_by-s.ensures,
  c.none_selected-s.ensures,
  c.named-named.ensures,
)
    (filled c.args.feet c.args.mask)
