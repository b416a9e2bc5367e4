-- `taught::look::marks_good` meets its contract: six bytes of the place.
use lib.Seq.{get_or-drop}
use Rattle.taught.specs.Room.{marks_good}
use Rattle.taught.proofs.look.marks_good.Goals as goal

pub returns : goal.returns
unfolding marks_good
returns c = simp (
  c.is_mark-6.ensures,
  c.is_mark-5.ensures,
  c.is_mark-4.ensures,
  c.is_mark-3.ensures,
  c.is_mark-2.ensures,
  c.is_mark.ensures,
  get_or-drop,
)
