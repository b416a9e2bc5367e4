-- `listing::block::whole` meets its contract: a line that is no record has refusal 7.
use mathlib.Core.Path.{refl, sym, subst}
use Rattle.std.specs.Prelude.{Option}
use Rattle.lines.specs.declared.record.Walk.{Walk}
use Rattle.numbers.specs.declared.refusal.Refusal.TheVariants.{NoRecord}
use Rattle.listing.specs.Listing.{Prints}
use Rattle.listing.specs.Block.{text_of}
use Rattle.listing.specs.declared.block.Rest.TheVariants.{Refusing}
use Rattle.listing.proofs.block.whole.Goals as goal

pub returns-in-None : goal.returns-in-None
unfolding text_of
returns-in-None c = subst (λ (a : Option Walk). Prints a (text_of (Refusing NoRecord))) (sym c.in-None.is) refl
