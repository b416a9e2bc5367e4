-- The bands are promised: each entry's own contract, as the checker has it (`Post`), gives document 01's rule of every value
-- answered. Were the clause of a band weakened, its law here would not hold. That the rules rule something out is in Examples.
use Rattle.std.specs.Prelude.{Result, Ok, IfOk}
use mathlib.Core.Path.{◌≡◌, subst}
use lib.Ieee.{Float}
use Rattle.numbers.specs.declared.refusal.Refusal.{Refusal}
use Rattle.roots.specs.Root.{RootOf}
use Rattle.sines.specs.Bands.{SineOf, CosineOf}
use Rattle.arcs.specs.Wedges.{ArcCosineOf, Atan2Of}
use Rattle.roots.proofs.square_root.Reads as square_root
use Rattle.sines.proofs.sine.Reads as sine
use Rattle.sines.proofs.cosine.Reads as cosine
use Rattle.arcs.proofs.arc_cosine.Reads as arc_cosine
use Rattle.arcs.proofs.atan2.Reads as atan2

-- every value answered that meets the contract C is as the rule says
abbrev pub Gives : {I : Type 0} → (I → Result Float Refusal → I → Type 0) → (I → Float → Type 0) → Type 0
Gives {I} C Rule = (i : I) (r : Result Float Refusal) (y : Float) → C i r i → r ≡ Ok y → Rule i y

-- what is promised of whatever is answered holds of the value
of_value : {r : Result Float Refusal} {y : Float} (Rule : Float → Type 0) → IfOk r Rule → r ≡ Ok y → Rule y
of_value Rule held is = subst (λ (s : Result Float Refusal). IfOk s Rule) is held

pub square_root_gives : Gives (square_root.Post tt) (λ i. RootOf i.0)
square_root_gives i r y met is = of_value (RootOf i.0) met.1 is

pub sine_gives : Gives (sine.Post tt) (λ i. SineOf i.0)
sine_gives i r y met is = of_value (SineOf i.0) met.1 is

pub cosine_gives : Gives (cosine.Post tt) (λ i. CosineOf i.0)
cosine_gives i r y met is = of_value (CosineOf i.0) met.1 is

pub arc_cosine_gives : Gives (arc_cosine.Post tt) (λ i. ArcCosineOf i.0)
arc_cosine_gives i r y met is = of_value (ArcCosineOf i.0) met.1 is

pub atan2_gives : Gives (atan2.Post tt) (λ i. Atan2Of i.0 i.1.0)
atan2_gives i r y met is = of_value (Atan2Of i.0 i.1.0) met.1 is
