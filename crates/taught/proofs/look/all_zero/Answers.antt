-- `taught::look::all_zero` meets its contract: what is seen and what is left come to the same all along.
use Rattle.std.specs.Prelude.{◌≡◌, ℕ, ◌+◌, ◌<◌, Bool, ◌&&◌, eqb, List, length, get_or, drop}
use mathlib.Core.Path.{ap, ◌∙◌}
use native.Mathlib.Omega.{arith}
use native.Mathlib.Numerals.{add-one}
use Rattle.taught.specs.Room.{all_zero}
use Rattle.taught.proofs.Looking.{zero_goes_on, zero_ends}
use Rattle.taught.proofs.look.all_zero.Goals as goal

goes_on : (room : List ℕ) (i : ℕ) (good : Bool) → i < length room
    → (good && eqb (get_or room i 0) 0 && all_zero (drop (i + 1) room)) ≡ (good && all_zero (drop i room))
goes_on room i good h = ap (λ (n : ℕ). good && eqb (get_or room i 0) 0 && all_zero (drop n room)) (add-one i) ∙ zero_goes_on room i good h

pub loop-b-preserved : goal.loop-b-preserved
loop-b-preserved c =
    goes_on c.args.bytes.now c.loop-b.b-index c.loop-b.good
    (omega arith) ∙ c.loop-b.invariant

pub returns : goal.returns
returns c = zero_ends c.args.bytes.now c.loop-b.b-index c.loop-b.good (omega arith) ∙ c.loop-b.invariant
