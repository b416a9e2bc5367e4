-- `taught::look::holds` meets its contract: the id, the marks and the coordinates of the place.
use Rattle.std.specs.Prelude.{◌≡◌, ℕ, ◌+◌, Bool, ◌&&◌, ltb, List, drop}
use mathlib.Core.Path.{ap, ◌∙◌}
use Rattle.packed.specs.Packed.{pair_at}
use Rattle.taught.specs.Room.{id_of, marks_good, holds}
use Rattle.taught.specs.How.{words_low}
use Rattle.taught.proofs.Looking.{id_at}
use Rattle.taught.proofs.Coordinates.{coordinates_good}
use Rattle.taught.proofs.look.holds.Goals as goal

all_three : (room : List ℕ) (at last id : ℕ) (marks floats : Bool) → id ≡ pair_at room at → marks ≡ marks_good (drop at room)
    → floats ≡ words_low 18 room (at + 8) → (ltb last id && marks && floats) ≡ holds last (drop at room)
unfolding holds
all_three room at last id marks floats e m f =
    ap (λ (i : ℕ). ltb last i && marks && floats) (e ∙ id_at room at)
    ∙ ap (λ (b : Bool). ltb last (id_of (drop at room)) && b && floats) m
    ∙ ap (λ (b : Bool). ltb last (id_of (drop at room)) && marks_good (drop at room) && b) (f ∙ coordinates_good room at)

pub returns : goal.returns
returns c =
    all_three c.args.room.now c.args.at c.args.last _ _ _ c.pair_at.ensures
    c.marks_good.ensures c.coordinates_good.ensures
