-- `taught::look::is_at` meets its contract.
use Rattle.std.specs.Prelude.{◌≡◌, ℕ, ◌*◌, ◌<◌, Bool, ◌&&◌, eqb, ltb, List, drop}
use mathlib.Core.Path.{sym, ap, ◌∙◌}
use borrow.Author.Tests.{lt-ltb}
use Rattle.packed.specs.Packed.{pair_at}
use Rattle.taught.specs.Room.{id_of}
use Rattle.taught.proofs.Looking.{id_at}
use Rattle.taught.proofs.look.is_at.Goals as goal

here : (room : List ℕ) (n place id found : ℕ) → place < n → found ≡ pair_at room (80 * place)
    → eqb found id ≡ (ltb place n && eqb (id_of (drop (80 * place) room)) id)
here room n place id found h e =
    ap (λ (i : ℕ). eqb i id) (e ∙ id_at room (80 * place))
    ∙ ap (λ (b : Bool). b && eqb (id_of (drop (80 * place) room)) id) (sym (lt-ltb place n h))

pub returns-then-place-n : goal.returns-then-place-n
returns-then-place-n c = here _ _ _ _ _ c.if-place-n.true c.pair_at.ensures
