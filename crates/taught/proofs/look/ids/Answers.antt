-- `taught::look::ids` meets its contract: after so many places, their ids and then zeros.
use Rattle.std.specs.Prelude.{◌≡◌, ℕ, ◌+◌, ◌-◌, ◌*◌, ◌<◌, List, ◌++◌, set}
use mathlib.Core.Path.{sym, ap, ◌∙◌}
use native.Mathlib.Omega.{arith}
use native.Mathlib.Numerals.{add-one}
use Rattle.packed.specs.Packed.{pair_at}
use Rattle.taught.specs.Room.{ids_from, zeros, most}
use Rattle.taught.proofs.Looking.{id_at, id_stored, ids_begin, ids_end}
use Rattle.taught.proofs.look.ids.Goals as goal

stored : (room ids : List ℕ) (k at id : ℕ) → k < most → ids ≡ ids_from k room ++ zeros (most - k) → at ≡ 80 * k → id ≡ pair_at room at
    → set ids k id ≡ ids_from (k + 1) room ++ zeros (most - (k + 1))
stored room ids k at id h is place e =
    ap (λ (m : List ℕ). set m k id) is
    ∙ ap (λ (n : ℕ). set (ids_from k room ++ zeros (most - k)) k n) (e ∙ ap (pair_at room) place ∙ id_at room (80 * k))
    ∙ id_stored most k room h
    ∙ ap (λ (n : ℕ). ids_from n room ++ zeros (most - n)) (sym (add-one k))

pub loop-id-init : goal.loop-id-init
loop-id-init c = (ids_begin most _, omega arith)

pub loop-id-preserved : goal.loop-id-preserved
loop-id-preserved c =
    let at = c.loop-id.invariant in (stored _ _ _ _ _ (omega arith) at.0 at.1 c.pair_at.ensures, omega arith)

pub returns : goal.returns
returns c = c.loop-id.invariant.0 ∙ ids_end most _ _ (omega arith)
