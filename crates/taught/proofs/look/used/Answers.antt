-- `taught::look::used` meets its contract: the places behind us and those before us come to the same all along.
use Rattle.std.specs.Prelude.{◌≡◌, ℕ, suc, ◌+◌, ◌-◌, ◌*◌, ◌<◌, true, List, drop}
use mathlib.Core.Path.{sym, ap, ◌∙◌}
use native.Mathlib.Nat.{zero-add}
use native.Mathlib.Omega.{arith}
use native.Mathlib.Numerals.{add-one}
use borrow.Author.Tests.{not-true, not-false}
use Rattle.packed.specs.Packed.{pair_at}
use Rattle.taught.specs.Room.{behind, holds, used_from, used, most}
use Rattle.taught.proofs.Looking.{id_at, next_place, used_stops, used_goes_on, used_ends}
use Rattle.std.proofs.lemmas.Bool.{not_from_false, not_from_true}
use Rattle.taught.proofs.look.used.Goals as goal

begins : (room : List ℕ) → 0 + used_from most 0 room ≡ used room
unfolding used
begins room = zero-add (used_from most 0 room)

goes_on : (room : List ℕ) (n last id : ℕ) → n < most → holds last (drop (80 * n) room) ≡ true → id ≡ pair_at room (80 * n)
    → (n + 1) + used_from (most - (n + 1)) id (drop (80 * (n + 1)) room) ≡ n + used_from (most - n) last (drop (80 * n) room)
goes_on room n last id h there e =
    ap (λ (j : ℕ). j + used_from (most - j) id (drop (80 * j) room)) (add-one n)
    ∙ ap (λ (m : List ℕ). suc n + used_from (most - suc n) id m) (sym (next_place room n))
    ∙ ap (λ (i : ℕ). suc n + used_from (most - suc n) i (behind (drop (80 * n) room))) (e ∙ id_at room (80 * n))
    ∙ used_goes_on most n last (drop (80 * n) room) h there

ends : (room : List ℕ) (n last : ℕ) → n ≡ most → most ≡ n + used_from (most - n) last (drop (80 * n) room)
ends room n last e =
    used_ends most last (drop (80 * n) room) ∙ ap (λ (j : ℕ). j + used_from (most - j) last (drop (80 * n) room)) (sym e)

pub loop-n-init : goal.loop-n-init
loop-n-init c = begins c.args.room.now

pub returns-then-not-holds : goal.returns-then-not-holds
returns-then-not-holds c =
    used_stops most _ _ _ (omega arith) (sym c.holds.ensures ∙ not-true _ (not_from_false _ c.if-not-holds.true)) ∙
    c.loop-n.invariant

pub loop-n-preserved : goal.loop-n-preserved
loop-n-preserved c =
    let there = sym c.holds.ensures ∙ not-false _ (not_from_true _ c.if-not-holds.false) in
    goes_on _ _ _ _ (omega arith) there c.pair_at-last.ensures ∙ c.loop-n.invariant

pub returns : goal.returns
returns c = ends _ _ _ (omega arith) ∙ c.loop-n.invariant
