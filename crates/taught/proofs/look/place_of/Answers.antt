-- `taught::look::place_of` meets its contract: the places behind us and those before us come to the same all along.
use Rattle.std.specs.Prelude.{◌≡◌, ℕ, suc, ◌+◌, ◌-◌, ◌*◌, ◌<◌, ◌≤◌, ltb, List, drop}
use mathlib.Core.Path.{sym, ap, ◌∙◌}
use native.Mathlib.Nat.{zero-add}
use native.Mathlib.Omega.{arith}
use native.Mathlib.Numerals.{add-one}
use borrow.Author.Tests.{le-ltb, lt-ltb}
use Rattle.packed.specs.Packed.{pair_at}
use Rattle.taught.specs.Room.{place_from}
use Rattle.taught.proofs.Looking.{id_at, next_place, place_stops, place_goes_on, place_ends}
use Rattle.taught.proofs.look.place_of.Goals as goal

begins : (room : List ℕ) (n id : ℕ) → 0 + place_from (n - 0) id room ≡ place_from n id room
begins room n id = let all : n - 0 ≡ n = omega arith in zero-add (place_from (n - 0) id room) ∙ ap (λ (k : ℕ). place_from k id room) all

stops : (room : List ℕ) (n k id here : ℕ) → k < n → here ≡ pair_at room (80 * k) → id ≤ here
    → k ≡ k + place_from (n - k) id (drop (80 * k) room)
stops room n k id here h e low =
    place_stops n k id (drop (80 * k) room) h (ap (λ (i : ℕ). ltb i id) (sym (e ∙ id_at room (80 * k))) ∙ le-ltb here id low)

goes_on : (room : List ℕ) (n k id here : ℕ) → k < n → here ≡ pair_at room (80 * k) → here < id
    → (k + 1) + place_from (n - (k + 1)) id (drop (80 * (k + 1)) room) ≡ k + place_from (n - k) id (drop (80 * k) room)
goes_on room n k id here h e below =
    ap (λ (j : ℕ). j + place_from (n - j) id (drop (80 * j) room)) (add-one k)
    ∙ ap (λ (m : List ℕ). suc k + place_from (n - suc k) id m) (sym (next_place room k))
    ∙ place_goes_on n k id (drop (80 * k) room) h (ap (λ (i : ℕ). ltb i id) (sym (e ∙ id_at room (80 * k))) ∙ lt-ltb here id below)

ends : (room : List ℕ) (n k id : ℕ) → k ≡ n → n ≡ k + place_from (n - k) id (drop (80 * k) room)
ends room n k id e = place_ends n id (drop (80 * k) room) ∙ ap (λ (j : ℕ). j + place_from (n - j) id (drop (80 * k) room)) (sym e)

pub loop-k-init : goal.loop-k-init
loop-k-init c = begins _ _ _

pub returns-then-id-pair_at : goal.returns-then-id-pair_at
returns-then-id-pair_at c =
    stops _ _ _ _ _ (omega arith) c.pair_at.ensures c.if-id-pair_at.true ∙
    c.loop-k.invariant

pub loop-k-preserved : goal.loop-k-preserved
loop-k-preserved c = goes_on _ _ _ _ _ (omega arith) c.pair_at.ensures (omega arith) ∙ c.loop-k.invariant

pub returns : goal.returns
returns c = ends _ _ _ _ (omega arith) ∙ c.loop-k.invariant
