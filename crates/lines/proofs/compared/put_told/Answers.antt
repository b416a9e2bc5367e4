-- `lines::compared::put_told` meets its contract. With room, each arm stores its kind of line; without, nothing is a text of no bytes.
use mathlib.Core.Path.{◌≡◌, ap, sym, ◌∙◌}
use mathlib.Core.Bool.{Bool, true, false, not}
use mathlib.Core.List.{List, []}
use Prim.Native.Nat.{ℕ, ◌+◌, ◌≤◌}
use native.Mathlib.Omega.{arith}
use lib.Dec.{leb}
use lib.ListN.{length}
use borrow.Author.Tests.{leb-true}
use Rattle.numbers.specs.Told.{choose}
use Rattle.lines.specs.Compared.{told_text, has_told_room}
use Rattle.numbers.specs.Stored.{Stored}
use Rattle.lines.specs.declared.compared.Told.{Told}
use Rattle.numbers.proofs.Flags.{not_false, not_true}
use Rattle.numbers.proofs.Stores.{stored_as, stored_nothing, stored_where}
use Rattle.std.proofs.lemmas.Bool.{not_from_false, not_from_true}
use Rattle.lines.proofs.compared.put_told.Goals as goal

-- where the test passes there is room
has_it : (n at : ℕ) (r : Bool) → r ≡ leb (at + 83) n → not r ≡ false → at + 83 ≤ n
has_it n at r is passed = leb-true (at + 83) n (sym is ∙ not_false r passed)

-- and there each arm stores the text of what it is told
an_arm : {l l' : List ℕ} {at k : ℕ} {t u : Told} (r : Bool) → r ≡ has_told_room l at → not r ≡ false → t ≡ u →
    Stored l at (told_text u) k l'
    → Stored l at (choose (has_told_room l at) (told_text t) []) k l'
an_arm r is passed e p = stored_where (sym is ∙ not_false r passed) (stored_as (ap told_text (sym e)) p)

-- and where it fails nothing is stored
no_arm : (l : List ℕ) (at : ℕ) (t : Told) (r : Bool) → r ≡ has_told_room l at → not r ≡ true
    → Stored l at (choose (has_told_room l at) (told_text t) []) at l
no_arm l at t r is failed =
    stored_as (ap (λ (b : Bool). choose b (told_text t) []) (sym (not_true r failed) ∙ is)) stored_nothing

pub returns-then-not-has_room : goal.returns-then-not-has_room
returns-then-not-has_room c =
    let a = c.args in
    let room = c.has_room in
    no_arm a.buf.now a.at a.told room.result room.ensures (not_from_false _ c.if-not-has_room.true)

pub put_short-requires : goal.put_short-requires
put_short-requires c =
    let a = c.args in
    let room = c.has_room in
    omega (arith, has_it (length a.buf.now) a.at room.result room.ensures (not_from_true _ c.if-not-has_room.false))

pub put_moves-requires : goal.put_moves-requires
put_moves-requires c =
    let a = c.args in
    let room = c.has_room in
    omega (arith, has_it (length a.buf.now) a.at room.result room.ensures (not_from_true _ c.if-not-has_room.false))

pub put_refusal-requires : goal.put_refusal-requires
put_refusal-requires c =
    let a = c.args in
    let room = c.has_room in
    omega (arith, has_it (length a.buf.now) a.at room.result room.ensures (not_from_true _ c.if-not-has_room.false))

pub put_short-requires-in-Total : goal.put_short-requires-in-Total
put_short-requires-in-Total c =
    let a = c.args in
    let room = c.has_room in
    omega (arith, has_it (length a.buf.now) a.at room.result room.ensures (not_from_true _ c.if-not-has_room.false))

pub returns-in-Same : goal.returns-in-Same
unfolding told_text
returns-in-Same c =
    let room = c.has_room in
    an_arm room.result room.ensures (not_from_true _ c.if-not-has_room.false) c.in-Same.is stored_nothing

pub returns-in-Differs : goal.returns-in-Differs
unfolding told_text
returns-in-Differs c =
    let room = c.has_room in
    an_arm room.result room.ensures (not_from_true _ c.if-not-has_room.false) c.in-Differs.is c.put_short.ensures

pub returns-in-Moves : goal.returns-in-Moves
unfolding told_text
returns-in-Moves c =
    let room = c.has_room in
    an_arm room.result room.ensures (not_from_true _ c.if-not-has_room.false) c.in-Moves.is c.put_moves.ensures

pub returns-in-Refused : goal.returns-in-Refused
unfolding told_text
returns-in-Refused c =
    let room = c.has_room in
    an_arm room.result room.ensures (not_from_true _ c.if-not-has_room.false) c.in-Refused.is c.put_refusal.ensures

pub returns-in-Total : goal.returns-in-Total
unfolding told_text
returns-in-Total c =
    let room = c.has_room in
    an_arm room.result room.ensures (not_from_true _ c.if-not-has_room.false) c.in-Total.is c.put_short-in-Total.ensures
