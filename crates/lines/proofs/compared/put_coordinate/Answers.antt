-- `lines::compared::put_coordinate` meets its contract.
use mathlib.Core.Path.{◌≡◌}
use mathlib.Core.Bool.{false}
use mathlib.Core.List.{[], ◌∷◌}
use native.Mathlib.Omega.{arith}
use lib.Dec.{eqb}
use borrow.Author.Tests.{eq-eqb, ne_eqb}
use Rattle.lines.specs.Digits.{hex}
use Rattle.lines.specs.Fields.{tab}
use Rattle.numbers.specs.Stored.{Stored}
use Rattle.lines.specs.Compared.{coordinate}
use Rattle.lines.proofs.Numerals.{length_hex}
use Rattle.numbers.proofs.Stores.{stored_more, stored_as, stored_nothing}
use Rattle.lines.proofs.compared.put_coordinate.Goals as goal

pub returns-then-bench-office : goal.returns-then-bench-office
unfolding coordinate
returns-then-bench-office c = stored_as (simp (eq-eqb _ _ c.if-bench-office.true)) stored_nothing

pub pattern-requires : goal.pattern-requires
pattern-requires c =
    let a = c.args in
    omega (arith, length_hex a.bench, length_hex a.office)

pub returns : goal.returns
unfolding coordinate
returns c =
    let a = c.args in
    let letter : Stored _ a.at (tab ∷ a.letter ∷ []) _ _ =
    c.mark-a.ensures in
    let bench : Stored _ _ (tab ∷ hex a.bench) _ _ = c.pattern-b.ensures in
    let office : Stored _ _ (tab ∷ hex a.office) _ _ = c.pattern.ensures in
    let other : eqb a.bench a.office ≡ false =
    ne_eqb _ _ c.if-bench-office.false in
    stored_as (simp other) (stored_more (stored_more letter bench) office)
