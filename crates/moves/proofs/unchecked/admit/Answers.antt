-- `moves::unchecked::admit` meets its contract: what the first pass lets through is finite too.
use Rattle.numbers.proofs.OnePass.{in_row}
use Rattle.moves.proofs.OnePass.{taken, turned_away}
use Rattle.moves.proofs.unchecked.admit.Goals as goal

pub returns-then-permitted : goal.returns-then-permitted
returns-then-permitted g c =
    let a = c.args in
    taken g.T.Place.finite (g.T.Place.permitted a.place) a.longest a.last a.target a.max_move
    (g.met.T.Place.permitted_is_finite a.place c.requires.place_ends) (in_row a.longest c.requires.longest_ends)
    (simp (c.is_permitted-3.ensures, c.is_permitted-2.ensures, c.is_permitted.ensures) at c.if-permitted.true)

pub returns-else-permitted : goal.returns-else-permitted
returns-else-permitted g c =
    let a = c.args in
    let p = simp (c.is_permitted-3.ensures, c.is_permitted-2.ensures, c.is_permitted.ensures) at c.if-permitted.false in
    simp (c.outside.ensures, c.is_finite.ensures, c.is_finite-else-permitted-2.ensures, c.is_finite-else-permitted.ensures)
    (turned_away g.T.Place.finite (g.T.Place.permitted a.place) a.longest a.last a.target a.max_move p)
