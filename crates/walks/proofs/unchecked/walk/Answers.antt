-- `walks::unchecked::walk` meets its contract: the loop keeps `Going`, and S falls with every step that moves. A step is `move_towards`,
-- by its first test.
use Rattle.std.specs.Prelude.{◌≡◌, ◌≤◌, false}
use mathlib.Core.Path.{sym, ap, ◌∙◌}
use native.Mathlib.Omega.{arith}
use borrow.Author.Rules.{rules}
use lib.Ieee.{Float}
use Rattle.legs.specs.declared.Point.{Point}
use Rattle.moves.specs.Distance.{same, distance}
use Rattle.moves.specs.Moving.{nearer, move_towards}
use Rattle.moves.specs.declared.Step.TheVariants.{Moved}
use Rattle.moves.proofs.Steps.{stands, moves}
use Rattle.walks.proofs.Given.{aimed, set_out}
use Rattle.walks.proofs.Loop.{going_start, going_on, going_nearer, going_few, going_ends}
use Rattle.walks.proofs.unchecked.walk.Goals as goal

-- the two calls of a step that moves, together
step : (m : Float) (l t p : Point) → false ≡ same l t → p ≡ nearer (distance l t) l t m → move_towards l t m ≡ Moved p
step m l t p e h = moves l t m (sym e) ∙ ap Moved (sym h)

pub loop-target-init : goal.loop-target-init
loop-target-init c =
    let m = c.args.max_move in
    let s = c.args.start in
    let t = c.args.target in
    going_start m s t
    (aimed m s t c.requires (search rules) (search rules, search rules, search rules) (search rules, search rules, search rules))
    (set_out m s t c.requires (search rules) (search rules, search rules, search rules) (search rules, search rules, search rules))

pub overflow_add-count : goal.overflow_add-count
overflow_add-count c =
    let g = c.loop-target in
    let few : g.count ≤ 147457 = going_few _ _ _ g.last g.count g.invariant in
    (omega arith)

pub loop-target-smaller : goal.loop-target-smaller
loop-target-smaller c =
    let g = c.loop-target in
    going_nearer _ _ _ g.last c.onward-last.result g.count g.invariant
    (step _ _ _ _ c.loop-target-test.ensures c.onward-last.ensures)

pub loop-target-preserved : goal.loop-target-preserved
loop-target-preserved c =
    let g = c.loop-target in
    going_on _ _ _ g.last c.onward-last.result g.count g.invariant
    (step _ _ _ _ c.loop-target-test.ensures c.onward-last.ensures)

pub returns : goal.returns
returns c =
    let g = c.loop-target in
    going_ends _ _ _ g.last _ g.count g.invariant (stands _ _ _ (sym c.loop-target-test.ensures))
