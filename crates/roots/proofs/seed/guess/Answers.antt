-- `roots::seed::guess` meets its contract. A row's three numbers are small, so nothing wraps; how near the guess is, nothing asks.
use native.Mathlib.Omega.{arith}
use Rattle.roots.proofs.Arcs.{Curve, curve}
use borrow.Author.Rules.{rules}
use Rattle.roots.proofs.seed.guess.Goals as goal

pub overflow_mul-risen-2 : goal.overflow_mul-risen-2
overflow_mul-risen-2 c =
    let here : Curve c.arc_at-a.result.1 c.arc_at-a.result.2 c.args.f =
    curve c.arc_at-a.result.1 c.arc_at-a.result.2 c.args.f c.arc_at-a.ensures.slope_high
    c.arc_at-a.ensures.bend_high c.requires in
    omega (arith, here)

pub overflow_add-risen-2 : goal.overflow_add-risen-2
overflow_add-risen-2 c =
    let here : Curve c.arc_at-a.result.1 c.arc_at-a.result.2 c.args.f =
    curve c.arc_at-a.result.1 c.arc_at-a.result.2 c.args.f c.arc_at-a.ensures.slope_high
    c.arc_at-a.ensures.bend_high c.requires in
    omega (arith, here)

pub overflow_mul-result : goal.overflow_mul-result
overflow_mul-result c =
    let here : Curve c.arc_at-a.result.1 c.arc_at-a.result.2 c.args.f =
    curve c.arc_at-a.result.1 c.arc_at-a.result.2 c.args.f c.arc_at-a.ensures.slope_high
    c.arc_at-a.ensures.bend_high c.requires in
    omega (arith, here)

pub overflow_mul-result-2 : goal.overflow_mul-result-2
overflow_mul-result-2 c =
    let here : Curve c.arc_at-a.result.1 c.arc_at-a.result.2 c.args.f =
    curve c.arc_at-a.result.1 c.arc_at-a.result.2 c.args.f c.arc_at-a.ensures.slope_high
    c.arc_at-a.ensures.bend_high c.requires in
    omega (arith, here)

pub overflow_sub-result : goal.overflow_sub-result
overflow_sub-result c =
    let here : Curve c.arc_at-a.result.1 c.arc_at-a.result.2 c.args.f =
    curve c.arc_at-a.result.1 c.arc_at-a.result.2 c.args.f c.arc_at-a.ensures.slope_high
    c.arc_at-a.ensures.bend_high c.requires in
    omega (arith, here)

pub returns : goal.returns
returns c =
    let here : Curve c.arc_at-a.result.1 c.arc_at-a.result.2 c.args.f =
    curve c.arc_at-a.result.1 c.arc_at-a.result.2 c.args.f c.arc_at-a.ensures.slope_high
    c.arc_at-a.ensures.bend_high c.requires in
    omega (arith, here)
