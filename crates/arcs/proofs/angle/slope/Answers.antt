-- `arcs::angle::slope` meets its contract: the first term is at most 2 ^ 23 and the second at most that, so nothing overflows.
use native.Mathlib.Omega.{arith}
use Rattle.arcs.proofs.Ranges.{Steps, steps, Sloped, slope_is}
use Rattle.arcs.proofs.angle.slope.Goals as goal

pub overflow_mul-straight : goal.overflow_mul-straight
overflow_mul-straight c =
    let stepped : Steps c.args.w c.entry-row.result.1 = steps c.args.w c.entry-row.result.1 c.requires c.entry-row.ensures.3 in
    omega (arith, stepped)

pub overflow_mul-bend : goal.overflow_mul-bend
overflow_mul-bend c =
    let stepped : Steps c.args.w c.entry-row.result.1 = steps c.args.w c.entry-row.result.1 c.requires c.entry-row.ensures.3 in
    omega (arith, stepped)

pub overflow_mul-bend-2 : goal.overflow_mul-bend-2
overflow_mul-bend-2 c =
    let stepped : Steps c.args.w c.entry-row.result.1 = steps c.args.w c.entry-row.result.1 c.requires c.entry-row.ensures.3 in
    omega (arith, stepped)

pub overflow_sub-result : goal.overflow_sub-result
overflow_sub-result c =
    let stepped : Steps c.args.w c.entry-row.result.1 = steps c.args.w c.entry-row.result.1 c.requires c.entry-row.ensures.3 in
    stepped.bend_le

pub overflow_cast-result : goal.overflow_cast-result
overflow_cast-result c =
    let stepped : Steps c.args.w c.entry-row.result.1 = steps c.args.w c.entry-row.result.1 c.requires c.entry-row.ensures.3 in
    omega (arith, stepped)

pub overflow_add-result : goal.overflow_add-result
overflow_add-result c =
    let sloped : Sloped c.args.w c.entry-row.result.0 c.entry-row.result.1 = let row = c.entry-row.ensures in
    slope_is c.args.w c.entry-row.result.0 c.entry-row.result.1 c.requires row.0 row.1 row.2 in
    omega (arith, sloped.1)

pub returns : goal.returns
returns c =
    let sloped : Sloped c.args.w c.entry-row.result.0 c.entry-row.result.1 = let row = c.entry-row.ensures in
    slope_is c.args.w c.entry-row.result.0 c.entry-row.result.1 c.requires row.0 row.1 row.2 in
    sloped
