-- `arcs::arc_sine::arc_sine` meets its contract: the polynomial as it is computed grows by less than 2 ^ 24 over a row, so nothing
-- overflows.
use native.Mathlib.Omega.{arith}
use Rattle.std.specs.Prelude.{◌≡◌, ◌%◌, ◌≤◌}
use Rattle.arcs.specs.How.{arc_sine}
use Rattle.arcs.proofs.Ranges.{Grown, sine_by, sine_steps, sine_is}
use Rattle.arcs.proofs.arc_sine.arc_sine.Goals as goal

pub overflow_mul-rate : goal.overflow_mul-rate
overflow_mul-rate c =
    let steps : Grown (c.args.w % 262144) c.entry-row.result.1 c.entry-row.result.2 = let r = c.entry-row.result in
    let h = c.entry-row.ensures in
    sine_steps c.args.w r.0 r.1 r.2 c.requires h.0 h.1 h.2 in
    omega (arith, steps)

pub overflow_add-rate : goal.overflow_add-rate
overflow_add-rate c =
    let steps : Grown (c.args.w % 262144) c.entry-row.result.1 c.entry-row.result.2 = let r = c.entry-row.result in
    let h = c.entry-row.ensures in
    sine_steps c.args.w r.0 r.1 r.2 c.requires h.0 h.1 h.2 in
    omega (arith, steps)

pub overflow_mul-result : goal.overflow_mul-result
overflow_mul-result c =
    let steps : Grown (c.args.w % 262144) c.entry-row.result.1 c.entry-row.result.2 = let r = c.entry-row.result in
    let h = c.entry-row.ensures in
    sine_steps c.args.w r.0 r.1 r.2 c.requires h.0 h.1 h.2 in
    omega (arith, steps)

pub overflow_cast-result : goal.overflow_cast-result
overflow_cast-result c =
    let steps : Grown (c.args.w % 262144) c.entry-row.result.1 c.entry-row.result.2 = let r = c.entry-row.result in
    let h = c.entry-row.ensures in
    sine_steps c.args.w r.0 r.1 r.2 c.requires h.0 h.1 h.2 in
    omega (arith, steps)

pub overflow_add-result : goal.overflow_add-result
overflow_add-result c =
    let answer : let w = c.args.w in let r =
    c.entry-row.result in (sine_by w r.0 r.1 r.2 ≡ arc_sine w) × (sine_by w r.0 r.1 r.2 ≤ 850000000) = let r = c.entry-row.result in
    let h = c.entry-row.ensures in
    sine_is c.args.w r.0 r.1 r.2 c.requires h.0 h.1 h.2 in
    omega (arith, answer.1)

pub returns : goal.returns
returns c =
    let answer : let w = c.args.w in let r =
    c.entry-row.result in (sine_by w r.0 r.1 r.2 ≡ arc_sine w) × (sine_by w r.0 r.1 r.2 ≤ 850000000) = let r = c.entry-row.result in
    let h = c.entry-row.ensures in
    sine_is c.args.w r.0 r.1 r.2 c.requires h.0 h.1 h.2 in
    answer
