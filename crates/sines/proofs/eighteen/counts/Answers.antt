-- `sines::eighteen::counts` meets its contract: behind the loop stand the counts so far, each at most 16.
use borrow.Author.Rules.{rules}
use Rattle.std.specs.Prelude.{◌<◌, ◌≤◌, length}
use native.Mathlib.Omega.{arith}
use Rattle.sines.specs.How.{sixteen, count}
use Rattle.sines.proofs.Filled.{filled_on, filled_whole, each_on}
use Rattle.sines.proofs.eighteen.counts.Goals as goal

pub loop-i-preserved : goal.loop-i-preserved
loop-i-preserved c =
    let l = c.loop-i in
    let x = c.args.x in
    let h : l.i < length x = search rules in
    let g : l.i < length l.o = omega arith in (
      search rules,
      filled_on count x l.o l.i _ _ h g l.invariant.1 c.count_of.ensures.0,
      each_on (λ n. n ≤ sixteen) l.o l.i _ g c.count_of.ensures.1 l.invariant.2,
    )

pub returns : goal.returns
returns c =
    let l = c.loop-i in
    let x = c.args.x in
    let h : length x ≤ l.i = search rules in
    let g : length l.o ≤ l.i = omega arith in
    (filled_whole count x l.o l.i h g l.invariant.1, λ k b. l.invariant.2 k (omega arith))
