-- `sines::eighteen::entries` meets its contract: behind the loop stand the entries so far.
use borrow.Author.Rules.{rules}
use Rattle.std.specs.Prelude.{◌<◌, ◌≤◌, length}
use native.Mathlib.Omega.{arith}
use Rattle.sines.specs.How.{entry_at}
use Rattle.sines.proofs.Filled.{filled_on, filled_whole}
use Rattle.sines.proofs.eighteen.entries.Goals as goal

pub loop-i-preserved : goal.loop-i-preserved
loop-i-preserved c =
    let l = c.loop-i in
    let n = c.args.n in
    let h : l.i < length n = search rules in
    let g : l.i < length l.o = omega arith in
    (search rules, filled_on entry_at n l.o l.i _ _ h g l.invariant.1 c.entry_of.ensures)

pub returns : goal.returns
returns c =
    let l = c.loop-i in
    let n = c.args.n in
    let h : length n ≤ l.i = search rules in
    let g : length l.o ≤ l.i = omega arith in
    filled_whole entry_at n l.o l.i h g l.invariant.1
