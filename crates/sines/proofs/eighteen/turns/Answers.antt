-- `sines::eighteen::turns` meets its contract: behind the loop stand the turns so far; the counts and the entries are those of the angles.
use borrow.Author.Rules.{rules}
use Rattle.std.specs.Prelude.{◌≡◌, ◌<◌, ◌≤◌, length, get_or}
use mathlib.Core.Path.{ap}
use native.Mathlib.Omega.{arith}
use lib.Ieee.{nan}
use Rattle.sines.specs.How.{count, turn, entry_at}
use Rattle.sines.specs.declared.table.Eighths.{Eighths}
use Rattle.sines.proofs.Filled.{read_mapped, filled_on, filled_whole}
use Rattle.sines.proofs.eighteen.turns.Goals as goal

-- what a read past the row would give
abbrev nothing : Eighths
nothing = record { 0 = 0; 1 = 0 }

pub both_at-both-requires : goal.both_at-both-requires
both_at-both-requires c =
    let i = c.loop-i.i in
    let n = c.counts-n.result in
    let at = c.entries-at in
    let h : i < length n = search rules in
    let e : get_or at.result i nothing ≡ entry_at (get_or n i 0) = read_mapped entry_at n at.result i 0 nothing at.ensures h in (
      c.counts-n.ensures.1 i c.loop-i-test.true,
      ap (λ (s : Eighths). s.0) e,
      ap (λ (s : Eighths). s.1) e,
    )

pub turned-requires : goal.turned-requires
turned-requires c =
    let i = c.loop-i.i in
    let x = c.args.x in
    let h : i < length x = search rules in (
      read_mapped count x c.counts-n.result i nan 0 c.counts-n.ensures.0 h,
      c.both_at-both.ensures.0,
      c.both_at-both.ensures.1,
    )

pub loop-i-preserved : goal.loop-i-preserved
loop-i-preserved c =
    let l = c.loop-i in
    let x = c.args.x in
    let h : l.i < length x = search rules in
    let g : l.i < length l.o = omega arith in
    (search rules, filled_on turn x l.o l.i _ _ h g l.invariant.1 c.turned.ensures)

pub returns : goal.returns
returns c =
    let l = c.loop-i in
    let x = c.args.x in
    let h : length x ≤ l.i = search rules in
    let g : length l.o ≤ l.i = omega arith in
    filled_whole turn x l.o l.i h g l.invariant.1
