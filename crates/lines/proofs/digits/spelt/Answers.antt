-- `lines::digits::spelt` meets its contract. What is read of the bytes from 2 * k on, after the number so far, is what is read of all.
use mathlib.Core.Path.{◌≡◌, refl, sym, ap, ◌∙◌}
use Prim.Native.Nat.{◌+◌, ◌*◌, ◌≤◌}
use borrow.Author.Rules.{rules}
use native.Mathlib.Omega.{arith}
use lib.ListN.{length}
use Rattle.lines.specs.Digits.{Digits}
use Rattle.lines.proofs.Reading.{known_two, read_end, two_below, room_for_two}
use Rattle.lines.proofs.digits.spelt.Goals as goal

pub loop-k-init : goal.loop-k-init
loop-k-init c = (refl, search rules)

pub bounds-s-k : goal.bounds-s-k
bounds-s-k c = omega (arith, c.requires.0)

pub bounds-s-k-in-loop-k : goal.bounds-s-k-in-loop-k
bounds-s-k-in-loop-k c = omega (arith, c.requires.0)

pub pushed_two-v-requires : goal.pushed_two-v-requires
pushed_two-v-requires c =
    let here = c.loop-k in
    let next = known_two c.args.s.now (2 * here.k) here.v (omega (arith, c.requires.0)) c.requires.1 here.invariant.0 in
    (room_for_two _ _ here.invariant.1 (omega arith), next.0, next.1)

pub loop-k-preserved : goal.loop-k-preserved
loop-k-preserved c =
    let here = c.loop-k in
    let place : 2 * here.k + 1 + 1 ≡ 2 * (here.k + 1) = omega arith in
    let next = known_two c.args.s.now (2 * here.k) here.v (omega (arith, c.requires.0)) c.requires.1 here.invariant.0 in (
      rw (c.pushed_two-v.ensures, sym place) next.2,
      rw (c.pushed_two-v.ensures, sym place) (two_below _ _ _ _ here.invariant.1),
    )

pub returns : goal.returns
returns c =
    let all : length c.args.s.now ≤ 2 * c.loop-k.k = omega (arith, c.requires.0) in
    ap (λ (d : Digits). d.value) (sym (read_end _ _ all 16 _) ∙ c.loop-k.invariant.0)
