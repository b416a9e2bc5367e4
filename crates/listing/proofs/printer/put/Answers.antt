-- `listing::printer::put` meets its contract. What is read, stored and left so far is what one call does.
use Rattle.std.specs.Prelude.{◌<◌, Bool, not, ◌&&◌, length}
use mathlib.Core.Path.{refl, sym, ap, ◌∙◌}
use native.Mathlib.Omega.{arith}
use borrow.Author.Rules.{rules}
use Rattle.lines.specs.Lines.{has_room}
use Rattle.numbers.proofs.Stores.{stored_length}
use Rattle.listing.specs.declared.printer.Reached.{Reached}
use Rattle.listing.proofs.Blocks.{is_fit, same_room, no_room}
use Rattle.listing.proofs.Feeding.{fills_nothing, puts_left, puts_more, ready}
use Rattle.listing.proofs.printer.put.Goals as goal

pub loop-buf-init : goal.loop-buf-init
loop-buf-init c = (refl, puts_left _ _ (fills_nothing _ _), c.advanced-q.ensures.1, λ none. refl)

pub round-q-requires : goal.round-q-requires
round-q-requires c =
    let a = c.args in
    let l = c.loop-buf in
    let goes = c.goes_on.ensures in
    ready a.part.now l.buf l.q _ _ c.is_through.ensures goes c.loop-buf-test.true l.invariant.2

pub loop-buf-smaller : goal.loop-buf-smaller
loop-buf-smaller c =
    let a = c.args in
    let l = c.loop-buf in
    let is = c.is_through.ensures in
    let goes = c.goes_on.ensures in
    let test = c.loop-buf-test.true in
    let nearer : l.q.from < c.round-q.result.from = c.round-q.ensures.1 in
    let inside : l.q.from < length a.part.now =
    (ready a.part.now l.buf l.q _ _ is goes test l.invariant.2).1 in
    omega arith

pub loop-buf-preserved : goal.loop-buf-preserved
loop-buf-preserved c =
    let l = c.loop-buf in
    let first = c.advanced-q in
    let x = c.round-q.ensures in
    let goes = sym c.goes_on.ensures ∙ c.loop-buf-test.true in
    let fits = is_fit c.is_through.result _ goes in (
      search rules,
      puts_more l.q c.round-q.result l.invariant.1 x.0,
      x.2,
      λ none. no_room first.new.buf l.buf _ _ none (ap (λ (q : Reached). q.at) (l.invariant.3 none)) l.invariant.0 fits,
    )

pub returns : goal.returns
returns c =
    let a = c.args in
    let l = c.loop-buf in
    let first = c.advanced-q in
    let y = first.ensures in
    let is = c.is_through.ensures in (
      puts_more first.result l.q y.0 l.invariant.1,
      ap (λ (t : Bool). not t && has_room l.buf l.q.at) (sym is) ∙ sym c.goes_on.ensures ∙ c.loop-buf-test.false,
      λ none.
          let same = y.2 none in
          let here = sym (same_room a.buf.now first.new.buf a.at first.result.at (ap (λ (q : Reached). q.at) same)
          (stored_length y.0.stored.stored)) ∙ none in
          l.invariant.3 here ∙ same,
    )
