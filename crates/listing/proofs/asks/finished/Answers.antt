-- `listing::asks::finished` meets its contract. Where nothing is kept, the bytes are the whole line.
use mathlib.Core.Path.{ap, sym, ◌∙◌}
use Rattle.lines.specs.Carry.{held}
use Rattle.listing.specs.Asks.{asks}
use Rattle.listing.proofs.Asking.{asks_now}
use Rattle.listing.proofs.asks.finished.Goals as goal

pub returns-then-has_begun : goal.returns-then-has_begun
returns-then-has_begun c = c.asked.ensures ∙ ap asks c.more.ensures

pub returns-else-has_begun : goal.returns-else-has_begun
returns-else-has_begun c =
    c.record_of.ensures
    ∙ sym (asks_now (held c.args.c) c.args.s.now
    (sym c.has_begun.ensures ∙ c.if-has_begun.false))
