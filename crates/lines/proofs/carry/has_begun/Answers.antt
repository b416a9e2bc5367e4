-- `lines::carry::has_begun` meets its contract: a line has begun where a byte of it is kept.
use mathlib.Core.Path.{sym, ◌∙◌, ap}
use mathlib.Core.Bool.{not}
use lib.ListN.{take}
use Rattle.lines.specs.declared.carry.Carry.{Carry}
use Rattle.lines.specs.Carry.{held, has_begun}
use Rattle.lines.proofs.Cutting.{begun_where_any}
use Rattle.lines.proofs.carry.has_begun.Goals as goal

pub returns-in-Whole : goal.returns-in-Whole
returns-in-Whole c =
    let front = c.in-Whole.front in
    ap not c.is_empty.ensures ∙ begun_where_any (take front.len front.bytes) ∙ ap (λ (k : Carry). has_begun (held k)) (sym c.in-Whole.is)

pub returns-in-Overlong : goal.returns-in-Overlong
unfolding has_begun
returns-in-Overlong c = ap (λ (k : Carry). has_begun (held k)) (sym c.in-Overlong.is)
