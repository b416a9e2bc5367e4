-- `lines::carry::more` meets its contract: the bytes are kept while there are at most 128.
use mathlib.Core.Path.{refl, sym, ap, ◌∙◌}
use mathlib.Core.Bool.{false}
use Rattle.lines.specs.declared.carry.Carry.{Carry}
use Rattle.lines.specs.declared.front.Front.{Front}
use mathlib.Core.List.{List}
use Prim.Native.Nat.{ℕ}
use lib.ListN.{take}
use Rattle.lines.specs.Carry.{Held, held, keep}
use Rattle.lines.proofs.Cutting.{keep_long, keep_short}
use Rattle.lines.proofs.carry.more.Goals as goal

pub returns-in-Overlong : goal.returns-in-Overlong
unfolding keep
returns-in-Overlong c = ap (λ (k : Carry). keep (held k) c.args.s.now) (sym c.in-Overlong.is)

abbrev kept : Front → Held
kept front = record { overlong = false; text = take front.len front.bytes }

pub returns-in-Some : goal.returns-in-Some
returns-in-Some c =
    ap (λ (t : List ℕ). record { overlong = false; text = t }) c.in-Some.ensures.0
    ∙ sym (keep_short (kept c.in-Whole.front) c.args.s.now refl c.in-Some.ensures.1)
    ∙ ap (λ (k : Carry). keep (held k) c.args.s.now) (sym c.in-Whole.is)

pub returns-in-None : goal.returns-in-None
returns-in-None c =
    sym (keep_long (kept c.in-Whole.front) c.args.s.now refl c.in-None.ensures)
    ∙ ap (λ (k : Carry). keep (held k) c.args.s.now) (sym c.in-Whole.is)
