-- `lines::listed::named` meets its contract: the name is what the line starts with.
use mathlib.Core.Path.{◌∙◌, sym}
use mathlib.Core.Bool.{true}
use mathlib.Core.List.{[], ◌∷◌, ◌++◌}
use Rattle.lines.specs.Lines.{walk_word}
use Rattle.lines.specs.Reading.{named}
use Rattle.lines.proofs.Reading.{spells_starts}
use Rattle.lines.proofs.listed.named.Goals as goal

pub returns : goal.returns
unfolding named
returns c = c.starts_with.ensures.value ∙ sym (spells_starts (walk_word ++ (9 ∷ [])) true 0 c.args.s.now c.requires)
