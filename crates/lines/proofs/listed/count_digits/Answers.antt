-- `lines::listed::count_digits` meets its contract: each version has its digits, and no other number has some.
use mathlib.Core.Path.{sym, ap}
use Rattle.lines.specs.Lines.{count_digits}
use Rattle.lines.proofs.Versions.{no_other}
use Rattle.lines.proofs.listed.count_digits.Goals as goal

pub returns-then-version-eq1 : goal.returns-then-version-eq1
unfolding count_digits
returns-then-version-eq1 c = sym (ap count_digits c.if-version-eq1.true)

pub returns-then-version-eq2 : goal.returns-then-version-eq2
unfolding count_digits
returns-then-version-eq2 c = sym (ap count_digits c.if-version-eq2.true)

pub returns-else-version-eq2 : goal.returns-else-version-eq2
returns-else-version-eq2 c = sym (no_other _ c.if-version-eq1.false c.if-version-eq2.false)
