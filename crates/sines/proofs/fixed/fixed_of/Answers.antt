-- `sines::fixed::fixed_of` meets its contract. What is shifted stays at most 2 ^ 39, so no digit is lost.
use mathlib.Core.Path.{sym, subst}
use Rattle.std.specs.Prelude.{ℕ, ◌≤◌}
use native.Mathlib.Nat.{mod-eq_of_lt, lt_of_le_of_lt}
use lib.Dec.{lit<}
use Rattle.sines.specs.How.{sixteen, fixed}
use Rattle.sines.proofs.Values.{fixed_le}
use Rattle.sines.proofs.fixed.fixed_of.Goals as goal

pub returns : goal.returns
unfolding fixed
returns c =
    let l : fixed c.args.m ≤ sixteen = fixed_le c.args.m c.requires.0 c.requires.1 in
    let e = mod-eq_of_lt (lt_of_le_of_lt l (lit< {m = sixteen} {n = 18446744073709551616} tt)) in
    (e, subst (λ (n : ℕ). n ≤ sixteen) (sym e) l)
