-- `sines::unchecked::count_of` meets its contract, in each of its three cases.
use Rattle.std.specs.Prelude.{◌≡◌, true, T}
use mathlib.Core.Path.{sym, ◌∙◌, subst}
use lib.Dec.{lit≤}
use lib.Ieee.{binary32, fits}
use Rattle.numbers.specs.Door.{permits}
use Rattle.numbers.specs.Limits.{sine_argument}
use Rattle.sines.proofs.Values.{no_nan, most_bits}
use Rattle.sines.proofs.Counts.{outside_count, tiny_count, else_count}
use Rattle.sines.proofs.unchecked.count_of.Goals as goal

pub float_to_bits-m : goal.float_to_bits-m
float_to_bits-m c =
    let permits_it : permits sine_argument c.args.x ≡ true = sym c.permitted.ensures ∙ c.if-permitted.true in
    no_nan c.args.x (subst T (sym permits_it) tt)

pub fixed_of-requires : goal.fixed_of-requires
fixed_of-requires c =
    let held : T (fits binary32 c.args.x) = subst T (sym c.well_formed.0.1) tt in
    let permits_it : permits sine_argument c.args.x ≡ true = sym c.permitted.ensures ∙ c.if-permitted.true in
    (c.if-m-lt964689920.false, most_bits c.args.x held (subst T (sym permits_it) tt))

pub returns-then-m-lt964689920 : goal.returns-then-m-lt964689920
returns-then-m-lt964689920 c =
    let permits_it : permits sine_argument c.args.x ≡ true = sym c.permitted.ensures ∙ c.if-permitted.true in
    (tiny_count c.args.x permits_it c.if-m-lt964689920.true, lit≤ tt)

pub returns-else-m-lt964689920 : goal.returns-else-m-lt964689920
returns-else-m-lt964689920 c =
    let permits_it : permits sine_argument c.args.x ≡ true = sym c.permitted.ensures ∙ c.if-permitted.true in (
      c.fixed_of.ensures.0 ∙ else_count c.args.x permits_it c.if-m-lt964689920.false,
      c.fixed_of.ensures.1,
    )

pub returns-else-permitted : goal.returns-else-permitted
returns-else-permitted c = (outside_count c.args.x (sym c.permitted.ensures ∙ c.if-permitted.false), lit≤ tt)
