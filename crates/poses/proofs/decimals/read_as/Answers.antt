-- `poses::decimals::read_as` meets its contract: the sign's bit is added to the pattern.
use Rattle.std.specs.Prelude.{◌≡◌, ◌+◌, Bool, true, false}
use mathlib.Core.Path.{sym, ap, ◌∙◌}
use lib.Ieee.{binary32, of_bits}
use Rattle.poses.specs.Decimals.{read_as}
use Rattle.poses.proofs.SignBit.{read_no_nan, read_minus}
use Rattle.poses.proofs.decimals.read_as.Goals as goal

pub float_from_bits-result : goal.float_from_bits-result
float_from_bits-result c =
    let negative : of_bits binary32 (c.nearest_bits-bits.result + 2147483648) ≡ read_as true c.args.n = let e =
    c.nearest_bits-bits.ensures in read_minus c.args.n c.nearest_bits-bits.result c.requires e.0 e.1 in
    read_no_nan true c.args.n (c.nearest_bits-bits.result + 2147483648) c.requires negative

pub float_from_bits-result-else-minus : goal.float_from_bits-result-else-minus
float_from_bits-result-else-minus c = read_no_nan false c.args.n c.nearest_bits-bits.result c.requires c.nearest_bits-bits.ensures.1

pub returns-then-minus : goal.returns-then-minus
returns-then-minus c =
    let negative : of_bits binary32 (c.nearest_bits-bits.result + 2147483648) ≡ read_as true c.args.n = let e =
    c.nearest_bits-bits.ensures in read_minus c.args.n c.nearest_bits-bits.result c.requires e.0 e.1 in
    negative ∙ ap (λ (s : Bool). read_as s c.args.n) (sym c.if-minus.true)

pub returns-else-minus : goal.returns-else-minus
returns-else-minus c = c.nearest_bits-bits.ensures.1 ∙ ap (λ (s : Bool). read_as s c.args.n) (sym c.if-minus.false)
