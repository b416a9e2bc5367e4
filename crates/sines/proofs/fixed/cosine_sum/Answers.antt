-- `sines::fixed::cosine_sum` meets its contract: no step passes 63 bits, and with the surplus the sum is a natural number.
use lib.Dec.{lit≤}
use Rattle.sines.specs.How.{rest_one, line_factor}
use Rattle.sines.proofs.SignedSums.{Held, entry_fits, product_fits, cosine_products, cosine_held, cosine_counts}
use Rattle.sines.proofs.fixed.cosine_sum.Goals as goal

pub overflow_sub-u : goal.overflow_sub-u
overflow_sub-u c = entry_fits c.args.s c.requires.0

pub overflow_sub-v : goal.overflow_sub-v
overflow_sub-v c = entry_fits c.args.c c.requires.1

pub overflow_mul-result : goal.overflow_mul-result
overflow_mul-result c = product_fits c.args.c c.requires.1 rest_one c.args.a (lit≤ tt) c.requires.2

pub overflow_mul-result-2 : goal.overflow_mul-result-2
overflow_mul-result-2 c = product_fits c.args.s c.requires.0 line_factor c.args.b (lit≤ tt) c.requires.3

pub overflow_sub-result : goal.overflow_sub-result
overflow_sub-result c =
    let held : Held (cosine_products c.args.s c.args.c c.args.a c.args.b c.requires.0 c.requires.1 c.requires.2 c.requires.3) =
    cosine_held c.args.s c.args.c c.args.a c.args.b c.requires.0 c.requires.1 c.requires.2 c.requires.3 in
    held.sum

pub overflow_add-result : goal.overflow_add-result
overflow_add-result c =
    let held : Held (cosine_products c.args.s c.args.c c.args.a c.args.b c.requires.0 c.requires.1 c.requires.2 c.requires.3) =
    cosine_held c.args.s c.args.c c.args.a c.args.b c.requires.0 c.requires.1 c.requires.2 c.requires.3 in
    held.rounded

pub overflow_add-result-2 : goal.overflow_add-result-2
overflow_add-result-2 c =
    let held : Held (cosine_products c.args.s c.args.c c.args.a c.args.b c.requires.0 c.requires.1 c.requires.2 c.requires.3) =
    cosine_held c.args.s c.args.c c.args.a c.args.b c.requires.0 c.requires.1 c.requires.2 c.requires.3 in
    held.total

pub overflow_cast-result-3 : goal.overflow_cast-result-3
overflow_cast-result-3 c =
    let held : Held (cosine_products c.args.s c.args.c c.args.a c.args.b c.requires.0 c.requires.1 c.requires.2 c.requires.3) =
    cosine_held c.args.s c.args.c c.args.a c.args.b c.requires.0 c.requires.1 c.requires.2 c.requires.3 in
    held.natural

pub returns : goal.returns
returns c = cosine_counts c.args.s c.args.c c.args.a c.args.b c.requires.0 c.requires.1 c.requires.2 c.requires.3
