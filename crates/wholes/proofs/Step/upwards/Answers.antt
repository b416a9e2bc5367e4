-- `wholes::Step::upwards` meets its contract: a share of at most 1,000 units above the start.
use mathlib.Core.Path.{ap, ◌∙◌}
use Prim.Native.Nat.{ℕ, ◌*◌, ◌/◌, ◌≤◌}
use native.Mathlib.Nat.{mul-le-mul}
use native.Mathlib.Omega.{arith}
use lib.IntN.{pos, ◌+ℤ◌}
use Rattle.wholes.specs.Wholes.{entry}
use Rattle.wholes.proofs.Door.{z_good}
use Rattle.wholes.proofs.Steps.{natural_fits, share_most, raised_read_fits, raised_read}
use Rattle.wholes.proofs.Step.upwards.Goals as goal

pub overflow_mul-result : goal.overflow_mul-result
overflow_mul-result c =
    let product_most : c.args.self.height * c.entry-sine.result ≤ 16384000 = mul-le-mul c.args.self.at_most_10_cm c.entry-sine.ensures.1 in
    let h = product_most in (omega (arith, h))

pub overflow_cast-result : goal.overflow_cast-result
overflow_cast-result c =
    let share_of : c.args.self.height * c.entry-sine.result / 16384 ≤ 1000 =
    share_most c.args.self.height c.entry-sine.result c.args.self.at_most_10_cm c.entry-sine.ensures.1 in
    let h = share_of in natural_fits _ (omega (arith, h))

pub overflow_add-result : goal.overflow_add-result
overflow_add-result c =
    let share_of : c.args.self.height * c.entry-sine.result / 16384 ≤ 1000 =
    share_most c.args.self.height c.entry-sine.result c.args.self.at_most_10_cm c.entry-sine.ensures.1 in
    raised_read_fits c.args.self.start.z (c.args.self.height * c.entry-sine.result / 16384)
    (z_good c.args.self.start c.args.self.from_a_place) share_of

pub returns : goal.returns
returns c =
    let share_of : c.args.self.height * c.entry-sine.result / 16384 ≤ 1000 =
    share_most c.args.self.height c.entry-sine.result c.args.self.at_most_10_cm c.entry-sine.ensures.1 in
    raised_read c.args.self.start.z (c.args.self.height * c.entry-sine.result / 16384)
    (z_good c.args.self.start c.args.self.from_a_place) share_of
    ∙ ap (λ (e : ℕ). c.args.self.start.z +ℤ pos (c.args.self.height * e / 16384))
    (c.entry-sine.ensures.0 ∙ ap entry c.used.ensures.0)
