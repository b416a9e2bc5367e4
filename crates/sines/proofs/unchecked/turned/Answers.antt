-- `sines::unchecked::turned` meets its contract: what the count tells of x decides what its sine and its cosine are.
use Rattle.std.specs.Prelude.{◌≡◌, ℕ, ◌≤◌, T}
use mathlib.Core.Path.{sym, ap, ap₂, ◌∙◌, subst}
use lib.Ieee.{Float, binary32, to_bits, fits, of_bits}
use Rattle.numbers.specs.Door.{permits}
use Rattle.numbers.specs.Limits.{sine_argument}
use Rattle.units.specs.Patterns.{sign_set, bare}
use Rattle.sines.specs.declared.unchecked.Turn.{Turn}
use Rattle.sines.specs.How.{sixteen, tiny_bits, fixed, fixed_sine, fixed_cosine, counted, centred}
use Rattle.sines.proofs.Values.{no_nan, fixed_le, most_bits}
use Rattle.sines.proofs.Centred.{counted_turned}
use Rattle.sines.proofs.Whole.{sine_fits, cosine_fits}
use Rattle.sines.proofs.Sharp.{sine_tiny, sine_else, cosine_tiny, cosine_else, sine_is, cosine_is, sine_outside, cosine_outside}
use Rattle.sines.proofs.Counts.{at_none, at_one, at_more}
use Rattle.sines.proofs.unchecked.turned.Goals as goal

abbrev made : Float → Float → Turn
made s c = record { sine = s; cosine = c }

pub float_to_bits-x : goal.float_to_bits-x
float_to_bits-x c =
    let far : T (permits sine_argument c.args.x) × (tiny_bits ≤ bare (to_bits binary32 c.args.x)) × (c.args.n ≡ fixed
    (bare (to_bits binary32 c.args.x))) = at_more c.args.x c.args.n c.requires.0 c.if-n-eq0.false c.if-n-eq1.false in
    no_nan c.args.x far.0

pub counted-requires : goal.counted-requires
counted-requires c =
    let held : T (fits binary32 c.args.x) = subst T (sym c.well_formed.0.1) tt in
    let far : T (permits sine_argument c.args.x) × (tiny_bits ≤ bare (to_bits binary32 c.args.x)) × (c.args.n ≡ fixed
    (bare (to_bits binary32 c.args.x))) = at_more c.args.x c.args.n c.requires.0 c.if-n-eq0.false c.if-n-eq1.false in
    let few : c.args.n ≤ sixteen = let x = c.args.x in
    subst (λ (n : ℕ). n ≤ sixteen) (sym far.2)
    (fixed_le (bare (to_bits binary32 x)) far.1 (most_bits x held far.0)) in
    sine_fits c.args.n c.args.both.sine few c.requires.1

pub counted-requires-else-n-eq1 : goal.counted-requires-else-n-eq1
counted-requires-else-n-eq1 c =
    let held : T (fits binary32 c.args.x) = subst T (sym c.well_formed.0.1) tt in
    let far : T (permits sine_argument c.args.x) × (tiny_bits ≤ bare (to_bits binary32 c.args.x)) × (c.args.n ≡ fixed
    (bare (to_bits binary32 c.args.x))) = at_more c.args.x c.args.n c.requires.0 c.if-n-eq0.false c.if-n-eq1.false in
    let few : c.args.n ≤ sixteen = let x = c.args.x in
    subst (λ (n : ℕ). n ≤ sixteen) (sym far.2)
    (fixed_le (bare (to_bits binary32 x)) far.1 (most_bits x held far.0)) in
    cosine_fits c.args.n c.args.both.cosine few c.requires.2

pub returns-then-n-eq0 : goal.returns-then-n-eq0
unfolding of_bits
returns-then-n-eq0 c =
    let x = c.args.x in
    let n = at_none x c.args.n c.requires.0 c.if-n-eq0.true in
    ap₂ made (sym (sine_outside x n)) (sym (cosine_outside x n))

pub returns-then-n-eq1 : goal.returns-then-n-eq1
unfolding of_bits
returns-then-n-eq1 c =
    let held : T (fits binary32 c.args.x) = subst T (sym c.well_formed.0.1) tt in
    let x = c.args.x in
    let o = at_one x c.args.n c.requires.0 c.if-n-eq1.true in
    ap₂ made (sine_tiny x o.1 ∙ sine_is x held o.0) (cosine_tiny x o.1 ∙ cosine_is x held o.0)

pub returns-else-n-eq1 : goal.returns-else-n-eq1
unfolding of_bits
returns-else-n-eq1 c =
    let held : T (fits binary32 c.args.x) = subst T (sym c.well_formed.0.1) tt in
    let far : T (permits sine_argument c.args.x) × (tiny_bits ≤ bare (to_bits binary32 c.args.x)) × (c.args.n ≡ fixed
    (bare (to_bits binary32 c.args.x))) = at_more c.args.x c.args.n c.requires.0 c.if-n-eq0.false c.if-n-eq1.false in
    let x = c.args.x in
    let o = far in
    ap₂ made
    (c.counted.ensures
    ∙ ap₂ counted c.last_place_of.ensures (c.requires.1 ∙ ap fixed_sine o.2)
    ∙ counted_turned (sign_set (to_bits binary32 x)) (fixed_sine (fixed (bare (to_bits binary32 x))))
    ∙ sine_else x o.1
    ∙ sine_is x held o.0)
    (c.counted-else-n-eq1.ensures ∙ ap centred (c.requires.2 ∙ ap fixed_cosine o.2) ∙ cosine_else x o.1 ∙ cosine_is x held o.0)
