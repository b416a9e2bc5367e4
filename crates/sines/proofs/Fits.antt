-- A sine and a cosine of an f32 are f32. Assumes nothing.
use Rattle.std.specs.Prelude.{ℕ, Bool, true, false, cond, T, ltb, pos}
use lib.Ieee.{Float, fin, binary32, fits, neg, to_bits}
use lib.Ieee.Fits.{mul-fits, neg-fits}
use Rattle.numbers.specs.Door.{permits}
use Rattle.numbers.specs.Limits as rows
use Rattle.units.specs.Patterns.{sign_set, bare}
use Rattle.sines.specs.How.{tiny_bits, fixed, fixed_sine, fixed_cosine, counted, centred, inside_sine, inside_cosine, sine, cosine}

either_fits : (b : Bool) (x y : Float) → T (fits binary32 x) → T (fits binary32 y) → T (fits binary32 (cond b x y))
either_fits true x y F G = F
either_fits false x y F G = G

zero_fits : T (fits binary32 (fin false 0 (pos 0)))
unfolding fits
zero_fits = tt

one_fits : T (fits binary32 (fin false 1 (pos 0)))
unfolding fits
one_fits = tt

count_fits : (w : ℕ) → T (fits binary32 (centred w))
unfolding counted
count_fits w = mul-fits binary32 _ _

pub sine_fits : (x : Float) → T (fits binary32 x) → T (fits binary32 (sine x))
unfolding sine inside_sine
sine_fits x F =
    let b = to_bits binary32 x in
    let y = centred (fixed_sine (fixed (bare b))) in
    either_fits (permits rows.sine_argument x) (inside_sine x) (fin false 0 (pos 0))
    (either_fits (ltb (bare b) tiny_bits) x (cond (sign_set b) (neg y) y) F
    (either_fits (sign_set b) (neg y) y (neg-fits binary32 y (count_fits (fixed_sine (fixed (bare b)))))
    (count_fits (fixed_sine (fixed (bare b)))))) zero_fits

pub cosine_fits : (x : Float) → T (fits binary32 (cosine x))
unfolding cosine inside_cosine
cosine_fits x =
    let b = to_bits binary32 x in
    let y = centred (fixed_cosine (fixed (bare b))) in
    either_fits (permits rows.sine_argument x) (inside_cosine x) (fin false 0 (pos 0))
    (either_fits (ltb (bare b) tiny_bits) (fin false 1 (pos 0)) y one_fits (count_fits (fixed_cosine (fixed (bare b))))) zero_fits
