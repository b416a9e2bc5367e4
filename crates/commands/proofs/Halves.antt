-- A whole number in two halves of 24 digits: each half is an f32 as it stands, so that their sum is rounded once, to the
-- nearest f32 of the whole.
use Rattle.std.specs.Prelude.{◌≡◌, ℕ, ◌+◌, ◌*◌, ◌/◌, ◌%◌, ◌^◌, ◌<◌, true, false, pos}
use mathlib.Core.Path.{sym, ap, ◌∙◌}
use mathlib.Core.Bool.{true≢false}
use native.Mathlib.Nat.{mul_assoc, mul-one, mul-pos, lt_trans, div-add-mod', mod-lt, zero-lt-suc}
use native.Mathlib.Omega.{arith}
use lib.Dec.{lit<}
use lib.Pow.{shl_lt}
use lib.Ieee.{Float, nan, inf, fin, binary32, up, down, of_bits, of_int, round, sum, add, mul}
use lib.Ieee.Exact.{HasValue, round_exact}
use lib.Ieee.Back.{round_whole}
use lib.Ieee.Scale.{round_same}
use lib.Ieee.Fits.{down_pos}
use Rattle.commands.specs.Times.{whole_number}

-- the sum of two whole numbers that f32 holds, rounded
sum_rounds : (x y : Float) (a b : ℕ) → HasValue x false a 1 → HasValue y false b 1 → add binary32 x y ≡ round binary32 false (a + b) 1
unfolding add sum
sum_rounds nan y a b v w = absurd v
sum_rounds (inf s) y a b v w = absurd v
sum_rounds (fin s m e) nan a b v w = absurd w
sum_rounds (fin s m e) (inf t) a b v w = absurd w
sum_rounds (fin true m e) (fin t n d) a b v w = absurd (true≢false v.0)
sum_rounds (fin false m e) (fin true n d) a b v w = absurd (true≢false w.0)
sum_rounds (fin false m e) (fin false n d) a b v w =
    let p : m * up e * 1 * down d ≡ a * down e * down d = ap (λ (x : ℕ). x * down d) v.1 in
    let q : n * up d * 1 * down e ≡ b * down d * down e = ap (λ (x : ℕ). x * down e) w.1 in
    round_same binary32 false (m * up e * down d + n * up d * down e) (down e * down d) (a + b) 1
    (mul-pos (down_pos e) (down_pos d)) (zero-lt-suc 0) (omega arith)

-- a number that f32 holds times 2^24
raised : (x : Float) (a : ℕ) → HasValue x false a 1 → mul binary32 x (of_bits binary32 1266679808) ≡ round binary32 false (a * 16777216) 1
unfolding mul of_bits
raised nan a v = absurd v
raised (inf s) a v = absurd v
raised (fin true m e) a v = absurd (true≢false v.0)
raised (fin false m e) a v =
    let p : m * up e * 1 ≡ a * down e = v.1 in
    round_same binary32 false (m * up e * (1 * 16777216)) (down e * 1) (a * 16777216) 1
    (mul-pos (down_pos e) (zero-lt-suc 0)) (zero-lt-suc 0) (omega arith)

raised_exact : (a : ℕ) → a < 2 ^ 24 → HasValue (round binary32 false (a * 16777216) 1) false (a * 16777216) 1
raised_exact a h =
    round_exact binary32 false (a * 16777216) 1 a 173 (zero-lt-suc 0) h
    (lt_trans (shl_lt 24 173 h) (lit< tt))
    (mul_assoc a 16777216 (2 ^ 149) ∙ sym (mul-one (a * 2 ^ 173)))

pub two_halves : (n : ℕ) → n < 2 ^ 32
    → add binary32
    (mul binary32 (of_int binary32 (pos (n / 16777216))) (of_bits binary32 1266679808))
    (of_int binary32 (pos (n % 16777216)))
    ≡ whole_number n
unfolding of_int whole_number
two_halves n h =
    let low : n % 16777216 < 16777216 = mod-lt n (zero-lt-suc 16777215) in
    let whole : n / 16777216 * 16777216 + n % 16777216 ≡ n = div-add-mod' n 16777216 in
    let high : n / 16777216 < 16777216 = omega arith in
    let v : HasValue (round binary32 false (n / 16777216) 1) false (n / 16777216) 1 =
    round_whole binary32 false (n / 16777216) (omega arith) in
    let w : HasValue (round binary32 false (n % 16777216) 1) false (n % 16777216) 1 =
    round_whole binary32 false (n % 16777216) (omega arith) in
    ap (λ (x : Float). add binary32 x (round binary32 false (n % 16777216) 1)) (raised _ _ v)
    ∙ sum_rounds _ _ _ _ (raised_exact (n / 16777216) high) w
    ∙ ap (λ (x : ℕ). round binary32 false x 1) whole
