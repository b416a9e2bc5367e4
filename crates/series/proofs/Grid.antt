-- S and C at whole multiples of 2 ^ -30: S n is (sp n - sm n) / D and C n is (cp n - cm n) / D, with the polynomials behind them. Assumes
-- nothing.
use Prim.Native.Nat.{ℕ, ◌*◌, ◌^◌, ◌<◌}
use mathlib.Core.Path.{◌≡◌}
use mathlib.Core.List.{List}
use lib.Dec.{lit<}
use Rattle.series.specs.Working.{pw, ev, sin_p, sin_m, cos_p, cos_m}
use Rattle.series.proofs.Polynomials.{eval, spread, ev_spread}

abbrev pub sp : ℕ → ℕ
sp n = ev (2 ^ 30) n sin_p

abbrev pub sm : ℕ → ℕ
sm n = ev (2 ^ 30) n sin_m

abbrev pub cp : ℕ → ℕ
cp n = ev (2 ^ 30) n cos_p

abbrev pub cm : ℕ → ℕ
cm n = ev (2 ^ 30) n cos_m

-- the coefficients, with the powers of the denominator in them
unfoldable pub sp_l : List ℕ
unfolding pw sin_p
sp_l = spread (2 ^ 30) sin_p

unfoldable pub sm_l : List ℕ
unfolding pw sin_m
sm_l = spread (2 ^ 30) sin_m

unfoldable pub cp_l : List ℕ
unfolding pw cos_p
cp_l = spread (2 ^ 30) cos_p

unfoldable pub cm_l : List ℕ
unfolding pw cos_m
cm_l = spread (2 ^ 30) cos_m

-- a quarter and a half turn: pi / 2 to the nearest whole multiple of 2 ^ -30, and twice that
abbrev pub quarter : ℕ
quarter = 1686629713

abbrev pub half : ℕ
half = 3373259426

-- the common denominator: 63! (2 ^ 30) ^ 63
unfoldable pub D : ℕ
D = 1982608315404440064116146708361898137544773690227268628106279599612729753600000000000000 * (2 ^ 30) ^ 63

pub D_pos : 0 < D
unfolding D
D_pos = lit< {m = 0} {n = 1982608315404440064116146708361898137544773690227268628106279599612729753600000000000000 * (2 ^ 30) ^ 63} tt

pub sp_is : (n : ℕ) → eval sp_l n ≡ sp n
unfolding sp_l
sp_is n = ev_spread (2 ^ 30) sin_p n

pub sm_is : (n : ℕ) → eval sm_l n ≡ sm n
unfolding sm_l
sm_is n = ev_spread (2 ^ 30) sin_m n

pub cp_is : (n : ℕ) → eval cp_l n ≡ cp n
unfolding cp_l
cp_is n = ev_spread (2 ^ 30) cos_p n

pub cm_is : (n : ℕ) → eval cm_l n ≡ cm n
unfolding cm_l
cm_is n = ev_spread (2 ^ 30) cos_m n
