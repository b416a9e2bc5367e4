-- The tests of one row of the arc sine's table: what S is near it, and that the row's polynomial follows it, in lists. Definitions only.
use Prim.Native.Nat.{ℕ, zero, suc, ◌+◌, ◌*◌, ◌^◌, ◌-◌}
use mathlib.Core.Bool.{Bool, true}
use mathlib.Core.List.{List, [], ◌∷◌}
use lib.Dec.{leb}
use Rattle.series.proofs.Polynomials.{add_p, scale, mul_p, below, shift}
use Rattle.series.proofs.Grid.{sp_l, sm_l, cp_l, cm_l, D}
use Rattle.series.proofs.Tables.{both}
use Rattle.arc_rows.specs.ArcSine.{angle_at, slope_at, bend_at}
use Rattle.arc_rows.proofs.RowTests.{big, a_of, b_of}

-- how far before the row S is known, in units of 2 ^ -30; of the first row, which begins at 0, no way
abbrev pub early : ℕ → ℕ
early zero = 0
early (suc k) = 4226

abbrev pub base : ℕ → ℕ
base k = angle_at k - early k

-- S at w past the base, for w up to 12000000: the quadratic bounds, but for 2 ^ -22 and 2 ^ -29. 1 is 2 ^ 91 of D here
abbrev pub sin_ahead : (a b : ℕ) (s s' : List ℕ) → Bool
sin_ahead a b s s' =
    both (below 12000000 (add_p (2 ^ 61 * b ∷ 2 ^ 31 * a ∷ []) (big s')) (add_p (2 ^ 69 * D ∷ 0 ∷ b ∷ []) (big s)))
    (below 12000000 (add_p (0 ∷ 0 ∷ b ∷ []) (big s)) (add_p ((2 ^ 61 * b + 2 ^ 62 * D) ∷ 2 ^ 31 * a ∷ []) (big s')))

-- c and the row's polynomial at x, in units of 2 ^ -66
abbrev pub along : ℕ → ℕ → ℕ → List ℕ
along c B C = c ∷ 262144 * B ∷ C ∷ []

-- 1 is 2 ^ 31 of these
unfoldable pub unit : ℕ
unit = 2 ^ 132

-- The number is (2 ^ 18 k + x) / 2 ^ 25. Past it: 894 to 4224 beyond the polynomial the quadratic is above it by 2 ^ -22 and 193 * 2 ^ -31
abbrev pub past_p : (o k B C b : ℕ) → List ℕ
past_p o k B C b =
    add_p (scale b (mul_p (along (68719476736 * (o + 4224)) B C) (along (68719476736 * (o + 4224)) B C)))
    ((16777216 * k + 705) * (unit * D) ∷ 64 * (unit * D) ∷ [])

abbrev pub past_q : (o B C a b : ℕ) → List ℕ
past_q o B C a b = add_p (2 * (unit * b) ∷ []) (scale (147573952589676412928 * a) (along (68719476736 * (o + 894)) B C))

-- before it: 896 to 4224 before the polynomial it is below it by 2 ^ -29 and 129 * 2 ^ -31
abbrev pub before_p : (o B C a b : ℕ) → List ℕ
before_p o B C a b =
    add_p ((2 * (unit * b) + 133 * (unit * D)) ∷ []) (scale (147573952589676412928 * a) (along (68719476736 * o) B C))

abbrev pub before_q : (k B C a b : ℕ) → List ℕ
before_q k B C a b =
    add_p (scale b (mul_p (along 0 B C) (along 0 B C)))
    ((16777216 * k * (unit * D) + 61572651155456 * (147573952589676412928 * a)) ∷ 64 * (unit * D) ∷ [])

-- p is at most q on n parts, each h wide, from s on
abbrev pub in_parts : ℕ → ℕ → ℕ → List ℕ → List ℕ → Bool
in_parts h zero s p q = true
in_parts h (suc n) s p q = both (below h (shift s p) (shift s q)) (in_parts h n (s + h) p q)

abbrev pub follows : (o k B C a b : ℕ) → Bool
follows o k B C a b =
    both (in_parts 65536 4 0 (past_p o k B C b) (past_q o B C a b)) (in_parts 65536 4 0 (before_p o B C a b) (before_q k B C a b))

abbrev pub sine : (a b o k : ℕ) → Bool
sine a b o k =
    both (sin_ahead a b (shift (angle_at k - o) sp_l) (shift (angle_at k - o) sm_l)) (follows o k (slope_at k) (bend_at k) a b)

unfoldable pub good_sine : ℕ → Bool
unfolding sp_l sm_l cp_l cm_l D unit angle_at slope_at bend_at
good_sine k = sine (a_of (base k)) (b_of (base k)) (early k) k

unfoldable pub sized_sine : ℕ → Bool
unfolding angle_at slope_at bend_at
sized_sine k =
    both (leb (early k) (angle_at k)) (both (leb (angle_at k) 838000000) (both (leb (slope_at k) 11800000) (leb (bend_at k) 65535)))
