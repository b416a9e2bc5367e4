-- The test of one angle of the table: what S and C are near it, in lists. Definitions only.
use Prim.Native.Nat.{ℕ, ◌+◌, ◌*◌, ◌^◌, ◌-◌}
use mathlib.Core.Bool.{Bool}
use mathlib.Core.List.{List, [], ◌∷◌}
use lib.Dec.{leb}
use Rattle.series.proofs.Polynomials.{eval, add_p, scale, below, shift, back}
use Rattle.series.proofs.Grid.{sp_l, sm_l, cp_l, cm_l, D}
use Rattle.series.proofs.Tables.{both}
use Rattle.arc_rows.specs.ArcTangent.{arc_tangent}

-- What may be wrong is 2 ^ 68, 2 ^ 62 or 2 ^ 63 of D, so 2 ^ -23, 2 ^ -29 or 2 ^ -28 of 1, which is 2 ^ 91 of D here. 8392832 is 2 ^ 23 +
-- 4224.
abbrev pub big : List ℕ → List ℕ
big p = scale (2 ^ 91) p

-- a and b are 2 ^ 30 C and 2 ^ 30 S at the angle t
abbrev pub a_of : ℕ → ℕ
a_of t = 2 ^ 30 * (eval cp_l t - eval cm_l t)

abbrev pub b_of : ℕ → ℕ
b_of t = 2 ^ 30 * (eval sp_l t - eval sm_l t)

-- S and C at t + w, for w up to 2 ^ 23 + 4224: the quadratic bounds. The lists are those of S and C moved by t
abbrev pub ahead : (a b : ℕ) (s s' c c' : List ℕ) → Bool
ahead a b s s' c c' =
    both (below 8392832 (add_p (2 ^ 61 * b ∷ 2 ^ 31 * a ∷ []) (big s')) (add_p (2 ^ 68 * D ∷ 0 ∷ b ∷ []) (big s)))
    (both (below 8392832 (add_p (0 ∷ 0 ∷ b ∷ []) (big s)) (add_p ((2 ^ 61 * b + 2 ^ 62 * D) ∷ 2 ^ 31 * a ∷ []) (big s')))
    (both (below 8392832 (add_p (0 ∷ 2 ^ 31 * b ∷ a ∷ []) (big c)) (add_p ((2 ^ 61 * a + 2 ^ 68 * D) ∷ []) (big c')))
    (below 8392832 (add_p (2 ^ 61 * a ∷ []) (big c')) (add_p (2 ^ 62 * D ∷ 2 ^ 31 * b ∷ a ∷ []) (big c)))))

-- the direction is (128, k), and the length is 1
abbrev pub direction : ℕ → ℕ → ℕ → Bool
direction k a b = both (leb (k * a) (128 * b + 256 * D))
    (both (leb (128 * b) (k * a + 256 * D)) (leb (2 ^ 30 * 16384 * D) (a * (16384 + k * k))))

-- S and C at t - w, for w up to 4224: bounds of the first order
abbrev pub behind : (a b : ℕ) (s s' c c' : List ℕ × List ℕ) → Bool
behind a b s s' c c' =
    both (below 4224 (add_p (0 ∷ 2 ^ 31 * a ∷ []) (big (add_p s.0 s'.1)))
    (add_p ((2 ^ 61 * b + 2 ^ 68 * D) ∷ []) (big (add_p s.1 s'.0))))
    (below 4224 (add_p (2 ^ 61 * a ∷ 2 ^ 31 * b ∷ []) (big (add_p c'.0 c.1))) (add_p (2 ^ 63 * D ∷ []) (big (add_p c'.1 c.0))))

unfoldable pub good : ℕ → Bool
unfolding sp_l sm_l cp_l cm_l D arc_tangent
good k = let t = arc_tangent k in both (direction k (a_of t) (b_of t))
    (ahead (a_of t) (b_of t) (shift t sp_l) (shift t sm_l) (shift t cp_l) (shift t cm_l))

unfoldable pub good_back : ℕ → Bool
unfolding sp_l sm_l cp_l cm_l D arc_tangent
good_back k = let t = arc_tangent k in behind (a_of t) (b_of t) (back t sp_l) (back t sm_l) (back t cp_l) (back t cm_l)

-- about as large as k is
unfoldable pub sized : ℕ → Bool
unfolding arc_tangent
sized k = let t = arc_tangent k in both (leb (6000000 * k) t) (both (leb t (9000000 * k)) (leb t 843314857))
