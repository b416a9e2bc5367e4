-- No coordinate's difference is above the distance: a rounded sum is no less than what it adds, and the root of a rounded square no less
-- than what was squared.
use Rattle.std.specs.Prelude.{◌≡◌, ℕ, ◌+◌, ◌*◌, ◌^◌, ◌≤◌, false, not, T}
use mathlib.Core.Path.{sym, ap, ap₂, ◌∙◌, subst}
use mathlib.Core.Logic.{inl, inr}
use native.Mathlib.Nat.{le_trans, le_of_eq, le_of_lt, add_comm}
use native.Mathlib.Omega.{arith}
use lib.Ieee.{Float, binary32, sub, le}
use lib.Ieee.Fits.{sub-fits, mul-fits, add-fits}
use lib.Ieee.Exact.{HasValue}
use Rattle.units.specs.Units.{Units, unity, hi, lo, mag, gap, apart, rounded}
use Rattle.units.proofs.Values.{hi_is, lo_is, mag_is, mag_parts}
use Rattle.units.proofs.Errors.{rounded_mono}
use Rattle.units.proofs.Whole.{total}
use Rattle.units.proofs.Digits.{Digits, digits_of}
use Rattle.legs.specs.declared.Point.{Point}
use Rattle.moves.specs.Distance.{apart², square, square_sum, horizontal_sum, distance}
use Rattle.moves.proofs.Largest.{square_sum_rootable}
use Rattle.moves.proofs.Squares.{Near, diff, size, sq, both, all, diff_part, square_value, horizontal_sum_value, square_sum_value, Fit}
use Rattle.walks.proofs.Aim.{Aim, OnWay}
use Rattle.walks.proofs.Descent.{measured, near_target}
use Rattle.walks.proofs.Neighbours.{sum_nearest}
use Rattle.walks.proofs.SquareRoots.{root_no_less}

-- a sum of f32s is no less than what it adds
no_less_sum : (a b : ℕ) → Digits a → a ≤ rounded (a + b) unity
no_less_sum a b d = le_trans (own (rounded a unity) a (sum_nearest a a d)) (rounded_mono a (a + b) (more a b))
  where
    own : (g a : ℕ) → gap g a ≤ gap a a → a ≤ g
    own g a h = omega arith

    more : (a b : ℕ) → a ≤ a + b
    more a b = omega arith

value_digits : (x : Float) (a : ℕ) → Fit x → HasValue x false a unity → Digits a
value_digits x a F v = subst Digits (mag_is x false a v) (digits_of x F)

square_digits : (a b : Float) → Units a → Units b → apart b a ≤ 18 * unity → Digits (sq (size b a))
square_digits a b ua ub h =
    let d = sub binary32 b a in
    value_digits (square d) (sq (size b a)) (mul-fits binary32 d d) (square_value b a ub ua h)

-- ---- the three differences X, Y, Z
module _ (l t : Point) (n : Near l t) where
  abbrev X : ℕ
  X = size t.x l.x

  abbrev Y : ℕ
  Y = size t.y l.y

  abbrev Z : ℕ
  Z = size t.z l.z

  both_digits : Digits (both X Y)
  unfolding horizontal_sum
  both_digits =
      value_digits (horizontal_sum l t) (both X Y) (add-fits binary32 (apart² l.x t.x) (apart² l.y t.y))
      (horizontal_sum_value l t n)

  x_below : sq X ≤ all X Y Z
  x_below =
      le_trans (no_less_sum (sq X) (sq Y) (square_digits l.x t.x n.from.0 n.to.0 n.x))
      (no_less_sum (both X Y) (sq Z) both_digits)

  y_below : sq Y ≤ all X Y Z
  y_below =
      le_trans (no_less_sum (sq Y) (sq X) (square_digits l.y t.y n.from.1 n.to.1 n.y))
      (le_trans (le_of_eq (ap (λ (a : ℕ). rounded a unity) (add_comm (sq Y) (sq X)))) (no_less_sum (both X Y) (sq Z) both_digits))

  z_below : sq Z ≤ all X Y Z
  z_below =
      le_trans (no_less_sum (sq Z) (both X Y) (square_digits l.z t.z n.from.2 n.to.2 n.z))
      (le_of_eq (ap (λ (a : ℕ). rounded a unity) (add_comm (sq Z) (both X Y))))

  -- the difference of a and b, whose square is in the sum; the distance is Q, from 2 ^ -12 on
  no_more : (Q : ℕ) → mag (distance l t) ≡ Q → 2 ^ 137 ≤ Q → (a b : Float) → Units a → Units b → apart b a ≤ 18 * unity
      → sq (size b a) ≤ all X Y Z → size b a ≤ Q
  unfolding distance
  no_more Q q many a b ua ub h below = elim (total (size b a) Q) [
    | inl i ↦ i
    | inr i ↦
        let d = sub binary32 b a in
        let p = diff_part b a (hi b) (lo b) (hi a) (lo a) ub ua h in
        let e : mag d ≡ size b a =
        mag_parts d ∙ ap₂ (λ (v w : ℕ). v + w) (hi_is d (diff (hi b + lo a) (lo b + hi a)) (diff (lo b + hi a) (hi b + lo a)) p)
        (lo_is d (diff (hi b + lo a) (lo b + hi a)) (diff (lo b + hi a) (hi b + lo a)) p) in
        le_trans (le_of_eq (sym e))
        (le_trans
        (root_no_less (square_sum l t) d (all X Y Z) (square_sum_rootable l t).held (sub-fits binary32 b a) (square_sum_value l t n)
        (le_trans (le_trans many i) (le_of_eq (sym e))) (le_trans (le_of_eq (ap sq e)) below))
        (le_of_eq q))
  ]

-- ---- a step that goes along, of a distance of Q units
module _ (m : Float) (l t : Point) (aim : Aim m t) (way : OnWay l t) (far : T (not (le (distance l t) m))) where
  pub record NoneAbove (Q : ℕ) : Type 0 where
    pub x : size t.x l.x ≤ Q
    pub y : size t.y l.y ≤ Q
    pub z : size t.z l.z ≤ Q

  pub none_above : NoneAbove (measured m l t aim way far).Q
  none_above =
      let w = measured m l t aim way far in
      let n = near_target m l t aim way in
      let e = mag_is (distance l t) false w.Q w.value in
      let many = le_trans aim.from (le_of_lt w.above) in
      record {
        x = no_more l t n w.Q e many l.x t.x n.from.0 n.to.0 n.x (x_below l t n);
        y = no_more l t n w.Q e many l.y t.y n.from.1 n.to.1 n.y (y_below l t n);
        z = no_more l t n w.Q e many l.z t.z n.from.2 n.to.2 n.z (z_below l t n);
      }
